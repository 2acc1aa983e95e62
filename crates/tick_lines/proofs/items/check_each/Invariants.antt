use Rattle.std.proofs.Common.{◌≡◌, map, drop}
use Rattle.json_fields.specs.rule.Reading.{each}
use Rattle.json_fields.specs.state.Reading.{checked}
use Rattle.tick_lines.proofs.items.check_each.Given as goal

abbrev pub invariant-loop-value : goal.invariant-loop-value
invariant-loop-value g l =
    checked (each g.R.ReadItem.read_of (map g.V.HasData.data (drop l.value-index l.values)))
    ≡ checked (each g.R.ReadItem.read_of (map g.V.HasData.data l.values))
