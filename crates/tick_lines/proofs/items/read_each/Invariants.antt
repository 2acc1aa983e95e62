use Rattle.std.proofs.Common.{◌≡◌, map, drop}
use Rattle.json_fields.specs.rule.Reading.{each}
use Rattle.json_fields.proofs.Each.{with_front}
use Rattle.tick_lines.proofs.items.read_each.Given as goal

abbrev pub invariant-loop-value : goal.invariant-loop-value
invariant-loop-value g l =
    with_front l.all (each g.R.ReadItem.read_of (map g.V.HasData.data (drop l.value-index l.values)))
    ≡ each g.R.ReadItem.read_of (map g.V.HasData.data l.values)
