use Rattle.std.proofs.Common.{◌≡◌, map, drop}
use Rattle.std.specs.Prelude.{string_bytes}
use Rattle.json_fields.proofs.Each.{with_front}
use Rattle.tick_lines.specs.rule.Resizes.{resizes_named}
use Rattle.tick_lines.proofs.resizes.resizes_named.Given as goal

abbrev pub invariant-loop-name : goal.invariant-loop-name
invariant-loop-name g l =
    with_front l.resizes (resizes_named (g.V.HasData.data l.object) (map string_bytes (drop l.name-index l.names)))
    ≡ resizes_named (g.V.HasData.data l.object) (map string_bytes l.names)
