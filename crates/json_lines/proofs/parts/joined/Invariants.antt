use Rattle.std.proofs.Common.{◌≡◌, All, IsOk}
use Rattle.std.specs.List.{flat_map}
use Rattle.json_lines.specs.state.Parts.{read_in}
use Rattle.json_lines.proofs.parts.joined.Given as goal

abbrev pub invariant-loop-part : goal.invariant-loop-part
invariant-loop-part g l = (l.all.items ≡ flat_map (read_in (λ reads. reads.items)) l.yielded) × All IsOk l.yielded
