use Rattle.std.proofs.Common.{◌≡◌, map, take}
use Rattle.json_lines.specs.state.Lines.{line_data, data_of}
use Rattle.json_lines.proofs.model.read_each.Given as goal

abbrev pub invariant-loop-line : goal.invariant-loop-line
invariant-loop-line l = map data_of l.reads.items ≡ map (λ line. line_data line.now) (take l.line-index l.lines)
