use Rattle.std.proofs.Common.{◌≡◌, ◌+◌, drop, map, IsTrue}
use Rattle.json_lines.specs.state.Lines.{line_data}
use Rattle.trace.specs.state.Ahead.{AreAhead, IsFresh}
use Rattle.trace.specs.rule.TraceSoFar.{heeds}
use Rattle.trace.specs.state.Taken.{lines_at}
use Rattle.trace.proofs.text.take_lines.Given as goal

abbrev pub invariant-loop-line : goal.invariant-loop-line
invariant-loop-line l = (l.number ≡ l.fn.first + l.line-index)
    × (lines_at l.number l.so_far (map (λ line. line_data line.now) (drop l.line-index l.lines))
    ≡ lines_at l.fn.first l.fn.so_far (map (λ line. line_data line.now) l.fn.lines))
    × AreAhead (heeds l.fn.so_far) l.fn.so_far.roll (drop l.line-index l.lines) l.reads.rest.items
    × (IsTrue l.is_fresh → IsFresh l.so_far (heeds l.fn.so_far) l.fn.so_far.roll)
