use Rattle.std.proofs.Common.{◌≡◌, ◌+◌, ◌≤◌, drop, length}
use Rattle.std.specs.List.{prefix_len}
use Rattle.json_lines.specs.rule.Lines.{lines_of, is_blank}
use Rattle.json_lines.proofs.lines.skip_blank_lines.Given as goal

abbrev pub decreases-loop-line : goal.decreases-loop-line
decreases-loop-line l = length l.rest

abbrev pub invariant-loop-line : goal.invariant-loop-line
invariant-loop-line l =
    (prefix_len is_blank (lines_of l.fn.text) ≡ l.count + prefix_len is_blank (lines_of l.rest))
    × (lines_of l.rest ≡ drop l.count (lines_of l.fn.text))
    × (l.count + length l.rest ≤ length l.fn.text)
