use Rattle.std.proofs.Common.{◌≡◌, ◌+◌, ◌++◌, ◌≤◌, length, map}
use Rattle.json_lines.specs.rule.Lines.{lines_of}
use Rattle.json_lines.proofs.window.next_tick_lines.Given as goal

abbrev pub invariant-loop-rest : goal.invariant-loop-rest
invariant-loop-rest l = (lines_of l.fn.text ≡ map (λ line. line.now) l.found.items ++ lines_of l.rest)
    × (length l.found.items + length l.rest ≤ length l.fn.text)
    × (length l.found.items ≤ l.fn.most)
    × (l.blanks ≤ length l.found.items)
    × (l.of_trees + length l.rest ≤ length l.fn.text)

abbrev pub decreases-loop-rest : goal.decreases-loop-rest
decreases-loop-rest l = length l.rest
