use Rattle.std.proofs.Common.{◌≡◌, drop}
use Rattle.tick_lines.specs.rule.Statuses.{status_of}
use Rattle.tick_lines.proofs.conditions.status_of.Given as goal

abbrev pub invariant-loop-status : goal.invariant-loop-status
invariant-loop-status l = status_of (drop l.status-index l.statuses) l.fn.name ≡ status_of l.statuses l.fn.name
