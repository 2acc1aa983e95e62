use Rattle.std.proofs.Common.{ℕ, ◌<◌}
use Rattle.phase_causes.specs.rule.Cases.{IsAt}
use Rattle.phase_causes.specs.state.Sought.{IsSought}
use Rattle.phase_causes.proofs.sought.first_sought.Given as goal

abbrev pub invariant-loop-place : goal.invariant-loop-place
invariant-loop-place l = (u : ℕ) → u < l.place → IsAt (IsSought l.sought) l.containers u → ⊥
