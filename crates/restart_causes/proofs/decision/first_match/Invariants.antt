use Rattle.std.proofs.Common.{◌≡◌, ◌+◌, drop, option_map}
use Rattle.restart_causes.specs.rule.Decisions.{first_match}
use Rattle.restart_causes.proofs.decision.first_match.Given as goal

abbrev pub invariant-loop-place : goal.invariant-loop-place
invariant-loop-place l =
    first_match l.code l.rules ≡ option_map (λ k. l.place + k) (first_match l.code (drop l.place l.rules))
