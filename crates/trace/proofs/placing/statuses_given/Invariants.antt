use Rattle.std.proofs.Common.{◌≡◌, ◌<◌, ℕ, length, get_or, None}
use Rattle.manifest.specs.rule.Gates.{most_gates}
use Rattle.trace.specs.rule.Placing.{gate_given}
use Rattle.trace.proofs.placing.statuses_given.Given as goal

abbrev pub invariant-loop-number : goal.invariant-loop-number
invariant-loop-number l = record {
  as_many : length l.given ≡ most_gates;
  given : (k : ℕ) → k < l.number → get_or l.given k None ≡ gate_given l.gates l.statuses k;
}
