use Rattle.phase.proofs.PolicyLemmas.{same_raw_phase}
use Rattle.phase.proofs.laws.same_raw_phase.Goals as goal

pub returns : goal.returns
returns c = same_raw_phase
