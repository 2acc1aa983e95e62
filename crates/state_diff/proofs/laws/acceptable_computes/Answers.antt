use Rattle.state_diff.proofs.Acceptable as lemmas
use Rattle.state_diff.proofs.laws.acceptable_computes.Goals as goal

pub returns : goal.returns
returns c = lemmas.is_acceptable_is
