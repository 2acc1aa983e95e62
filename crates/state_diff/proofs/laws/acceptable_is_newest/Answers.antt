use Rattle.state_diff.proofs.Order as lemmas
use Rattle.state_diff.proofs.laws.acceptable_is_newest.Goals as goal

pub returns : goal.returns
returns c = lemmas.acceptable_is_newest
