use Rattle.state_diff.proofs.Unique as lemmas
use Rattle.state_diff.proofs.laws.one_of_each.Goals as goal

pub returns : goal.returns
returns c = lemmas.one_of_each
