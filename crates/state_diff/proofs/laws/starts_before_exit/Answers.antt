use Rattle.state_diff.proofs.Order as lemmas
use Rattle.state_diff.proofs.laws.starts_before_exit.Goals as goal

pub returns : goal.returns
returns c = lemmas.starts_before_exit
