use Rattle.state_diff.proofs.Order as lemmas
use Rattle.state_diff.proofs.laws.exited_stays_exited.Goals as goal

pub returns : goal.returns
returns c = lemmas.exited_stays_exited
