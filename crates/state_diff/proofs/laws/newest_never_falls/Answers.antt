use Rattle.state_diff.proofs.Order as lemmas
use Rattle.state_diff.proofs.laws.newest_never_falls.Goals as goal

pub returns : goal.returns
returns c = lemmas.newest_never_falls
