use Rattle.restarts.proofs.LawLemmas.{does_not_fall}
use Rattle.restarts.proofs.laws.delay_does_not_fall.Goals as goal

pub returns : goal.returns
returns c = does_not_fall
