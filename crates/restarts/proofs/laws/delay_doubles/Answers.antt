use Rattle.restarts.proofs.LawLemmas.{doubles}
use Rattle.restarts.proofs.laws.delay_doubles.Goals as goal

pub returns : goal.returns
returns c = doubles
