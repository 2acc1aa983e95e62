use Rattle.qos.proofs.ClassLemmas.{nothing_asked}
use Rattle.qos.proofs.laws.nothing_asked_for.Goals as goal

pub returns : goal.returns
returns c = nothing_asked
