use Rattle.pressure.proofs.LawLemmas as laws
use Rattle.pressure.proofs.laws.true_for_the_period.Goals as goal

pub returns : goal.returns
returns c = laws.true_for_the_period
