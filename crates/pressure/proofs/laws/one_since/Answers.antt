use Rattle.pressure.proofs.LawLemmas as laws
use Rattle.pressure.proofs.laws.one_since.Goals as goal

pub returns : goal.returns
returns c = laws.one_since
