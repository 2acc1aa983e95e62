use Rattle.ranking.proofs.LawLemmas as laws
use Rattle.ranking.proofs.laws.order_is_total.Goals as goal

pub returns : goal.returns
returns c = laws.order_is_total
