use Rattle.restarts.proofs.LawLemmas.{one_delay}
use Rattle.restarts.proofs.laws.every_list_has_one_delay.Goals as goal

pub returns : goal.returns
returns c = one_delay
