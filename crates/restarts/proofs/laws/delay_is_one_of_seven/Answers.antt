use Rattle.restarts.proofs.LawLemmas.{one_of_seven}
use Rattle.restarts.proofs.laws.delay_is_one_of_seven.Goals as goal

pub returns : goal.returns
returns c = one_of_seven
