use Rattle.container_causes.proofs.CountLaws.{one_counted, counted_of, delay_of_count, one_last_exit}
use Rattle.container_causes.proofs.laws.exits.Goals as goal

pub returns-clause-one : goal.returns-clause-one
returns-clause-one c = one_counted

pub returns-clause-some : goal.returns-clause-some
returns-clause-some c = counted_of

pub returns-clause-delay : goal.returns-clause-delay
returns-clause-delay c = delay_of_count

pub returns-clause-last : goal.returns-clause-last
returns-clause-last c = one_last_exit
