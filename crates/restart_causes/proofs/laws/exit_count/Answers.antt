use Rattle.restart_causes.proofs.CountLemmas.{some_count, one_count}
use Rattle.restart_causes.proofs.DelayLemmas.{delay_follows}
use Rattle.restart_causes.proofs.laws.exit_count.Goals as goal

pub returns-clause-some : goal.returns-clause-some
returns-clause-some c = some_count

pub returns-clause-one : goal.returns-clause-one
returns-clause-one c = one_count

pub returns-clause-delay : goal.returns-clause-delay
returns-clause-delay c = delay_follows
