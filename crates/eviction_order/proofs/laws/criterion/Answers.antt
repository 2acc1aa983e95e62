use Rattle.eviction_order.proofs.Criteria.{some_criterion, one_criterion, criterion_decides}
use Rattle.eviction_order.proofs.laws.criterion.Goals as goal

pub returns-clause-some : goal.returns-clause-some
returns-clause-some c = some_criterion

pub returns-clause-one : goal.returns-clause-one
returns-clause-one c = one_criterion

pub returns-clause-decides : goal.returns-clause-decides
returns-clause-decides c = criterion_decides
