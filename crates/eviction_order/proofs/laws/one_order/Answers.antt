use Rattle.std.proofs.Common.{◌≡◌, Some}
use Rattle.eviction_order.proofs.Orders as orders
use Rattle.eviction_order.proofs.SomeOrders.{some_order}
use Rattle.eviction_order.proofs.laws.one_order.Goals as goal

pub returns-clause-some : goal.returns-clause-some
returns-clause-some c = some_order

pub returns-clause-one : goal.returns-clause-one
returns-clause-one c = λ signal dedicated held ns ms. orders.one_order signal dedicated (λ n p. held n ≡ Some p) ns ms
