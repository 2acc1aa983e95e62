use Rattle.std.proofs.Common.{◌≡◌, Some}
use Rattle.eviction_order.proofs.Orders.{first_is_victim, candidate_at, place_of, in_order}
use Rattle.eviction_order.proofs.laws.places.Goals as goal

pub returns-clause-first : goal.returns-clause-first
returns-clause-first c = λ signal dedicated held ns victim.
    first_is_victim signal dedicated (λ n p. held n ≡ Some p) ns victim

pub returns-clause-each : goal.returns-clause-each
returns-clause-each c = λ signal dedicated held ns n a. (
  (λ w. candidate_at signal dedicated (λ m p. held m ≡ Some p) ns w.0 n a w.1),
  (λ w. place_of signal dedicated (λ m p. held m ≡ Some p) ns n w.0 a w.1),
)

pub returns-clause-in_order : goal.returns-clause-in_order
returns-clause-in_order c = λ signal dedicated held ns i j n m.
    in_order signal dedicated (λ k p. held k ≡ Some p) ns i j n m
