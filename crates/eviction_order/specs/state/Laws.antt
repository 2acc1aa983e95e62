-- Laws of the order of eviction, over the definitions alone.
use Rattle.std.specs.Prelude.{◌≡◌, ◌↔◌, ℕ, ◌<◌, List, Bool, Option, Some, slice_get}
use Rattle.signals.specs.declared.signal.Signal.{Signal}
use Rattle.pod_piece.specs.declared.status.PodStatus.{PodStatus}
use Rattle.ranking.specs.rule.Order.{IsBefore, IsVictim}
use Rattle.eviction_order.specs.declared.criterion.Criterion.{Criterion}
use Rattle.eviction_order.specs.rule.Criteria.{IsBeforeBy}
use Rattle.eviction_order.specs.rule.Ranked.{AreRanked}

-- the pods that are held stand in one order at most
abbrev pub OneOrder : Type 0
OneOrder = (signal : Signal) (has_dedicated_imagefs : Bool) (held : ℕ → Option PodStatus) (numbers others : List ℕ)
    → AreRanked signal has_dedicated_imagefs (λ n p. held n ≡ Some p) numbers
    → AreRanked signal has_dedicated_imagefs (λ n p. held n ≡ Some p) others → numbers ≡ others

-- of finitely many pods, each held under its number, there is an order
abbrev pub SomeOrder : Type 0
SomeOrder = (signal : Signal) (has_dedicated_imagefs : Bool) (held : ℕ → Option PodStatus) (count : ℕ)
    → ((n : ℕ) (p : PodStatus) → held n ≡ Some p → (n < count) × (p.number ≡ n))
    → (numbers : List ℕ) × AreRanked signal has_dedicated_imagefs (λ n p. held n ≡ Some p) numbers

-- the first is the victim, and without a first there is none
abbrev pub FirstIsVictim : Type 0
FirstIsVictim = (signal : Signal) (has_dedicated_imagefs : Bool) (held : ℕ → Option PodStatus) (numbers : List ℕ)
    (victim : Option ℕ) → AreRanked signal has_dedicated_imagefs (λ n p. held n ≡ Some p) numbers
    → (IsVictim signal has_dedicated_imagefs (λ n p. held n ≡ Some p) victim ↔ (slice_get numbers 0 ≡ victim))

-- exactly the pods that are held have a place in it
abbrev pub EachIsRanked : Type 0
EachIsRanked = (signal : Signal) (has_dedicated_imagefs : Bool) (held : ℕ → Option PodStatus) (numbers : List ℕ)
    (n : ℕ) → AreRanked signal has_dedicated_imagefs (λ m p. held m ≡ Some p) numbers
    → (((i : ℕ) × (slice_get numbers i ≡ Some n)) ↔ ((p : PodStatus) × (held n ≡ Some p)))

-- the pod at an earlier place is ranked before that at a later one
abbrev pub StandInOrder : Type 0
StandInOrder = (signal : Signal) (has_dedicated_imagefs : Bool) (held : ℕ → Option PodStatus) (numbers : List ℕ)
    (i j n m : ℕ) → AreRanked signal has_dedicated_imagefs (λ k p. held k ≡ Some p) numbers → i < j
    → slice_get numbers i ≡ Some n → slice_get numbers j ≡ Some m
    → (p q : PodStatus) × (held n ≡ Some p) × (held m ≡ Some q) × IsBefore signal has_dedicated_imagefs p q

-- of two pods, one before the other, there is a criterion
abbrev pub SomeCriterion : Type 0
SomeCriterion = (signal : Signal) (has_dedicated_imagefs : Bool) (p q : PodStatus)
    → IsBefore signal has_dedicated_imagefs p q
    → (criterion : Criterion) × IsBeforeBy signal has_dedicated_imagefs criterion p q

-- and one alone
abbrev pub OneCriterion : Type 0
OneCriterion = (signal : Signal) (has_dedicated_imagefs : Bool) (p q : PodStatus) (criterion other : Criterion)
    → IsBeforeBy signal has_dedicated_imagefs criterion p q → IsBeforeBy signal has_dedicated_imagefs other p q
    → criterion ≡ other

-- by a criterion, one is before the other
abbrev pub CriterionDecides : Type 0
CriterionDecides = (signal : Signal) (has_dedicated_imagefs : Bool) (p q : PodStatus) (criterion : Criterion)
    → IsBeforeBy signal has_dedicated_imagefs criterion p q → IsBefore signal has_dedicated_imagefs p q
