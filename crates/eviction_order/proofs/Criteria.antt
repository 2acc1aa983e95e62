-- The criterion that decides is one.
use Rattle.std.proofs.Common.{◌≡◌, ◌∙◌, inl, inr, Bool, Option, Some, refl, ap, sym}
use Rattle.std.proofs.lemmas.Option.{same_Some}
use Rattle.std.specs.Ordering.{nat_cmp, bool_cmp, ordering_then}
use Rattle.std.specs.declared.cmp.Ordering.{Ordering}
use Rattle.std.specs.declared.cmp.Ordering.TheVariants.{Less, Equal, Greater}
use Rattle.signals.specs.declared.signal.Signal.{Signal}
use Rattle.pod_piece.specs.declared.status.PodStatus.{PodStatus}
use Rattle.ranking.specs.rule.Amounts.{used, has_requests, requested}
use Rattle.ranking.specs.rule.Order.{ranks_unsampled_first, UnsampledFirst, ExceedsAlone, UsesMore, IsBefore}
use Rattle.ranking.specs.state.Keys.{key_of}
use Rattle.ranking.proofs.Tells.{Tells, tells_asked, tells_alone, tells_int, tells_set, tells_margin, tells_nat}
use Rattle.eviction_order.specs.declared.criterion.Criterion.{Criterion}
use Rattle.eviction_order.specs.declared.criterion.Criterion.TheVariants.{NoSample, AboveRequest, Priority}
use Rattle.eviction_order.specs.declared.criterion.Criterion.TheVariants.{NoSampleOfPriority, Usage, Number}
use Rattle.eviction_order.specs.rule.Criteria.{IsBeforeBy}
use Rattle.eviction_order.specs.state.Deciding.{decided, deciding}

decides : (A B : Type 0) (o : Ordering) (criterion : Criterion) (next : Option Criterion) → Tells A B o → A
    → decided o criterion next ≡ Some criterion
decides A B o criterion next t a = ap (λ (o : Ordering). decided o criterion next) (t.less.1 a)

passes : (A B : Type 0) (o : Ordering) (criterion : Criterion) (next : Option Criterion) → Tells A B o → (A → ⊥)
    → (B → ⊥) → decided o criterion next ≡ next
passes A B Less criterion next t n m = absurd (n (t.less.0 refl))
passes A B Equal criterion next t n m = refl
passes A B Greater criterion next t n m = absurd (m (t.greater.0 refl))

-- what the parts of two keys tell of their pods
by_sample : (signal : Signal) (dedicated : Bool) (p q : PodStatus)
    → Tells (UnsampledFirst signal p q) (UnsampledFirst signal q p)
    (bool_cmp (key_of signal dedicated p).follows_unsampled (key_of signal dedicated q).follows_unsampled)
by_sample signal dedicated p q =
    tells_asked (ranks_unsampled_first signal) p.usage.is_unsampled q.usage.is_unsampled

by_request : (signal : Signal) (dedicated : Bool) (p q : PodStatus)
    → Tells (ExceedsAlone signal dedicated p q) (ExceedsAlone signal dedicated q p)
    (bool_cmp (key_of signal dedicated p).within_request (key_of signal dedicated q).within_request)
by_request signal dedicated p q =
    tells_alone (has_requests signal) (used signal dedicated p.usage.samples) (requested signal p.requests)
    (used signal dedicated q.usage.samples) (requested signal q.requests)

by_usage : (signal : Signal) (dedicated : Bool) (p q : PodStatus)
    → Tells (UsesMore signal dedicated p q) (UsesMore signal dedicated q p)
    (ordering_then (nat_cmp (key_of signal dedicated q).excess.0 (key_of signal dedicated p).excess.0)
    (nat_cmp (key_of signal dedicated p).shortfall (key_of signal dedicated q).shortfall))
by_usage signal dedicated p q =
    tells_margin (used signal dedicated p.usage.samples) (requested signal p.requests)
    (used signal dedicated q.usage.samples) (requested signal q.requests)

-- a criterion is the one that the keys give
pub by_keys : (signal : Signal) (dedicated : Bool) (p q : PodStatus) (criterion : Criterion)
    → IsBeforeBy signal dedicated criterion p q
    → deciding (key_of signal dedicated p) (key_of signal dedicated q) ≡ Some criterion
by_keys signal dedicated p q NoSample a = decides _ _ _ NoSample _ (by_sample signal dedicated p q) a
by_keys signal dedicated p q AboveRequest (n0, m0, a) =
    passes _ _ _ NoSample _ (by_sample signal dedicated p q) n0 m0
    ∙ decides _ _ _ AboveRequest _ (by_request signal dedicated p q) a
by_keys signal dedicated p q Priority (n0, m0, (n1, m1, a)) =
    passes _ _ _ NoSample _ (by_sample signal dedicated p q) n0 m0
    ∙ passes _ _ _ AboveRequest _ (by_request signal dedicated p q) n1 m1
    ∙ decides _ _ _ Priority _ (tells_int p.priority q.priority) a
by_keys signal dedicated p q NoSampleOfPriority (n0, m0, (n1, m1, (n2, m2, a))) =
    passes _ _ _ NoSample _ (by_sample signal dedicated p q) n0 m0
    ∙ passes _ _ _ AboveRequest _ (by_request signal dedicated p q) n1 m1
    ∙ passes _ _ _ Priority _ (tells_int p.priority q.priority) n2 m2
    ∙ decides _ _ _ NoSampleOfPriority _ (tells_set p.usage.is_unsampled q.usage.is_unsampled) a
by_keys signal dedicated p q Usage (n0, m0, (n1, m1, (n2, m2, (n3, m3, a)))) =
    passes _ _ _ NoSample _ (by_sample signal dedicated p q) n0 m0
    ∙ passes _ _ _ AboveRequest _ (by_request signal dedicated p q) n1 m1
    ∙ passes _ _ _ Priority _ (tells_int p.priority q.priority) n2 m2
    ∙ passes _ _ _ NoSampleOfPriority _ (tells_set p.usage.is_unsampled q.usage.is_unsampled) n3 m3
    ∙ decides _ _ _ Usage _ (by_usage signal dedicated p q) a
by_keys signal dedicated p q Number (n0, m0, (n1, m1, (n2, m2, (n3, m3, (n4, m4, a))))) =
    passes _ _ _ NoSample _ (by_sample signal dedicated p q) n0 m0
    ∙ passes _ _ _ AboveRequest _ (by_request signal dedicated p q) n1 m1
    ∙ passes _ _ _ Priority _ (tells_int p.priority q.priority) n2 m2
    ∙ passes _ _ _ NoSampleOfPriority _ (tells_set p.usage.is_unsampled q.usage.is_unsampled) n3 m3
    ∙ passes _ _ _ Usage _ (by_usage signal dedicated p q) n4 m4
    ∙ decides _ _ _ Number _ (tells_nat p.number q.number) a

pub some_criterion : (signal : Signal) (dedicated : Bool) (p q : PodStatus) → IsBefore signal dedicated p q
    → (criterion : Criterion) × IsBeforeBy signal dedicated criterion p q
some_criterion signal dedicated p q (inl a) = (NoSample, a)
some_criterion signal dedicated p q (inr (n0, m0, inl a)) = (AboveRequest, (n0, m0, a))
some_criterion signal dedicated p q (inr (n0, m0, inr (n1, m1, inl a))) = (Priority, (n0, m0, (n1, m1, a)))
some_criterion signal dedicated p q (inr (n0, m0, inr (n1, m1, inr (n2, m2, inl a)))) =
    (NoSampleOfPriority, (n0, m0, (n1, m1, (n2, m2, a))))
some_criterion signal dedicated p q (inr (n0, m0, inr (n1, m1, inr (n2, m2, inr (n3, m3, inl a))))) =
    (Usage, (n0, m0, (n1, m1, (n2, m2, (n3, m3, a)))))
some_criterion signal dedicated p q (inr (n0, m0, inr (n1, m1, inr (n2, m2, inr (n3, m3, inr (n4, m4, a)))))) =
    (Number, (n0, m0, (n1, m1, (n2, m2, (n3, m3, (n4, m4, a))))))

pub one_criterion : (signal : Signal) (dedicated : Bool) (p q : PodStatus) (criterion other : Criterion)
    → IsBeforeBy signal dedicated criterion p q → IsBeforeBy signal dedicated other p q → criterion ≡ other
one_criterion signal dedicated p q criterion other a b =
    same_Some criterion other (sym (by_keys signal dedicated p q criterion a) ∙ by_keys signal dedicated p q other b)

pub criterion_decides : (signal : Signal) (dedicated : Bool) (p q : PodStatus) (criterion : Criterion)
    → IsBeforeBy signal dedicated criterion p q → IsBefore signal dedicated p q
criterion_decides signal dedicated p q NoSample a = inl a
criterion_decides signal dedicated p q AboveRequest (n0, m0, a) = inr (n0, m0, inl a)
criterion_decides signal dedicated p q Priority (n0, m0, (n1, m1, a)) = inr (n0, m0, inr (n1, m1, inl a))
criterion_decides signal dedicated p q NoSampleOfPriority (n0, m0, (n1, m1, (n2, m2, a))) =
    inr (n0, m0, inr (n1, m1, inr (n2, m2, inl a)))
criterion_decides signal dedicated p q Usage (n0, m0, (n1, m1, (n2, m2, (n3, m3, a)))) =
    inr (n0, m0, inr (n1, m1, inr (n2, m2, inr (n3, m3, inl a))))
criterion_decides signal dedicated p q Number (n0, m0, (n1, m1, (n2, m2, (n3, m3, (n4, m4, a))))) =
    inr (n0, m0, inr (n1, m1, inr (n2, m2, inr (n3, m3, inr (n4, m4, a)))))
