-- The laws of the order of eviction.
use Rattle.std.proofs.Common.{◌≡◌, ◌⊎◌, inl, inr, ℕ, ◌-◌, Bool, cond, refl, sym, ap, subst, ◌∙◌}
use Rattle.std.specs.Prelude.{◌≢◌, ◌↔◌, ◌==◌, ◌&&◌, not, leb, Option, Some, None}
use Rattle.std.specs.declared.cmp.Ordering.{Ordering}
use Rattle.std.specs.declared.cmp.Ordering.TheVariants.{Less, Equal, Greater}
use Rattle.std.proofs.lemmas.Bool.{cases_eq}
use Rattle.std.proofs.lemmas.Bool.Decides.{eqb_tells}
use Rattle.signals.specs.declared.signal.Signal.{Signal}
use Rattle.pod_piece.proofs.Failures.{may_or_not}
use Rattle.pod_piece.specs.declared.status.PodStatus.{PodStatus}
use Rattle.ranking.specs.declared.key.RankKey.{RankKey}
use Rattle.ranking.specs.rule.Amounts.{used, has_requests, requested}
use Rattle.ranking.specs.rule.Order.{ranks_unsampled_first, IsBefore, IsVictim}
use Rattle.ranking.specs.state.Keys.{key_of, rank_cmp}
use Rattle.ranking.specs.state.Index.{AreHeldAfter, AreHeldWithout}
use Rattle.ranking.specs.state.Laws.{LesserKeyIsBefore, OrderIsTotal, OneVictim, OneIsHeldAfter, OneIsHeldWithout}
use Rattle.ranking.proofs.KeyOrder.{keys_exact}
use Rattle.ranking.proofs.Tells.{tells_keys}

pub lesser_key_is_before : LesserKeyIsBefore
lesser_key_is_before signal dedicated p q = (tells_keys signal dedicated p q).less

pub some_before : (signal : Signal) (dedicated : Bool) (p q : PodStatus) → p.number ≢ q.number
    → IsBefore signal dedicated p q ⊎ IsBefore signal dedicated q p
some_before signal dedicated p q apart = by (rank_cmp (key p) (key q)) refl
  where
    key : PodStatus → RankKey
    key r = key_of signal dedicated r

    by : (o : Ordering) → rank_cmp (key p) (key q) ≡ o
        → IsBefore signal dedicated p q ⊎ IsBefore signal dedicated q p
    by Less e = inl ((tells_keys signal dedicated p q).less.0 e)
    by Greater e = inr ((tells_keys signal dedicated p q).greater.0 e)
    by Equal e = absurd (apart (ap (λ (k : RankKey). k.number) (keys_exact.exact (key p) (key q) e)))

pub not_both_before : (signal : Signal) (dedicated : Bool) (p q : PodStatus)
    → IsBefore signal dedicated p q → IsBefore signal dedicated q p → ⊥
not_both_before signal dedicated p q b c =
    let t = tells_keys signal dedicated p q in
    let e : Less ≡ Greater = sym (t.less.1 b) ∙ t.greater.1 c in
    absurd (cc)

pub goes_on_before : (signal : Signal) (dedicated : Bool) (p q r : PodStatus)
    → IsBefore signal dedicated p q → IsBefore signal dedicated q r → IsBefore signal dedicated p r
goes_on_before signal dedicated p q r b c =
    let key : PodStatus → RankKey = λ s. key_of signal dedicated s in
    (tells_keys signal dedicated p r).less.0 (keys_exact.total.trans (key p) (key q) (key r)
    ((tells_keys signal dedicated p q).less.1 b) ((tells_keys signal dedicated q r).less.1 c))

pub order_is_total : OrderIsTotal
order_is_total = record { some = some_before; not_both = not_both_before; goes_on = goes_on_before }

-- two statuses differ in nothing by which pods are ranked
pub record RankAlike (p q : PodStatus) : Type 0 where
  pub usage : p.usage ≡ q.usage
  pub requests : p.requests ≡ q.requests
  pub priority : p.priority ≡ q.priority
  pub number : p.number ≡ q.number

key_alike : (signal : Signal) (dedicated : Bool) (p q : PodStatus) → RankAlike p q
    → key_of signal dedicated p ≡ key_of signal dedicated q
key_alike signal dedicated p q a = λ i. record {
  follows_unsampled = ranks_unsampled_first signal && not (a.usage i).is_unsampled;
  within_request =
      has_requests signal && leb (used signal dedicated (a.usage i).samples) (requested signal (a.requests i));
  priority = a.priority i;
  is_sampled = not (a.usage i).is_unsampled;
  excess = record { 0 = used signal dedicated (a.usage i).samples - requested signal (a.requests i) };
  shortfall = requested signal (a.requests i) - used signal dedicated (a.usage i).samples;
  number = a.number i;
}

-- the order looks at nothing but that by which pods are ranked
pub before_alike : (signal : Signal) (dedicated : Bool) (p q r : PodStatus) → RankAlike q r
    → IsBefore signal dedicated p q → IsBefore signal dedicated p r
before_alike signal dedicated p q r alike b =
    let P : RankKey → Type 0 = λ k. rank_cmp (key_of signal dedicated p) k ≡ Less in
    (tells_keys signal dedicated p r).less.0
    (subst P (key_alike signal dedicated q r alike) ((tells_keys signal dedicated p q).less.1 b))

-- candidates, held or not, have one victim
pub victim_unique : (signal : Signal) (dedicated : Bool) (C : ℕ → PodStatus → Type 0) (one other : Option ℕ)
    → IsVictim signal dedicated C one → IsVictim signal dedicated C other → one ≡ other
victim_unique signal dedicated C None None v w = refl
victim_unique signal dedicated C None (Some m) v (q, e, before) = absurd (v m q e)
victim_unique signal dedicated C (Some n) None (p, e, before) w = absurd (w n p e)
victim_unique signal dedicated C (Some n) (Some m) (p, e, before) (q, f, after) = elim (cases_eq n m) [
  | inl same ↦ ap (λ i. Some i) same
  | inr apart ↦ absurd (not_both_before signal dedicated p q (before m q f (λ s. apart (sym s))) (after n p e apart))
]

pub one_victim : OneVictim
one_victim signal dedicated held one other v w = victim_unique signal dedicated (λ n p. held n ≡ Some p) one other v w

-- candidates that are the same have the same victim
pub same_victim : (signal : Signal) (dedicated : Bool) (C D : ℕ → PodStatus → Type 0)
    → ((n : ℕ) (p : PodStatus) → (C n p ↔ D n p)) → (victim : Option ℕ)
    → IsVictim signal dedicated C victim → IsVictim signal dedicated D victim
same_victim signal dedicated C D same None v = λ n p d. v n p ((same n p).1 d)
same_victim signal dedicated C D same (Some n) (p, c, before) =
    (p, (same n p).0 c, λ m q d apart. before m q ((same m q).1 d) apart)

-- what is held under one number, and as before under the others
at_number : (held : ℕ → Option PodStatus) (number : ℕ) (now : Option PodStatus)
    → (after : ℕ → Option PodStatus) × (after number ≡ now) × ((n : ℕ) → n ≢ number → after n ≡ held n)
at_number held number now = (after, here, others)
  where
    after : ℕ → Option PodStatus
    after n = cond (number == n) now (held n)

    here : after number ≡ now
    here = elim (eqb_tells number number) [
      | inl w ↦ ap (λ t. cond t now (held number)) w.0
      | inr w ↦ absurd (w.1 refl)
    ]

    others : (n : ℕ) → n ≢ number → after n ≡ held n
    others n apart = elim (eqb_tells number n) [
      | inl w ↦ absurd (apart (sym w.1))
      | inr w ↦ ap (λ t. cond t now (held n)) w.0
    ]

some_held_after : (moment : ℕ) (held : ℕ → Option PodStatus) (status : PodStatus)
    → (after : ℕ → Option PodStatus) × AreHeldAfter moment held status after
some_held_after moment held status = elim (may_or_not moment status) [
  | inl may ↦
      let made = at_number held status.number (Some status) in
      (made.0, record { out = λ not. absurd (not may); in_place = λ m. made.1; others = made.2 })
  | inr out ↦
      let made = at_number held status.number None in
      (made.0, record { out = λ not. made.1; in_place = λ m. absurd (out m); others = made.2 })
]

held_after_unique : (moment : ℕ) (held : ℕ → Option PodStatus) (status : PodStatus) (one other : ℕ → Option PodStatus)
    → AreHeldAfter moment held status one → AreHeldAfter moment held status other → (n : ℕ) → one n ≡ other n
held_after_unique moment held status one other a b n = elim (cases_eq n status.number) [
  | inl same ↦
      let P : ℕ → Type 0 = λ i. one i ≡ other i in
      subst P (sym same) (elim (may_or_not moment status) [
        | inl may ↦ a.in_place may ∙ sym (b.in_place may)
        | inr out ↦ a.out out ∙ sym (b.out out)
      ])
  | inr apart ↦ a.others n apart ∙ sym (b.others n apart)
]

pub one_is_held_after : OneIsHeldAfter
one_is_held_after = record { exists = some_held_after; unique = held_after_unique }

some_held_without : (held : ℕ → Option PodStatus) (number : ℕ)
    → (after : ℕ → Option PodStatus) × AreHeldWithout held number after
some_held_without held number =
    let made = at_number held number None in
    (made.0, record { gone = made.1; others = made.2 })

held_without_unique : (held : ℕ → Option PodStatus) (number : ℕ) (one other : ℕ → Option PodStatus)
    → AreHeldWithout held number one → AreHeldWithout held number other → (n : ℕ) → one n ≡ other n
held_without_unique held number one other a b n = elim (cases_eq n number) [
  | inl same ↦
      let P : ℕ → Type 0 = λ i. one i ≡ other i in
      subst P (sym same) (a.gone ∙ sym b.gone)
  | inr apart ↦ a.others n apart ∙ sym (b.others n apart)
]

pub one_is_held_without : OneIsHeldWithout
one_is_held_without = record { exists = some_held_without; unique = held_without_unique }
