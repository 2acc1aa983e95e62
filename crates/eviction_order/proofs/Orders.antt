-- The order of all candidates is one, and what its places say.
use Rattle.std.proofs.Common.{◌≡◌, ◌∙◌, inl, inr, ℕ, zero, suc, ◌<◌, List, [], ◌∷◌, Bool, Option, Some, None, refl, sym, ap}
use Rattle.std.proofs.Common.{subst, arith}
use Rattle.std.specs.Prelude.{◌↔◌, slice_get}
use Rattle.std.proofs.lemmas.Bool.{cases_eq}
use Rattle.std.proofs.lemmas.Option.{same_Some}
use Rattle.signals.specs.declared.signal.Signal.{Signal}
use Rattle.pod_piece.specs.declared.status.PodStatus.{PodStatus}
use Rattle.ranking.specs.rule.Order.{IsBefore, IsVictim}
use Rattle.ranking.proofs.LawLemmas.{victim_unique}
use Rattle.eviction_order.specs.rule.Ranked.{Without, AreRanked}

pub one_order : (signal : Signal) (dedicated : Bool) (C : ℕ → PodStatus → Type 0) (ns ms : List ℕ)
    → AreRanked signal dedicated C ns → AreRanked signal dedicated C ms → ns ≡ ms
one_order signal dedicated C [] [] a b = refl
one_order signal dedicated C [] (m ∷ ms) a b =
    let e = victim_unique signal dedicated C None (Some m) a b.0 in absurd (cc)
one_order signal dedicated C (n ∷ ns) [] a b =
    let e = victim_unique signal dedicated C (Some n) None a.0 b in absurd (cc)
one_order signal dedicated C (n ∷ ns) (m ∷ ms) a b =
    let same : n ≡ m = same_Some n m (victim_unique signal dedicated C (Some n) (Some m) a.0 b.0) in
    let rest : AreRanked signal dedicated (Without n C) ms =
    subst (λ (k : ℕ). AreRanked signal dedicated (Without k C) ms) (sym same) b.1 in
    ap (λ (k : ℕ). k ∷ ns) same ∙ ap (λ (ks : List ℕ). m ∷ ks) (one_order signal dedicated (Without n C) ns ms a.1 rest)

pub first_is_victim : (signal : Signal) (dedicated : Bool) (C : ℕ → PodStatus → Type 0) (ns : List ℕ)
    (victim : Option ℕ) → AreRanked signal dedicated C ns
    → (IsVictim signal dedicated C victim ↔ (slice_get ns 0 ≡ victim))
first_is_victim signal dedicated C [] victim a = (
  (λ v. victim_unique signal dedicated C None victim a v),
  (λ e. subst (IsVictim signal dedicated C) e a),
)
first_is_victim signal dedicated C (n ∷ ns) victim a = (
  (λ v. victim_unique signal dedicated C (Some n) victim a.0 v),
  (λ e. subst (IsVictim signal dedicated C) e a.0),
)

-- who has a place is a candidate
pub candidate_at : (signal : Signal) (dedicated : Bool) (C : ℕ → PodStatus → Type 0) (ns : List ℕ) (i n : ℕ)
    → AreRanked signal dedicated C ns → slice_get ns i ≡ Some n → (p : PodStatus) × C n p
candidate_at signal dedicated C [] i n a at = absurd (cc)
candidate_at signal dedicated C (k ∷ ns) zero n a at =
    let same : k ≡ n = same_Some k n at in
    (a.0.0, subst (λ (m : ℕ). C m a.0.0) same a.0.1)
candidate_at signal dedicated C (k ∷ ns) (suc i) n a at =
    let w = candidate_at signal dedicated (Without k C) ns i n a.1 at in
    (w.0, w.1.0)

-- and each candidate has one
pub place_of : (signal : Signal) (dedicated : Bool) (C : ℕ → PodStatus → Type 0) (ns : List ℕ) (n : ℕ) (p : PodStatus)
    → AreRanked signal dedicated C ns → C n p → (i : ℕ) × (slice_get ns i ≡ Some n)
place_of signal dedicated C [] n p a c = absurd (a n p c)
place_of signal dedicated C (k ∷ ns) n p a c = elim (cases_eq n k) [
  | inl same ↦ (0, ap (λ (m : ℕ). Some m) (sym same))
  | inr apart ↦ let w = place_of signal dedicated (Without k C) ns n p a.1 (c, apart) in (suc w.0, w.1)
]

-- of two places the earlier one is of the pod that is ranked before
pub in_order : (signal : Signal) (dedicated : Bool) (C : ℕ → PodStatus → Type 0) (ns : List ℕ) (i j n m : ℕ)
    → AreRanked signal dedicated C ns → i < j → slice_get ns i ≡ Some n → slice_get ns j ≡ Some m
    → (p q : PodStatus) × C n p × C m q × IsBefore signal dedicated p q
in_order signal dedicated C [] i j n m a lt at at' = absurd (cc)
in_order signal dedicated C (k ∷ ns) zero zero n m a lt at at' = absurd (omega arith)
in_order signal dedicated C (k ∷ ns) zero (suc j) n m a lt at at' =
    let same : k ≡ n = same_Some k n at in
    let w = candidate_at signal dedicated (Without k C) ns j m a.1 at' in
    (a.0.0, w.0, subst (λ (l : ℕ). C l a.0.0) same a.0.1, w.1.0, a.0.2 m w.0 w.1.0 w.1.1)
in_order signal dedicated C (k ∷ ns) (suc i) zero n m a lt at at' = absurd (omega arith)
in_order signal dedicated C (k ∷ ns) (suc i) (suc j) n m a lt at at' =
    let w = in_order signal dedicated (Without k C) ns i j n m a.1 (omega arith) at at' in
    (w.0, w.1, w.2.0, w.3.0, w.4)
