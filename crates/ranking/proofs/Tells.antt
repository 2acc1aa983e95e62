-- The order of keys is the order of pods.
use Rattle.std.proofs.Common.{◌≡◌, inl, inr, ℕ, ◌+◌, ◌-◌, ◌<◌, ◌≤◌, Bool, true, false, refl, subst, arith}
use Rattle.std.specs.Prelude.{◌↔◌, ℤ, ◌<ℤ◌, ◌&&◌, not, leb, IsTrue}
use Rattle.std.specs.Ordering.{nat_cmp, int_cmp, bool_cmp, ordering_then, MatchOrdering}
use Rattle.std.specs.declared.cmp.Ordering.{Ordering}
use Rattle.std.specs.declared.cmp.Ordering.TheVariants.{Less, Equal, Greater}
use Rattle.std.proofs.lemmas.Cmp.{ranked, int_ranked}
use Rattle.std.proofs.lemmas.Int.{ints}
use Rattle.std.specs.Bool.{Decides}
use Rattle.std.proofs.lemmas.Bool.Decides.{nat_tests}
use Rattle.signals.specs.declared.signal.Signal.{Signal}
use Rattle.pod_piece.specs.declared.status.PodStatus.{PodStatus}
use Rattle.ranking.specs.rule.Amounts.{used, has_requests, requested}
use Rattle.ranking.specs.rule.Order.{First, UnsampledAlone, UnsampledFirst, ranks_unsampled_first, ExceedsAlone}
use Rattle.ranking.specs.rule.Order.{HasLowerPriority, UsesMore, HasLowerNumber, IsBefore}
use Rattle.ranking.specs.state.Keys.{key_of, rank_cmp}

-- an ordering tells which of two comes before the other
pub record Tells (before after : Type 0) (o : Ordering) : Type 0 where
  pub less : (o ≡ Less) ↔ before
  pub greater : (o ≡ Greater) ↔ after

pub tells_less : (A B : Type 0) → A → (B → ⊥) → Tells A B Less
tells_less A B a n = record {
  less = ((λ _. a), (λ _. refl));
  greater = ((λ e. absurd (cc)), (λ b. absurd (n b)));
}

pub tells_greater : (A B : Type 0) → B → (A → ⊥) → Tells A B Greater
tells_greater A B b n = record {
  less = ((λ e. absurd (cc)), (λ a. absurd (n a)));
  greater = ((λ _. b), (λ _. refl));
}

pub tells_equal : (A B : Type 0) → (A → ⊥) → (B → ⊥) → Tells A B Equal
tells_equal A B m n = record {
  less = ((λ e. absurd (cc)), (λ a. absurd (m a)));
  greater = ((λ e. absurd (cc)), (λ b. absurd (n b)));
}

pub tells_first : (A B : PodStatus → PodStatus → Type 0) (p q : PodStatus) (o r : Ordering)
    → Tells (A p q) (A q p) o → Tells (B p q) (B q p) r → Tells (First A B p q) (First A B q p) (ordering_then o r)
tells_first A B p q Less r s t =
    let a : A p q = s.less.0 refl in
    let n : A q p → ⊥ = λ b. let e : Less ≡ Greater = s.greater.1 b in cc in
    tells_less (First A B p q) (First A B q p) (inl a) (λ w. elim w [ inl b ↦ n b | inr v ↦ v.1 a ])
tells_first A B p q Greater r s t =
    let b : A q p = s.greater.0 refl in
    let n : A p q → ⊥ = λ a. let e : Greater ≡ Less = s.less.1 a in cc in
    tells_greater (First A B p q) (First A B q p) (inl b) (λ w. elim w [ inl a ↦ n a | inr v ↦ v.1 b ])
tells_first A B p q Equal r s t =
    let m : A p q → ⊥ = λ a. let e : Equal ≡ Less = s.less.1 a in cc in
    let n : A q p → ⊥ = λ b. let e : Equal ≡ Greater = s.greater.1 b in cc in
    record {
      less = ((λ e. inr (m, n, t.less.0 e)), (λ w. elim w [ inl a ↦ absurd (m a) | inr v ↦ t.less.1 v.2 ]));
      greater = ((λ e. inr (n, m, t.greater.0 e)), (λ w. elim w [ inl b ↦ absurd (n b) | inr v ↦ t.greater.1 v.2 ]));
    }

tells_by : (x y : ℕ) (o : Ordering) → MatchOrdering o (x < y) (x ≡ y) (y < x) → Tells (x < y) (y < x) o
tells_by x y Less m = tells_less (x < y) (y < x) m (λ b. omega arith)
tells_by x y Equal m = tells_equal (x < y) (y < x) (λ a. omega arith) (λ b. omega arith)
tells_by x y Greater m = tells_greater (x < y) (y < x) m (λ a. omega arith)

pub tells_nat : (x y : ℕ) → Tells (x < y) (y < x) (nat_cmp x y)
tells_nat x y = tells_by x y (nat_cmp x y) (ranked x y (nat_cmp x y) refl)

tells_int_by : (x y : ℤ) (o : Ordering) → MatchOrdering o (x <ℤ y) (x ≡ y) (y <ℤ x) → Tells (x <ℤ y) (y <ℤ x) o
tells_int_by x y Less m = tells_less (x <ℤ y) (y <ℤ x) m (λ b. omega (arith, ints))
tells_int_by x y Equal m = tells_equal (x <ℤ y) (y <ℤ x) (λ a. omega (arith, ints)) (λ b. omega (arith, ints))
tells_int_by x y Greater m = tells_greater (x <ℤ y) (y <ℤ x) m (λ a. omega (arith, ints))

pub tells_int : (x y : ℤ) → Tells (x <ℤ y) (y <ℤ x) (int_cmp x y)
tells_int x y = tells_int_by x y (int_cmp x y) (int_ranked x y (int_cmp x y) refl)

pub tells_as : (A B C D : Type 0) (o : Ordering) → (A ↔ C) → (B ↔ D) → Tells A B o → Tells C D o
tells_as A B C D o ac bd t = record {
  less = ((λ e. ac.0 (t.less.0 e)), (λ c. t.less.1 (ac.1 c)));
  greater = ((λ e. bd.0 (t.greater.0 e)), (λ d. t.greater.1 (bd.1 d)));
}

then_assoc : (o r s : Ordering) → ordering_then (ordering_then o r) s ≡ ordering_then o (ordering_then r s)
then_assoc Less r s = refl
then_assoc Equal r s = refl
then_assoc Greater r s = refl

-- by u - r and v - s: first by how much each is above 0, then by how much it is below
pub tells_margin : (u r v s : ℕ)
    → Tells (v + r < u + s) (u + s < v + r) (ordering_then (nat_cmp (v - s) (u - r)) (nat_cmp (r - u) (s - v)))
tells_margin u r v s =
    by (nat_cmp (v - s) (u - r)) (nat_cmp (r - u) (s - v)) (tells_nat (v - s) (u - r)) (tells_nat (r - u) (s - v))
  where
    by : (o t : Ordering) → Tells (v - s < u - r) (u - r < v - s) o → Tells (r - u < s - v) (s - v < r - u) t
        → Tells (v + r < u + s) (u + s < v + r) (ordering_then o t)
    by Less t a b = let lt : v - s < u - r = a.less.0 refl in tells_less _ _ (omega arith) (λ w. omega arith)
    by Greater t a b = let lt : u - r < v - s = a.greater.0 refl in tells_greater _ _ (omega arith) (λ w. omega arith)
    by Equal t a b =
        let m : v - s < u - r → ⊥ = λ w. let e : Equal ≡ Less = a.less.1 w in cc in
        let n : u - r < v - s → ⊥ = λ w. let e : Equal ≡ Greater = a.greater.1 w in cc in
        tells_as _ _ _ _ t ((λ w. omega arith), (λ w. omega arith)) ((λ w. omega arith), (λ w. omega arith)) b

decides_le : (a b : ℕ) → Decides (leb a b) (a ≤ b)
decides_le a b = ((λ e. grind (arith, nat_tests)), (λ le. grind (arith, nat_tests)))

-- u is above r and v isn't above s, where that is asked
abbrev Alone : Bool → ℕ → ℕ → ℕ → ℕ → Type 0
Alone asked u r v s = IsTrue asked × (r < u) × (s < v → ⊥)

alone_by : (u r v s : ℕ) → Tells (Alone true u r v s) (Alone true v s u r) (bool_cmp (leb u r) (leb v s))
alone_by u r v s = by (leb u r) (leb v s) (decides_le u r) (decides_le v s)
  where
    above : (a b : ℕ) → Decides false (a ≤ b) → b < a
    above a b d = let n : a ≤ b → ⊥ = λ le. (let e : false ≡ true = d.1 le in cc) in omega arith

    by : (a b : Bool) → Decides a (u ≤ r) → Decides b (v ≤ s)
        → Tells (Alone true u r v s) (Alone true v s u r) (bool_cmp a b)
    by true true a b =
        let x : u ≤ r = a.0 refl in
        let y : v ≤ s = b.0 refl in
        tells_equal _ _ (λ w. let lt : r < u = w.1 in omega arith) (λ w. let lt : s < v = w.1 in omega arith)
    by false false a b = tells_equal _ _ (λ w. w.2 (above v s b)) (λ w. w.2 (above u r a))
    by false true a b =
        let y : v ≤ s = b.0 refl in
        tells_less _ _ (refl, above u r a, λ lt. omega arith) (λ w. let lt : s < v = w.1 in omega arith)
    by true false a b =
        let x : u ≤ r = a.0 refl in
        tells_greater _ _ (refl, above v s b, λ lt. omega arith) (λ w. let lt : r < u = w.1 in omega arith)

-- the first criterion
pub tells_alone : (asked : Bool) (u r v s : ℕ)
    → Tells (Alone asked u r v s) (Alone asked v s u r) (bool_cmp (asked && leb u r) (asked && leb v s))
tells_alone true u r v s = alone_by u r v s
tells_alone false u r v s =
    tells_equal _ _ (λ w. let e : false ≡ true = w.0 in cc) (λ w. let e : false ≡ true = w.0 in cc)

-- of two flags the first alone is set
abbrev SetAlone : Bool → Bool → Type 0
SetAlone a b = IsTrue a × (IsTrue b → ⊥)

pub tells_set : (a b : Bool) → Tells (SetAlone a b) (SetAlone b a) (bool_cmp (not a) (not b))
tells_set true true = tells_equal _ _ (λ w. w.1 refl) (λ w. w.1 refl)
tells_set false false = tells_equal _ _ (λ w. w.1 w.0) (λ w. w.1 w.0)
tells_set true false =
    tells_less _ _ (refl, λ e. let f : false ≡ true = e in cc) (λ w. let f : false ≡ true = w.0 in cc)
tells_set false true =
    tells_greater _ _ (refl, λ e. let f : false ≡ true = e in cc) (λ w. let f : false ≡ true = w.0 in cc)

-- where that is asked
pub tells_asked : (asked a b : Bool)
    → Tells (IsTrue asked × SetAlone a b) (IsTrue asked × SetAlone b a) (bool_cmp (asked && not a) (asked && not b))
tells_asked true a b =
    tells_as _ _ _ _ _ ((λ w. (refl, w)), (λ w. w.1)) ((λ w. (refl, w)), (λ w. w.1)) (tells_set a b)
tells_asked false a b =
    tells_equal _ _ (λ w. let e : false ≡ true = w.0 in cc) (λ w. let e : false ≡ true = w.0 in cc)

-- keys stand as their pods do
pub tells_keys : (signal : Signal) (dedicated : Bool) (p q : PodStatus)
    → Tells (IsBefore signal dedicated p q) (IsBefore signal dedicated q p)
    (rank_cmp (key_of signal dedicated p) (key_of signal dedicated q))
tells_keys signal dedicated p q =
    let u = used signal dedicated p.usage.samples in
    let r = requested signal p.requests in
    let v = used signal dedicated q.usage.samples in
    let s = requested signal q.requests in
    let More = UsesMore signal dedicated in
    let excess : Ordering = nat_cmp (v - s) (u - r) in
    let shortfall : Ordering = nat_cmp (r - u) (s - v) in
    let number : Ordering = nat_cmp p.number q.number in
    let last = tells_first More HasLowerNumber p q (ordering_then excess shortfall) number (tells_margin u r v s)
    (tells_nat p.number q.number) in
    let third : Tells (First More HasLowerNumber p q) (First More HasLowerNumber q p)
    (ordering_then excess (ordering_then shortfall number)) =
    subst (Tells (First More HasLowerNumber p q) (First More HasLowerNumber q p))
    (then_assoc excess shortfall number) last in
    let Used = First More HasLowerNumber in
    let by_sample = tells_first UnsampledAlone Used p q _ _
    (tells_set p.usage.is_unsampled q.usage.is_unsampled) third in
    let by_priority = tells_first HasLowerPriority (First UnsampledAlone Used) p q _ _
    (tells_int p.priority q.priority) by_sample in
    let by_request = tells_first (ExceedsAlone signal dedicated) (First HasLowerPriority (First UnsampledAlone Used))
    p q _ _ (tells_alone (has_requests signal) u r v s) by_priority in
    tells_first (UnsampledFirst signal)
    (First (ExceedsAlone signal dedicated) (First HasLowerPriority (First UnsampledAlone Used))) p q _ _
    (tells_asked (ranks_unsampled_first signal) p.usage.is_unsampled q.usage.is_unsampled) by_request
