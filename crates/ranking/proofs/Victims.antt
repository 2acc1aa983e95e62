-- Of finitely many candidates one is evicted before all others.
use Rattle.std.proofs.Common.{◌≡◌, ◌⊎◌, inl, inr, ℕ, zero, suc, ◌<◌, Bool, Option, Some, None}
use Rattle.std.proofs.Common.{refl, sym, ap, subst, ◌∙◌, arith}
use Rattle.std.specs.Prelude.{◌≢◌}
use Rattle.std.proofs.lemmas.Bool.{cases_eq}
use Rattle.signals.specs.declared.signal.Signal.{Signal}
use Rattle.pod_piece.specs.declared.status.PodStatus.{PodStatus}
use Rattle.ranking.specs.rule.Order.{IsBefore, IsVictim}
use Rattle.ranking.specs.state.Laws.{SomeVictim}
use Rattle.ranking.proofs.LawLemmas.{RankAlike, some_before, goes_on_before, before_alike}

-- the candidates are pods below count, of which each is known to be one or not, and has its number, by
-- statuses that rank it alike
pub record AreCandidates (C : ℕ → PodStatus → Type 0) (count : ℕ) : Type 0 where
  pub known : (n : ℕ) → ((p : PodStatus) × C n p) ⊎ ((p : PodStatus) → C n p → ⊥)
  pub below : (n : ℕ) (p : PodStatus) → C n p → n < count
  pub numbered : (n : ℕ) (p : PodStatus) → C n p → p.number ≡ n
  pub alike : (n : ℕ) (p q : PodStatus) → C n p → C n q → RankAlike p q

-- the victim among the candidates below a number
abbrev Below : Signal → Bool → (ℕ → PodStatus → Type 0) → ℕ → Option ℕ → Type 0
Below signal dedicated C i None = (n : ℕ) (p : PodStatus) → n < i → C n p → ⊥
Below signal dedicated C i (Some n) =
    (p : PodStatus) × C n p × (n < i)
    × ((m : ℕ) (q : PodStatus) → m < i → C m q → m ≢ n → IsBefore signal dedicated p q)

-- a candidate comes before all at a place where it comes before one
ahead : (signal : Signal) (dedicated : Bool) (C : ℕ → PodStatus → Type 0) (count : ℕ) → AreCandidates C count
    → (k m : ℕ) (p q r : PodStatus) → C k q → IsBefore signal dedicated p q → C m r
    → ((m ≡ k → ⊥) → IsBefore signal dedicated p r) → IsBefore signal dedicated p r
ahead signal dedicated C count are k m p q r c b d elsewhere = elim (cases_eq m k) [
  | inl same ↦
      let P : ℕ → Type 0 = λ j. C j r in
      before_alike signal dedicated p q r (are.alike k q r c (subst P same d)) b
  | inr other ↦ elsewhere other
]

-- it stays the victim
stays : (signal : Signal) (dedicated : Bool) (C : ℕ → PodStatus → Type 0) (count : ℕ) → AreCandidates C count
    → (i n : ℕ) (p q : PodStatus) → C i q → IsBefore signal dedicated p q
    → ((m : ℕ) (r : PodStatus) → m < i → C m r → m ≢ n → IsBefore signal dedicated p r)
    → (m : ℕ) (r : PodStatus) → m < suc i → C m r → m ≢ n → IsBefore signal dedicated p r
stays signal dedicated C count are i n p q c b before m r lt d apart =
    ahead signal dedicated C count are i m p q r c b d (λ other. before m r (omega arith) d apart)

-- or the new candidate is evicted before it
moves : (signal : Signal) (dedicated : Bool) (C : ℕ → PodStatus → Type 0) (count : ℕ) → AreCandidates C count
    → (i n : ℕ) (p q : PodStatus) → C n p → IsBefore signal dedicated q p
    → ((m : ℕ) (r : PodStatus) → m < i → C m r → m ≢ n → IsBefore signal dedicated p r)
    → (m : ℕ) (r : PodStatus) → m < suc i → C m r → m ≢ i → IsBefore signal dedicated q r
moves signal dedicated C count are i n p q c b before m r lt d apart =
    let not : m ≡ i → ⊥ = apart in
    ahead signal dedicated C count are n m q p r c b d
    (λ other. goes_on_before signal dedicated q p r b (before m r (omega arith) d other))

best : (signal : Signal) (dedicated : Bool) (C : ℕ → PodStatus → Type 0) (count : ℕ) → AreCandidates C count
    → (i : ℕ) → (v : Option ℕ) × Below signal dedicated C i v
best signal dedicated C count are zero = (None, λ n p lt c. absurd (omega arith))
best signal dedicated C count are (suc i) = step (best signal dedicated C count are i) (are.known i)
  where
    step : (v : Option ℕ) × Below signal dedicated C i v → ((p : PodStatus) × C i p) ⊎ ((p : PodStatus) → C i p → ⊥)
        → (v : Option ℕ) × Below signal dedicated C (suc i) v
    step (None, none) (inr gone) = (
      None,
      λ n p lt c. elim (cases_eq n i) [
        | inl same ↦ let P : ℕ → Type 0 = λ k. C k p in gone p (subst P same c)
        | inr other ↦ none n p (omega arith) c
      ],
    )
    step (None, none) (inl (q, c)) = (
      Some i,
      (
        q,
        c,
        omega arith,
        λ m r lt d apart. absurd (none m r (let not : m ≡ i → ⊥ = apart in omega arith) d),
      ),
    )
    step (Some n, (p, c, lt, before)) (inr gone) = (
      Some n,
      (
        p,
        c,
        omega arith,
        λ m r less d apart. elim (cases_eq m i) [
          | inl same ↦ let P : ℕ → Type 0 = λ k. C k r in absurd (gone r (subst P same d))
          | inr other ↦ before m r (omega arith) d apart
        ],
      ),
    )
    step (Some n, (p, c, lt, before)) (inl (q, d)) =
        let a : p.number ≡ n = are.numbered n p c in
        let b : q.number ≡ i = are.numbered i q d in
        elim (some_before signal dedicated p q (λ e. omega arith)) [
          | inl w ↦ (Some n, (p, c, omega arith, stays signal dedicated C count are i n p q d w before))
          | inr w ↦ (Some i, (q, d, omega arith, moves signal dedicated C count are i n p q c w before))
        ]

pub victim_among : (signal : Signal) (dedicated : Bool) (C : ℕ → PodStatus → Type 0) (count : ℕ)
    → AreCandidates C count → (v : Option ℕ) × IsVictim signal dedicated C v
victim_among signal dedicated C count are = from (best signal dedicated C count are count)
  where
    from : (v : Option ℕ) × Below signal dedicated C count v → (v : Option ℕ) × IsVictim signal dedicated C v
    from (None, none) = (None, λ n p c. none n p (are.below n p c) c)
    from (Some n, (p, c, lt, before)) =
        (Some n, (p, c, λ m q d apart. before m q (are.below m q d) d apart))

held_known : (o : Option PodStatus) → ((p : PodStatus) × (o ≡ Some p)) ⊎ ((p : PodStatus) → o ≡ Some p → ⊥)
held_known None = inr (λ p e. absurd (cc))
held_known (Some p) = inl (p, refl)

held_alike : (o : Option PodStatus) (p q : PodStatus) → o ≡ Some p → o ≡ Some q → RankAlike p q
held_alike o p q e f =
    let both : Some p ≡ Some q = sym e ∙ f in
    let same : p ≡ q = cc in
    record {
      usage = ap (λ (s : PodStatus). s.usage) same;
      requests = ap (λ (s : PodStatus). s.requests) same;
      priority = ap (λ (s : PodStatus). s.priority) same;
      number = ap (λ (s : PodStatus). s.number) same;
    }

pub some_victim : SomeVictim
some_victim signal dedicated held count are =
    victim_among signal dedicated (λ n p. held n ≡ Some p) count (record {
      known = λ n. held_known (held n);
      below = λ n p e. (are n p e).0;
      numbered = λ n p e. (are n p e).1;
      alike = λ n p q e f. held_alike (held n) p q e f;
    })
