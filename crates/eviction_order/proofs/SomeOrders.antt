-- Finitely many candidates stand in an order.
use Rattle.std.proofs.Common.{◌≡◌, ◌∙◌, ◌⊎◌, inl, inr, ℕ, zero, suc, ◌<◌, List, [], ◌∷◌, Bool, Option, Some, None, refl, sym}
use Rattle.std.proofs.Common.{ap, subst, arith}
use Rattle.std.specs.Prelude.{◌≢◌}
use Rattle.std.proofs.lemmas.Bool.{cases_eq, cases_lt}
use Rattle.signals.specs.declared.signal.Signal.{Signal}
use Rattle.pod_piece.specs.declared.status.PodStatus.{PodStatus}
use Rattle.ranking.specs.rule.Order.{IsBefore}
use Rattle.ranking.proofs.LawLemmas.{RankAlike, some_before, goes_on_before, before_alike}
use Rattle.ranking.proofs.Victims.{AreCandidates}
use Rattle.eviction_order.specs.rule.Ranked.{Without, AreRanked}

-- candidates have their numbers, by statuses that rank them alike
pub record AreNumbered (C : ℕ → PodStatus → Type 0) : Type 0 where
  pub numbered : (n : ℕ) (p : PodStatus) → C n p → p.number ≡ n
  pub alike : (n : ℕ) (p q : PodStatus) → C n p → C n q → RankAlike p q

without_numbered : (C : ℕ → PodStatus → Type 0) (k : ℕ) → AreNumbered C → AreNumbered (Without k C)
without_numbered C k are = record {
  numbered = λ n p c. are.numbered n p c.0;
  alike = λ n p q c d. are.alike n p q c.0 d.0;
}

-- E has the candidates of C, and one more
pub record IsOneMore (C E : ℕ → PodStatus → Type 0) (n : ℕ) (p : PodStatus) : Type 0 where
  pub more : E n p
  pub old : (m : ℕ) (q : PodStatus) → C m q → E m q × (m ≢ n)
  pub split : (m : ℕ) (q : PodStatus) → E m q → m ≢ n → C m q

without_more : (C E : ℕ → PodStatus → Type 0) (n k : ℕ) (p : PodStatus) → (n ≢ k) → IsOneMore C E n p
    → IsOneMore (Without k C) (Without k E) n p
without_more C E n k p apart is = record {
  more = (is.more, apart);
  old = λ m q c. let w = is.old m q c.0 in ((w.0, c.1), w.1);
  split = λ m q e other. (is.split m q e.0 other, e.1);
}

-- an order of the same candidates
pub same_ranked : (signal : Signal) (dedicated : Bool) (C D : ℕ → PodStatus → Type 0)
    → ((n : ℕ) (p : PodStatus) → C n p → D n p) → ((n : ℕ) (p : PodStatus) → D n p → C n p) → (ns : List ℕ)
    → AreRanked signal dedicated C ns → AreRanked signal dedicated D ns
same_ranked signal dedicated C D onto back [] a = λ n p d. a n p (back n p d)
same_ranked signal dedicated C D onto back (k ∷ ns) a = (
  (a.0.0, onto k a.0.0 a.0.1, λ m q d apart. a.0.2 m q (back m q d) apart),
  same_ranked signal dedicated (Without k C) (Without k D) (λ n p w. (onto n p w.0, w.1)) (λ n p w. (back n p w.0, w.1))
      ns a.1,
)

-- one candidate more gets its place
put : (signal : Signal) (dedicated : Bool) (C E : ℕ → PodStatus → Type 0) (n : ℕ) (p : PodStatus) (ks : List ℕ)
    → AreNumbered E → IsOneMore C E n p → AreRanked signal dedicated C ks
    → (ns : List ℕ) × AreRanked signal dedicated E ns
put signal dedicated C E n p [] are is a = (
  n ∷ [],
  (
    (p, is.more, λ m q e apart. absurd (a m q (is.split m q e apart))),
    (λ m q w. a m q (is.split m q w.0 w.1)),
  ),
)
put signal dedicated C E n p (k ∷ ks) are is a =
    let r = a.0.0 in
    let old = is.old k r a.0.1 in
    let mine : p.number ≡ n = are.numbered n p is.more in
    let its : r.number ≡ k = are.numbered k r old.0 in
    let apart : n ≡ k → ⊥ = λ e. old.1 (sym e) in
    let differ : p.number ≡ r.number → ⊥ = λ e. apart (sym mine ∙ e ∙ its) in
    elim (some_before signal dedicated p r differ) [
      | inl first ↦ (
        n ∷ k ∷ ks,
        (
          (p, is.more, λ m q e other. ahead first m q (is.split m q e other)),
          same_ranked signal dedicated C (Without n E) (λ m q c. is.old m q c) (λ m q w. is.split m q w.0 w.1)
              (k ∷ ks) a,
        ),
      )
      | inr later ↦
          let rest = put signal dedicated (Without k C) (Without k E) n p ks (without_numbered E k are)
          (without_more C E n k p apart is) a.1 in (
            k ∷ rest.0,
            (
              (r, old.0, λ m q e other. behind later m q e other),
              rest.1,
            ),
          )
    ]
  where
    ahead : IsBefore signal dedicated p a.0.0 → (m : ℕ) (q : PodStatus) → C m q → IsBefore signal dedicated p q
    ahead first m q c = elim (cases_eq m k) [
      | inl same ↦
          let there : E k q = subst (λ (j : ℕ). E j q) same (is.old m q c).0 in
          before_alike signal dedicated p a.0.0 q (are.alike k a.0.0 q (is.old k a.0.0 a.0.1).0 there) first
      | inr other ↦ goes_on_before signal dedicated p a.0.0 q first (a.0.2 m q c other)
    ]

    behind : IsBefore signal dedicated a.0.0 p → (m : ℕ) (q : PodStatus) → E m q → m ≢ k
        → IsBefore signal dedicated a.0.0 q
    behind later m q e other = elim (cases_eq m n) [
      | inl same ↦
          let there : E n q = subst (λ (j : ℕ). E j q) same e in
          before_alike signal dedicated a.0.0 p q (are.alike n p q is.more there) later
      | inr apart ↦ a.0.2 m q (is.split m q e apart) other
    ]

below : (signal : Signal) (dedicated : Bool) (C : ℕ → PodStatus → Type 0) (count : ℕ) → AreCandidates C count
    → (i : ℕ) → (ns : List ℕ) × AreRanked signal dedicated (λ n p. C n p × (n < i)) ns
below signal dedicated C count are zero = ([], λ n p w. let lt : n < 0 = w.1 in absurd (omega arith))
below signal dedicated C count are (suc i) = step (below signal dedicated C count are i) (are.known i)
  where
    less : (m : ℕ) → m < suc i → (m ≡ i → ⊥) → m < i
    less m lt apart = elim (cases_lt m i) [ inl l ↦ l | inr ge ↦ absurd (apart (omega arith)) ]

    step : (ns : List ℕ) × AreRanked signal dedicated (λ n p. C n p × (n < i)) ns
        → ((p : PodStatus) × C i p) ⊎ ((p : PodStatus) → C i p → ⊥)
        → (ns : List ℕ) × AreRanked signal dedicated (λ n p. C n p × (n < suc i)) ns
    step (ns, a) (inl (p, c)) =
        put signal dedicated (λ n p. C n p × (n < i)) (λ n p. C n p × (n < suc i)) i p ns
        (record {
          numbered = λ n q w. are.numbered n q w.0;
          alike = λ n q r v w. are.alike n q r v.0 w.0;
        })
        (record {
          more = (c, omega arith);
          old = λ m q w. let lt : m < i = w.1 in ((w.0, omega arith), λ e. let same : m ≡ i = e in omega arith);
          split = λ m q w apart. (w.0, let lt : m < suc i = w.1 in less m lt apart);
        }) a
    step (ns, a) (inr none) = (
      ns,
      same_ranked signal dedicated (λ n p. C n p × (n < i)) (λ n p. C n p × (n < suc i))
          (λ n p w. (w.0, let lt : n < i = w.1 in omega arith))
          (λ n p w. (
            w.0,
            let lt : n < suc i = w.1 in less n lt
                (λ e. none p (subst (λ (j : ℕ). C j p) e w.0)),
          )) ns a,
    )

pub ranked_among : (signal : Signal) (dedicated : Bool) (C : ℕ → PodStatus → Type 0) (count : ℕ)
    → AreCandidates C count → (ns : List ℕ) × AreRanked signal dedicated C ns
ranked_among signal dedicated C count are =
    let w = below signal dedicated C count are count in (
      w.0,
      same_ranked signal dedicated (λ n p. C n p × (n < count)) C (λ n p c. c.0) (λ n p c. (c, are.below n p c)) w.0 w.1,
    )

-- of pods that are held
held_known : (o : Option PodStatus) → ((p : PodStatus) × (o ≡ Some p)) ⊎ ((p : PodStatus) → o ≡ Some p → ⊥)
held_known None = inr (λ p e. absurd (cc))
held_known (Some p) = inl (p, refl)

pub held_alike : (o : Option PodStatus) (p q : PodStatus) → o ≡ Some p → o ≡ Some q → RankAlike p q
held_alike o p q e f =
    let both : Some p ≡ Some q = sym e ∙ f in
    let same : p ≡ q = cc in
    record {
      usage = ap (λ (s : PodStatus). s.usage) same;
      requests = ap (λ (s : PodStatus). s.requests) same;
      priority = ap (λ (s : PodStatus). s.priority) same;
      number = ap (λ (s : PodStatus). s.number) same;
    }

pub some_order : (signal : Signal) (dedicated : Bool) (held : ℕ → Option PodStatus) (count : ℕ)
    → ((n : ℕ) (p : PodStatus) → held n ≡ Some p → (n < count) × (p.number ≡ n))
    → (numbers : List ℕ) × AreRanked signal dedicated (λ n p. held n ≡ Some p) numbers
some_order signal dedicated held count are =
    ranked_among signal dedicated (λ n p. held n ≡ Some p) count (record {
      known = λ n. held_known (held n);
      below = λ n p e. (are n p e).0;
      numbered = λ n p e. (are n p e).1;
      alike = λ n p q e f. held_alike (held n) p q e f;
    })
