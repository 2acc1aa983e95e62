-- The last place of a predicate, when one more place comes at the end, and when others come ahead.
use Rattle.std.proofs.Common.{◌≡◌, ◌⊎◌, inl, inr, ℕ, ◌+◌, ◌-◌, ◌<◌, subst, arith}
use Rattle.std.specs.Prelude.{◌↔◌}
use Rattle.std.proofs.lemmas.Bool.{cases_order}
use Rattle.histories.specs.rule.Histories.{IsLast}
use Rattle.histories.proofs.First.{Grows}

-- there is one last place
pub IsLast-unique : (P : ℕ → Type 0) (t u : ℕ) → IsLast P t → IsLast P u → t ≡ u
IsLast-unique P t u f g = elim (cases_order t u) [
  | inl e ↦ e
  | inr w ↦ elim w [ inl lt ↦ absurd (f.none_after u lt g.holds) | inr gt ↦ absurd (g.none_after t gt f.holds) ]
]

-- a last place stays the last, where the new one doesn't have it
pub IsLast-old : (n : ℕ) (P Q : ℕ → Type 0) (now : Type 0) → Grows n P Q now → (now → ⊥) → (t : ℕ) → IsLast P t
    → IsLast Q t
IsLast-old n P Q now g not t f = record {
  holds = g.old t f.holds;
  none_after = λ u lt q. elim (g.split u q) [ inl p ↦ f.none_after u lt p | inr w ↦ not w.1 ];
}

-- where it does, the new place is the last
pub IsLast-new : (n : ℕ) (P Q : ℕ → Type 0) (now : Type 0) → Grows n P Q now → now → IsLast Q n
IsLast-new n P Q now g w = record {
  holds = g.new w;
  none_after = λ u lt q. elim (g.split u q) [
    | inl p ↦ let b : u < n = g.below u p in absurd (omega arith)
    | inr w ↦ let e : u ≡ n = w.0 in absurd (omega arith)
  ];
}

-- a last place was so before, and the new one doesn't have it, or is the new one
pub IsLast-split : (n : ℕ) (P Q : ℕ → Type 0) (now : Type 0) → Grows n P Q now → (t : ℕ) → IsLast Q t
    → (IsLast P t × (now → ⊥)) ⊎ ((t ≡ n) × now)
IsLast-split n P Q now g t f = elim (g.split t f.holds) [
  | inl p ↦ inl (
    record { holds = p; none_after = λ u lt q. f.none_after u lt (g.old u q) },
    λ w. f.none_after n (g.below t p) (g.new w),
  )
  | inr w ↦ inr w
]

-- with k places ahead it is k places later
pub IsLast-moved : (k : ℕ) (P Q : ℕ → Type 0) → ((t : ℕ) → (P t ↔ Q (k + t))) → (t : ℕ) → IsLast P t → IsLast Q (k + t)
IsLast-moved k P Q same t f = record {
  holds = (same t).0 f.holds;
  none_after = λ u lt q.
      let e : u ≡ k + (u - k) = omega arith in
      f.none_after (u - k) (omega arith) ((same (u - k)).1 (subst Q e q));
}

-- and back
pub IsLast-moved_back : (k : ℕ) (P Q : ℕ → Type 0) → ((t : ℕ) → (P t ↔ Q (k + t))) → (t : ℕ) → IsLast Q (k + t)
    → IsLast P t
IsLast-moved_back k P Q same t f = record {
  holds = (same t).1 f.holds;
  none_after = λ u lt p. f.none_after (k + u) (omega arith) ((same u).0 p);
}
