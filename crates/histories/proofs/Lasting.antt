-- What comes true in a tick, where it goes on to hold once it does.
use Rattle.std.proofs.Common.{◌≡◌, inl, inr, ℕ, suc, ◌<◌, List, [], ◌∷◌, ◌++◌, length, take, drop, subst, sym, arith}
use Rattle.std.specs.Prelude.{◌↔◌}
use Rattle.std.proofs.lemmas.List.{append-nil, append_assoc, take-append-drop}
use Rattle.histories.specs.rule.Histories.{Recorded, HoldsAt, ComesTrue}
use Rattle.histories.specs.state.Histories.{Lasts}
use Rattle.histories.proofs.First.{IsFirst-old, IsFirst-new, IsFirst-split, IsFirst-unique}
use Rattle.histories.proofs.Growth.{grows_so, so_last}

-- what holds of the history up to some place holds of all of it
pub Lasts-all : {A : Type 0} (P : List (Recorded A) → Type 0) (h : List (Recorded A)) (t : ℕ) → Lasts P → HoldsAt P h t
    → P h
Lasts-all P h t lasts s = subst P (take-append-drop (suc t) h) (lasts.more (take (suc t) h) (drop (suc t) h) s.so)

-- what came true stays so, at its place
pub ComesTrue-old : {A : Type 0} (P : List (Recorded A) → Type 0) (h : List (Recorded A)) (x : Recorded A) (t : ℕ)
    → ComesTrue P h t → ComesTrue P (h ++ x ∷ []) t
ComesTrue-old P h x t f = IsFirst-old (length h) _ _ _ (grows_so P h x) t f

-- so it does whatever is recorded later
pub ComesTrue-later : {A : Type 0} (P : List (Recorded A) → Type 0) (h later : List (Recorded A)) (t : ℕ)
    → ComesTrue P h t → ComesTrue P (h ++ later) t
ComesTrue-later P h [] t f = subst (λ k. ComesTrue P k t) (sym (append-nil h)) f
ComesTrue-later P h (x ∷ later) t f =
    subst (λ k. ComesTrue P k t) (append_assoc h (x ∷ []) later)
    (ComesTrue-later P (h ++ x ∷ []) later t (ComesTrue-old P h x t f))

-- it comes true once
pub ComesTrue-unique : {A : Type 0} (P : List (Recorded A) → Type 0) (h : List (Recorded A)) (t u : ℕ)
    → ComesTrue P h t → ComesTrue P h u → t ≡ u
ComesTrue-unique P h t u = IsFirst-unique (HoldsAt P h) t u

-- it comes true by the new record exactly if it holds now and did not before
pub ComesTrue-now : {A : Type 0} (P : List (Recorded A) → Type 0) (h : List (Recorded A)) (x : Recorded A) → Lasts P
    → (ComesTrue P (h ++ x ∷ []) (length h) ↔ (P (h ++ x ∷ []) × (P h → ⊥)))
ComesTrue-now {A = A} P h x lasts = (
  (λ f. elim (IsFirst-split (length h) _ _ _ (grows_so P h x) (length h) f) [
    | inl old ↦ let lt : length h < length h = old.holds.within in absurd (omega arith)
    | inr w ↦ (w.1, (λ p. let s = so_last P h (some h p) p in w.2 s.0 s.1))
  ]),
  (λ w. IsFirst-new (length h) _ _ _ (grows_so P h x) (λ t s. w.1 (Lasts-all P h t lasts s)) w.0),
)
  where
    some : (h : List (Recorded A)) → P h → h ≡ [] → ⊥
    some h p e = lasts.none (subst P e p)
