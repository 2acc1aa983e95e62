-- What holds at each place of a list, after one change.
use Rattle.std.proofs.Common.{◌≡◌, ℕ, zero, suc, ◌+◌, ◌<◌, ◌≤◌, List, [], ◌∷◌, ◌++◌, length, get_or, inl, inr, sym}
use Rattle.std.proofs.Common.{subst, refl, arith}
use Rattle.std.proofs.Math.ListN.{set}
use Rattle.std.proofs.Math.Seq.{get_or-append_seam}
use Rattle.std.proofs.lemmas.Bool.{cases_lt}
use Rattle.std.proofs.lemmas.List.{get_or-set_same, get_or-set_other, get_or_append_left}

-- an item more at the end
pub pushed_each : {A : Type 0} (P : ℕ → A → Type 0) (xs : List A) (x : A) (n : ℕ) → length xs ≡ n
    → ((c : ℕ) (d : A) → c < n → P c (get_or xs c d)) → P n x
    → (c : ℕ) (d : A) → c < n + 1 → P c (get_or (xs ++ x ∷ []) c d)
pushed_each P xs x n len before last c d lt =
    elim (cases_lt c n) [
      | inl below ↦ subst (P c) (sym (get_or_append_left xs (x ∷ []) d c (omega arith))) (before c d below)
      | inr above ↦
          let here : n ≡ c = omega arith in
          let place : length xs ≡ c = omega arith in
          let at : get_or (xs ++ x ∷ []) c d ≡ x = subst (λ (k : ℕ). get_or (xs ++ x ∷ []) k d ≡ x) place
          (get_or-append_seam xs x [] d) in
          subst (P c) (sym at) (subst (λ (k : ℕ). P k x) here last)
    ]

-- a place within the list needs no default
pub any_default : {A : Type 0} (xs : List A) (i : ℕ) (d e : A) → i < length xs → get_or xs i d ≡ get_or xs i e
any_default [] i d e lt = absurd (omega arith)
any_default (x ∷ xs) zero d e lt = refl
any_default (x ∷ xs) (suc i) d e lt = any_default xs i d e (omega arith)

-- an item set
pub set_each : {A : Type 0} (P : ℕ → A → Type 0) (xs : List A) (x : A) (n : ℕ) → n < length xs
    → ((c : ℕ) (d : A) → c < n → P c (get_or xs c d)) → P n x
    → (c : ℕ) (d : A) → c < n + 1 → P c (get_or (set xs n x) c d)
set_each P xs x n within before last c d lt =
    elim (cases_lt c n) [
      | inl below ↦ subst (P c)
          (sym (get_or-set_other xs n c x d (λ e. let here : c ≡ n = e in absurd (omega arith)))) (before c d below)
      | inr above ↦
          let here : n ≡ c = omega arith in
          let at : get_or (set xs n x) c d ≡ x = subst (λ (k : ℕ). get_or (set xs n x) k d ≡ x) here
          (get_or-set_same xs n x d within) in
          subst (P c) (sym at) (subst (λ (k : ℕ). P k x) here last)
    ]

-- the items behind it are the same
pub set_rest : {A : Type 0} (xs : List A) (x : A) (n c : ℕ) (d : A) → n + 1 ≤ c → get_or (set xs n x) c d ≡ get_or xs
    c d
set_rest xs x n c d le = get_or-set_other xs n c x d (λ e. let here : c ≡ n = e in absurd (omega arith))
