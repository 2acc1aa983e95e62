-- The count after one more exit.
use Rattle.std.proofs.Common.{◌≡◌, ℕ, ◌+◌, ◌<◌, ◌≤◌, List, [], ◌∷◌, ◌++◌, min, refl, arith, inl, inr}
use Rattle.std.proofs.lemmas.Bool.{cases_lt}
use Rattle.restarts.specs.rule.Exits.{Exit}
use Rattle.restarts.specs.state.Counts.{IsCountOf}
use Rattle.restarts.proofs.Numbers.{number_short, number_long}

below : {n : ℕ} → (600 ≤ n → ⊥) → n < 600
below {n} not = elim (cases_lt n 600) [ inl lt ↦ lt | inr ge ↦ absurd (not ge) ]

pub count_long : (exits : List Exit) (next : Exit) (count : ℕ) → 600 ≤ next.entry → IsCountOf (exits ++ next ∷ []) 1
count_long exits next count long = (1, number_long exits next long, refl)

pub count_short : (exits : List Exit) (next : Exit) (count : ℕ) → (600 ≤ next.entry → ⊥) → count < 7
    → IsCountOf exits count → IsCountOf (exits ++ next ∷ []) (count + 1)
count_short exits next count short few of =
    let is : count ≡ min of.0 7 = of.2 in (of.0 + 1, number_short exits next of.0 (below short) of.1, omega arith)

pub count_full : (exits : List Exit) (next : Exit) (count : ℕ) → (600 ≤ next.entry → ⊥) → 7 ≤ count
    → IsCountOf exits count → IsCountOf (exits ++ next ∷ []) count
count_full exits next count short full of =
    let is : count ≡ min of.0 7 = of.2 in (of.0 + 1, number_short exits next of.0 (below short) of.1, omega arith)
