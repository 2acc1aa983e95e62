-- What records ahead of a history change: each place is later by their number.
use Rattle.std.proofs.Common.{◌≡◌, ℕ, zero, suc, ◌+◌, List, [], ◌∷◌, ◌++◌, length, Option, refl, sym, ap, subst, arith}
use Rattle.std.specs.Prelude.{◌↔◌, IsSomeAnd}
use Rattle.histories.specs.rule.Histories.{Recorded, entry_at, moment_at}

pub entry_at-ahead : {A : Type 0} (earlier h : List (Recorded A)) (t u : ℕ) → u ≡ length earlier + t
    → entry_at (earlier ++ h) u ≡ entry_at h t
entry_at-ahead [] h t u is = let e : u ≡ t = omega arith in ap (entry_at h) e
entry_at-ahead (x ∷ earlier) h t zero is = absurd (omega arith)
entry_at-ahead (x ∷ earlier) h t (suc u) is = entry_at-ahead earlier h t u (omega arith)

pub moment_at-ahead : {A : Type 0} (earlier h : List (Recorded A)) (t u : ℕ) → u ≡ length earlier + t
    → moment_at (earlier ++ h) u ≡ moment_at h t
moment_at-ahead [] h t u is = let e : u ≡ t = omega arith in ap (moment_at h) e
moment_at-ahead (x ∷ earlier) h t zero is = absurd (omega arith)
moment_at-ahead (x ∷ earlier) h t (suc u) is = moment_at-ahead earlier h t u (omega arith)

-- what is recorded at a place is so with others ahead, as many places later as those are
pub ahead : {A : Type 0} (Q : A → Type 0) (earlier h : List (Recorded A)) (t : ℕ)
    → (IsSomeAnd (entry_at h t) Q ↔ IsSomeAnd (entry_at (earlier ++ h) (length earlier + t)) Q)
ahead {A = A} Q earlier h t =
    let P : Option A → Type 0 = λ o. IsSomeAnd o Q in
    let e : entry_at (earlier ++ h) (length earlier + t) ≡ entry_at h t =
    entry_at-ahead earlier h t (length earlier + t) refl in
    ((λ q. subst P (sym e) q), (λ q. subst P e q))
