-- Statuses of conditions of which none is said.
use Rattle.std.proofs.Common.{◌≡◌, ◌∙◌, ℕ, zero, suc, Bool, true, false, List, [], ◌∷◌, length, Option, Some, None}
use Rattle.std.proofs.Common.{refl}
use Rattle.std.proofs.Common.{ap, arith}
use Rattle.std.specs.Prelude.{is_none, replicate}
use Rattle.std.specs.List.{list_all}

all_none : (gates : List (Option Bool)) (n : ℕ) → length gates ≡ n → list_all is_none gates ≡ true
    → gates ≡ replicate n None
all_none [] zero e all = refl
all_none [] (suc n) e all = absurd (omega (arith, e))
all_none (gate ∷ gates) zero e all = absurd (omega (arith, e))
all_none (None ∷ gates) (suc n) e all = ap (λ gs. None ∷ gs) (all_none gates n (omega (arith, e)) all)
all_none (Some b ∷ gates) (suc n) e all = absurd (let all : false ≡ true = all in cc)

pub none_said : (gates : List (Option Bool)) → length gates ≡ 16 → list_all is_none gates ≡ true
    → gates ≡ replicate 16 None
none_said gates e all = all_none gates 16 e all
