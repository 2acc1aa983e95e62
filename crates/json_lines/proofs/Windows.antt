-- A window and the text after it.
use Rattle.std.proofs.Common.{◌≡◌, List, [], ◌∷◌, ◌++◌, map, refl, ap}
use Rattle.std.proofs.lemmas.List.{map-append}

map_through : {A B C : Type 0} (f : B → C) (g : A → B) (xs : List A) → map f (map g xs) ≡ map (λ x. f (g x)) xs
map_through f g [] = refl
map_through f g (x ∷ xs) = ap (λ ys. f (g x) ∷ ys) (map_through f g xs)

-- what is said of all lines: what was read of the first, before what is said of the others
pub window_read : {A B C : Type 0} (f : B → C) (g : A → B) (found : List A) (lines rest : List B) (reads : List C)
    → lines ≡ map g found ++ rest → reads ≡ map (λ x. f (g x)) found → map f lines ≡ reads ++ map f rest
window_read f g found lines rest reads cut read =
    rw (cut, read, map-append f (map g found) rest, map_through f g found) refl
