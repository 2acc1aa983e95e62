-- Lines that several threads share, as what was read of them.
use Rattle.std.proofs.Common.{◌≡◌, ◌+◌, ◌/◌, ◌%◌, ◌<◌, ℕ, List, [], ◌∷◌, length, map, min, All}
use Rattle.std.proofs.Common.{IsOk, IfOk, OnOk, Result, Ok, Err, refl, ap₂}
use Rattle.std.specs.List.{AllZip, flat_map}
use Rattle.std.proofs.lemmas.Grind.{div_ceil_times}
use Rattle.json_lines.specs.state.Parts.{read_in}
use Rattle.json_lines.proofs.ZippedParts.{AreZipped, shared_zipped}

-- what several threads have read, where the parts are as many as chunks of this size
pub shared_chunks : {A B C X E F : Type 0} (R : X → B → Type 0) (view : A → List B) (joined : C → List B) (size : ℕ)
    (xs : List X) (parts : List (Result A E)) (result : Result C F)
    → IfOk result (λ all. joined all ≡ flat_map (read_in view) parts) → OnOk result (All IsOk parts)
    → AreZipped R view size xs 0 parts → 0 < size → length parts ≡ length xs / size + min 1 (length xs % size)
    → IfOk result (λ all. AllZip R xs (joined all))
shared_chunks R view joined size xs parts result reads every zipped some count =
    shared_zipped R view joined size xs parts result reads every zipped
    (rw count (div_ceil_times (length xs) size some).0)

-- ---- each beside what it is mapped to

zip_of_map : {A B C : Type 0} (f : A → C) (g : B → C) (xs : List A) (ys : List B) → map g ys ≡ map f xs
    → AllZip (λ x y. g y ≡ f x) xs ys
zip_of_map f g [] [] e = tt
zip_of_map f g [] (y ∷ ys) e = absurd (cc)
zip_of_map f g (x ∷ xs) [] e = absurd (cc)
zip_of_map f g (x ∷ xs) (y ∷ ys) e =
    let first : g y ≡ f x = cc in
    let rest : map g ys ≡ map f xs = cc in
    (first, zip_of_map f g xs ys rest)

map_of_zip : {A B C : Type 0} (f : A → C) (g : B → C) (xs : List A) (ys : List B) → AllZip (λ x y. g y ≡ f x) xs ys
    → map g ys ≡ map f xs
map_of_zip f g [] [] zipped = refl
map_of_zip f g [] (y ∷ ys) zipped = absurd zipped
map_of_zip f g (x ∷ xs) [] zipped = absurd zipped
map_of_zip {C = C} f g (x ∷ xs) (y ∷ ys) zipped =
    ap₂ (λ (c : C) (cs : List C). c ∷ cs) zipped.0 (map_of_zip f g xs ys zipped.1)

pub zip_of_mapped : {A B C X E : Type 0} (f : A → C) (g : B → C) (xs : List A) (view : X → List B) (r : Result X E)
    → IfOk r (λ all. map g (view all) ≡ map f xs) → IfOk r (λ all. AllZip (λ x y. g y ≡ f x) xs (view all))
zip_of_mapped f g xs view (Ok all) e = zip_of_map f g xs (view all) e
zip_of_mapped f g xs view (Err e) none = tt

pub map_of_zipped : {A B C X E : Type 0} (f : A → C) (g : B → C) (xs : List A) (view : X → List B) (r : Result X E)
    → IfOk r (λ all. AllZip (λ x y. g y ≡ f x) xs (view all)) → IfOk r (λ all. map g (view all) ≡ map f xs)
map_of_zipped f g xs view (Ok all) zipped = map_of_zip f g xs (view all) zipped
map_of_zipped f g xs view (Err e) none = tt
