-- Lines that several threads share, each beside what was read of it.
use Rattle.std.proofs.Common.{◌≡◌, ℕ, suc, ◌+◌, ◌*◌, ◌<◌, ◌≤◌, List, [], ◌∷◌, ◌++◌, length, take, drop}
use Rattle.std.proofs.Common.{get_or, All, IsOk, IfOk, OnOk, Result, Ok, Err, sym, subst, arith}
use Rattle.std.specs.List.{AllZip, flat_map}
use Rattle.std.proofs.lemmas.List.{drop_all}
use Rattle.std.proofs.lemmas.Simd.{chunk-drop}
use Rattle.json_lines.specs.state.Parts.{read_in}

pub zip_append : {A B : Type 0} (R : A → B → Type 0) (xs ys : List A) (us vs : List B) → AllZip R xs us → AllZip R ys vs
    → AllZip R (xs ++ ys) (us ++ vs)
zip_append R [] ys [] vs first rest = rest
zip_append R [] ys (u ∷ us) vs first rest = absurd first
zip_append R (x ∷ xs) ys [] vs first rest = absurd first
zip_append R (x ∷ xs) ys (u ∷ us) vs first rest = (first.0, zip_append R xs ys us vs first.1 rest)

-- the parts are what was read of chunks of this size, from a place on
abbrev pub AreZipped : {A B X E : Type 0} → (X → B → Type 0) → (A → List B) → ℕ → List X → ℕ → List (Result A E)
    → Type 0
AreZipped {A} {B} {X} {E} R view size xs at parts = (n : ℕ) (d : Result A E) → n < length parts
    → IfOk (get_or parts n d) (λ a. AllZip R (take size (drop (at + n * size) xs)) (view a))

pub parts_zipped : {A B X E : Type 0} (R : X → B → Type 0) (view : A → List B) (size : ℕ) (xs : List X) (at : ℕ)
    (parts : List (Result A E)) → AreZipped R view size xs at parts → All IsOk parts
    → length xs ≤ at + length parts * size → AllZip R (drop at xs) (flat_map (read_in view) parts)
parts_zipped R view size xs at [] zipped every enough =
    let over : drop at xs ≡ [] = drop_all at xs (omega (enough, arith)) in
    rw over tt
parts_zipped R view size xs at (Err e ∷ parts) zipped every enough =
    let bad = every 0 (Err e) (omega arith) in absurd (cc)
parts_zipped R view size xs at (Ok a ∷ parts) zipped every enough =
    let here : at + 0 * size ≡ at = omega arith in
    let first : AllZip R (take size (drop at xs)) (view a) = rw here at (zipped 0 (Ok a) (omega arith)) in
    let later = parts_zipped R view size xs (at + size) parts (λ n d lt.
    let moved : at + suc n * size ≡ at + size + n * size = grind arith in
    rw moved at (zipped (suc n) d (omega arith))
    ) (λ n d lt. every (suc n) d (omega arith)) (
    let moved : at + suc (length parts) * size ≡ at + size + length parts * size = grind arith in
    rw moved at enough
    ) in
    subst (λ (ys : List _). AllZip R ys (view a ++ flat_map (read_in view) parts)) (sym (chunk-drop at size xs))
    (zip_append R (take size (drop at xs)) (drop (at + size) xs) (view a) (flat_map (read_in view) parts) first later)

pub shared_zipped : {A B C X E F : Type 0} (R : X → B → Type 0) (view : A → List B) (joined : C → List B) (size : ℕ)
    (xs : List X) (parts : List (Result A E)) (result : Result C F)
    → IfOk result (λ all. joined all ≡ flat_map (read_in view) parts) → OnOk result (All IsOk parts)
    → AreZipped R view size xs 0 parts → length xs ≤ length parts * size
    → IfOk result (λ all. AllZip R xs (joined all))
shared_zipped R view joined size xs parts (Ok all) reads every zipped enough =
    let all : length parts * size ≡ 0 + length parts * size = omega arith in
    rw reads (parts_zipped R view size xs 0 parts zipped every (subst (λ (n : ℕ). length xs ≤ n) all enough))
shared_zipped R view joined size xs parts (Err e) reads every zipped enough = tt
