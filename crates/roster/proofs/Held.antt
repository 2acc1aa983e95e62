-- The pod of each key, once one key has another pod.
use Rattle.std.proofs.Common.{◌≡◌, ◌≢◌, ◌∙◌, ℕ, ◌<◌, Bool, true, false, List, [], ◌∷◌, ◌++◌, length, Option, Some}
use Rattle.std.proofs.Common.{None, refl, ap, sym, arith}
use Rattle.std.specs.Prelude.{bytes_eq, slice_get, slice_set, option_and_then, if◌then◌else◌}
use Rattle.std.specs.Option.{option_flatten}
use Rattle.std.proofs.lemmas.List.{length-append}
use Rattle.std.proofs.lemmas.Option.{slice_get_within}
use Rattle.histories.proofs.Lists.{given_at, set_length, set_here, set_others, slice_get-old, slice_get-new}
use Rattle.lists.specs.rule.Names.{place_of}
use Rattle.roster.specs.state.Holders.{holder_of, HasHeld}
use Rattle.roster.proofs.Found.{same_key, is_itself, place_there, place_old, place_last}

-- what stands at a place
abbrev at_place : List (Option ℕ) → Option ℕ → Option ℕ
at_place holders place = option_flatten (option_and_then (λ p. slice_get holders p) place)

-- a key that was mentioned has its place
pub held_within : (keys : List (List ℕ)) (holders : List (Option ℕ)) (key : List ℕ) (place : ℕ)
    → length holders ≡ length keys → place_of keys key ≡ Some place → place < length holders
held_within keys holders key place many there =
    let lt = slice_get_within keys place key (place_there keys key place there) in
    omega (arith, lt, many)

-- a key that was not mentioned before
pub held_new : (keys : List (List ℕ)) (holders : List (Option ℕ)) (key : List ℕ) (pod : Option ℕ)
    → length holders ≡ length keys → place_of keys key ≡ None
    → HasHeld keys holders key pod (keys ++ key ∷ []) (holders ++ pod ∷ [])
held_new keys holders key pod many new = record {
  as_many = omega (arith, many, length-append keys (key ∷ []), length-append holders (pod ∷ []));
  held = λ k. by k (bytes_eq k key) refl (place_of keys k) refl;
}
  where
    by : (k : List ℕ) (b : Bool) → bytes_eq k key ≡ b → (o : Option ℕ) → place_of keys k ≡ o
        → holder_of (keys ++ key ∷ []) (holders ++ pod ∷ []) k ≡ (if b then pod else holder_of keys holders k)
    by k true is o found =
        let none : place_of keys k ≡ None = ap (place_of keys) (same_key k key is) ∙ new in
        let last : place_of (keys ++ key ∷ []) k ≡ Some (length keys) =
        place_last keys key k none ∙ ap (λ (t : Bool). if t then Some (length keys) else None) is in
        ap (at_place (holders ++ pod ∷ [])) last
        ∙ ap (λ (n : ℕ). at_place (holders ++ pod ∷ []) (Some n)) (sym many)
        ∙ ap option_flatten (slice_get-new holders pod)
    by k false is None found =
        let none : place_of (keys ++ key ∷ []) k ≡ None =
        place_last keys key k found ∙ ap (λ (t : Bool). if t then Some (length keys) else None) is in
        ap (at_place (holders ++ pod ∷ [])) none ∙ sym (ap (at_place holders) found)
    by k false is (Some n) found =
        let lt = slice_get_within keys n k (place_there keys k n found) in
        ap (at_place (holders ++ pod ∷ [])) (place_old keys (key ∷ []) k n found)
        ∙ ap option_flatten (slice_get-old holders (pod ∷ []) n (omega (arith, lt, many)))
        ∙ sym (ap (at_place holders) found)

-- one that was
pub held_set : (keys : List (List ℕ)) (holders : List (Option ℕ)) (key : List ℕ) (place : ℕ) (pod : Option ℕ)
    → length holders ≡ length keys → place_of keys key ≡ Some place
    → HasHeld keys holders key pod keys (slice_set holders place pod)
held_set keys holders key place pod many there = record {
  as_many = set_length holders place pod ∙ many;
  held = λ k. by k (bytes_eq k key) refl (place_of keys k) refl;
}
  where
    by : (k : List ℕ) (b : Bool) → bytes_eq k key ≡ b → (o : Option ℕ) → place_of keys k ≡ o
        → holder_of keys (slice_set holders place pod) k ≡ (if b then pod else holder_of keys holders k)
    by k true is o found =
        let here : place_of keys k ≡ Some place = ap (place_of keys) (same_key k key is) ∙ there in
        let lt = slice_get_within keys place key (place_there keys key place there) in
        let was = given_at holders place (omega (arith, lt, many)) in
        ap (at_place (slice_set holders place pod)) here
        ∙ ap option_flatten (set_here holders place pod was.0 was.1)
    by k false is None found =
        ap (at_place (slice_set holders place pod)) found ∙ sym (ap (at_place holders) found)
    by k false is (Some n) found =
        let apart : n ≢ place = λ same.
        let both : Some k ≡ Some key =
        sym (place_there keys k n found) ∙ ap (slice_get keys) same ∙ place_there keys key place there in
        let one : k ≡ key = cc in
        let yes : bytes_eq k key ≡ true = ap (λ (x : List ℕ). bytes_eq x key) one ∙ is_itself key in
        let never : false ≡ true = sym is ∙ yes in cc in
        ap (at_place (slice_set holders place pod)) found
        ∙ ap option_flatten (set_others holders place n pod apart)
        ∙ sym (ap (at_place holders) found)

-- a key that was never mentioned is of no pod
pub held_never : (keys : List (List ℕ)) (holders : List (Option ℕ)) (key : List ℕ)
    → length holders ≡ length keys → place_of keys key ≡ None → HasHeld keys holders key None keys holders
held_never keys holders key many never = record {
  as_many = many;
  held = λ k. by k (bytes_eq k key) refl;
}
  where
    by : (k : List ℕ) (b : Bool) → bytes_eq k key ≡ b
        → holder_of keys holders k ≡ (if b then None else holder_of keys holders k)
    by k true is = ap (at_place holders) (ap (place_of keys) (same_key k key is) ∙ never)
    by k false is = refl
