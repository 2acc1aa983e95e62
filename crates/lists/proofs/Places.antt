-- The words of an index set beside those of a list of names.
use Rattle.std.proofs.Common.{◌≡◌, ℕ, suc, ◌+◌, List, [], ◌∷◌, ◌++◌, length, map, Option, Some, None, String, Global}
use Rattle.std.proofs.Common.{string_bytes, bytes_eq, Bool, true, false, cond, ltb, ◌||◌, not, option_map, refl, ap}
use Rattle.std.proofs.Common.{◌∙◌, arith, inl, inr}
use Rattle.std.proofs.lemmas.Bool.{cases_lt, lt-ltb, le-ltb}
use Rattle.std.proofs.lemmas.List.{map_push}
use Rattle.std.specs.List.{position, position_or_len, list_any}
use Rattle.std.specs.Prelude.{string_eq}
use Rattle.indexmap.specs.IndexSet.{insert_key}
use Rattle.lists.specs.rule.Names.{place_of}

abbrev pub is_named : List ℕ → String Global → Bool
is_named name k = bytes_eq name (string_bytes k)

step : (b : Bool) (p n : ℕ) → cond (ltb (cond (not b) (1 + p) 0) (suc n)) (Some (cond (not b) (1 + p) 0)) None ≡ cond
    b (Some 0) (option_map (λ i. i + 1) (cond (ltb p n) (Some p) None))
step true p n = rw (lt-ltb 0 (suc n) (omega arith)) refl
step false p n =
    elim (cases_lt p n) [
      | inl lt ↦ rw (lt-ltb (1 + p) (suc n) (omega arith), lt-ltb p n lt) (ap Some (omega arith))
      | inr le ↦ rw (le-ltb (1 + p) (suc n) (omega arith), le-ltb p n le) refl
    ]

pub position-place : (name : List ℕ) (ks : List (String Global)) → position (is_named name) ks ≡ place_of
    (map string_bytes ks) name
position-place name [] = refl
position-place name (k ∷ ks) =
    step (is_named name k) (position_or_len (is_named name) ks) (length ks)
    ∙ ap (λ (o : Option ℕ). cond (is_named name k) (Some 0) (option_map (λ i. i + 1) o)) (position-place name ks)

nothing : (o : Option ℕ) → option_map (λ i. i + 1) o ≡ None → o ≡ None
nothing None e = refl
nothing (Some n) e = absurd cc

absent_at : (b : Bool) (o : Option ℕ) (rest : Bool) → cond b (Some 0) (option_map (λ i. i + 1) o) ≡ None
    → (o ≡ None → rest ≡ false) → (b || rest) ≡ false
absent_at true o rest e h = absurd cc
absent_at false o rest e h = h (nothing o e)

-- a name that has no place isn't there
pub absent : (name : List ℕ) (ks : List (String Global)) → place_of (map string_bytes ks) name ≡ None
    → list_any (is_named name) ks ≡ false
absent name [] e = refl
absent name (k ∷ ks) e = absent_at (is_named name k) (place_of (map string_bytes ks) name) _ e (absent name ks)

-- a name that isn't there goes last
pub pushed : (names : List (List ℕ)) (ks new : List (String Global)) (k : String Global) → map string_bytes ks ≡ names
    → place_of names (string_bytes k) ≡ None → new ≡ insert_key string_eq ks k
    → map string_bytes new ≡ names ++ string_bytes k ∷ []
pushed names ks new k is none e =
    let missing : list_any (is_named (string_bytes k)) ks ≡ false =
    absent (string_bytes k) ks (ap (λ ns. place_of ns (string_bytes k)) is ∙ none) in
    let last : new ≡ ks ++ k ∷ [] = e ∙ ap (λ (b : Bool). cond b ks (ks ++ k ∷ [])) missing in
    rw (last, map_push, is) refl
