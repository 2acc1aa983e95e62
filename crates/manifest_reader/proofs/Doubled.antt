-- Names that come twice, item by item.
use Rattle.std.proofs.Common.{◌≡◌, ◌||◌, ℕ, Bool, List, [], ◌∷◌, ◌++◌, map, refl, ap}
use Rattle.std.specs.Prelude.{bytes_eq}
use Rattle.std.specs.List.{list_any}
use Rattle.std.proofs.lemmas.List.Folds.{list_any-append}
use Rattle.serde_json.specs.View.{view}
use Rattle.serde_json.specs.declared.value.Value.{Value}
use Rattle.manifest_reader.specs.state.Found.{name_in, has_double}
use Rattle.manifest_reader.specs.state.Checks.{is_name_twice, is_name_twice_before}

any_mapped : {V A : Type 0} (seen : V → A) (name : A → List ℕ) (n : List ℕ) (vs : List V)
    → list_any (λ (v : V). bytes_eq (name (seen v)) n) vs
    ≡ list_any (λ (other : List ℕ). bytes_eq other n) (map name (map seen vs))
any_mapped seen name n [] = refl
any_mapped seen name n (v ∷ vs) = ap (λ (b : Bool). bytes_eq (name (seen v)) n || b) (any_mapped seen name n vs)

twice_alone : {V A : Type 0} (seen : V → A) (name : A → List ℕ) (vs : List V)
    → is_name_twice (λ (v : V). name (seen v)) vs ≡ has_double (map name (map seen vs))
twice_alone seen name [] = refl
twice_alone seen name (v ∷ vs) = rw (any_mapped seen name (name (seen v)) vs, twice_alone seen name vs) refl

names_joined : {V A : Type 0} (seen : V → A) (name : A → List ℕ) (vs ws : List V)
    → map name (map seen vs ++ map seen ws) ≡ map name (map seen vs) ++ map name (map seen ws)
names_joined seen name [] ws = refl
names_joined seen name (v ∷ vs) ws = ap (λ (ns : List (List ℕ)). name (seen v) ∷ ns) (names_joined seen name vs ws)

twice_of : {V A : Type 0} (seen : V → A) (name : A → List ℕ) (vs ws : List V)
    → is_name_twice_before (λ (v : V). name (seen v)) vs ws ≡ has_double (map name (map seen vs ++ map seen ws))
twice_of seen name [] ws = twice_alone seen name ws
twice_of seen name (v ∷ vs) ws =
    rw (
      any_mapped seen name (name (seen v)) vs,
      any_mapped seen name (name (seen v)) ws,
      twice_of seen name vs ws,
      names_joined seen name vs ws,
      list_any-append (λ (other : List ℕ). bytes_eq other (name (seen v)))
          (map name (map seen vs)) (map name (map seen ws)),
    ) refl

-- two of all the items have one name
pub twice_in_all : (vs ws : List Value) → is_name_twice_before (λ (v : Value). name_in (view v)) vs ws
    ≡ has_double (map name_in (map view vs ++ map view ws))
twice_in_all vs ws = twice_of view name_in vs ws
