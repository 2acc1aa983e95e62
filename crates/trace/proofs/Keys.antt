-- Whether a pod that is present has a key.
use Rattle.std.proofs.Common.{◌≡◌, ◌∙◌, ℕ, zero, suc, true, false, List, [], ◌∷◌, Option, Some, None}
use Rattle.std.proofs.Common.{is_some, refl, ap, inl, inr}
use Rattle.std.specs.Prelude.{◌↔◌, slice_get}
use Rattle.std.proofs.lemmas.Bool.{cases_Bool}
use Rattle.manifest.specs.declared.pod.PodSpec.{PodSpec}
use Rattle.roster.specs.rule.Roll.{Roll, key_of_pod, present_keys, keys_of, number_of, is_present}
use Rattle.roster.proofs.Found.{number_there, number_given}
use Rattle.trace.specs.rule.Pod.{has_key}
use Rattle.trace.specs.state.Laws.{IsNamed, HasKey}

-- without departures nobody is present
none_at : (pods : List PodSpec) (n : ℕ) (key : List ℕ) → slice_get (present_keys pods []) n ≡ Some (Some key) → ⊥
none_at [] n key e = absurd (cc)
none_at (p ∷ ps) zero key e = absurd (cc)
none_at (p ∷ ps) (suc n) key e = none_at ps n key e

-- the key at a place is that of the pod there, which is present
named_at : (pods : List PodSpec) (departures : List (Option ℕ)) (n : ℕ) (key : List ℕ)
    → slice_get (present_keys pods departures) n ≡ Some (Some key)
    → (pod : PodSpec) × (slice_get pods n ≡ Some pod) × (is_present departures n ≡ true) × (key_of_pod pod ≡ key)
named_at [] ds n key e = absurd (cc)
named_at (p ∷ ps) [] zero key e = absurd (cc)
named_at (p ∷ ps) [] (suc n) key e = absurd (none_at ps n key e)
named_at (p ∷ ps) (None ∷ ds) zero key e = let is : key_of_pod p ≡ key = cc in (p, refl, refl, is)
named_at (p ∷ ps) (Some t ∷ ds) zero key e = absurd (cc)
named_at (p ∷ ps) (None ∷ ds) (suc n) key e = named_at ps ds n key e
named_at (p ∷ ps) (Some t ∷ ds) (suc n) key e = named_at ps ds n key e

-- and the key of a pod that is present stands at its place
at_name : (pods : List PodSpec) (departures : List (Option ℕ)) (n : ℕ) (pod : PodSpec) → slice_get pods n ≡ Some pod
    → is_present departures n ≡ true → slice_get (present_keys pods departures) n ≡ Some (Some (key_of_pod pod))
at_name [] ds n pod at present = absurd (cc)
at_name (p ∷ ps) [] zero pod at present = absurd (cc)
at_name (p ∷ ps) [] (suc n) pod at present = absurd (cc)
at_name (p ∷ ps) (None ∷ ds) zero pod at present =
    let same : p ≡ pod = cc in
    ap (λ (q : PodSpec). Some (Some (key_of_pod q))) same
at_name (p ∷ ps) (Some t ∷ ds) zero pod at present = absurd (cc)
at_name (p ∷ ps) (None ∷ ds) (suc n) pod at present = at_name ps ds n pod at present
at_name (p ∷ ps) (Some t ∷ ds) (suc n) pod at present = at_name ps ds n pod at present

pub named : (roll : Roll) (key : List ℕ) (n : ℕ) → number_of roll key ≡ Some n → IsNamed roll n key
named roll key n e =
    let w = named_at roll.pods roll.departures n key (number_there (keys_of roll) key n e) in
    record { pod = w.0; at = w.1; present = w.2; key_is = w.3 }

pub there_key : (roll : Roll) (key : List ℕ) → HasKey roll key → has_key roll key ≡ true
there_key roll key (n, is) =
    let here = at_name roll.pods roll.departures n is.pod is.at is.present
    ∙ ap (λ (k : List ℕ). Some (Some k)) is.key_is in
    let w = number_given (keys_of roll) key n here in
    ap (λ (o : Option ℕ). is_some o) w.1

by_number : (roll : Roll) (key : List ℕ) (found : Option ℕ) → number_of roll key ≡ found → is_some found ≡ true
    → HasKey roll key
by_number roll key None is some = absurd (cc)
by_number roll key (Some n) is some = (n, named roll key n is)

pub key_there : (roll : Roll) (key : List ℕ) → has_key roll key ≡ true → HasKey roll key
key_there roll key e = by_number roll key (number_of roll key) refl e

pub key_nowhere : (roll : Roll) (key : List ℕ) → has_key roll key ≡ false → HasKey roll key → ⊥
key_nowhere roll key none known = let some = there_key roll key known in absurd (cc)

pub nowhere_key : (roll : Roll) (key : List ℕ) → (HasKey roll key → ⊥) → has_key roll key ≡ false
nowhere_key roll key never = elim (cases_Bool (has_key roll key)) [
  | inl known ↦ absurd (never (key_there roll key known))
  | inr none ↦ none
]

no_number : (found : Option ℕ) → is_some found ≡ false → found ≡ None
no_number None e = refl
no_number (Some n) e = absurd (cc)

pub unnamed : (roll : Roll) (key : List ℕ) → (number_of roll key ≡ None ↔ (HasKey roll key → ⊥))
unnamed roll key = (
  λ none. key_nowhere roll key (ap (λ (o : Option ℕ). is_some o) none),
  λ never. no_number (number_of roll key) (nowhere_key roll key never),
)
