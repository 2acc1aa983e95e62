-- How the pods that are present are found by their keys.
use Rattle.std.specs.Prelude.{◌≡◌, ℕ, List, length, slice_get, Option, Some, option_and_then, if◌then◌else◌, bytes_eq}
use Rattle.std.specs.Option.{option_flatten}
use Rattle.manifest.specs.declared.pod.PodSpec.{PodSpec}
use Rattle.lists.specs.rule.Names.{place_of}
use Rattle.roster.specs.rule.Roll.{present_keys, number_in}

-- the pod at the place of the key, if there is one
abbrev pub holder_of : List (List ℕ) → List (Option ℕ) → List ℕ → Option ℕ
holder_of keys holders key =
    option_flatten (option_and_then (λ place. slice_get holders place) (place_of keys key))

-- the pod of this key is this one, or none, and all other keys have the pods that they had
pub record HasHeld (keys : List (List ℕ)) (holders : List (Option ℕ)) (key : List ℕ) (pod : Option ℕ)
    (new_keys : List (List ℕ)) (new_holders : List (Option ℕ)) : Type 0 where
  pub as_many : length new_holders ≡ length new_keys
  pub held : (k : List ℕ) → holder_of new_keys new_holders k
      ≡ (if bytes_eq k key then pod else holder_of keys holders k)

-- no two of the keys are one
abbrev pub AreApart : List (Option (List ℕ)) → Type 0
AreApart keys = (n m : ℕ) (key : List ℕ) → slice_get keys n ≡ Some (Some key) → slice_get keys m ≡ Some (Some key)
    → n ≡ m

-- each pod that is present is found by its key
pub record IsKept (pods : List PodSpec) (departures : List (Option ℕ)) (keys : List (List ℕ))
    (holders : List (Option ℕ)) : Type 0 where
  pub gone_as_many : length departures ≡ length pods
  pub held_as_many : length holders ≡ length keys
  pub found : (key : List ℕ) → holder_of keys holders key ≡ number_in (present_keys pods departures) key
  pub apart : AreApart (present_keys pods departures)
