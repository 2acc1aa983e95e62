-- The entries of a tick line by the numbers of their pods.
use Rattle.std.specs.Prelude.{◌≡◌, ℕ, ◌+◌, ◌==◌, ◌<◌, List, [], ◌∷◌, length, Option, Some, None, option_map}
use Rattle.std.specs.Prelude.{if◌then◌else◌, slice_index_or}
use Rattle.trace.specs.declared.placing.PlacedEntry.{PlacedEntry}

-- the place of the first entry of the pod with the number
abbrev pub first_entry : List PlacedEntry → ℕ → Option ℕ
first_entry [] n = None
first_entry (e ∷ es) n = if e.pod == n then Some 0 else option_map (λ k. k + 1) (first_entry es n)

-- for each of this many pods the place of its first entry
pub record AreFirst (entries : List PlacedEntry) (pods : ℕ) (places : List (Option ℕ)) : Type 0 where
  pub count : length places ≡ pods
  pub first : (n : ℕ) → n < pods → slice_index_or places n None ≡ first_entry entries n
