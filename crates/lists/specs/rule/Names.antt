-- The places of names in a list.
use Rattle.std.specs.Prelude.{ℕ, ◌+◌, List, [], ◌∷◌, Option, Some, None, option_map, if◌then◌else◌, bytes_eq}

-- the place of the first of the names that equals this one
abbrev pub place_of : List (List ℕ) → List ℕ → Option ℕ
place_of [] name = None
place_of (n ∷ ns) name = if bytes_eq name n then Some 0 else option_map (λ i. i + 1) (place_of ns name)
