-- A text that grows.
use Rattle.std.specs.Prelude.{◌≡◌, ℕ, List, length, take}

-- the new text begins with the old one
abbrev pub Extends : List ℕ → List ℕ → Type 0
Extends old new = take (length old) new ≡ old
