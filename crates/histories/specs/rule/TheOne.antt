-- The one value of which something holds.
use Rattle.std.specs.Prelude.{◌≡◌, ◌↔◌, Option, Some}

-- of all values, P holds of the one that was found, and of none where none was found
abbrev pub IsTheOne : {A : Type 0} → (A → Type 0) → Option A → Type 0
IsTheOne {A} P found = (x : A) → ((found ≡ Some x) ↔ P x)
