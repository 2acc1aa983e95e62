-- A text that has grown.
use Rattle.std.specs.Prelude.{◌≡◌, ℕ, List, ◌++◌}

-- lines of this kind are added to the old text
pub record AreAdded (AreThese : List ℕ → Type 0) (old new : List ℕ) : Type 0 where
  pub lines : List ℕ
  pub are : AreThese lines
  pub added : new ≡ old ++ lines
