-- How the file of a path was seen.
use Rattle.std.specs.Prelude.{ℕ, List, Option}
use Rattle.std.specs.declared.io.ErrorKind.{ErrorKind}

-- bytes, where they are known
abbrev pub Bytes : Type 0
Bytes = Option (List ℕ)

-- not opened, for an error of this kind; opened, with these bytes; or closed, with these bytes left, after so many
-- reads that failed
pub data FileState : Type 0 where
  not_opened : ErrorKind → FileState
  was_opened : Bytes → FileState
  was_closed : Bytes → ℕ → FileState
