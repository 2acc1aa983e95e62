-- What parts of a text's lines gave, one after the other.
use Rattle.std.specs.Prelude.{List, [], Result, Ok, Err}

-- what a part has read; nothing if an allocation failed
abbrev pub read_in : {A B E : Type 0} → (A → List B) → Result A E → List B
read_in view (Ok x) = view x
read_in view (Err e) = []
