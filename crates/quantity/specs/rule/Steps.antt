-- Reading step by step, where the first fault is the answer.
use Rattle.std.specs.Prelude.{Result, Ok, Err, Bool, ⊤, if◌then◌else◌, Option, Some, None}

infixl 10 ◌>>=◌
abbrev pub ◌>>=◌ : {A B E : Type 0} → Result A E → (A → Result B E) → Result B E
Ok x >>= f = f x
Err e >>= f = Err e

-- this fault where the test holds
abbrev pub refused_if : {E : Type 0} → Bool → E → Result ⊤ E
refused_if test fault = if test then Err fault else Ok tt

-- the value that is there, else this fault
abbrev pub some_or : {A E : Type 0} → E → Option A → Result A E
some_or fault None = Err fault
some_or fault (Some x) = Ok x
