-- Reading step by step, where the first fault is the answer.
use Rattle.std.specs.Prelude.{List, [], ◌∷◌, Result, Ok, Err}
pub use Rattle.quantity.specs.rule.Steps.{◌>>=◌, refused_if, some_or}

-- what was read, else this fault
abbrev pub else_fault : {A F E : Type 0} → E → Result A F → Result A E
else_fault fault (Ok x) = Ok x
else_fault fault (Err other) = Err fault

-- what f reads of each item in order, or the first fault
abbrev pub each : {A B E : Type 0} → (A → Result B E) → List A → Result (List B) E
each f [] = Ok []
each f (x ∷ xs) = f x >>= λ y. each f xs >>= λ ys. Ok (y ∷ ys)
