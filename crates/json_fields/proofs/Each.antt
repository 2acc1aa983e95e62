-- A loop over a list beside a recursion on it.
use Rattle.std.proofs.Common.{List, ◌++◌, Result, Ok}
use Rattle.json_fields.specs.rule.Reading.{◌>>=◌}

-- what was read before, and what is still read
abbrev pub with_front : {A E : Type 0} → List A → Result (List A) E → Result (List A) E
with_front front read = read >>= λ xs. Ok (front ++ xs)
