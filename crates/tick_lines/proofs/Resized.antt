-- The resizes that are read before others.
use Rattle.std.proofs.Common.{◌≡◌, ◌∙◌, List, [], ◌∷◌, ◌++◌, Option, Some, None, Result, Ok, Err, refl, ap, append-nil}
use Rattle.std.proofs.Common.{append_assoc}
use Rattle.std.specs.List.{cons_option}
use Rattle.json_fields.specs.rule.Reading.{◌>>=◌}
use Rattle.json_fields.proofs.Each.{with_front}

-- one more at the end of those that were read, where others are still to be read
pub added : {A E : Type 0} (all : List A) (more : Option A) (rest : Result (List A) E)
    → with_front (all ++ cons_option more []) rest ≡ with_front all (rest >>= λ xs. Ok (cons_option more xs))
added all more (Err fault) = refl
added all None (Ok xs) = ap (λ ys. Ok (ys ++ xs)) (append-nil all)
added all (Some x) (Ok xs) = ap Ok (append_assoc all (x ∷ []) xs)
