-- The answers of a call that reads, compared with the definition of what it reads.
use Rattle.std.specs.Prelude.{◌≡◌, ⊤, Bool, false, MatchBool, Result, Ok, Err}

-- What a call answered, seen by view, is what the definition gives; a fault because memory ran out
-- aside, which no definition gives.
abbrev pub GivesUnless : {X Y E : Type 0} → (E → Bool) → (X → Y) → Result X E → Result Y E → Type 0
GivesUnless is_memory view (Ok x) given = given ≡ Ok (view x)
GivesUnless is_memory view (Err e) given = MatchBool (is_memory e) (Unit {0}) (given ≡ Err e)

-- of a call that doesn't allocate
abbrev pub GivesExactly : {X Y E : Type 0} → (X → Y) → Result X E → Result Y E → Type 0
GivesExactly view result given = GivesUnless (λ fault. false) view result given

-- whether something is given, or the fault that is there in its place
abbrev pub checked : {A E : Type 0} → Result A E → Result ⊤ E
checked (Ok x) = Ok tt
checked (Err fault) = Err fault
