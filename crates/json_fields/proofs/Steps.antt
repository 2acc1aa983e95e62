-- What is known once steps of reading have all gone well.
use Rattle.std.proofs.Common.{◌≡◌, ◌⊎◌, inl, inr, Bool, true, false, Option, Some, None, Result, Ok, Err, refl, ap}
use Rattle.std.specs.Prelude.{⊤}
use Rattle.json_fields.specs.rule.Reading.{◌>>=◌, refused_if, some_or}

-- the first step has gone well, and the rest after it
pub bind_ok : {A B E : Type 0} (r : Result A E) (f : A → Result B E) (y : B) → (r >>= f) ≡ Ok y → (x : A) × (r ≡ Ok x)
    × (f x ≡ Ok y)
bind_ok (Ok x) f y e = (x, refl, e)
bind_ok (Err fault) f y e = absurd (cc)

-- the fault is that of the first step, or of the rest after it
pub bind_err : {A B E : Type 0} (r : Result A E) (f : A → Result B E) (fault : E) → (r >>= f) ≡ Err fault
    → (r ≡ Err fault) ⊎ ((x : A) × (r ≡ Ok x) × (f x ≡ Err fault))
bind_err (Ok x) f fault e = inr (x, refl, e)
bind_err {A = A} {E = E} (Err other) f fault e =
    let same : other ≡ fault = cc in
    let refused : E → Result A E = λ x. Err x in
    inl (ap refused same)

-- after a step that has gone well comes the rest
pub then_ok : {A B E : Type 0} (r : Result A E) (f : A → Result B E) (x : A) → r ≡ Ok x → (r >>= f) ≡ f x
then_ok r f x e = rw e refl

-- the value that is there is the one that was found
pub there_is : {A E : Type 0} (fault : E) (found : Option A) (x : A) → some_or fault found ≡ Ok x → found ≡ Some x
there_is fault None x e = absurd (cc)
there_is fault (Some y) x e = let is : y ≡ x = cc in ap Some is

-- what isn't refused has not the fault
pub refused_ok : {E : Type 0} (b : Bool) (fault : E) (u : ⊤) → refused_if b fault ≡ Ok u → b ≡ false
refused_ok true fault u e = absurd (cc)
refused_ok false fault u e = refl
