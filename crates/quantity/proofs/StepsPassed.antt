-- What a chain of checks that ends well has passed.
use Rattle.std.proofs.Common.{◌≡◌, ◌≢◌, ◌<◌, ◌⊎◌, ⊎_elim, ℕ, suc, sym, inl, inr, Bool, true, false, refl, Ok, Err}
use Rattle.std.proofs.Common.{Some, None, Option, Result, List, [], ◌∷◌, length, arith}
use Rattle.std.specs.Prelude.{⊤, if◌then◌else◌, IfOk, OnErr, IfErr, slice_index, ◌==◌}
use Rattle.std.proofs.lemmas.Bool.Decides.{nat_tests}
use Rattle.quantity.specs.rule.Steps.{◌>>=◌, refused_if, some_or}
use Rattle.quantity.specs.declared.fault.QuantityFault.{QuantityFault}
use Rattle.quantity.specs.declared.fault.QuantityFault.TheVariants.{Empty, Negative}

pub passed : {A : Type 0} (test : Bool) (fault : QuantityFault) (f : ⊤ → Result A QuantityFault) (y : A)
    → (refused_if test fault >>= f) ≡ Ok y → (test ≡ false) × (f tt ≡ Ok y)
passed true fault f y h = absurd (cc)
passed false fault f y h = (refl, h)

pub had : {A B : Type 0} (o : Option A) (fault : QuantityFault) (f : A → Result B QuantityFault) (y : B)
    → (some_or fault o >>= f) ≡ Ok y → (x : A) × (o ≡ Some x) × (f x ≡ Ok y)
had None fault f y h = absurd (cc)
had (Some x) fault f y h = (x, refl, h)

pub had_ok : {A B : Type 0} (r : Result A QuantityFault) (f : A → Result B QuantityFault) (y : B) → (r >>= f) ≡ Ok y
    → (x : A) × (r ≡ Ok x) × (f x ≡ Ok y)
had_ok (Ok x) f y h = (x, refl, h)
had_ok (Err e) f y h = absurd (cc)

pub chosen : {A : Type 0} (test : Bool) (x y z : A) → (if test then x else y) ≡ z
    → ((test ≡ true) × (x ≡ z)) ⊎ ((test ≡ false) × (y ≡ z))
chosen true x y z h = inl (refl, h)
chosen false x y z h = inr (refl, h)

-- what is read by a definition that gives just the values of a relation
pub means_of : (P : ℕ → Type 0) (r given : Result ℕ QuantityFault) → r ≡ given → ((n : ℕ) → given ≡ Ok n → P n)
    → IfOk r P
means_of P (Ok n) given is sound = sound n (sym is)
means_of P (Err e) given is sound = tt

pub refused_of : (P : ℕ → Type 0) (r given : Result ℕ QuantityFault) → r ≡ given → ((n : ℕ) → P n → given ≡ Ok n)
    → OnErr r ((n : ℕ) → ¬ P n)
refused_of P (Ok n) given is complete = tt
refused_of P (Err e) given is complete = λ n h. let ok = complete n h in cc

-- the fault of a chain of checks is that of the first that fails
pub failed : {A : Type 0} (test : Bool) (fault : QuantityFault) (f : ⊤ → Result A QuantityFault) (e : QuantityFault)
    → (refused_if test fault >>= f) ≡ Err e → ((test ≡ true) × (e ≡ fault)) ⊎ ((test ≡ false) × (f tt ≡ Err e))
failed true fault f e h = inl (refl, cc)
failed false fault f e h = inr (refl, h)

pub lacked : {A B : Type 0} (o : Option A) (fault : QuantityFault) (f : A → B) (e : QuantityFault)
    → (some_or fault o >>= (λ x. Ok (f x))) ≡ Err e → (o ≡ None) × (e ≡ fault)
lacked None fault f e h = (refl, cc)
lacked (Some x) fault f e h = absurd (cc)

pub faults_of : (P : QuantityFault → Type 0) (r given : Result ℕ QuantityFault) → r ≡ given
    → ((e : QuantityFault) → given ≡ Err e → P e) → IfErr r P
faults_of P (Ok n) given is sound = tt
faults_of P (Err e) given is sound = sound e (sym is)

pub failed_at : {A B : Type 0} (r : Result A QuantityFault) (f : A → Result B QuantityFault) (e : QuantityFault)
    → (r >>= f) ≡ Err e → (r ≡ Err e) ⊎ ((x : A) × (r ≡ Ok x) × (f x ≡ Err e))
failed_at (Ok x) f e h = inr (x, refl, h)
failed_at (Err d) f e h = inl (cc)

-- the fault of a text that may be empty or negative, before what is read of it after its sign
pub unsigned_fault : {A : Type 0} (P : Type 0) (text : List ℕ) (fault : QuantityFault) (read : Result A QuantityFault)
    → (refused_if (length text == 0) Empty >>= λ some. refused_if (slice_index text 0 == 45) Negative >>= λ plus. read)
    ≡ Err fault → (read ≡ Err fault → P)
    → ((text ≡ []) × (fault ≡ Empty)) ⊎ (((rest : List ℕ) × (text ≡ 45 ∷ rest) × (fault ≡ Negative)) ⊎
    ((0 < length text) × (slice_index text 0 ≢ 45) × P))
unsigned_fault P [] fault read h later = inl (refl, cc)
unsigned_fault P (c ∷ rest) fault read h later =
    let some : 0 < length (c ∷ rest) = omega arith in
    let none : (suc (length rest) == 0) ≡ false = grind (arith, nat_tests) in
    ⊎_elim (λ (b : ((c == 45) ≡ true) × (fault ≡ Negative)).
    let t : (c == 45) ≡ true = b.0 in
    let same : c ≡ 45 = grind (arith, nat_tests) in
    inr (inl (rest, rw same refl, b.1)))
    (λ (b : ((c == 45) ≡ false) × (read ≡ Err fault)).
    let t : (c == 45) ≡ false = b.0 in
    let differs : c ≢ 45 = grind (arith, nat_tests) in
    inr (inr (some, differs, later b.1)))
    (failed (c == 45) _ _ fault (rw none at h))
