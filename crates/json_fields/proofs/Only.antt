-- A property of the fault that a step of reading answers, if it answers one.
use Rattle.std.proofs.Common.{◌≡◌, Bool, true, false, List, [], ◌∷◌, Option, Some, None, Result, Ok, Err, refl, subst}
use Rattle.std.specs.Prelude.{if◌then◌else◌}
use Rattle.json_fields.specs.rule.Reading.{◌>>=◌, refused_if, some_or, each}

pub no_fault : {A E : Type 0} (x : A) (fault : E) → ◌≡◌ {A = Result A E} (Ok x) (Err fault) → ⊥
no_fault x fault e = absurd (cc)

pub same_fault : {A E : Type 0} (a b : E) → ◌≡◌ {A = Result A E} (Err a) (Err b) → a ≡ b
same_fault a b e = cc

pub same_value : {A E : Type 0} (a b : A) → ◌≡◌ {A = Result A E} (Ok a) (Ok b) → a ≡ b
same_value a b e = cc

-- a fault, if there is one, has the property
pub record Only {A E : Type 0} (P : E → Type 0) (r : Result A E) : Type 0 where
  pub has : (fault : E) → r ≡ Err fault → P fault

pub only_ok : {A E : Type 0} (P : E → Type 0) (x : A) → Only P (Ok x)
only_ok P x = record { has = λ fault e. absurd (no_fault x fault e) }

pub only_err : {A E : Type 0} (P : E → Type 0) (fault : E) → P fault → Only {A = A} P (Err fault)
only_err {A = A} P fault is = record { has = λ other e. subst P (same_fault {A = A} fault other e) is }

pub only_bind : {A B E : Type 0} (P : E → Type 0) (r : Result A E) (f : A → Result B E) → Only P r
    → ((x : A) → Only P (f x)) → Only P (r >>= f)
only_bind P (Ok x) f first rest = rest x
only_bind {B = B} P (Err fault) f first rest = only_err {A = B} P fault (first.has fault refl)

pub only_if : {A E : Type 0} (P : E → Type 0) (b : Bool) (r s : Result A E) → Only P r → Only P s
    → Only P (if b then r else s)
only_if P true r s yes_is no_is = yes_is
only_if P false r s yes_is no_is = no_is

pub only_refused : {E : Type 0} (P : E → Type 0) (b : Bool) (fault : E) → P fault → Only P (refused_if b fault)
only_refused P true fault is = only_err P fault is
only_refused P false fault is = only_ok P tt

pub only_some : {A E : Type 0} (P : E → Type 0) (fault : E) (found : Option A) → P fault → Only P (some_or fault found)
only_some P fault None is = only_err P fault is
only_some P fault (Some x) is = only_ok P x

pub only_each : {A B E : Type 0} (P : E → Type 0) (f : A → Result B E) → ((x : A) → Only P (f x)) → (xs : List A)
    → Only P (each f xs)
only_each P f one [] = only_ok P []
only_each P f one (x ∷ xs) = only_bind P (f x) (λ y. each f xs >>= λ ys. Ok (y ∷ ys)) (one x)
    (λ y. only_bind P (each f xs) (λ ys. Ok (y ∷ ys)) (only_each P f one xs) (λ ys. only_ok P (y ∷ ys)))
