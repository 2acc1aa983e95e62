-- Rows of a table of checks, beside reading step by step: the first row that is failed is the first
-- step that is refused.
use Rattle.std.proofs.Common.{◌≡◌, ◌∙◌, Bool, true, false, List, [], ◌∷◌, ◌++◌, map, All, Option, Some, None, Result}
use Rattle.std.proofs.Common.{Ok, Err, refl, ap, sym}
use Rattle.std.specs.Prelude.{◌↔◌, if◌then◌else◌}
use Rattle.std.specs.List.{flat_map}
use Rattle.std.specs.Option.{option_or}
use Rattle.std.proofs.lemmas.List.Elements.{All-nil, All-cons, All-head, All-tail}
use Rattle.json_fields.specs.rule.Reading.{◌>>=◌, refused_if, each}
use Rattle.manifest_fields.specs.declared.fault.ManifestFault.{ManifestFault}
use Rattle.manifest_reader.specs.state.Found.{fault_of, fails_if}
use Rattle.manifest_reader.specs.state.Laws.{Passes, FailsFirst}

-- what a check answers
abbrev pub Row : Type 0
Row = Option ManifestFault

-- the fault of the first row that is failed
abbrev pub first : List Row → Row
first [] = None
first (row ∷ rows) = option_or row (first rows)

-- reading with these rows answers the fault of the first of them that is failed
pub record Reads {A : Type 0} (r : Result A ManifestFault) (rows : List Row) : Type 0 where
  pub same : fault_of r ≡ first rows

pub first_append : (rows rest : List Row) → first (rows ++ rest) ≡ option_or (first rows) (first rest)
first_append [] rest = refl
first_append (None ∷ rows) rest = first_append rows rest
first_append (Some fault ∷ rows) rest = refl

-- nothing more is checked
pub read : {A : Type 0} (x : A) → Reads (Ok x) []
read x = record { same = refl }

pub read_row : {A : Type 0} (r : Result A ManifestFault) (row : Row) → fault_of r ≡ row → Reads r (row ∷ [])
read_row (Ok x) row here = record { same = rw (← here) refl }
read_row (Err fault) row here = record { same = rw (← here) refl }

-- one step, and those that follow where it goes well
pub step : {A B : Type 0} (r : Result A ManifestFault) (f : A → Result B ManifestFault) (rows rest : List Row)
    → Reads r rows → ((x : A) → r ≡ Ok x → Reads (f x) rest) → Reads (r >>= f) (rows ++ rest)
step (Ok x) f rows rest here later = record { same = rw (first_append rows rest, ← here.same) (later x refl).same }
step (Err fault) f rows rest here later = record { same = rw (first_append rows rest, ← here.same) refl }

-- a step of one row
pub step_row : {A B : Type 0} (r : Result A ManifestFault) (f : A → Result B ManifestFault) (row : Row)
    (rest : List Row)
    → fault_of r ≡ row → ((x : A) → r ≡ Ok x → Reads (f x) rest) → Reads (r >>= f) (row ∷ rest)
step_row (Ok x) f row rest here later = record { same = rw (← here) (later x refl).same }
step_row (Err fault) f row rest here later = record { same = rw (← here) refl }

-- the last step
pub last_step : {A B : Type 0} (r : Result A ManifestFault) (g : A → B) (rows : List Row) → Reads r rows
    → Reads (r >>= λ x. Ok (g x)) rows
last_step (Ok x) g rows here = record { same = here.same }
last_step (Err fault) g rows here = record { same = here.same }

pub fault_if : {A : Type 0} (b : Bool) (x : A) (fault : ManifestFault)
    → fault_of (if b then Ok x else Err fault) ≡ (if b then None else Some fault)
fault_if true x fault = refl
fault_if false x fault = refl

pub refused : (b : Bool) (fault : ManifestFault) → fault_of (refused_if b fault) ≡ fails_if b fault
refused true fault = refl
refused false fault = refl

-- items, each with its rows
pub each_rows : {A B : Type 0} (f : A → Result B ManifestFault) (rows : A → List Row)
    → ((x : A) → Reads (f x) (rows x)) → (xs : List A) → Reads (each f xs) (flat_map rows xs)
each_rows f rows one [] = read []
each_rows f rows one (x ∷ xs) = step (f x) _ (rows x) (flat_map rows xs) (one x)
    (λ y e. last_step (each f xs) (λ ys. y ∷ ys) (flat_map rows xs) (each_rows f rows one xs))

one_more : {C : Type 0} (answer : C → Row) (c : C) (cs : List C) (fault : ManifestFault) → answer c ≡ None
    → FailsFirst answer cs fault → FailsFirst answer (c ∷ cs) fault
one_more answer c cs fault passes rest = record {
  earlier = c ∷ rest.earlier;
  check = rest.check;
  later = rest.later;
  in_order = ap (λ (xs : List _). c ∷ xs) rest.in_order;
  passed = All-cons (Passes answer) c rest.earlier passes rest.passed;
  failed = rest.failed;
}

first_failed : {C : Type 0} (answer : C → Row) (checks : List C) (fault : ManifestFault)
    → first (map answer checks) ≡ Some fault → FailsFirst answer checks fault
first_failed answer [] fault e = absurd (cc)
first_failed answer (c ∷ cs) fault e = there (answer c) refl e (first_failed answer cs fault)
  where
    there : (row : Row) → answer c ≡ row → option_or row (first (map answer cs)) ≡ Some fault
        → (first (map answer cs) ≡ Some fault → FailsFirst answer cs fault) → FailsFirst answer (c ∷ cs) fault
    there None passes e later = one_more answer c cs fault passes (later e)
    there (Some other) fails e later = record {
      earlier = [];
      check = c;
      later = cs;
      in_order = refl;
      passed = All-nil (Passes answer);
      failed = fails ∙ e;
    }

first_of : {C : Type 0} (answer : C → Row) (earlier : List C) (check : C) (later : List C) (fault : ManifestFault)
    → All (Passes answer) earlier → answer check ≡ Some fault
    → first (map answer (earlier ++ check ∷ later)) ≡ Some fault
first_of answer [] check later fault passed failed = rw failed refl
first_of answer (c ∷ cs) check later fault passed failed =
    let here : answer c ≡ None = All-head (Passes answer) c cs passed in
    rw here (first_of answer cs check later fault (All-tail (Passes answer) c cs passed) failed)

-- no check is failed
all_passed : {C : Type 0} (answer : C → Row) (checks : List C) → first (map answer checks) ≡ None
    → All (Passes answer) checks
all_passed answer [] e = All-nil (Passes answer)
all_passed answer (c ∷ cs) e = there (answer c) refl e (all_passed answer cs)
  where
    there : (row : Row) → answer c ≡ row → option_or row (first (map answer cs)) ≡ None
        → (first (map answer cs) ≡ None → All (Passes answer) cs) → All (Passes answer) (c ∷ cs)
    there None passes e later = All-cons (Passes answer) c cs passes (later e)
    there (Some fault) fails e later = absurd (cc)

passed_all : {C : Type 0} (answer : C → Row) (checks : List C) → All (Passes answer) checks
    → first (map answer checks) ≡ None
passed_all answer [] all = refl
passed_all answer (c ∷ cs) all =
    let here : answer c ≡ None = All-head (Passes answer) c cs all in
    rw here (passed_all answer cs (All-tail (Passes answer) c cs all))

is_refused : {A : Type 0} (r : Result A ManifestFault) (fault : ManifestFault) → fault_of r ≡ Some fault → r ≡ Err fault
is_refused (Ok x) fault e = absurd (cc)
is_refused (Err other) fault e = let is : other ≡ fault = cc in ap Err is

is_read : {A : Type 0} (r : Result A ManifestFault) → fault_of r ≡ None → (x : A) × (r ≡ Ok x)
is_read (Ok x) e = (x, refl)
is_read (Err fault) e = absurd (cc)

-- what is read with these checks is refused exactly with the first of them that is failed
pub first_check : {A C : Type 0} (r : Result A ManifestFault) (answer : C → Row) (checks : List C)
    → Reads r (map answer checks) → (fault : ManifestFault) → (r ≡ Err fault ↔ FailsFirst answer checks fault)
first_check r answer checks reads fault = (
  (λ e. first_failed answer checks fault (sym reads.same ∙ ap fault_of e)),
  (λ is. is_refused r fault (reads.same ∙ ap (λ (cs : List _). first (map answer cs)) is.in_order
      ∙ first_of answer is.earlier is.check is.later fault is.passed is.failed)),
)

-- and read exactly where each is passed
pub every_check : {A C : Type 0} (r : Result A ManifestFault) (answer : C → Row) (checks : List C)
    → Reads r (map answer checks)
    → (((x : A) × (r ≡ Ok x)) ↔ All (Passes answer) checks)
every_check r answer checks reads = (
  (λ w. all_passed answer checks (sym reads.same ∙ ap fault_of w.1)),
  (λ all. is_read r (reads.same ∙ passed_all answer checks all)),
)
