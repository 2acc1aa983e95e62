-- How a line of a steps file spells a step.
use Rattle.std.specs.Prelude.{◌≡◌, ◌+◌, ◌/◌, ◌%◌, ◌≤◌, ℕ, List, [], ◌∷◌, ◌++◌, Option, Some, None, codes}
use Rattle.round_steps.specs.declared.step.Step.{Step}
use Rattle.round_steps.specs.declared.step.Step.TheVariants.{Pop, Steal, Update, Enter}

-- the greatest number of a worker
abbrev pub last_worker : ℕ
last_worker = 63

-- the byte of a decimal digit
abbrev pub digit : ℕ → ℕ
digit n = 48 + n

-- a text of two bytes, or of one, with a zero before it
abbrev pub two_bytes : List ℕ → Option (ℕ × ℕ)
two_bytes [] = None
two_bytes (ones ∷ []) = Some (digit 0, ones)
two_bytes (tens ∷ ones ∷ []) = Some (tens, ones)
two_bytes (tens ∷ ones ∷ byte ∷ bytes) = None

-- the text is the number of a worker, in one digit or in two
pub record Names (text : List ℕ) (worker : ℕ) : Type 0 where
  pub known : worker ≤ last_worker
  pub digits : two_bytes text ≡ Some (digit (worker / 10), digit (worker % 10))

-- the text is the numbers of two workers with a space between them
pub record NamesBoth (text : List ℕ) (first second : ℕ) : Type 0 where
  pub front : List ℕ
  pub behind : List ℕ
  pub is : text ≡ front ++ (codes " " ++ behind)
  pub names_first : Names front first
  pub names_second : Names behind second

-- the line is the text of the step
pub data Spells (line : List ℕ) : Step → Type 0 where
  spells_pop : (text : List ℕ) (worker : ℕ) → line ≡ codes "pop " ++ text → Names text worker
      → Spells line (Pop worker)
  spells_steal : (text : List ℕ) (thief owner : ℕ) → line ≡ codes "steal " ++ text → NamesBoth text thief owner
      → Spells line (Steal thief owner)
  spells_update : (text : List ℕ) (worker : ℕ) → line ≡ codes "update " ++ text → Names text worker
      → Spells line (Update worker)
  spells_enter : (text : List ℕ) (worker : ℕ) → line ≡ codes "enter " ++ text → Names text worker
      → Spells line (Enter worker)
