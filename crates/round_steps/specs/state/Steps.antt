-- The steps of a steps file, and its first faulty line. Lines are numbered from 1.
use Rattle.std.specs.Prelude.{◌≡◌, ◌≢◌, ◌+◌, ◌<◌, ◌≤◌, ◌==◌, ℕ, Bool, List, [], ◌∷◌, ◌++◌, length, filter, true}
use Rattle.std.specs.Prelude.{false, ⊤, Option, Some, None, Result, Ok, Err}
use Rattle.std.specs.List.{slice_split}
use Rattle.round_steps.specs.declared.step.Step.{Step}
use Rattle.round_steps.specs.declared.fault.StepsFault.{StepsFault}
use Rattle.round_steps.specs.declared.fault.StepsFault.TheVariants.{TooLong, Line, OutOfMemory}
use Rattle.round_steps.specs.state.Spelling.{Spells}

-- the most bytes of a steps file, 1 MiB
abbrev pub longest_steps_file : ℕ
longest_steps_file = 1048576

-- the most steps of a steps file
abbrev pub most_steps : ℕ
most_steps = 100000

-- a text cut at each newline; the rest after the last one is often empty, and then has no step
abbrev pub lines_of : List ℕ → List (List ℕ)
lines_of text = slice_split (λ byte. byte == 10) text

-- every line but an empty one
abbrev pub counts : List ℕ → Bool
counts [] = false
counts (byte ∷ bytes) = true

-- each line spells a step, in order
abbrev pub SpellInOrder : List (List ℕ) → List Step → Type 0
SpellInOrder [] [] = Unit {0}
SpellInOrder [] (step ∷ steps) = ⊥
SpellInOrder (line ∷ lines) [] = ⊥
SpellInOrder (line ∷ lines) (step ∷ steps) = Spells line step × SpellInOrder lines steps

-- each line that counts spells one of the steps, in order, and there are few enough of them
pub record AreSteps (lines : List (List ℕ)) (steps : List Step) : Type 0 where
  pub spelled : SpellInOrder (filter counts lines) steps
  pub few : length steps ≤ most_steps

-- after this many steps the line is faulty: it counts, and it spells no step or one too many
pub record IsFaultyBehind (count : ℕ) (line : List ℕ) : Type 0 where
  pub counted : line ≢ []
  pub faulty : (step : Step) → Spells line step → most_steps ≤ count

-- the line of this number, and the steps of the lines before it
pub record IsReached (lines : List (List ℕ)) (number : ℕ) (line : List ℕ) (steps : List Step) : Type 0 where
  pub before : List (List ℕ)
  pub after : List (List ℕ)
  pub lines_are : lines ≡ before ++ line ∷ after
  pub number_is : number ≡ length before + 1
  pub said : AreSteps before steps

-- the line of this number is faulty after the steps of the lines before it
pub record IsFirstFault (lines : List (List ℕ)) (number : ℕ) : Type 0 where
  pub line : List ℕ
  pub steps : List Step
  pub reached : IsReached lines number line steps
  pub faulty : IsFaultyBehind (length steps) line

-- after this many steps the line gives a step: it counts, it spells the step, and there is room
abbrev pub SaysStep : ℕ → List ℕ → Step → Type 0
SaysStep count line step = (line ≢ []) × Spells line step × (count < most_steps)

-- some line gives a step after the steps of the lines before it, of which then none is faulty
pub record HasStep (lines : List (List ℕ)) : Type 0 where
  pub number : ℕ
  pub line : List ℕ
  pub steps : List Step
  pub step : Step
  pub reached : IsReached lines number line steps
  pub says : SaysStep (length steps) line step

-- what the line of the number gives after this many steps
abbrev pub SaysBehind : ℕ → ℕ → List ℕ → Result (Option Step) StepsFault → Type 0
SaysBehind count number line (Ok None) = line ≡ []
SaysBehind count number line (Ok (Some step)) = SaysStep count line step
SaysBehind count number line (Err fault) = (fault ≡ Line number) × IsFaultyBehind count line

-- whether a text is short enough to be looked at
abbrev pub IsWithin : List ℕ → Result ⊤ StepsFault → Type 0
IsWithin text (Ok v) = length text ≤ longest_steps_file
IsWithin text (Err fault) = (fault ≡ TooLong) × (longest_steps_file < length text)

-- why a line of the number is rejected after the steps: it is faulty, or an allocation for its step failed
abbrev pub IsFaultOf : ℕ → List ℕ → List Step → StepsFault → Type 0
IsFaultOf number line steps TooLong = ⊥
IsFaultOf number line steps (Line n) = (n ≡ number) × IsFaultyBehind (length steps) line
IsFaultOf number line steps OutOfMemory = (step : Step) × SaysStep (length steps) line step

-- the fault is the one of the first faulty line, or an allocation failed at a step before it
abbrev pub IsFirstFaultBy : List (List ℕ) → StepsFault → Type 0
IsFirstFaultBy lines TooLong = ⊥
IsFirstFaultBy lines (Line number) = IsFirstFault lines number
IsFirstFaultBy lines OutOfMemory = HasStep lines

-- when a text is rejected
abbrev pub Refuses : List ℕ → StepsFault → Type 0
Refuses text TooLong = longest_steps_file < length text
Refuses text (Line number) = (length text ≤ longest_steps_file) × IsFirstFault (lines_of text) number
Refuses text OutOfMemory = (length text ≤ longest_steps_file) × HasStep (lines_of text)
