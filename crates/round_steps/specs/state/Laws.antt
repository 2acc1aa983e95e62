-- What the definitions of a steps file imply.
use Rattle.std.specs.Prelude.{◌≡◌, ℕ, List}
use Rattle.round_steps.specs.declared.step.Step.{Step}
use Rattle.round_steps.specs.state.Spelling.{Spells}
use Rattle.round_steps.specs.state.Steps.{AreSteps, IsFirstFault}

-- a line spells one step at most
abbrev pub OneSpelling : Type 0
OneSpelling = (line : List ℕ) (a b : Step) → Spells line a → Spells line b → a ≡ b

-- lines give one list of steps, or have one first fault, and never both
pub record OneAnswer : Type 0 where
  pub steps : (lines : List (List ℕ)) (a b : List Step) → AreSteps lines a → AreSteps lines b → a ≡ b
  pub fault : (lines : List (List ℕ)) (m n : ℕ) → IsFirstFault lines m → IsFirstFault lines n → m ≡ n
  pub apart : (lines : List (List ℕ)) (a : List Step) (n : ℕ) → AreSteps lines a → IsFirstFault lines n → ⊥
