-- Laws of the instances of a container, over the definitions alone.
use Rattle.std.specs.Prelude.{◌≡◌, ◌↔◌, ◌⊎◌, ◌≤◌, ℕ, ℤ, List, [], ◌∷◌, ◌++◌, Option, Some, IsTrue}
use Rattle.histories.specs.rule.Histories.{IsFirstPlace}
use Rattle.state_diff.specs.declared.seen.Seen.{Seen}
use Rattle.state_diff.specs.declared.seen.CriState.{CriState}
use Rattle.state_diff.specs.declared.seen.CriState.TheVariants.{Running, Exited}
use Rattle.state_diff.specs.rule.Instances.{Tick, Listed, ListedAs, IsNewest, IsState, Ends, IsExit, IsExitCode}
use Rattle.state_diff.specs.rule.Instances.{IsRun, IsStart}
use Rattle.state_diff.specs.state.Instances.{tick, IsAcceptable, IsAcceptableHistory}
use Rattle.state_diff.specs.rule.Acceptable.{is_acceptable}

-- whatever the listings are, there is a newest attempt or none is listed, and an instance has a start
-- or none, an exit or none, a state, and once it has exited an exit code and a run
pub record SomeOfEach : Type 0 where
  pub newest : (h : List Tick) → ((a : ℕ) × IsNewest h a) ⊎ ((a t : ℕ) → Listed h a t → ⊥)
  pub start : (h : List Tick) (a : ℕ) → (start : Option ℕ) × IsFirstPlace (ListedAs h a Running) start
  pub exit : (h : List Tick) (a : ℕ) → (exit : Option ℕ) × IsFirstPlace (Ends h a) exit
  pub code : (h : List Tick) (a t : ℕ) → IsExit h a t → (code : ℤ) × IsExitCode h a code
  pub run : (h : List Tick) (a t : ℕ) → IsExit h a t → (run : ℕ) × IsRun h a run
  pub state : (h : List Tick) (a : ℕ) → (state : CriState) × IsState h a state

-- there is at most one newest attempt, and an instance has at most one start, exit, exit code and
-- state
pub record OneOfEach : Type 0 where
  pub newest : (h : List Tick) (a b : ℕ) → IsNewest h a → IsNewest h b → a ≡ b
  pub start : (h : List Tick) (a t u : ℕ) → IsStart h a t → IsStart h a u → t ≡ u
  pub exit : (h : List Tick) (a t u : ℕ) → IsExit h a t → IsExit h a u → t ≡ u
  pub code : (h : List Tick) (a : ℕ) (code code' : ℤ) → IsExitCode h a code → IsExitCode h a code' → code ≡ code'
  pub state : (h : List Tick) (a : ℕ) (state state' : CriState) → IsState h a state → IsState h a state'
      → state ≡ state'

-- where each listing was acceptable, an instance doesn't start after its exit
abbrev pub StartsBeforeExit : Type 0
StartsBeforeExit = (h : List Tick) (a t u : ℕ) → IsAcceptableHistory h → IsStart h a t → IsExit h a u → t ≤ u

-- an exit stays where it is, and its instance stays exited, whatever is listed later
pub record ExitedStaysExited : Type 0 where
  pub exit : (h later : List Tick) (a t : ℕ) → IsExit h a t → IsExit (h ++ later) a t
  pub state : (h later : List Tick) (a t : ℕ) → IsExit h a t → IsState (h ++ later) a Exited

-- the newest attempt never falls
abbrev pub NewestNeverFalls : Type 0
NewestNeverFalls = (h later : List Tick) (a b : ℕ) → IsNewest h a → IsNewest (h ++ later) b → a ≤ b

-- an acceptable listing is of the newest attempt from then on
abbrev pub AcceptableIsNewest : Type 0
AcceptableIsNewest = (h : List Tick) (at : ℕ) (seen : Seen) → IsAcceptable h (Some seen)
    → IsNewest (h ++ tick at (Some seen) ∷ []) seen.attempt

-- the test that computes decides what is acceptable
abbrev pub AcceptableComputes : Type 0
AcceptableComputes = (h : List Tick) (seen : Option Seen) → (IsTrue (is_acceptable h seen) ↔ IsAcceptable h seen)
