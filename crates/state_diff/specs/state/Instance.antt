-- What the code keeps of one instance, and of which ticks it is the state.
use Rattle.std.specs.Prelude.{◌≡◌, ℤ, List, Some}
use Rattle.state_diff.specs.declared.seen.CriState.TheVariants.{Running}
use Rattle.state_diff.specs.declared.instance.Instance.{Instance}
use Rattle.state_diff.specs.rule.Instances.{Tick, ListedAs, IsState, IsExitCode, Ends}
use Rattle.histories.specs.rule.Histories.{IsFirstMoment}

-- the state, exit code, start and exit of the instance are the ones of its attempt after these ticks
pub record IsInstanceOf (h : List Tick) (i : Instance) : Type 0 where
  pub state : IsState h i.attempt i.state
  pub code : (code : ℤ) → i.code ≡ Some code → IsExitCode h i.attempt code
  pub start : IsFirstMoment h (ListedAs h i.attempt Running) i.start
  pub exit : IsFirstMoment h (Ends h i.attempt) i.exit
