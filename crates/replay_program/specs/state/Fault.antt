-- Why the program did not do what it was asked, and the status with which it ends.
use Rattle.std.specs.Prelude.{◌≡◌, ℕ, Bool, true, false}
use Rattle.std.specs.declared.io.ErrorKind.{ErrorKind as SystemKind}
use Rattle.std.specs.declared.io.ErrorKind.TheVariants as system
use Rattle.clap.specs.Words.{kind_of}
use Rattle.clap.specs.declared.error.kind.ErrorKind.{ErrorKind}
use Rattle.clap.specs.declared.error.kind.ErrorKind.TheVariants.{DisplayHelp, DisplayVersion}
use Rattle.commands.specs.declared.fault.UsageFault.{UsageFault}
use Rattle.commands.specs.declared.fault.UsageFault.TheVariants as usage
use Rattle.kubelet_replay.specs.declared.fault.RunFault.TheVariants.{OutOfMemory, Read}
use Rattle.kubelet_replay.specs.state.Fault.{status as run_status}
use Rattle.round_steps.specs.state.Fault.{status as steps_status}
use Rattle.replay_program.specs.declared.fault.Fault.{Fault}
use Rattle.replay_program.specs.declared.fault.Fault.TheVariants.{Run, Steps, Usage, Argument}

-- 0 for help or the version that was printed, 1 for one that was not, and 3 for mistaken words
abbrev pub words_status : ErrorKind → Bool → ℕ
words_status DisplayHelp true = 0
words_status DisplayHelp false = 1
words_status DisplayVersion true = 0
words_status DisplayVersion false = 1
words_status kind printed = 3

-- the status with which the program ends, where clap's text was printed or was not
abbrev pub status : Fault → Bool → ℕ
status (Run fault) printed = run_status fault
status (Steps fault) printed = steps_status fault
status (Usage (usage.Refused error)) printed = words_status (kind_of error) printed
status (Usage usage.OutOfMemory) printed = 1
status Argument printed = 3

-- the program may end with this status
pub record EndsWith (fault : Fault) (code : ℕ) : Type 0 where
  pub printed : Bool
  pub status_is : code ≡ status fault printed

-- words that ask for no job, or no memory to look at them
unfoldable pub of_usage : UsageFault → Fault
of_usage (usage.Refused error) = Usage (usage.Refused error)
of_usage usage.OutOfMemory = Run OutOfMemory

-- what an error of the system is to the program: a word that is no text has invalid data
unfoldable pub of_kind : SystemKind → Fault
of_kind system.OutOfMemory = Run OutOfMemory
of_kind system.InvalidData = Argument
of_kind kind = Run Read
