-- The job that words ask for, by what clap finds in them.
use Rattle.std.specs.Prelude.{◌≡◌, ◌≢◌, ◌⊎◌, ◌≤◌, ℕ, List, [], Option, Some, None, Result, Ok, Err, codes, bytes_eq}
use Rattle.std.specs.Prelude.{if◌then◌else◌}
use Rattle.std.specs.Str.Parse.{IsNumeral, digits_value, without_leading_plus}
use Rattle.clap.specs.Words.{Row, Text, fault_of, first_of, one_of, subcommand_of, IsAmong, kind_of}
use Rattle.clap.specs.declared.error.Error.{Error}
use Rattle.clap.specs.declared.error.kind.ErrorKind.TheVariants as kinds
use Rattle.node_config.specs.declared.node.Format.{Format}
use Rattle.node_config.specs.declared.node.Format.TheVariants.{Standard, Extended}
use Rattle.commands.specs.declared.job.Job.{Job}
use Rattle.commands.specs.declared.job.Job.TheVariants.{Run, Check, Play}
use Rattle.commands.specs.declared.fault.UsageFault.{UsageFault}
use Rattle.commands.specs.declared.fault.UsageFault.TheVariants.{Refused, OutOfMemory}
use Rattle.commands.specs.state.Program.{program}
use Rattle.worker_count.specs.rule.Limit.{most_workers}

-- the text is the number in decimal digits
pub record IsNumber (text : List ℕ) (n : ℕ) : Type 0 where
  pub numeral : IsNumeral 10 (without_leading_plus text)
  pub value : n ≡ digits_value 10 (without_leading_plus text)

-- `--workers` has this number, which is allowed; clap gives the option its default if it isn't written
pub record HasWorkers (rows : List Row) (workers : ℕ) : Type 0 where
  pub text : List ℕ
  pub given : one_of (codes "workers") rows ≡ Some text
  pub number : IsNumber text workers
  pub some : 1 ≤ workers
  pub few : workers ≤ most_workers

-- the argument has this value
abbrev pub Has : List Row → List ℕ → List ℕ → Type 0
Has rows id value = first_of id rows ≡ Some value

-- the format that a flag asks for by its value, if it has one
abbrev pub format_asked : Option (List ℕ) → Format
format_asked None = Standard
format_asked (Some value) = if bytes_eq value (codes "true") then Extended else Standard

-- the extended format where `--extended` is written, which gives the flag its value
abbrev pub format_of : List Row → Format
format_of rows = format_asked (first_of (codes "extended") rows)

-- the subcommand of this name asks for the job, by what was found for its arguments
abbrev pub IsJobFor : Text → List Row → Job → Type 0
IsJobFor name rows (Run trace workers format) =
    (name ≡ codes "run") × Has rows (codes "TRACE") trace.now × HasWorkers rows workers × (format ≡ format_of rows)
IsJobFor name rows (Check trace format) =
    (name ≡ codes "check") × Has rows (codes "TRACE") trace.now × (format ≡ format_of rows)
IsJobFor name rows (Play trace steps workers format) =
    (name ≡ codes "play") × Has rows (codes "TRACE") trace.now × Has rows (codes "STEPS") steps.now
    × HasWorkers rows workers × (format ≡ format_of rows)

-- the subcommand that was found, if any, asks for the job
abbrev pub IsJobOf : Option (Text × List Row) → Job → Type 0
IsJobOf None job = ⊥
IsJobOf (Some found) job = IsJobFor found.0 found.1 job

-- clap finds no fault in the words, and what it finds in them asks for the job
pub record IsAskedBy (words : List Text) (job : Job) : Type 0 where
  pub taken : fault_of program words ≡ []
  pub found : IsJobOf (subcommand_of program words) job

-- clap's error is passed on, unless an allocation failed
abbrev pub IsRefusal : Error → UsageFault → Type 0
IsRefusal error (Refused same) = (same ≡ error) × (kind_of error ≢ kinds.OutOfMemory)
IsRefusal error OutOfMemory = kind_of error ≡ kinds.OutOfMemory

-- the job is passed on, or clap's error
abbrev pub IsJobAs : Result Job Error → Result Job UsageFault → Type 0
IsJobAs (Ok job) (Ok same) = same ≡ job
IsJobAs (Ok job) (Err fault) = ⊥
IsJobAs (Err error) (Ok job) = ⊥
IsJobAs (Err error) (Err fault) = IsRefusal error fault

-- the error has a fault that clap finds in the words, or they ask for no job
abbrev pub IsFaultIn : List Text → Error → Type 0
IsFaultIn words error =
    IsAmong (kind_of error) (fault_of program words) ⊎ ((job : Job) → IsJobOf (subcommand_of program words) job → ⊥)

-- the words ask for no job by this error, but where memory ran out
abbrev pub Refutes : List Text → Error → Type 0
Refutes words error = kind_of error ≢ kinds.OutOfMemory → IsFaultIn words error

-- the arguments are rejected for a fault that clap finds, or since they ask for no job
abbrev pub Refuses : List Text → UsageFault → Type 0
Refuses words (Refused error) = IsFaultIn words error
Refuses words OutOfMemory = Unit {0}
