-- What clap says of the words at the program's command line.
use Rattle.std.proofs.Common.{◌≡◌, ◌∙◌, true, List, [], refl, ap, sym, subst, inl, inr, Option, Result, Ok, Err}
use Rattle.std.specs.Prelude.{IfOk, IfErr}
use Rattle.clap.specs.Words.{App, HasMatchesOf, Row, Text, fault_of, is_simple, is_simple_and_free}
use Rattle.clap.specs.Words.{subcommand_of}
use Rattle.clap.specs.Words.{HasKind, IsAmong, kind_of, subcommand_rows_of}
use Rattle.clap.specs.declared.error.Error.{Error}
use Rattle.clap.specs.declared.parser.matches.ArgMatches.{ArgMatches}
use Rattle.clap.proofs.OnLiterals.{clap_on_literals}
use Rattle.commands.specs.declared.job.Job.{Job}
use Rattle.commands.specs.state.Jobs.{IsAskedBy, IsFaultIn, IsJobAs, IsJobOf, IsRefusal, Refutes, Refuses}
use Rattle.commands.specs.declared.fault.UsageFault.{UsageFault}
use Rattle.commands.specs.declared.fault.UsageFault.TheVariants.{Refused, OutOfMemory}
use Rattle.commands.specs.state.Program.{program}

pub simple_and_free : is_simple_and_free program ≡ true
unfolding clap_on_literals
simple_and_free = refl

pub simple : is_simple program ≡ true
unfolding clap_on_literals
simple = refl

-- the job that the matches say is the one that is asked for
pub asked : (words : List Text) (app : App) (m : ArgMatches) (job : Job) → app ≡ program
    → (is_simple_and_free app ≡ true → fault_of app words ≡ []) → HasMatchesOf app words m
    → IsJobOf (subcommand_rows_of m) job
    → IsAskedBy words job
asked words app m job is free matches found =
    record {
      taken = subst (λ (a : App). fault_of a words ≡ []) is (free (ap is_simple_and_free is ∙ simple_and_free));
      found = subst (λ (o : Option (Text × List Row)). IsJobOf o job)
          ((matches (ap is_simple is ∙ simple)).1 ∙ ap (λ (a : App). subcommand_of a words) is) found;
    }

-- where the matches say no job the words ask for none
pub asks_none : (words : List Text) (app : App) (m : ArgMatches) → app ≡ program → HasMatchesOf app words m
    → ((job : Job) → IsJobOf (subcommand_rows_of m) job → ⊥) → (job : Job)
    → IsJobOf (subcommand_of program words) job → ⊥
asks_none words app m is matches none job found =
    none job (subst (λ (o : Option (Text × List Row)). IsJobOf o job)
    (sym ((matches (ap is_simple is ∙ simple)).1 ∙ ap (λ (a : App). subcommand_of a words) is)) found)

-- clap refuses the words, unless memory ran out, for a fault that it finds in them
pub refuted : (words : List Text) (app : App) (error : Error) → app ≡ program
    → (is_simple_and_free app ≡ true → HasKind (fault_of app words) error) → Refutes words error
refuted words app error is kinds other =
    elim (kinds (ap is_simple_and_free is ∙ simple_and_free)) [
      | inl memory ↦ absurd (other memory)
      | inr among ↦ inl (subst (λ (a : App). IsAmong (kind_of error) (fault_of a words)) is among)
    ]

-- words that ask for no job are refused by any error
pub refuted_by_any : (words : List Text) (found : Result Job Error)
    → ((job : Job) → IsJobOf (subcommand_of program words) job → ⊥) → IfErr found (Refutes words)
refuted_by_any words (Ok job) none = tt
refuted_by_any words (Err error) none = λ other. inr none

-- what refuses the words by the error refuses them by the fault that it is handed on as
pub refused : (words : List Text) (error : Error) (fault : UsageFault) → Refutes words error → IsRefusal error fault
    → Refuses words fault
refused words error (Refused same) refutes refusal =
    subst (IsFaultIn words) (sym refusal.0) (refutes refusal.1)
refused words error OutOfMemory refutes refusal = tt

-- the job that is handed on is the one that was found
pub handed_job : (words : List Text) (found : Result Job Error) (given : Result Job UsageFault) → IsJobAs found given
    → IfOk found (IsAskedBy words) → IfOk given (IsAskedBy words)
handed_job words (Ok job) (Ok same) is asked = subst (IsAskedBy words) (sym is) asked
handed_job words (Ok job) (Err fault) is asked = absurd is
handed_job words (Err error) (Ok job) is asked = absurd is
handed_job words (Err error) (Err fault) is asked = tt

-- the fault that is handed on refuses the words by the error that was found
pub handed_fault : (words : List Text) (found : Result Job Error) (given : Result Job UsageFault) → IsJobAs found given
    → IfErr found (Refutes words) → IfErr given (Refuses words)
handed_fault words (Ok job) (Ok same) is refutes = tt
handed_fault words (Ok job) (Err fault) is refutes = absurd is
handed_fault words (Err error) (Ok job) is refutes = absurd is
handed_fault words (Err error) (Err fault) is refutes = refused words error fault refutes is
