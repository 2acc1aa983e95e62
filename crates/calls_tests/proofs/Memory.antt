-- What is read and written in memory is known.
use Rattle.std.proofs.Common.{◌≡◌, ◌∙◌, ◌++◌, [], List, ℕ, Some, ap, sym, subst, Err}
use Rattle.node_config.specs.declared.node.Format.TheVariants.{Standard}
use Rattle.trace.specs.rule.Trace.{trace_of}
use Rattle.kubelet_replay.specs.declared.fault.RunFault.{RunFault}
use Rattle.kubelet_replay.specs.declared.fault.RunFault.TheVariants.{Read, TooLong, Line, OutOfMemory, Write}
use Rattle.kubelet_replay.specs.rule.Run.{IsReportOfText, IsRefusal, Writes}
use Rattle.calls_tests.specs.state.Why.{no_report, IsWhy}

-- what was written into an empty memory is the answer
pub answer_of : (IsAnswer : List ℕ → List ℕ → Type 0) (text old new : List ℕ) → old ≡ []
    → Writes IsAnswer (Some text) (Some old) (Some new) → IsAnswer text new
answer_of IsAnswer text old new empty writes =
    subst (λ (t : List ℕ). IsAnswer t new) writes.read.all
    (subst (λ (bytes : List ℕ). IsAnswer writes.text bytes)
    (sym (writes.written ∙ ap (λ (xs : List ℕ). xs ++ writes.bytes) empty)) writes.answer)

-- what a refusal says of a text in memory
pub why : (text old new : List ℕ) (fault : RunFault)
    → IsRefusal IsReportOfText (Some text) (Some old) (Some new) fault → IsWhy text (no_report fault)
why text old new Read is = tt
why text old new TooLong is = is.0
why text old new (Line fault) is =
    subst (λ (t : List ℕ). trace_of Standard t ≡ Err fault) is.0.read.all is.0.refused
why text old new OutOfMemory is = tt
why text old new Write is = (is.bytes, subst (λ (t : List ℕ). IsReportOfText t is.bytes) is.read.all is.answer)
