-- What was read of an object's members, once all of them are passed.
use Rattle.std.proofs.Common.{◌≡◌, ◌∙◌, ℕ, List, Option, Some, Result, Ok, true, refl, ap, subst, option_map}
use Rattle.std.specs.Borrow.{Bor}
use Rattle.std.specs.Prelude.{IfSome, codes, is_some}
use Rattle.json.specs.Token.{Token}
use Rattle.serde_json.specs.Data.{Data}
use Rattle.serde_json.specs.Find.{as_object}
use Rattle.json_fields.specs.rule.Fields.{field_at}
use Rattle.json_fields.specs.state.Tape.{AreAllPassed}
use Rattle.json_fields.proofs.OnMembers.{read_whole}
use Rattle.json_fields.proofs.Only.{same_value}
use Rattle.manifest.specs.declared.outcome.Outcome.{Outcome}
use Rattle.manifest.specs.declared.outcome.ProbeKind.{ProbeKind}
use Rattle.observations.specs.declared.usage.Usage.{Usage}
use Rattle.state_diff.specs.declared.seen.CriState.{CriState}
use Rattle.tick_lines.specs.declared.fault.TickLineFault.{TickLineFault}
use Rattle.tick_lines.specs.declared.tape.ListingMembers.{ListingMembers}
use Rattle.tick_lines.specs.declared.tape.ResultMembers.{ResultMembers}
use Rattle.tick_lines.specs.rule.Fields.{quantity_at}
use Rattle.tick_lines.specs.rule.Listings.{attempt_of, state_of, instance_of, listing_of}
use Rattle.tick_lines.specs.rule.Results.{result_of}
use Rattle.tick_lines.specs.state.Tape.{text_in, code_in, probe_in, outcome_in, IsFound}
use Rattle.tick_lines.specs.state.Tape.{ListingRead, ResultRead, UsageRead}
use Rattle.tick_lines.specs.rule.Usages.{usage_in}

found_whole : {A E : Type 0} (f : Option Data → Result A E) (name : List ℕ) (d : Data) (left : List Token)
    (o : Option A) (x : A) → IsFound f name d left o → AreAllPassed left → o ≡ Some x → f (field_at name d) ≡ Ok x
found_whole f name d left o x found passed is =
    ap f (found.1 ∙ passed name found.0) ∙ subst (λ kept. IfSome kept (λ y. f found.0 ≡ Ok y)) is found.2

text_whole : (name : List ℕ) (d : Data) (left : List Token) (o : Option (Bor (List ℕ))) (text : Bor (List ℕ))
    → IsFound text_in name d left (option_map (λ s. s.now) o) → AreAllPassed left → o ≡ Some text
    → text_in (field_at name d) ≡ Ok text.now
text_whole name d left o text found passed is =
    found_whole text_in name d left (option_map (λ s. s.now) o) text.now found passed (ap (option_map (λ s. s.now)) is)

pub listing_whole : (d : Data) (left : List Token) (l : ListingMembers) (name : Bor (List ℕ)) (state : CriState)
    → ListingRead d left l → AreAllPassed left → l.name ≡ Some name → l.state ≡ Some state → listing_of d ≡ Ok (record {
      name = name.now;
      instance = record { attempt = l.attempt; state = state; code = l.code };
    })
unfolding listing_of instance_of
listing_whole d left l name state read passed named known =
    rw (
      text_whole (codes "name") d left l.name name read.name passed named,
      read_whole attempt_of (codes "attempt") d left l.attempt read.attempt passed,
      found_whole state_of (codes "state") d left l.state state read.state passed known,
      same_value {E = TickLineFault} _ l.code (read_whole code_in (codes "exitCode") d left l.code read.code passed),
    ) refl

pub result_whole : (d : Data) (left : List Token) (r : ResultMembers) (name : Bor (List ℕ)) (probe : ProbeKind)
    (outcome : Outcome) → ResultRead d left r → AreAllPassed left → r.container ≡ Some name → r.probe ≡ Some probe
    → r.outcome ≡ Some outcome
    → result_of d ≡ Ok (record { container = name.now; probe = probe; outcome = outcome })
unfolding result_of
result_whole d left r name probe outcome read passed named probed found =
    rw (
      text_whole (codes "container") d left r.container name read.container passed named,
      found_whole probe_in (codes "probe") d left r.probe probe read.probe passed probed,
      found_whole outcome_in (codes "result") d left r.outcome outcome read.outcome passed found,
    ) refl

pub usage_whole : (d : Data) (left : List Token) (u : Usage) → UsageRead d left u → AreAllPassed left
    → true ≡ is_some (as_object d) → usage_in d ≡ Ok u
unfolding usage_in
usage_whole d left u read passed object =
    rw (
      ← object,
      read_whole quantity_at (codes "memory") d left u.memory read.memory passed,
      read_whole quantity_at (codes "volumes") d left u.volumes read.volumes passed,
      read_whole quantity_at (codes "logs") d left u.logs read.logs passed,
      read_whole quantity_at (codes "writable") d left u.writable read.writable passed,
      read_whole quantity_at (codes "inodes") d left u.inodes read.inodes passed,
      read_whole quantity_at (codes "pids") d left u.pids read.pids passed,
    ) refl
