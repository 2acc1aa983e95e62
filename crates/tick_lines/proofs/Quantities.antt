-- A sample is the quantity under its name.
use Rattle.std.proofs.Common.{◌≡◌, ◌∙◌, ℕ, Option, Some, None, Result, Ok, Err, refl, ap, sym}
use Rattle.std.specs.Prelude.{◌↔◌, codes}
use Rattle.std.proofs.lemmas.Option.{same_Some, none-some}
use Rattle.serde_json.specs.Data.{Data}
use Rattle.json_fields.specs.rule.Fields.{field_at}
use Rattle.json_fields.specs.rule.Reading.{◌>>=◌, else_fault}
use Rattle.json_fields.proofs.Steps.{bind_ok}
use Rattle.json_fields.proofs.Only.{same_value}
use Rattle.observations.specs.declared.usage.Usage.{Usage}
use Rattle.json_fields.specs.rule.Quantities.{quantity_in}
use Rattle.json_fields.specs.declared.fault.FieldFault.{FieldFault}
use Rattle.signals.specs.rule.BySignal.{of}
use Rattle.signals.specs.rule.Signals.{name_of}
use Rattle.signals.specs.declared.by_signal.BySignal.{BySignal}
use Rattle.signals.specs.declared.signal.Signal.{Signal}
use Rattle.json_fields.specs.declared.scope.Scope.{Scope}
use Rattle.json_fields.specs.declared.scope.Scope.TheVariants.{Node, FileSystems}
use Rattle.json_fields.specs.rule.SignalMaps.{in_map}
use Rattle.json_fields.proofs.EachSignal.{map_read}
use Rattle.tick_lines.specs.declared.fault.TickLineFault.TheVariants as faults
use Rattle.tick_lines.specs.rule.Fields.{quantity_at}
use Rattle.tick_lines.specs.rule.Usages.{usage_in, usage_of}
use Rattle.tick_lines.specs.rule.Samples.{samples_of}
use Rattle.tick_lines.specs.state.Laws.{IsSample, IsUsage, SaysUsage, SamplesSaid, UsageSaid}
use Rattle.tick_lines.proofs.Parts.{line_parts, entry_parts, usage_parts}

-- the value that was found is this quantity
abbrev IsQuantity : Option Data → ℕ → Type 0
IsQuantity found n = (value : Data) × (found ≡ Some value) × (quantity_in value ≡ Ok n)

read_is : (d : Data) (r : Result ℕ FieldFault) (sample : Option ℕ) → quantity_in d ≡ r
    → (else_fault faults.Usage r >>= λ thousandths. Ok (Some thousandths)) ≡ Ok sample → (n : ℕ)
    → (sample ≡ Some n ↔ IsQuantity (Some d) n)
read_is d (Ok q) sample is e n =
    let same : Some q ≡ sample = same_value (Some q) sample e in (
      λ (said : sample ≡ Some n). (d, refl, is ∙ ap Ok (same_Some q n (same ∙ said))),
      λ (found : IsQuantity (Some d) n). sym same
          ∙ ap Some (same_value {E = FieldFault} q n (sym is ∙ ap quantity_in (same_Some d found.0 found.1) ∙ found.2)),
    )
read_is d (Err fault) sample is e n = absurd (cc)

quantity_is : (found : Option Data) (sample : Option ℕ) → quantity_at found ≡ Ok sample → (n : ℕ)
    → (sample ≡ Some n ↔ IsQuantity found n)
quantity_is None sample e n =
    let none : None ≡ sample = same_value None sample e in (
      λ (said : sample ≡ Some n). absurd (none-some n (none ∙ said)),
      λ (found : IsQuantity None n). absurd
          (none-some found.0 found.1),
    )
quantity_is (Some d) sample e n = read_is d (quantity_in d) sample refl e n

samples_are : (scope : Scope) (found : Option Data) (samples : BySignal (Option ℕ)) (signal : Signal)
    → samples_of scope found ≡ Ok samples → IsSample found (name_of signal) (of samples signal)
samples_are scope found samples signal e =
    quantity_is (in_map found signal) (of samples signal)
    (map_read scope faults.Usage (λ s. quantity_at) found samples e signal)

pub samples_said : SamplesSaid
samples_said = record {
  signals = λ d line signal e. samples_are Node _ line.signals signal (line_parts d line e).signals;
  after_reclaim = λ d line signal e. samples_are FileSystems _ line.after_reclaim signal
      (line_parts d line e).after_reclaim;
}

usage_is : (d : Data) (usage : Usage) → usage_in d ≡ Ok usage → IsUsage d usage
usage_is d usage e =
    let parts = usage_parts d usage e in
    record {
      memory = quantity_is (field_at (codes "memory") d) usage.memory parts.memory;
      volumes = quantity_is (field_at (codes "volumes") d) usage.volumes parts.volumes;
      logs = quantity_is (field_at (codes "logs") d) usage.logs parts.logs;
      writable = quantity_is (field_at (codes "writable") d) usage.writable parts.writable;
      inodes = quantity_is (field_at (codes "inodes") d) usage.inodes parts.inodes;
      pids = quantity_is (field_at (codes "pids") d) usage.pids parts.pids;
    }

says_usage : (found : Option Data) (said : Option Usage) → usage_of found ≡ Ok said → SaysUsage found said
says_usage None said e = sym (same_value None said e)
says_usage (Some d) said e =
    let usage = bind_ok (usage_in d) _ said e in
    (usage.0, sym (same_value (Some usage.0) said usage.2), usage_is d usage.0 usage.1)

pub usage_said : UsageSaid
usage_said d entry e = says_usage _ entry.usage (entry_parts d entry e).usage
