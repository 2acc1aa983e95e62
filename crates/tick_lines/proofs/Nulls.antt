-- A null in an object changes nothing.
use Rattle.std.proofs.Common.{◌≡◌, ◌∙◌, ℕ, false, List, [], ◌∷◌, Result, None, bytes_eq, true≢false, refl, ap, sym}
use Rattle.std.proofs.Common.{inl, inr}
use Rattle.std.specs.Prelude.{codes}
use Rattle.std.proofs.lemmas.Bool.{cases_Bool}
use Rattle.std.proofs.lemmas.Slice.Eq.{bytes_eq-Decides}
use Rattle.serde_json.specs.Data.{Data, null, object, Members, put}
use Rattle.serde_json.specs.Find.{get_member}
use Rattle.serde_json.proofs.Views.{get_member-put, get_member-put_other}
use Rattle.json_fields.specs.rule.Fields.{present, field_at}
use Rattle.signals.specs.declared.signal.Signal.TheVariants.{MemoryAvailable, NodefsAvailable, ImagefsAvailable}
use Rattle.signals.specs.declared.signal.Signal.TheVariants.{NodefsInodesFree, ImagefsInodesFree, PidAvailable}
use Rattle.signals.specs.rule.Signals.{name_of}
use Rattle.json_fields.specs.declared.scope.Scope.{Scope}
use Rattle.tick_lines.specs.declared.fault.TickLineFault.{TickLineFault}
use Rattle.tick_lines.specs.rule.Listings.{listing_of}
use Rattle.tick_lines.specs.rule.Results.{result_of}
use Rattle.tick_lines.specs.rule.Usages.{usage_in}
use Rattle.tick_lines.specs.rule.Entries.{entry_of}
use Rattle.json_fields.specs.rule.SignalMaps.{read_each, read_map}
use Rattle.json_fields.proofs.SignalMapNulls.{strangers_ignore}
use Rattle.tick_lines.specs.state.Samples.{samples_in}
use Rattle.tick_lines.specs.rule.Line.{tick_line_of}
use Rattle.tick_lines.specs.state.Laws.{AreAlike, ReadsOnly, line_fields, entry_fields, listing_fields, result_fields}
use Rattle.tick_lines.specs.state.Laws.{IgnoresNull, NullIsAbsent}
use Rattle.tick_lines.proofs.Alike.{only_their_fields}

differ : (q k : List ℕ) → bytes_eq q k ≡ false → q ≡ k → ⊥
differ q k other same = true≢false (sym ((bytes_eq-Decides q k).1 same) ∙ other)

alike : (q k : List ℕ) (ms : Members) → get_member k ms ≡ None
    → field_at q (object (put k null ms)) ≡ field_at q (object ms)
alike q k ms none = elim (cases_Bool (bytes_eq q k)) [
  | inl here ↦
      let same : q ≡ k = (bytes_eq-Decides q k).0 here in
      ap present (ap (λ (n : List ℕ). get_member n (put k null ms)) same ∙ get_member-put k null ms)
      ∙ sym (ap present (ap (λ (n : List ℕ). get_member n ms) same ∙ none))
  | inr other ↦ ap present (get_member-put_other q k null ms (differ q k other))
]

usage_ignores : IgnoresNull usage_in
unfolding usage_in
usage_ignores ms k none =
    rw (
      alike (codes "memory") k ms none,
      alike (codes "volumes") k ms none,
      alike (codes "logs") k ms none,
      alike (codes "writable") k ms none,
      alike (codes "inodes") k ms none,
      alike (codes "pids") k ms none,
    ) refl

samples_ignore : (scope : Scope) → IgnoresNull (samples_in scope)
unfolding read_map read_each
samples_ignore scope ms k none =
    rw (
      strangers_ignore scope k ms none,
      alike (name_of MemoryAvailable) k ms none,
      alike (name_of NodefsAvailable) k ms none,
      alike (name_of ImagefsAvailable) k ms none,
      alike (name_of NodefsInodesFree) k ms none,
      alike (name_of ImagefsInodesFree) k ms none,
      alike (name_of PidAvailable) k ms none,
    ) refl

all_alike : (names : List (List ℕ)) (k : List ℕ) (ms : Members) → get_member k ms ≡ None
    → AreAlike names (object (put k null ms)) (object ms)
all_alike [] k ms none = tt
all_alike (q ∷ names) k ms none = (alike q k ms none, all_alike names k ms none)

ignores : {A : Type 0} (names : List (List ℕ)) (read : Data → Result A TickLineFault) → ReadsOnly names read
    → IgnoresNull read
ignores names read only ms k none = only (object (put k null ms)) (object ms) (all_alike names k ms none)

pub null_is_absent : NullIsAbsent
null_is_absent = record {
  line = ignores line_fields tick_line_of only_their_fields.line;
  entry = ignores entry_fields entry_of only_their_fields.entry;
  listing = ignores listing_fields listing_of only_their_fields.listing;
  probe_result = ignores result_fields result_of only_their_fields.probe_result;
  usage = usage_ignores;
  samples = samples_ignore;
}
