use Rattle.std.proofs.Common.{◌∙◌, ◌++◌, ◌∷◌, [], true, ap, rules, sym}
use Rattle.json_fields.specs.state.Tape.{data_at, items_in}
use Rattle.std.proofs.lemmas.List.{append_assoc}
use Rattle.trace.proofs.OnTape.{noted_length}
use Rattle.trace.proofs.tape.note_entries.Goals as goal

pub note_entry-requires : goal.note_entry-requires
note_entry-requires c = noted_length true _ _ _ _ (c.loop-value.invariant.2 true)

pub loop-value-preserved : goal.loop-value-preserved
loop-value-preserved c = (
  c.loop-value.invariant.0 ++ data_at c.in-Some.value ∷ [],
  c.loop-value.invariant.1 ∙ ap (λ ds. c.loop-value.invariant.0 ++ ds) c.in-Some.ensures.value
      ∙ sym (append_assoc c.loop-value.invariant.0 (data_at c.in-Some.value ∷ []) (items_in c.next.new.self)),
  λ heeds. c.in_ok-note_entry.ensures heeds c.loop-value.invariant.0 (c.loop-value.invariant.2 heeds) (search rules),
)
