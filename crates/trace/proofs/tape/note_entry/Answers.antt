use Rattle.std.proofs.Common.{◌∙◌, [], ap, length, rules, sym}
use Rattle.json_fields.specs.state.Tape.{data_at}
use Rattle.trace.proofs.NotedItems.{as_many_shown}
use Rattle.trace.proofs.NotedPods.{found_present}
use Rattle.trace.proofs.OnTape.{entry_noted, noted_length, not_false, written_over}
use Rattle.trace.proofs.tape.note_entry.Goals as goal

pub note_results-requires : goal.note_results-requires
note_results-requires c =
    let listed = c.note_listings.ensures c.if-not-note_listings.false in
    ap (λ os. length os) listed.noted ∙ as_many_shown listed.listings [] 0 c.in-Ok.pod.now.containers

pub note_pod-requires : goal.note_pod-requires
note_pod-requires c =
    rw (c.deref_mut.ensures.value, c.requires)
    (found_present c.args.roster.now c.in-Some.entry.key.now c.in-Some-number_of.number (search rules)).1

pub returns : goal.returns
returns c heeds ds before noted =
    let free = not_false c.note_pod.result noted in
    let after = entry_noted heeds c.args.roster.now c.args.at ds (data_at c.args.value.now) c.args.slots.now.items
    c.note_pod.new.slots c.in-Some.entry c.in-Some-number_of.number c.in-Ok.pod.now c.note_listings.new.all.items
    c.note_results.new.all.items c.in_ok-shown.shown (c.note_listings.ensures c.if-not-note_listings.false)
    (λ ls is. c.note_results.ensures ls is c.if-not-note_results.false) before c.in-Some.ensures (search rules)
    (search rules) (rw (c.deref.ensures.value, c.sampled_or-sampling.ensures) at c.in_ok-shown.ensures)
    (λ es old lt. sym (c.note_pod.ensures.earlier c.args.at es c.args.roster.now.pods
    (c.deref_mut.ensures.value ∙ old) lt) ∙ free)
    (λ es e old is there shows. c.note_pod.ensures.noted c.args.at es c.args.roster.now.pods e c.in-Ok.pod.now
    (c.deref_mut.ensures.value ∙ old) is there shows free) in
    rw (written_over c.args.slots.now.len c.note_pod.new.slots c.args.slots.now.items (search rules)
    (noted_length heeds c.args.roster.now c.args.at _ c.note_pod.new.slots after ∙ sym c.requires)) after
