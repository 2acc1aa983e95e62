use Rattle.std.proofs.Common.{◌≡◌, ◌∙◌, ◌+◌, ◌<◌, ◌∷◌, ◌++◌, [], List, Result, Ok, length, drop, slice_index_or}
use Rattle.std.proofs.Common.{ap, sym, arith}
use Rattle.std.proofs.lemmas.List.{drop_more}
use Rattle.json_fields.specs.rule.Reading.{◌>>=◌}
use Rattle.json_fields.proofs.Each.{with_front}
use Rattle.json_fields.proofs.Steps.{then_ok}
use Rattle.tick_lines.specs.declared.entry.TickEntry.{TickEntry}
use Rattle.trace.specs.rule.Placing.{entry_of_pod}
use Rattle.trace.specs.state.Placing.{entries_of_pods}
use Rattle.trace.proofs.Placed.{in_front}
use Rattle.trace.proofs.placing.entries_of_pods.Goals as goal

pub loop-place-preserved : goal.loop-place-preserved
loop-place-preserved c =
    let heeds = c.args.heeds in
    let pods = c.args.pods.now in
    let numbers = c.args.numbers.now in
    let entries = c.args.entries.now in
    let i = c.loop-place.place in
    let n = slice_index_or numbers i 0 in
    let entry = c.index-entries-place.result in
    let all = c.loop-place.all.items in
    let placed = c.in_ok-placed.placed in
    let rest = entries_of_pods heeds pods (drop (i + 1) numbers) (drop (i + 1) entries) in
    let below : i < length entries = c.loop-place-test.true in
    let within : i < length numbers = omega (arith, below, c.requires) in
    let at_number = drop_more numbers i 0 within in
    let at_entry = drop_more entries i entry below
    ∙ ap (λ (e : TickEntry). e ∷ drop (i + 1) entries) (sym c.index-entries-place.is) in
    let both = ap (λ ns. entries_of_pods heeds pods ns (drop i entries)) at_number
    ∙ ap (λ es. entries_of_pods heeds pods (n ∷ drop (i + 1) numbers) es) at_entry in
    ap (λ xs. with_front xs rest) c.in_ok-add.ensures.added
    ∙ in_front all placed rest
    ∙ sym (ap (λ r. with_front all r) (then_ok (entry_of_pod heeds pods n entry)
    (λ one. rest >>= λ xs. Ok (one ∷ xs)) placed c.in_ok-placed.ensures))
    ∙ sym (ap (λ r. with_front all r) both)
    ∙ c.loop-place.invariant
