-- The texts by which an entry, a listing and a result go.
use Rattle.std.proofs.Common.{◌≡◌, ◌∙◌, Some, Ok, ap}
use Rattle.std.specs.Prelude.{codes}
use Rattle.serde_json.specs.Data.{Data}
use Rattle.json_fields.specs.rule.Fields.{text_at}
use Rattle.json_fields.specs.rule.Reading.{some_or}
use Rattle.json_fields.proofs.Steps.{bind_ok, there_is}
use Rattle.json_fields.proofs.Only.{same_value}
use Rattle.tick_lines.specs.declared.entry.TickEntry.{TickEntry}
use Rattle.tick_lines.specs.declared.fault.TickLineFault.TheVariants.{Usage}
use Rattle.tick_lines.specs.declared.listing.Listing.{Listing}
use Rattle.tick_lines.specs.declared.probing.ProbeResult.{ProbeResult}
use Rattle.tick_lines.specs.rule.Listings.{instance_of, listing_of}
use Rattle.tick_lines.specs.rule.Results.{probe_named, outcome_named, result_of}
use Rattle.tick_lines.specs.rule.Entries.{entry_of}
use Rattle.tick_lines.specs.state.Laws.{TextsSaid}
use Rattle.tick_lines.proofs.Parts.{entry_parts}

entry_said : (d : Data) (entry : TickEntry) → entry_of d ≡ Ok entry → text_at (codes "pod") d ≡ Some entry.key
entry_said d entry e = there_is Usage _ _ (entry_parts d entry e).key

listing_said : (d : Data) (listing : Listing) → listing_of d ≡ Ok listing → text_at (codes "name") d ≡ Some listing.name
unfolding listing_of
listing_said d listing e =
    let name = bind_ok (some_or Usage (text_at (codes "name") d)) _ listing e in
    let instance = bind_ok (instance_of d) _ listing name.2 in
    there_is Usage _ _ name.1 ∙ ap (λ (x : Listing). Some x.name) (same_value _ listing instance.2)

result_said : (d : Data) (r : ProbeResult) → result_of d ≡ Ok r → text_at (codes "container") d ≡ Some r.container
unfolding result_of
result_said d r e =
    let container = bind_ok (some_or Usage (text_at (codes "container") d)) _ r e in
    let probe = bind_ok (probe_named (text_at (codes "probe") d)) _ r container.2 in
    let outcome = bind_ok (outcome_named (text_at (codes "result") d)) _ r probe.2 in
    there_is Usage _ _ container.1 ∙ ap (λ (x : ProbeResult). Some x.container) (same_value _ r outcome.2)

pub texts_said : TextsSaid
texts_said = record { entry = entry_said; listing = listing_said; probe_result = result_said }
