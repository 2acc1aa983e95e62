use Rattle.json_fields.specs.state.Tape.{data_at}
use Rattle.tick_lines.proofs.Members.{listing_whole}
use Rattle.tick_lines.proofs.tape.listing_text.Goals as goal

pub loop-field-preserved : goal.loop-field-preserved
loop-field-preserved c = c.in_ok-listing.ensures _ _ _ c.in-Some.ensures.value c.loop-field.invariant

pub returns : goal.returns
returns c =
    listing_whole (data_at c.args.value.now) c.loop-field.members c.loop-field.listing c.in_ok-name.name
    c.in_ok-listing-2.field-0 c.loop-field.invariant c.in_default.ensures.value c.in_ok-name.was c.in_ok-listing-2.was
