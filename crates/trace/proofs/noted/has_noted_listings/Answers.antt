use Rattle.std.proofs.Common.{◌∙◌, sym}
use Rattle.json_fields.specs.state.Tape.{data_at, items_in}
use Rattle.trace.proofs.NotedItems.{listing_has_place, listings_more}
use Rattle.trace.proofs.noted.has_noted_listings.Goals as goal

pub note_listing-requires : goal.note_listing-requires
note_listing-requires c =
    listing_has_place c.args.pod.now (items_in c.args.items) (items_in c.loop-value.items) c.loop-value.all
    (data_at c.in-Some.value) c.in-Some-listing_near.listing c.loop-value.invariant c.in-Some-listing_near.ensures

pub loop-value-preserved : goal.loop-value-preserved
loop-value-preserved c =
    listings_more c.args.pod.now (items_in c.args.items) (items_in c.loop-value.items) c.loop-value.all
    c.note_listing.new.all (data_at c.in-Some.value) (items_in c.next.new.self) c.in-Some-listing_near.listing
    c.note_listing.result c.loop-value.invariant c.in-Some.ensures.value c.in-Some-listing_near.ensures
    (sym c.lacks_code.ensures ∙ c.if-lacks_code.false) c.note_listing.ensures c.if-note_listing.false
