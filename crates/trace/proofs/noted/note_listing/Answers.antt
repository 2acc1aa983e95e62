use Rattle.std.proofs.Common.{rules}
use Rattle.trace.proofs.NotedContainers.{listing_earlier, listing_noted}
use Rattle.trace.proofs.noted.note_listing.Goals as goal

pub returns-then-is_some : goal.returns-then-is_some
returns-then-is_some c =
    listing_earlier c.args.listing c.args.all.now c.index-all-listing.result c.requires c.index-all-listing.is
    (search rules)

pub returns : goal.returns
returns c =
    listing_noted c.args.listing c.args.all.now c.index-all-listing.result c.index-all-listing-2.result
    c.seen_listed.result c.requires c.index-all-listing.is c.index-all-listing-2.is (search rules) c.seen_listed.ensures
