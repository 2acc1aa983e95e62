use Rattle.std.proofs.Common.{length}
use Rattle.json_fields.specs.state.Tape.{items_in}
use Rattle.trace.proofs.NotedItems.{ListingsSoFar}
use Rattle.trace.proofs.noted.has_noted_listings.Given as goal

abbrev pub invariant-loop-value : goal.invariant-loop-value
invariant-loop-value l = ListingsSoFar l.pod (items_in l.fn.items) (items_in l.items) l.all

abbrev pub decreases-loop-value : goal.decreases-loop-value
decreases-loop-value l = length l.items
