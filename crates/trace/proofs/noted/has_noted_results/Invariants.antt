use Rattle.std.proofs.Common.{◌≡◌, [], List, length}
use Rattle.json_fields.specs.state.Tape.{items_in}
use Rattle.trace.specs.declared.placing.PlacedListing.{PlacedListing}
use Rattle.trace.specs.rule.Observed.{containers_from}
use Rattle.trace.proofs.NotedItems.{ResultsSoFar}
use Rattle.trace.proofs.noted.has_noted_results.Given as goal

abbrev pub invariant-loop-value : goal.invariant-loop-value
invariant-loop-value l = (ls : List PlacedListing) → l.fn.all ≡ containers_from ls [] 0 l.pod.containers
    → ResultsSoFar l.pod ls (items_in l.fn.items) (items_in l.items) l.all

abbrev pub decreases-loop-value : goal.decreases-loop-value
decreases-loop-value l = length l.items
