use Rattle.following.proofs.Steps.{HaveTakenBelow}
use Rattle.following.proofs.listing_order.step_pod.Given as goal

abbrev pub invariant-loop-container : goal.invariant-loop-container
invariant-loop-container l = HaveTakenBelow l.tick l.pod l.container l.initial.differs.items l.differs.items
