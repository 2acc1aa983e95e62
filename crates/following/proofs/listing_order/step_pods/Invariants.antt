use Rattle.following.proofs.Steps.{PodsHaveTakenBelow}
use Rattle.following.proofs.listing_order.step_pods.Given as goal

abbrev pub invariant-loop-pod : goal.invariant-loop-pod
invariant-loop-pod l = PodsHaveTakenBelow l.tick l.pod l.initial.differs.items l.differs.items
