use Rattle.following.specs.state.Steps.{PodsAreAccepted}
use Rattle.following.proofs.listing_order.pods_accept.Given as goal

abbrev pub invariant-loop-pod : goal.invariant-loop-pod
invariant-loop-pod l = PodsAreAccepted l.tick l.differs l.pod
