use Rattle.following.specs.state.Steps.{AreAccepted}
use Rattle.following.proofs.listing_order.pod_accepts.Given as goal

abbrev pub invariant-loop-container : goal.invariant-loop-container
invariant-loop-container l = AreAccepted l.tick l.pod l.differs l.container
