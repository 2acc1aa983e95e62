use Rattle.probes.proofs.States as states
use Rattle.probes.proofs.probe_set.ProbeSet.kill_ordered.Goals as goal

pub returns-clause-state : goal.returns-clause-state
returns-clause-state c = λ probes start ticks st. rw c.is_some.ensures
    (states.ordered_is probes start ticks _ (c.cause.ensures.state probes start ticks st))
