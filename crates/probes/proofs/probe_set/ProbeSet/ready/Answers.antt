use Rattle.probes.proofs.States as states
use Rattle.probes.proofs.probe_set.ProbeSet.ready.Goals as goal

pub returns-then-started-clause-state : goal.returns-then-started-clause-state
returns-then-started-clause-state c = λ probes start ticks st.
    states.ready_is probes start ticks c.args.self.now _ st
    ((c.started.ensures.state probes start ticks st).0 c.if-started.true) (c.is_ready.ensures start)
