use Rattle.probes.proofs.States as states
use Rattle.probes.proofs.probe_set.ProbeSet.cause.Goals as goal

pub returns-then-has_failed-clause-state : goal.returns-then-has_failed-clause-state
returns-then-has_failed-clause-state c = λ probes start ticks st.
    let failed = states.failed_is probes start ticks c.args.self.now _ st
    (c.has_failed.ensures start ticks st.startup) in
    states.startup_cause probes start ticks st.follows.in_range (failed.0 c.if-has_failed.true)

pub returns-else-has_failed-2-clause-state : goal.returns-else-has_failed-2-clause-state
returns-else-has_failed-2-clause-state c = λ probes start ticks st.
    states.no_cause probes start ticks _ _
    (states.failed_is probes start ticks c.args.self.now _ st (c.has_failed.ensures start ticks st.startup))
    c.if-has_failed.false
    (states.dead_is probes start ticks c.args.self.now _ st (c.has_failed-else-has_failed.ensures start))
    c.if-has_failed-2.false
