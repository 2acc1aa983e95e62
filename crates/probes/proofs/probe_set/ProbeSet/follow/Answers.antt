use Rattle.std.proofs.lemmas.Bool.{iff_false}
use Rattle.probes.proofs.States as states
use Rattle.probes.proofs.probe_set.ProbeSet.follow.Goals as goal

pub returns-then-counts-clause-state : goal.returns-then-counts-clause-state
returns-then-counts-clause-state c = λ probes start ticks next at startup liveness readiness st.
    let age = states.age_is c.args.self.now.start start c.unwrap.result c.args.at c.saturating_sub-age.result
    next.moment st.begins c.unwrap.ensures c.saturating_sub-age.ensures at in
    states.counts probes start ticks next c.args.self.now _ _ _ st
    ((c.started-counts.ensures.state probes start ticks st).0 c.if-counts.true)
    c.take.ensures.probe (c.take.ensures.state start ticks next age startup st.startup)
    c.take-then-counts.ensures.probe (λ counted was. c.take-then-counts.ensures.state start counted next age liveness
    was)
    c.take-then-counts-2.ensures.probe (λ counted was. c.take-then-counts-2.ensures.state start counted next age
    readiness was)

pub returns-else-counts-clause-state : goal.returns-else-counts-clause-state
returns-else-counts-clause-state c = λ probes start ticks next at startup liveness readiness st.
    let age = states.age_is c.args.self.now.start start c.unwrap.result c.args.at c.saturating_sub-age.result
    next.moment st.begins c.unwrap.ensures c.saturating_sub-age.ensures at in
    states.passes_by probes start ticks next c.args.self.now _ st
    (iff_false (c.started-counts.ensures.state probes start ticks st) c.if-counts.false)
    c.take.ensures.probe (c.take.ensures.state start ticks next age startup st.startup)
