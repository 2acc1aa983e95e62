use Rattle.std.proofs.lemmas.Bool.{iff_false}
use Rattle.containers.proofs.ProbedLemmas.{says_by, says_none, following}
use Rattle.containers.proofs.container.Container.is_ready.Goals as goal

pub returns-then-serves : goal.returns-then-serves
returns-then-serves c = λ spec max_restart_delay h st.
    let is = following spec max_restart_delay h c.args.self.now st in
    says_by _ spec h c.args.self.now c.ready.result is (c.ready.ensures.state spec.probes)
    ((c.serves.ensures spec h is).0 c.if-serves.true)

pub returns-else-serves : goal.returns-else-serves
returns-else-serves c = λ spec max_restart_delay h st.
    let is = following spec max_restart_delay h c.args.self.now st in
    says_none _ spec h c.serves.result (c.serves.ensures spec h is)
    (iff_false (c.serves.ensures spec h is) c.if-serves.false)
