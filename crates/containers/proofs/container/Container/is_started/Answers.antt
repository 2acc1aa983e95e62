use Rattle.std.proofs.lemmas.Bool.{iff_false}
use Rattle.containers.proofs.ProbedLemmas.{says_by, says_none}
use Rattle.containers.proofs.container.Container.is_started.Goals as goal

pub returns-then-serves : goal.returns-then-serves
returns-then-serves c = λ spec h is.
    says_by _ spec h c.args.self.now c.started.result is (c.started.ensures.state spec.probes)
    ((c.serves.ensures spec h is).0 c.if-serves.true)

pub returns-else-serves : goal.returns-else-serves
returns-else-serves c = λ spec h is. says_none _ spec h c.serves.result (c.serves.ensures spec h is)
    (iff_false (c.serves.ensures spec h is) c.if-serves.false)
