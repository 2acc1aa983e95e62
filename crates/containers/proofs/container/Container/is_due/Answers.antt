use Rattle.containers.proofs.RestartLemmas.{due_by}
use Rattle.containers.proofs.container.Container.is_due.Goals as goal

pub returns : goal.returns
returns c = λ max_restart_delay exits is. due_by max_restart_delay exits c.due.result c.args.last_at c.args.at
    c.falls_due.result
    (c.due.ensures max_restart_delay exits is) c.falls_due.ensures
