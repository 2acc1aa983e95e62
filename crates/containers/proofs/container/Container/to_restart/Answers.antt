use Rattle.containers.proofs.RestartLemmas.{restarts_by}
use Rattle.containers.proofs.container.Container.to_restart.Goals as goal

pub returns : goal.returns
returns c = λ spec h own is a.
    let by = restarts_by c.args.policy spec h _ c.args.self.now.role c.newest.result own is.role
    (c.newest.ensures _ is.differ) a in
    ((λ e. by.0 ((c.to_restart.ensures a).0 e)), (λ t. (c.to_restart.ensures a).1 (by.1 t)))
