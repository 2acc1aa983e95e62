use Rattle.containers.proofs.RestartLemmas.{backs_off_by}
use Rattle.containers.proofs.container.Container.backs_off.Goals as goal

pub returns : goal.returns
returns c = λ spec h own is.
    backs_off_by c.args.policy spec h c.to_restart.result c.exited_at.result c.args.at c.is_backed_off.result
    (c.to_restart.ensures spec h own is) (c.exited_at.ensures _ is.differ) c.is_backed_off.ensures
