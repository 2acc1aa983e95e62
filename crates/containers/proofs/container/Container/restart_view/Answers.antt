use Rattle.containers.proofs.ViewLemmas.{restart_view_is}
use Rattle.containers.proofs.container.Container.restart_view.Goals as goal

pub returns : goal.returns
returns c = λ spec max_restart_delay h own is.
    restart_view_is c.args.policy spec h _ c.view-view.result c.exit_code.result c.wants_after.result own
    (c.view-view.ensures spec max_restart_delay h is) c.exit_code.ensures c.wants_after.ensures
