use Rattle.containers.proofs.ProbedLemmas.{following}
use Rattle.containers.proofs.ViewLemmas.{status_is}
use Rattle.containers.proofs.container.Container.status.Goals as goal

pub returns : goal.returns
returns c = λ spec max_restart_delay h is.
    status_is spec h c.view-view.result c.args.is_ended_by_node c.is_ready.result c.is_started.result _
    (c.view-view.ensures spec max_restart_delay h is)
    c.container_state.ensures c.exit_code.ensures c.restarts.ensures (c.is_ready.ensures spec max_restart_delay h is)
    (c.is_started.ensures spec h (following spec max_restart_delay h c.args.self.now is))
    c.is_shown.ensures c.is_shown-2.ensures
