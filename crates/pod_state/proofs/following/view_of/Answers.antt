use Rattle.pod_state.proofs.ContainerLemmas.{view_is}
use Rattle.pod_state.proofs.following.view_of.Goals as goal

pub returns : goal.returns
returns c = λ max_restart_delay h is.
    view_is c.args.pod.now max_restart_delay c.args.number h _ c.args.container.now c.restart_view.result
    c.own_restarts_of.ensures (λ spec k own st. c.restart_view.ensures spec max_restart_delay k own st) is
