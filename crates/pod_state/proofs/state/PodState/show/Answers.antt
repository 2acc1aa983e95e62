use Rattle.std.proofs.Common.{List, IsTrue, sym, subst}
use Rattle.containers.specs.declared.container.Container.{Container}
use Rattle.pod_state.specs.state.Containers.{AreContainersOf}
use Rattle.pod_state.proofs.ContainerLemmas.{statuses_are}
use Rattle.pod_state.proofs.state.PodState.show.Goals as goal

pub returns : goal.returns
returns c = λ pod max_restart_delay evicted end h is same st.
    statuses_are pod max_restart_delay evicted end h c.args.self.now.containers.items
    (IsTrue c.args.is_ended) _ is same
    st.containers
    (λ k are. c.show.ensures pod max_restart_delay k
    (subst (λ (cs : List Container). AreContainersOf pod max_restart_delay k cs)
    (sym c.deref.ensures.value) are))
