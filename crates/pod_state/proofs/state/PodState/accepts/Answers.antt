use Rattle.std.proofs.Common.{List, sym, subst}
use Rattle.containers.specs.declared.container.Container.{Container}
use Rattle.pod_state.specs.state.Containers.{AreContainersOf}
use Rattle.pod_state.proofs.EndLemmas.{kept_all}
use Rattle.pod_state.proofs.state.PodState.accepts.Goals as goal

pub returns : goal.returns
returns c = λ pod max_restart_delay evicted h st.
    let state = c.args.self.now in
    c.are_acceptable.ensures pod max_restart_delay h
    (subst (λ (cs : List Container). AreContainersOf pod max_restart_delay h cs) (sym c.deref.ensures.value)
    (kept_all pod max_restart_delay evicted h state.lifecycle.phase state.containers.items st.progress.so_far.phase
    c.requires st.containers))
