use Rattle.std.proofs.Common.{List, ℕ, Option, sym, subst}
use Rattle.containers.specs.declared.container.Container.{Container}
use Rattle.pod_state.specs.rule.Pods.{counted}
use Rattle.pod_state.specs.state.Containers.{AreContainersOf}
use Rattle.pod_state.proofs.EndLemmas.{IsEnd-unique}
use Rattle.pod_state.proofs.state.PodState.list.Goals as goal

pub returns : goal.returns
returns c = λ pod max_restart_delay evicted end h is st.
    let kept = subst
    (λ (o : Option ℕ). AreContainersOf pod max_restart_delay (counted h o) c.args.self.now.containers.items)
    (IsEnd-unique pod evicted h st.containers.end end st.containers.is_end is) st.containers.kept in
    c.list.ensures pod max_restart_delay (counted h end)
    (subst (λ (cs : List Container). AreContainersOf pod max_restart_delay (counted h end) cs)
    (sym c.deref.ensures.value) kept)
