use Rattle.std.proofs.Common.{ℕ, List, [], Option, refl, sym, subst}
use Rattle.phase.specs.declared.restart_view.RestartView.{RestartView}
use Rattle.containers.specs.declared.container.Container.{Container}
use Rattle.pod_state.specs.state.Pods.{AreViewsOf}
use Rattle.pod_state.specs.state.Containers.{AreContainersOf}
use Rattle.pod_state.specs.state.Lifecycles.{IsProgressOf}
use Rattle.pod_state.proofs.EndLemmas.{kept_none}
use Rattle.pod_state.proofs.state.PodState.new.Goals as goal

are : (c : goal.After-drop-views)
    → AreContainersOf c.args.spec.now c.args.max_restart_delay [] c.in_ok-containers.containers.items
are c = c.in_ok-containers.ensures c.args.spec.now (sym c.as_slice.ensures.same)

progress : (c : goal.After-drop-views) (evicted : Option ℕ)
    → IsProgressOf c.args.spec.now evicted [] c.new-lifecycle.result
progress c evicted =
    let spec = c.args.spec.now in
    let max_restart_delay = c.args.max_restart_delay in
    let views = c.in_ok-views.ensures max_restart_delay []
    (subst (λ (cs : List Container). AreContainersOf spec max_restart_delay [] cs) (sym c.deref.ensures.value)
    (are c)) in
    c.new-lifecycle.ensures spec evicted
    (subst (λ (vs : List RestartView). AreViewsOf spec [] vs) (sym c.deref-2.ensures.value) views)

pub returns-clause-state : goal.returns-clause-state
returns-clause-state c = λ evicted. record {
  progress = progress c evicted;
  containers = kept_none c.args.spec.now c.args.max_restart_delay evicted c.in_ok-containers.containers.items (are c);
  deleting = refl;
  gates = c.new.ensures;
}

pub returns-clause-before : goal.returns-clause-before
returns-clause-before c = progress c
