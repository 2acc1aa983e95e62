use Rattle.std.proofs.Common.{◌+◌, ℕ, ◌<◌, List, slice_index_or, sym, subst, arith}
use Rattle.phase.specs.declared.restart_view.RestartView.{RestartView}
use Rattle.containers.specs.declared.container.Container.{Container}
use Rattle.histories.proofs.Items.{pushed_each}
use Rattle.histories.proofs.Lists.{some_item}
use Rattle.pod_state.specs.rule.Pods.{PodTick}
use Rattle.pod_state.specs.state.Pods.{IsViewOf}
use Rattle.pod_state.specs.state.Containers.{IsContainerOf}
use Rattle.pod_state.proofs.ContainerLemmas.{item_at_any}
use Rattle.pod_state.proofs.following.views_of.Goals as goal

pub loop-number-preserved : goal.loop-number-preserved
loop-number-preserved c =
    let n = c.loop-number.number in
    let pod = c.args.pod.now in
    let P : ℕ → RestartView → Type 0 = λ k v. (e : Container) (max_restart_delay : ℕ) (h : List PodTick)
    → IsContainerOf pod max_restart_delay h k (slice_index_or c.args.containers.now k e) → IsViewOf pod h k v in
    let so_far = c.loop-number.invariant in
    let here : P n c.view_of.result = λ e max_restart_delay h is.
    c.view_of.ensures max_restart_delay h
    (item_at_any c.args.containers.now n c.index-containers-number.result c.loop-number-test.true
    c.index-containers-number.is (λ x. IsContainerOf pod max_restart_delay h n x) e is) in
    let Q : List RestartView → Type 0 = λ xs. (k : ℕ) (d : RestartView) → k < n + 1 → P k (slice_index_or xs k d) in
    record {
      as_many = omega (arith, c.in_ok-push.ensures.len, so_far.as_many);
      each = subst Q (sym c.in_ok-push.ensures.items)
          (pushed_each P c.loop-number.views.items c.view_of.result n so_far.as_many so_far.each here);
    }

pub returns : goal.returns
returns c = λ max_restart_delay h are. record {
  as_many = omega (arith, c.loop-number.invariant.as_many, are.as_many);
  each = λ n d lt.
      let e = some_item c.args.containers.now n (omega (arith, are.as_many)) in
      c.loop-number.invariant.each n d (omega (arith, are.as_many)) e max_restart_delay h (are.each n e lt);
}
