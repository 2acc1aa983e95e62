use Rattle.std.proofs.Common.{◌∙◌, ℕ, List, slice_index_or, arith}
use Rattle.std.specs.Prelude.{IsTrue}
use Rattle.manifest.specs.declared.pod.PodSpec.{PodSpec}
use Rattle.containers.specs.declared.status.ContainerStatus.{ContainerStatus}
use Rattle.containers.specs.declared.container.Container.{Container}
use Rattle.std.proofs.lemmas.List.{length-set}
use Rattle.histories.proofs.Items.{set_each}
use Rattle.histories.proofs.Lists.{some_item}
use Rattle.pod_state.specs.rule.Pods.{PodTick}
use Rattle.pod_state.specs.rule.Containers.{IsShownOf}
use Rattle.pod_state.specs.state.Containers.{IsContainerOf}
use Rattle.pod_state.proofs.ContainerLemmas.{item_at_any, shown_is}
use Rattle.pod_state.proofs.following.show.Goals as goal

pub loop-number-preserved : goal.loop-number-preserved
loop-number-preserved c =
    let n = c.loop-number.number in
    let so_far = c.loop-number.invariant in
    let P : ℕ → ContainerStatus
    → Type 0 = λ k s. (e : Container) (pod : PodSpec) (max_restart_delay : ℕ) (h : List PodTick)
    → IsContainerOf pod max_restart_delay h k (slice_index_or c.args.containers.now k e)
    → IsShownOf pod (IsTrue c.args.is_ended) h k s in
    let here : P n c.status.result = λ e pod max_restart_delay h is.
    shown_is pod max_restart_delay n h c.index-containers-number.result (IsTrue c.args.is_ended) c.status.result
    (λ spec k st. c.status.ensures spec max_restart_delay k st)
    (item_at_any c.args.containers.now n c.index-containers-number.result c.loop-number-test.true
    c.index-containers-number.is (λ x. IsContainerOf pod max_restart_delay h n x) e is) in
    let all = set_each P c.loop-number.statuses.items c.status.result n
    (omega (arith, so_far.as_many, c.loop-number-test.true)) (λ k d lt e. so_far.each k d e lt) here in
    record {
      as_many = length-set c.loop-number.statuses.items n c.status.result ∙ so_far.as_many;
      each = λ k d e lt. all k d lt e;
    }

pub returns : goal.returns
returns c = λ pod max_restart_delay h are. record {
  as_many = omega (arith, c.loop-number.invariant.as_many, are.as_many);
  each = λ n d lt.
      let e = some_item c.args.containers.now n (omega (arith, are.as_many)) in
      c.loop-number.invariant.each n d e (omega (arith, are.as_many)) pod max_restart_delay h (are.each n e lt);
}
