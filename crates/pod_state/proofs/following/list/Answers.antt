use Rattle.std.proofs.Common.{◌∙◌, ℕ, List, slice_index_or, arith}
use Rattle.manifest.specs.declared.pod.PodSpec.{PodSpec}
use Rattle.state_diff.specs.declared.differ.Differ.{Differ}
use Rattle.state_diff.specs.state.Differ.{IsStateOf}
use Rattle.containers.specs.declared.container.Container.{Container}
use Rattle.containers.specs.rule.Ticks.{listings}
use Rattle.std.proofs.lemmas.List.{length-set}
use Rattle.histories.proofs.Items.{set_each}
use Rattle.histories.proofs.Lists.{some_item}
use Rattle.pod_state.specs.rule.Pods.{PodTick, ticks_of}
use Rattle.pod_state.specs.state.Containers.{IsContainerOf}
use Rattle.pod_state.proofs.ContainerLemmas.{item_at_any, of_container}
use Rattle.pod_state.proofs.following.list.Goals as goal

pub loop-number-preserved : goal.loop-number-preserved
loop-number-preserved c =
    let n = c.loop-number.number in
    let so_far = c.loop-number.invariant in
    let P : ℕ → Differ
    → Type 0 = λ k s. (e : Container) (pod : PodSpec) (max_restart_delay : ℕ) (h : List PodTick)
    → IsContainerOf pod max_restart_delay h k (slice_index_or c.args.containers.now k e)
    → IsStateOf (listings (ticks_of h k)) s in
    let here : P n c.differ.result = λ e pod max_restart_delay h is.
    of_container pod max_restart_delay n h c.index-containers-number.result
    (λ k. IsStateOf (listings k) c.differ.result) (λ spec k st. c.differ.ensures spec max_restart_delay k st)
    (item_at_any c.args.containers.now n c.index-containers-number.result c.loop-number-test.true
    c.index-containers-number.is (λ x. IsContainerOf pod max_restart_delay h n x) e is) in
    let all = set_each P c.loop-number.differs.items c.differ.result n
    (omega (arith, so_far.as_many, c.loop-number-test.true)) (λ k d lt e. so_far.each k d e lt) here in
    record {
      as_many = length-set c.loop-number.differs.items n c.differ.result ∙ so_far.as_many;
      each = λ k d e lt. all k d lt e;
    }

pub returns : goal.returns
returns c = λ pod max_restart_delay h are. record {
  as_many = omega (arith, c.loop-number.invariant.as_many, are.as_many);
  each = λ n d lt.
      let e = some_item c.args.containers.now n (omega (arith, c.loop-number.invariant.as_many, lt)) in
      c.loop-number.invariant.each n d e (omega (arith, c.loop-number.invariant.as_many, lt)) pod max_restart_delay h
      (are.each n e (omega (arith, c.loop-number.invariant.as_many, are.as_many, lt)));
}
