use Rattle.std.proofs.Common.{◌+◌, ℕ, ◌<◌, List, [], ◌∷◌, ◌++◌, slice_index_or, sym, subst}
use Rattle.std.proofs.Common.{arith}
use Rattle.std.specs.Prelude.{slice_get, unwrap_or}
use Rattle.manifest.specs.declared.pod.PodSpec.{PodSpec}
use Rattle.containers.specs.declared.container.Container.{Container}
use Rattle.containers.specs.state.Container.{Accepts}
use Rattle.histories.proofs.Items.{pushed_each}
use Rattle.histories.proofs.Lists.{some_item}
use Rattle.pod_state.specs.rule.Pods.{PodTick, pod_tick, unseen}
use Rattle.containers.specs.declared.events.ContainerEvents.{ContainerEvents}
use Rattle.pod_state.specs.state.Containers.{IsContainerOf}
use Rattle.pod_state.specs.rule.Events.{IsMadeOf}
use Rattle.pod_state.proofs.ContainerLemmas.{item_at_any}
use Rattle.pod_state.proofs.following.next_containers.Goals as goal

pub step-events-requires-clause-accepted : goal.step-events-requires-clause-accepted
step-events-requires-clause-accepted c =
    let n = c.loop-number.number in
    let may = c.requires.accepted n c.index-containers-number.result c.loop-number-test.true in
    subst (λ (x : Container). Accepts x (unwrap_or (slice_get c.args.observed.now.containers n) unseen).seen)
    (sym c.index-containers-number.is) may

pub loop-number-preserved : goal.loop-number-preserved
loop-number-preserved c =
    let n = c.loop-number.number in
    let observed = c.args.observed.now in
    let next = c.step-events.new.container in
    let events = c.step-events.result in
    let so_far = c.loop-number.invariant in
    let within = item_at_any c.args.containers.now n c.index-containers-number.result c.loop-number-test.true
    c.index-containers-number.is in
    let P : ℕ → Container → Type 0 = λ k x. (e : Container) (pod : PodSpec) (max_restart_delay : ℕ) (h : List PodTick)
    → IsContainerOf pod max_restart_delay h k (slice_index_or c.args.containers.now k e)
    → IsContainerOf pod max_restart_delay (h ++ pod_tick observed ∷ []) k x in
    let here : P n next = λ e pod max_restart_delay h is.
    c.step-events.ensures.state pod max_restart_delay h
    (within (λ x. IsContainerOf pod max_restart_delay h n x) e is) in
    let M : ℕ → ContainerEvents
    → Type 0 = λ k x. (e : Container) (max_restart_delay : ℕ) (h : List PodTick)
    → IsContainerOf c.args.pod.now max_restart_delay h k (slice_index_or c.args.containers.now k e)
    → IsMadeOf c.args.pod.now max_restart_delay h (pod_tick observed) k x in
    let made_here : M n events = λ e max_restart_delay h is.
    c.step-events.ensures.made max_restart_delay h
    (within (λ x. IsContainerOf c.args.pod.now max_restart_delay h n x) e is) in
    let Q : List Container → Type 0 = λ xs. (k : ℕ) (d : Container) → k < n + 1 → P k (slice_index_or xs k d) in
    let R : List ContainerEvents → Type 0 = λ xs. (k : ℕ) (d : ContainerEvents) → k < n + 1
    → M k (slice_index_or xs k d) in
    let all = subst Q (sym c.in_ok-push.ensures.items)
    (pushed_each P c.loop-number.all.items next n so_far.as_many (λ k d lt e. so_far.each k d e lt) here) in
    let made = subst R (sym c.in_ok-push-2.ensures.items)
    (pushed_each M c.loop-number.made.items events n so_far.as_many_made
    (λ k d lt e. so_far.each_made k d e lt) made_here) in
    record {
      as_many = omega (arith, c.in_ok-push.ensures.len, so_far.as_many);
      as_many_made = omega (arith, c.in_ok-push-2.ensures.len, so_far.as_many_made);
      each = λ k d e lt. all k d lt e;
      each_made = λ k d e lt. made k d lt e;
    }

pub returns-clause-count : goal.returns-clause-count
returns-clause-count c = omega (arith, c.loop-number.invariant.as_many)

pub returns-clause-containers : goal.returns-clause-containers
returns-clause-containers c = λ pod max_restart_delay h are. record {
  as_many = omega (arith, c.loop-number.invariant.as_many, are.as_many);
  each = λ n d lt.
      let e = some_item c.args.containers.now n (omega (arith, are.as_many)) in
      c.loop-number.invariant.each n d e (omega (arith, are.as_many)) pod max_restart_delay h (are.each n e lt);
}

pub returns-clause-made : goal.returns-clause-made
returns-clause-made c = λ max_restart_delay h are. record {
  as_many = omega (arith, c.loop-number.invariant.as_many_made, are.as_many);
  each = λ n d lt.
      let e = some_item c.args.containers.now n (omega (arith, are.as_many)) in
      c.loop-number.invariant.each_made n d e (omega (arith, are.as_many)) max_restart_delay h (are.each n e lt);
}
