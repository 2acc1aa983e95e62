use Rattle.std.proofs.Common.{◌≡◌, ◌+◌, ℕ, ◌<◌, List, [], length, slice_index_or, sym, subst, ap, arith}
use Rattle.manifest.specs.declared.pod.PodSpec.{PodSpec}
use Rattle.containers.specs.declared.container.Container.{Container}
use Rattle.histories.proofs.Items.{pushed_each}
use Rattle.pod_state.specs.state.Containers.{IsContainerOf}
use Rattle.pod_state.proofs.TickLemmas.{spec_at}
use Rattle.pod_state.proofs.ContainerLemmas.{first_is}
use Rattle.pod_state.proofs.following.first_containers.Goals as goal

pub loop-spec-preserved : goal.loop-spec-preserved
loop-spec-preserved c =
    let n = c.loop-spec.spec-index in
    let P : ℕ → Container → Type 0 = λ k x. (pod : PodSpec) → pod.containers ≡ c.args.specs.now
    → IsContainerOf pod c.args.max_restart_delay [] k x in
    let so_far = c.loop-spec.invariant in
    let here : P n c.new-container.result = λ pod same.
    first_is pod c.args.max_restart_delay n c.spec-item.result c.new-container.result
    (spec_at pod n c.args.specs.now c.spec-item.result same c.loop-spec-test.true c.spec-item.is)
    c.new-container.ensures in
    let Q : List Container → Type 0 = λ xs. (k : ℕ) (d : Container) → k < n + 1 → P k (slice_index_or xs k d) in
    record {
      as_many = omega (arith, c.in_ok-push.ensures.len, so_far.as_many);
      each = subst Q (sym c.in_ok-push.ensures.items)
          (pushed_each P c.loop-spec.containers.items c.new-container.result n so_far.as_many so_far.each here);
    }

pub returns : goal.returns
returns c = λ pod same. record {
  as_many = omega (arith, c.loop-spec.invariant.as_many, ap length same);
  each = λ k d lt. c.loop-spec.invariant.each k d (omega (arith, ap length same)) pod same;
}
