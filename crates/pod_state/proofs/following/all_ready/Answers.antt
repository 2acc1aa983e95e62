use Rattle.std.proofs.Common.{◌≡◌, ℕ, ◌<◌, length, slice_index_or, inl, inr, sym, subst, arith}
use Rattle.std.proofs.lemmas.Bool.{cases_lt, iff_false}
use Rattle.histories.proofs.Lists.{some_item}
use Rattle.pod_state.specs.rule.Pods.{Serves, IsReadyInPod}
use Rattle.pod_state.specs.state.Containers.{IsContainerOf}
use Rattle.pod_state.proofs.ContainerLemmas.{item_at, serving_ready, serving_within}
use Rattle.pod_state.proofs.following.all_ready.Goals as goal

pub returns-then-not-is_ready_or_init : goal.returns-then-not-is_ready_or_init
returns-then-not-is_ready_or_init c = λ pod max_restart_delay h are.
    let n = c.loop-container.container-index in
    let e = c.container-item.result in
    let lt : n < length c.args.containers.now = c.loop-container-test.true in
    let of : IsContainerOf pod max_restart_delay h n e = item_at pod max_restart_delay h n c.args.containers.now e e lt
    c.container-item.is (are.each n e (omega (arith, are.as_many))) in
    let is = serving_ready pod max_restart_delay n h e c.is_ready_or_init.result
    (λ spec k st. c.is_ready_or_init.ensures spec max_restart_delay k st) of in
    ((λ t. absurd (cc)), (λ all. absurd (iff_false is c.if-not-is_ready_or_init.true (all n))))

pub loop-container-preserved : goal.loop-container-preserved
loop-container-preserved c = λ k e lt pod max_restart_delay h of serves.
    let n = c.loop-container.container-index in
    elim (cases_lt k n) [
      | inl below ↦ c.loop-container.invariant k e below pod max_restart_delay h of serves
      | inr above ↦
          let here : n ≡ k = omega arith in
          let x = c.container-item.result in
          let P : ℕ
          → Type 0 = λ i. IsContainerOf pod max_restart_delay h i (slice_index_or c.args.containers.now i e) in
          let Q : ℕ → Type 0 = λ i. IsReadyInPod pod h i in
          let S : ℕ → Type 0 = λ i. Serves pod i in
          let at : IsContainerOf pod max_restart_delay h n x =
          item_at pod max_restart_delay h n c.args.containers.now x e
          c.loop-container-test.true c.container-item.is (subst P (sym here) of) in
          let is = serving_ready pod max_restart_delay n h x c.is_ready_or_init.result
          (λ spec k st. c.is_ready_or_init.ensures spec max_restart_delay k st) at in
          subst Q here (is.0 c.if-not-is_ready_or_init.false (subst S (sym here) serves))
    ]

pub returns : goal.returns
returns c = λ pod max_restart_delay h are. (
  (λ t n serves.
      let lt = serving_within pod n serves in
      let e = some_item c.args.containers.now n (omega (arith, are.as_many)) in
      c.loop-container.invariant n e (omega (arith, are.as_many)) pod max_restart_delay h (are.each n e lt) serves),
  (λ all. cc),
)
