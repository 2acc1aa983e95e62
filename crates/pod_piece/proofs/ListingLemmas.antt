-- The containers of a pod, followed by their differs.
use Rattle.std.proofs.Common.{◌≡◌, ◌∙◌, ℕ, ◌<◌, List, [], ◌∷◌, ◌++◌, length, get_or, ap, sym, subst}
use Rattle.std.proofs.Common.{arith}
use Rattle.std.specs.Prelude.{slice_get, unwrap_or}
use Rattle.histories.specs.rule.Histories.{recorded}
use Rattle.histories.proofs.Places.{project-append}
use Rattle.manifest.specs.declared.pod.PodSpec.{PodSpec}
use Rattle.observations.specs.rule.Pods.{PodObs}
use Rattle.observations.specs.declared.container.ContainerObs.{ContainerObs}
use Rattle.state_diff.specs.declared.differ.Differ.{Differ}
use Rattle.state_diff.specs.state.Differ.{IsStateOf}
use Rattle.state_diff.specs.rule.Instances.{Tick}
use Rattle.containers.specs.rule.Ticks.{listings}
use Rattle.pod_state.specs.rule.Pods.{PodTick, pod_tick, ticks_of, unseen}
use Rattle.pod_state.proofs.TickLemmas.{ticks_more}
use Rattle.pod_state.specs.state.Listings.{listed_in, AreListed}

-- the differ at a place
pub differ_at : (pod : PodSpec) (h : List PodTick) (differs : List Differ) (n : ℕ) (differ : Differ)
    → AreListed pod h differs → n < length differs
    → differ ≡ get_or differs n differ → IsStateOf (listings (ticks_of h n)) differ
differ_at pod h differs n differ are lt is = subst (λ (d : Differ). IsStateOf (listings (ticks_of h n)) d) (sym is)
    (are.each n differ lt)

-- the listings of a container, with those of one more tick
pub listings_more : (h : List PodTick) (observed : PodObs) (n : ℕ)
    → listings (ticks_of (h ++ pod_tick observed ∷ []) n) ≡ listings (ticks_of h n) ++ recorded observed.at
    (listed_in observed.containers n) ∷ []
listings_more h observed n =
    ap listings (ticks_more h (pod_tick observed) n)
    ∙ project-append (λ (shown : ContainerObs). shown.seen) (ticks_of h n)
    (recorded observed.at (unwrap_or (slice_get observed.containers n) unseen))

-- the differs after one more tick
pub listed_more : (pod : PodSpec) (h : List PodTick) (observed : PodObs) (old new : List Differ) → AreListed pod h old
    → length new ≡ length old
    → ((n : ℕ) (d e : Differ) → n < length old → (k : List Tick) → IsStateOf k (get_or old n e)
    → IsStateOf (k ++ recorded observed.at (listed_in observed.containers n) ∷ []) (get_or new n d))
    → AreListed pod (h ++ pod_tick observed ∷ []) new
listed_more pod h observed old new are as_many each = record {
  as_many = as_many ∙ are.as_many;
  each = λ n d lt.
      let within : n < length old = omega (arith, as_many, lt) in
      subst (λ (k : List Tick). IsStateOf k (get_or new n d)) (sym (listings_more h observed n))
      (each n d d within (listings (ticks_of h n)) (are.each n d within));
}
