-- A pod has a status after every list of ticks.
use Rattle.std.proofs.Common.{◌≡◌, ℕ, ◌<◌, List, [], ◌∷◌, ◌++◌, length, Option, refl, sym, subst}
use Rattle.std.proofs.Common.{arith, append_assoc, append-nil}
use Rattle.std.specs.Prelude.{◌^◌, option_map}
use Rattle.std.specs.Global.{Vec}
use denote.RawPtr.{null_ptr}
use Rattle.histories.specs.rule.Histories.{HoldsAt}
use Rattle.histories.proofs.Decide.{test_of}
use Rattle.histories.proofs.Found.{first_or_none}
use Rattle.manifest.specs.declared.pod.PodSpec.{PodSpec}
use Rattle.manifest.specs.rule.Resources.{Resources}
use Rattle.qos.specs.rule.Resized.{resized}
use Rattle.qos.proofs.ClassLemmas.{some_pod_class}
use Rattle.containers.specs.declared.status.ContainerStatus.{ContainerStatus}
use Rattle.pod_state.specs.rule.Pods.{PodTick, EndsPod}
use Rattle.pod_state.specs.rule.Containers.{AreStatusesOf}
use Rattle.pod_state.proofs.FoundLemmas.{some_end}
use Rattle.pod_state.proofs.FoundLemmas as found
use Rattle.pod_piece.specs.declared.piece.EvictionRecord.{EvictionRecord}
use Rattle.pod_piece.specs.declared.status.NewestUsage.{NewestUsage}
use Rattle.pod_piece.specs.rule.Piece.{place_of}
use Rattle.pod_piece.specs.rule.Status.{requests_of}
use Rattle.pod_piece.specs.rule.Resources.{AreResourcesOf}
use Rattle.pod_piece.specs.rule.Usage.{IsUsageOf}
use Rattle.pod_piece.specs.state.Resources.{first_resources}
use Rattle.pod_piece.specs.state.Usage.{nothing}
use Rattle.pod_piece.proofs.Failures.{some_failure}
use Rattle.pod_piece.proofs.ResourceLemmas.{no_resources, resources_more}
use Rattle.pod_piece.proofs.UsageLemmas.{no_usage, usage_more}
use Rattle.eviction.specs.state.Laws.{SomeStatus}

-- a vector of these items
some_vector : {X : Type 0} (xs : List X) → length xs < 2 ^ 63 → (v : Vec X) × (v.items ≡ xs)
some_vector xs few = (
  record {
    ptr = null_ptr;
    len = length xs;
    cap = length xs;
    alloc = record { memory = record { seal = tt } };
    items = xs;
    ok = (refl, omega arith);
    small = few;
  },
  refl,
)

-- what a pod uses, after the ticks that follow
usage_after : (pod : PodSpec) (evicted : Option ℕ) (later h : List PodTick) (usage : NewestUsage)
    → IsUsageOf pod evicted h usage → (u : NewestUsage) × IsUsageOf pod evicted (h ++ later) u
usage_after pod evicted [] h usage is =
    let P : List PodTick → Type 0 = λ k. IsUsageOf pod evicted k usage in
    (usage, subst P (sym (append-nil h)) is)
usage_after pod evicted (x ∷ later) h usage is =
    let P : List PodTick → Type 0 = λ k. (u : NewestUsage) × IsUsageOf pod evicted k u in
    let ended = test_of (first_or_none (HoldsAt (EndsPod pod evicted) h) (some_end pod evicted h)) in
    let end = some_end pod evicted (h ++ x ∷ []) in
    let next = usage_more pod evicted end.0 h x usage ended.0 is ended.1 end.1 in
    subst P (append_assoc h (x ∷ []) later) (usage_after pod evicted later (h ++ x ∷ []) _ next)

some_usage : (pod : PodSpec) (evicted : Option ℕ) (h : List PodTick) → (u : NewestUsage) × IsUsageOf pod evicted h u
some_usage pod evicted h = usage_after pod evicted h [] nothing (no_usage pod evicted)

-- the requests and limits of its containers
resources_after : (pod : PodSpec) (evicted : Option ℕ) (later h : List PodTick) (rs : List Resources)
    → AreResourcesOf pod evicted h rs → (qs : List Resources) × AreResourcesOf pod evicted (h ++ later) qs
resources_after pod evicted [] h rs are =
    let P : List PodTick → Type 0 = λ k. AreResourcesOf pod evicted k rs in
    (rs, subst P (sym (append-nil h)) are)
resources_after pod evicted (x ∷ later) h rs are =
    let P : List PodTick → Type 0 = λ k. (qs : List Resources) × AreResourcesOf pod evicted k qs in
    let ended = test_of (first_or_none (HoldsAt (EndsPod pod evicted) h) (some_end pod evicted h)) in
    let end = some_end pod evicted (h ++ x ∷ []) in
    let next = resources_more pod evicted end.0 h x rs ended.0 are ended.1 end.1 in
    subst P (append_assoc h (x ∷ []) later) (resources_after pod evicted later (h ++ x ∷ []) _ next)

some_resources : (pod : PodSpec) (evicted : Option ℕ) (h : List PodTick)
    → (rs : List Resources) × AreResourcesOf pod evicted h rs
some_resources pod evicted h =
    resources_after pod evicted h [] (first_resources pod.containers) (no_resources pod evicted)

pub some_status : SomeStatus
some_status number pod eviction h few =
    let evicted = place_of eviction in
    let lifecycle = found.some_status.of_pod pod evicted h in
    let statuses = found.some_status.of_containers pod evicted h in
    let many : length statuses.0 ≡ length pod.containers = statuses.1.as_many in
    let vector = some_vector statuses.0 (omega arith) in
    let class = some_pod_class pod in
    let usage = some_usage pod evicted h in
    let resources = some_resources pod evicted h in
    let as_many : length resources.0 ≡ length pod.containers = resources.1.resized.as_many in
    let sizes = some_vector resources.0 (omega arith) in
    let Resized : List Resources → Type 0 = AreResourcesOf pod evicted h in
    let failure = some_failure pod eviction h in
    let Shown : List ContainerStatus → Type 0 = AreStatusesOf pod evicted h in (
      record {
        number = number;
        phase = lifecycle.0.phase;
        conditions = lifecycle.0.conditions;
        containers = vector.0;
        class = class.0;
        resources = sizes.0;
        requests = requests_of (resized pod sizes.0.items);
        usage = usage.0;
        priority = pod.priority;
        spared = pod.spared;
        order = option_map (λ (e : EvictionRecord). e.order) eviction;
        failure = failure.0;
      },
      record {
        number_is = refl;
        lifecycle = lifecycle.1;
        containers = subst Shown (sym vector.1) statuses.1;
        class = class.1;
        resources = subst Resized (sym sizes.1) resources.1;
        requests = refl;
        usage = usage.1;
        priority = refl;
        spared = refl;
        order = refl;
        failure = failure.1;
      },
    )
