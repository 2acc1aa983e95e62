-- What a pod uses: each resource by its newest sample (Kubernetes, "Node-pressure Eviction", "Pod
-- selection for kubelet eviction"; that a sample stands until the next, that a tick may say that there is none, and
-- that those after the pod's end don't count, are this profile's rules).
use Rattle.std.specs.Prelude.{◌≡◌, ℕ, Bool, true, false, List, Option, Some, None, option_map, unwrap_or, IsSome}
use Rattle.std.specs.Prelude.{IsSomeAnd}
use Rattle.std.specs.Option.{option_flatten}
use Rattle.histories.specs.rule.Histories.{entry_at, IsLast}
use Rattle.manifest.specs.declared.pod.PodSpec.{PodSpec}
use Rattle.observations.specs.declared.usage.Sampling.{Sampling}
use Rattle.observations.specs.declared.usage.Sampling.TheVariants.{Unsaid, Unsampled, Sampled}
use Rattle.observations.specs.declared.usage.Usage.{Usage}
use Rattle.pod_state.specs.rule.Pods.{PodEntry, PodTick, IsEnd, counted}
use Rattle.pod_piece.specs.declared.status.NewestUsage.{NewestUsage}

-- the sampling of a resource by a tick: that there is no sample, or one, if the tick has one
abbrev pub sample_said : (Usage → Option ℕ) → Sampling → Option (Option ℕ)
sample_said resource Unsaid = None
sample_said resource Unsampled = Some None
sample_said resource (Sampled usage) = option_map (λ amount. Some amount) (resource usage)

-- whether a tick reports that the pod has no sample
abbrev pub unsampled_said : Sampling → Option Bool
unsampled_said Unsaid = None
unsampled_said Unsampled = Some true
unsampled_said (Sampled usage) = Some false

-- the tick has something of it
abbrev pub Says : {A : Type 0} → (PodEntry → Option A) → PodEntry → Type 0
Says said entry = IsSome (said entry)

-- what the last tick reports that has something of it, if any has
abbrev pub IsLastSaid : {A : Type 0} → (PodEntry → Option A) → List PodTick → Option A → Type 0
IsLastSaid said h None = (t : ℕ) → IsSomeAnd (entry_at h t) (Says said) → ⊥
IsLastSaid said h (Some last) =
    (t : ℕ) × IsLast (λ u. IsSomeAnd (entry_at h u) (Says said)) t
    × IsSomeAnd (entry_at h t) (λ entry. said entry ≡ Some last)

-- the newest sample of a resource, if there is one
pub record IsNewestSample (resource : Usage → Option ℕ) (h : List PodTick) (amount : Option ℕ) : Type 0 where
  pub last : Option (Option ℕ)
  pub is_last : IsLastSaid (λ entry. sample_said resource entry.sampling) h last
  pub amount_is : amount ≡ option_flatten last

-- the pod has no sample, by the last tick that has a sample or reports that there is none
pub record IsUnsampled (h : List PodTick) (is_unsampled : Bool) : Type 0 where
  pub last : Option Bool
  pub is_last : IsLastSaid (λ entry. unsampled_said entry.sampling) h last
  pub is : is_unsampled ≡ unwrap_or last false

-- the newest sample of each resource
pub record AreNewestSamples (h : List PodTick) (usage : NewestUsage) : Type 0 where
  pub memory : IsNewestSample (λ u. u.memory) h usage.samples.memory
  pub volumes : IsNewestSample (λ u. u.volumes) h usage.samples.volumes
  pub logs : IsNewestSample (λ u. u.logs) h usage.samples.logs
  pub writable : IsNewestSample (λ u. u.writable) h usage.samples.writable
  pub inodes : IsNewestSample (λ u. u.inodes) h usage.samples.inodes
  pub pids : IsNewestSample (λ u. u.pids) h usage.samples.pids
  pub unsampled : IsUnsampled h usage.is_unsampled

-- what the pod uses, by the ticks that count
pub record IsUsageOf (pod : PodSpec) (evicted : Option ℕ) (h : List PodTick) (usage : NewestUsage) : Type 0 where
  pub end : Option ℕ
  pub is_end : IsEnd pod evicted h end
  pub newest : AreNewestSamples (counted h end) usage
