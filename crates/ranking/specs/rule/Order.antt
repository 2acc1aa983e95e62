-- Which of two pods is evicted first (Kubernetes, "Node-pressure Eviction", "Pod selection for kubelet
-- eviction": "whether the Pod's resource usage exceeds requests", "Pod Priority", "the Pod's resource
-- usage relative to requests"; the number as the last criterion is this profile's rule, and so is
-- that the one of requests is left out where pods request nothing of what the signal measures; where a pod without a
-- sample comes is as the kubelet does it, in this project's extended format alone).
use Rattle.std.specs.Prelude.{◌≢◌, ◌⊎◌, ℕ, ◌+◌, ◌<◌, ◌<ℤ◌, Bool, true, false, Option, Some, None, IsTrue}
use Rattle.signals.specs.declared.signal.Signal.{Signal}
use Rattle.signals.specs.declared.signal.Signal.TheVariants.{MemoryAvailable, NodefsAvailable, ImagefsAvailable}
use Rattle.signals.specs.declared.signal.Signal.TheVariants.{NodefsInodesFree, ImagefsInodesFree, PidAvailable}
use Rattle.pod_piece.specs.declared.status.PodStatus.{PodStatus}
use Rattle.ranking.specs.rule.Amounts.{used, has_requests, requested}

-- the first criterion decides, and the next one if it prefers neither
abbrev pub First : (PodStatus → PodStatus → Type 0) → (PodStatus → PodStatus → Type 0) → PodStatus → PodStatus → Type 0
First criterion next p q = criterion p q ⊎ ((criterion p q → ⊥) × (criterion q p → ⊥) × next p q)

-- p has no sample, as a tick reported, and q is not such a pod
abbrev pub UnsampledAlone : PodStatus → PodStatus → Type 0
UnsampledAlone p q = IsTrue p.usage.is_unsampled × (IsTrue q.usage.is_unsampled → ⊥)

-- a pod without a sample comes before all others; of processes, only before the pods of its own priority
abbrev pub ranks_unsampled_first : Signal → Bool
ranks_unsampled_first MemoryAvailable = true
ranks_unsampled_first NodefsAvailable = true
ranks_unsampled_first ImagefsAvailable = true
ranks_unsampled_first NodefsInodesFree = true
ranks_unsampled_first ImagefsInodesFree = true
ranks_unsampled_first PidAvailable = false

-- p comes before all that have a sample, and q has one
abbrev pub UnsampledFirst : Signal → PodStatus → PodStatus → Type 0
UnsampledFirst signal p q = IsTrue (ranks_unsampled_first signal) × UnsampledAlone p q

-- the pod's usage is above its request
abbrev pub Exceeds : Signal → Bool → PodStatus → Type 0
Exceeds signal has_dedicated_imagefs p = requested signal p.requests < used signal has_dedicated_imagefs p.usage.samples

-- p's usage is above its request, and q's is not
abbrev pub ExceedsAlone : Signal → Bool → PodStatus → PodStatus → Type 0
ExceedsAlone signal has_dedicated_imagefs p q =
    IsTrue (has_requests signal) × Exceeds signal has_dedicated_imagefs p
    × (Exceeds signal has_dedicated_imagefs q → ⊥)

-- p has a lower priority than q
abbrev pub HasLowerPriority : PodStatus → PodStatus → Type 0
HasLowerPriority p q = p.priority <ℤ q.priority

-- p's usage less its request is greater than q's; either may be below 0
abbrev pub UsesMore : Signal → Bool → PodStatus → PodStatus → Type 0
UsesMore signal has_dedicated_imagefs p q =
    used signal has_dedicated_imagefs q.usage.samples + requested signal p.requests
    < used signal has_dedicated_imagefs p.usage.samples + requested signal q.requests

-- p has a lower number than q
abbrev pub HasLowerNumber : PodStatus → PodStatus → Type 0
HasLowerNumber p q = p.number < q.number

-- p is ranked before q, so that it is evicted first
abbrev pub IsBefore : Signal → Bool → PodStatus → PodStatus → Type 0
IsBefore signal has_dedicated_imagefs =
    First (UnsampledFirst signal)
    (First (ExceedsAlone signal has_dedicated_imagefs)
    (First HasLowerPriority
    (First UnsampledAlone
    (First (UsesMore signal has_dedicated_imagefs)
    HasLowerNumber))))

-- The victim among the candidates, which are pods by their numbers, with their statuses: the one before
-- every other; none, if there is no candidate.
abbrev pub IsVictim : Signal → Bool → (ℕ → PodStatus → Type 0) → Option ℕ → Type 0
IsVictim signal has_dedicated_imagefs IsCandidate None = (n : ℕ) (p : PodStatus) → IsCandidate n p → ⊥
IsVictim signal has_dedicated_imagefs IsCandidate (Some n) =
    (p : PodStatus) × IsCandidate n p
    × ((m : ℕ) (q : PodStatus) → IsCandidate m q → m ≢ n → IsBefore signal has_dedicated_imagefs p q)
