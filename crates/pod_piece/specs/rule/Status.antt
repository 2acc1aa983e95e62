-- What a pod's status shows. (Kubernetes, "Pod Lifecycle"; "Pod Quality of Service Classes"; "Node-pressure
-- Eviction".)
use Rattle.std.specs.Prelude.{◌≡◌, ℕ, ◌||◌, Bool, List, Option, Some, None, option_map, option_and_then, slice_get}
use Rattle.std.specs.Prelude.{if◌then◌else◌, false, codes}
use Rattle.std.specs.Str.{bytes_eq}
use Rattle.manifest.specs.declared.pod.PodSpec.{PodSpec}
use Rattle.manifest.specs.declared.resources.Resource.TheVariants.{Cpu, Memory, EphemeralStorage}
use Rattle.qos.specs.rule.Pod.{IsPodClass, pod_request_of}
use Rattle.qos.specs.rule.Resized.{resized}
use Rattle.phase.specs.rule.RawPhase.{IsTerminal}
use Rattle.pod_state.specs.rule.Pods.{PodTick, IsEnd}
use Rattle.pod_state.specs.rule.Containers.{AreStatusesOf}
use Rattle.pod_state.specs.rule.Lifecycles.{IsLifecycleOf}
use Rattle.pod_piece.specs.declared.piece.EvictionRecord.{EvictionRecord}
use Rattle.pod_piece.specs.declared.status.EffectiveRequests.{EffectiveRequests}
use Rattle.pod_piece.specs.declared.order.EvictOrder.{EvictOrder}
use Rattle.pod_piece.specs.declared.status.PodFailure.{PodFailure}
use Rattle.pod_piece.specs.declared.status.PodStatus.{PodStatus}
use Rattle.pod_piece.specs.rule.Piece.{place_of}
use Rattle.pod_piece.specs.rule.Resources.{AreResourcesOf}
use Rattle.pod_piece.specs.rule.Usage.{IsUsageOf}

-- a pod's requests, by which it is ranked
abbrev pub requests_of : PodSpec → EffectiveRequests
requests_of pod = record {
  cpu = pod_request_of Cpu pod;
  memory = pod_request_of Memory pod;
  ephemeral_storage = pod_request_of EphemeralStorage pod;
}

-- how the node has ended the pod with this tick, if the tick reports it
abbrev pub failure_in : PodTick → Option PodFailure
failure_in tick = option_map (λ reason. record { at = tick.moment; reason = reason }) tick.entry.words.failed

-- the same of the tick at the place
abbrev pub failure_at : List PodTick → ℕ → Option PodFailure
failure_at h t = option_and_then failure_in (slice_get h t)

-- how the node has ended the pod, except by an eviction: as the tick reports it that ended the pod
abbrev pub IsFailure : PodSpec → Option EvictionRecord → List PodTick → Option PodFailure → Type 0
IsFailure pod (Some eviction) h failure = failure ≡ None
IsFailure pod None h failure =
    (end : Option ℕ) × IsEnd pod None h end × (failure ≡ option_and_then (failure_at h) end)

-- why the pod has failed: it was evicted, or the node has ended it for this reason
abbrev pub reason_in : Option EvictOrder → Option PodFailure → Option (List ℕ)
reason_in (Some order) failure = Some (codes "Evicted")
reason_in None failure = option_map (λ (f : PodFailure). f.reason) failure

-- the node ends a pod for such a reason to make room, or as it shuts down
abbrev pub disrupts : List ℕ → Bool
disrupts reason =
    bytes_eq reason (codes "Evicted")
    || (bytes_eq reason (codes "Preempting") || bytes_eq reason (codes "Terminated"))

-- the moment from which on the pod is disrupted by the node: the moment of its eviction, or of an end for such a reason
abbrev pub disrupted_at : Option EvictOrder → Option PodFailure → Option ℕ
disrupted_at (Some order) failure = Some order.at
disrupted_at None None = None
disrupted_at None (Some failure) = if disrupts failure.reason then Some failure.at else None

-- a pod of this status may be evicted by a tick of the moment: the node doesn't exempt it, and it has not ended, or
-- that tick reports that the node has ended it
pub record MayBeEvicted (at : ℕ) (status : PodStatus) : Type 0 where
  pub not_spared : status.spared ≡ false
  pub lives : IsTerminal status.phase → option_map (λ (f : PodFailure). f.at) status.failure ≡ Some at

-- what a status shows of a pod with a number, after these ticks of it
pub record IsStatusAfter (number : ℕ) (pod : PodSpec) (eviction : Option EvictionRecord) (h : List PodTick)
    (status : PodStatus) : Type 0 where
  pub number_is : status.number ≡ number
  pub lifecycle : IsLifecycleOf pod (place_of eviction) h
      (record { phase = status.phase; conditions = status.conditions })
  pub containers : AreStatusesOf pod (place_of eviction) h status.containers.items
  pub class : IsPodClass pod status.class
  pub resources : AreResourcesOf pod (place_of eviction) h status.resources.items
  pub requests : status.requests ≡ requests_of (resized pod status.resources.items)
  pub usage : IsUsageOf pod (place_of eviction) h status.usage
  pub priority : status.priority ≡ pod.priority
  pub spared : status.spared ≡ pod.spared
  pub order : status.order ≡ option_map (λ (e : EvictionRecord). e.order) eviction
  pub failure : IsFailure pod eviction h status.failure
