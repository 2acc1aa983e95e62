-- The report of a trace: the rules applied by one thread, pod after pod.
use Rattle.std.specs.Prelude.{◌≡◌, ℕ, ◌<◌, List, length, Option, option_map, slice_index_or}
use Rattle.std.specs.List.{concat}
use Rattle.manifest.specs.declared.pod.PodSpec.{PodSpec}
use Rattle.node_config.specs.declared.node.NodeConfig.{NodeConfig}
use Rattle.observations.specs.declared.tick.TickObs.{TickObs}
use Rattle.qos.specs.declared.class.Qos.{Qos}
use Rattle.qos.specs.rule.Pod.{IsPodClass}
use Rattle.containers.specs.declared.status.ContainerStatus.{ContainerStatus}
use Rattle.pod_state.specs.declared.lifecycle.Lifecycle.{Lifecycle}
use Rattle.pod_state.specs.rule.Containers.{AreStatusesOf}
use Rattle.pod_state.specs.rule.Lifecycles.{IsLifecycleOf}
use Rattle.pod_piece.specs.declared.order.EvictOrder.{EvictOrder}
use Rattle.pod_piece.specs.declared.piece.EvictionRecord.{EvictionRecord}
use Rattle.pod_piece.specs.declared.status.PodFailure.{PodFailure}
use Rattle.pod_piece.specs.rule.Piece.{place_of}
use Rattle.pod_piece.specs.rule.Status.{IsFailure, reason_in, disrupted_at}
use Rattle.eviction.specs.declared.eviction.Eviction.{Eviction}
use Rattle.eviction.specs.rule.Replay.{pod_ticks, own_eviction, IsReplay}
use Rattle.event_list.specs.declared.event.Event.{Event}
use Rattle.event_list.specs.rule.Events.{AreEvents}
use Rattle.event_list.specs.rule.Totals.{totals_of}
use Rattle.node_rounds.specs.declared.summary.ConditionStatus.{ConditionStatus}
use Rattle.node_rounds.specs.rule.Summary.{AreConditionsAfter}
use Rattle.node_report.specs.rule.Lines.{pod_text, report_lines}

-- which of its own ticks evicts the pod, if one does
abbrev pub evicting_tick : ℕ → List TickObs → List (Option Eviction) → Option ℕ
evicting_tick n ticks evictions = place_of (own_eviction n ticks evictions)

-- the order to evict the pod, if it is evicted
abbrev pub evicting_order : ℕ → List TickObs → List (Option Eviction) → Option EvictOrder
evicting_order n ticks evictions = option_map (λ (e : EvictionRecord). e.order) (own_eviction n ticks evictions)

-- the lines of the pod with the number after these ticks with these evictions
pub record ArePodLines (ticks : List TickObs) (evictions : List (Option Eviction)) (n : ℕ) (pod : PodSpec)
    (bytes : List ℕ) : Type 0 where
  pub lifecycle : Lifecycle
  pub is_lifecycle : IsLifecycleOf pod (evicting_tick n ticks evictions) (pod_ticks ticks n) lifecycle
  pub containers : List ContainerStatus
  pub are_statuses : AreStatusesOf pod (evicting_tick n ticks evictions) (pod_ticks ticks n) containers
  pub qos : Qos
  pub is_qos : IsPodClass pod qos
  pub failure : Option PodFailure
  pub is_failure : IsFailure pod (own_eviction n ticks evictions) (pod_ticks ticks n) failure
  pub text : bytes ≡ pod_text n pod qos lifecycle.phase lifecycle.conditions
      (reason_in (evicting_order n ticks evictions) failure)
      (disrupted_at (evicting_order n ticks evictions) failure) containers

-- the lines of each pod, one pod after the other
pub record AreLines (ticks : List TickObs) (evictions : List (Option Eviction)) (pods : List PodSpec)
    (bytes : List ℕ) : Type 0 where
  pub parts : List (List ℕ)
  pub as_many : length parts ≡ length pods
  pub each : (n : ℕ) (d : PodSpec) (e : List ℕ) → n < length pods
      → ArePodLines ticks evictions n (slice_index_or pods n d) (slice_index_or parts n e)
  pub whole : bytes ≡ concat parts

-- the report of a node of this configuration with these pods, after these ticks
pub record IsReport (config : NodeConfig) (ticks : List TickObs) (pods : List PodSpec) (bytes : List ℕ) : Type 0 where
  pub evictions : List (Option Eviction)
  pub are_evictions : IsReplay config pods ticks evictions
  pub events : List Event
  pub are_events : AreEvents config pods ticks evictions events
  pub pod_lines : List ℕ
  pub are_pod_lines : AreLines ticks evictions pods pod_lines
  pub conditions : List ConditionStatus
  pub are_conditions : AreConditionsAfter config ticks conditions
  pub text : bytes ≡ report_lines config.name pods (length ticks) events pod_lines conditions evictions
      (totals_of ticks events)
