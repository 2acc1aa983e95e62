-- The statements of the laws.
use Rattle.std.specs.Prelude.{◌≡◌, ◌⊎◌, ◌^◌, ◌<◌, ◌≤◌, ◌-◌, ℕ, true, List, length, [], ◌∷◌, ◌++◌, take, slice_get}
use Rattle.std.specs.Prelude.{Option, Some, None, IsSome, option_map}
use Rattle.manifest.specs.declared.pod.PodSpec.{PodSpec}
use Rattle.observations.specs.declared.tick.TickObs.{TickObs}
use Rattle.observations.specs.rule.Observations.{shown_of}
use Rattle.node_config.specs.declared.node.NodeConfig.{NodeConfig}
use Rattle.node_signals.specs.declared.key.ThresholdKey.{ThresholdKey}
use Rattle.node_signals.specs.rule.Thresholds.{Asks, IsServed}
use Rattle.pod_state.specs.rule.Pods.{PodTick, IsEnd}
use Rattle.pod_piece.specs.declared.piece.EvictionRecord.{EvictionRecord}
use Rattle.pod_piece.specs.declared.status.PodFailure.{PodFailure}
use Rattle.pod_piece.specs.declared.status.PodStatus.{PodStatus}
use Rattle.pod_piece.specs.rule.Piece.{place_of}
use Rattle.pod_piece.specs.rule.Status.{IsStatusAfter, failure_at}
use Rattle.eviction.specs.declared.eviction.Eviction.{Eviction}
use Rattle.eviction.specs.rule.Replay.{pod_ticks, own_eviction, pause_in, is_over_in, IsChoiceOfTick, IsReplay}

-- a pod of as many containers as a status can show has a status, whenever it is evicted and whatever
-- its ticks are
abbrev pub SomeStatus : Type 0
SomeStatus =
    (number : ℕ) (pod : PodSpec) (eviction : Option EvictionRecord) (h : List PodTick)
    → length pod.containers < 2 ^ 63
    → (status : PodStatus) × IsStatusAfter number pod eviction h status

-- the ticks have a list of evictions, whatever they are
abbrev pub SomeReplay : Type 0
SomeReplay =
    (config : NodeConfig) (pods : List PodSpec) (ticks : List TickObs)
    → (evictions : List (Option Eviction)) × IsReplay config pods ticks evictions

-- the ticks have at most one list of evictions
abbrev pub OneReplay : Type 0
OneReplay =
    (config : NodeConfig) (pods : List PodSpec) (ticks : List TickObs) (one other : List (Option Eviction))
    → IsReplay config pods ticks one → IsReplay config pods ticks other → one ≡ other

-- in a tick the rules choose a pod, or none, whatever came before it
abbrev pub SomeChoice : Type 0
SomeChoice =
    (config : NodeConfig) (pods : List PodSpec) (before : List TickObs) (tick : TickObs)
    (evictions : List (Option Eviction))
    → (choice : Option Eviction) × IsChoiceOfTick config pods before tick evictions choice

-- in a tick the rules have one choice at most
abbrev pub OneChoice : Type 0
OneChoice =
    (config : NodeConfig) (pods : List PodSpec) (before : List TickObs) (tick : TickObs)
    (evictions : List (Option Eviction)) (one other : Option Eviction)
    → IsChoiceOfTick config pods before tick evictions one → IsChoiceOfTick config pods before tick evictions other
    → one ≡ other

-- if the trace reports whom the node evicted, the rules evict nobody
abbrev pub RecordedAlone : Type 0
RecordedAlone =
    (config : NodeConfig) (pods : List PodSpec) (ticks : List TickObs) (evictions : List (Option Eviction))
    (t : ℕ) (eviction : Option Eviction)
    → config.evictions_recorded ≡ true → IsReplay config pods ticks evictions
    → slice_get evictions t ≡ Some eviction → eviction ≡ None

-- no pod is evicted by two ticks
abbrev pub EvictedOnce : Type 0
EvictedOnce =
    (config : NodeConfig) (pods : List PodSpec) (ticks : List TickObs) (evictions : List (Option Eviction))
    (t u : ℕ) (one other : Eviction)
    → IsReplay config pods ticks evictions
    → slice_get evictions t ≡ Some (Some one) → slice_get evictions u ≡ Some (Some other)
    → one.pod ≡ other.pod → t ≡ u

-- P holds of each eviction with its tick, and of the ticks and the evictions before them
abbrev pub OfEachEviction : (NodeConfig → List PodSpec → List TickObs → TickObs → List (Option Eviction) → Eviction
    → Type 0) → Type 0
OfEachEviction P =
    (config : NodeConfig) (pods : List PodSpec) (ticks : List TickObs) (evictions : List (Option Eviction))
    (t : ℕ) (tick : TickObs) (eviction : Eviction)
    → IsReplay config pods ticks evictions
    → slice_get ticks t ≡ Some tick → slice_get evictions t ≡ Some (Some eviction)
    → P config pods (take t ticks) tick (take t evictions) eviction

-- a tick that comes after these, with these evictions, shows the pod of this number; and if the pod has ended after the
-- tick's update, the node has ended it, not by an eviction, as a tick of this moment reports
pub record Lived (pods : List PodSpec) (before : List TickObs) (tick : TickObs)
    (evictions : List (Option Eviction)) (n : ℕ) : Type 0 where
  pub pod : PodSpec
  pub is_pod : slice_get pods n ≡ Some pod
  pub present : IsSome (shown_of tick n)
  pub lived : (end : ℕ) → IsEnd pod (place_of (own_eviction n (before ++ tick ∷ []) evictions))
      (pod_ticks (before ++ tick ∷ []) n) (Some end)
      → (own_eviction n (before ++ tick ∷ []) evictions ≡ None)
      × (option_map (λ (f : PodFailure). f.at) (failure_at (pod_ticks (before ++ tick ∷ []) n) end) ≡ Some tick.at)

-- the pod that a tick evicts had not ended when it had taken the tick into its status, unless the tick reports its end
abbrev pub EvictedPodLived : Type 0
EvictedPodLived =
    OfEachEviction (λ config pods before tick evictions eviction. Lived pods before tick evictions eviction.pod)

-- a tick that comes after these acts on one threshold, which is due and not reclaimed, and it is for this one, at the
-- tick's moment, that the pod is evicted
pub record ServesOne (config : NodeConfig) (before : List TickObs) (tick : TickObs)
    (eviction : Eviction) : Type 0 where
  pub key : ThresholdKey
  pub is_served : IsServed config.eviction before tick (Some key)
  pub asks : Asks config.eviction before tick key
  pub signal : eviction.order.signal ≡ key.signal
  pub kind : eviction.order.kind ≡ key.kind
  pub moment : eviction.order.at ≡ tick.at

-- a tick that evicts a pod acts on one threshold so
abbrev pub ServedAlone : Type 0
ServedAlone =
    OfEachEviction (λ config pods before tick evictions eviction. ServesOne config before tick eviction)

-- some tick after this place, up to that one, has the pod of the number ended or gone
pub record IsOverBetween (ticks : List TickObs) (t u : ℕ) (pod : ℕ) : Type 0 where
  pub place : ℕ
  pub after : t < place
  pub until : place ≤ u
  pub tick : TickObs
  pub at : slice_get ticks place ≡ Some tick
  pub is_over : is_over_in pod tick ≡ true

-- between two evictions at least the node's pause passes; or, if it ends with the evicted pod, that one ends or goes
abbrev pub PausedBetween : Type 0
PausedBetween =
    (config : NodeConfig) (pods : List PodSpec) (ticks : List TickObs) (evictions : List (Option Eviction))
    (t u : ℕ) (one other : Eviction)
    → IsReplay config pods ticks evictions → t < u
    → slice_get evictions t ≡ Some (Some one) → slice_get evictions u ≡ Some (Some other)
    → (pause_in config ≤ other.order.at - one.order.at)
    ⊎ ((config.pauses_until_gone ≡ true) × IsOverBetween ticks t u one.pod)
