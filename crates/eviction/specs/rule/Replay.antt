-- Which pod is evicted in each tick (Kubernetes, "Node-pressure Eviction"). The evictions of a list of
-- ticks are a list as long: of each tick its eviction, or none. Each is determined by the ticks up to
-- its own and by the evictions before it; that one pod at most is evicted in a tick is this profile's
-- rule. Where the trace says itself whom the node evicted, the rules choose and evict nobody. A tick is named by its
-- place, a pod by its number.
use Rattle.std.specs.Prelude.{◌≡◌, ◌==◌, ℕ, suc, List, [], ◌∷◌, ◌++◌, length, map, take, slice_get, Option, Some, None}
use Rattle.std.specs.Prelude.{Bool, true, false, ◌-◌, ◌&&◌, ◌||◌, not, nat_lt, option_map, IsSome, if◌then◌else◌, min}
use Rattle.std.specs.List.{list_all, list_any}
use Rattle.manifest.specs.declared.pod.PodSpec.{PodSpec}
use Rattle.signals.specs.declared.threshold.ThresholdKind.{ThresholdKind}
use Rattle.signals.specs.declared.threshold.ThresholdKind.TheVariants.{Hard, Soft}
use Rattle.observations.specs.declared.container.ContainerObs.{ContainerObs}
use Rattle.observations.specs.rule.Pods.{PodObs}
use Rattle.observations.specs.declared.tick.TickObs.{TickObs}
use Rattle.observations.specs.rule.Observations.{shown_of, own_ticks}
use Rattle.state_diff.specs.declared.seen.Seen.{Seen}
use Rattle.state_diff.specs.rule.States.{is_exited}
use Rattle.node_config.specs.declared.node.NodeConfig.{NodeConfig}
use Rattle.node_config.specs.declared.node.Version.{Version}
use Rattle.node_config.specs.declared.node.Version.TheVariants.{One, Two, Three}
use Rattle.node_signals.specs.declared.key.ThresholdKey.{ThresholdKey}
use Rattle.node_signals.specs.rule.Thresholds.{IsServed}
use Rattle.pod_state.specs.rule.Pods.{PodTick, pod_tick}
use Rattle.pod_piece.specs.declared.order.EvictOrder.{EvictOrder}
use Rattle.pod_piece.specs.declared.piece.EvictionRecord.{EvictionRecord}
use Rattle.pod_piece.specs.declared.status.PodStatus.{PodStatus}
use Rattle.pod_piece.specs.rule.Status.{IsStatusAfter, MayBeEvicted}
use Rattle.ranking.specs.rule.Order.{IsVictim}
use Rattle.eviction.specs.declared.eviction.Eviction.{Eviction}

-- a pod's own ticks: those that show it
abbrev pub pod_ticks : List TickObs → ℕ → List PodTick
pod_ticks ticks n = map pod_tick (own_ticks ticks n)

-- the place of a tick that evicts a pod, and the order
pub record EvictedAt : Type 0 where
  pub tick : ℕ
  pub order : EvictOrder

-- the same eviction, counted from one tick earlier
abbrev pub later : EvictedAt → EvictedAt
later found = record { tick = suc found.tick; order = found.order }

-- the first of these evictions that is of the pod
abbrev pub evicted_at : ℕ → List (Option Eviction) → Option EvictedAt
evicted_at n [] = None
evicted_at n (None ∷ evictions) = option_map later (evicted_at n evictions)
evicted_at n (Some eviction ∷ evictions) =
    if eviction.pod == n then Some (record { tick = 0; order = eviction.order })
    else option_map later (evicted_at n evictions)

-- the pod's eviction, by its place among the pod's own ticks: as many of them are before it
abbrev pub own_eviction : ℕ → List TickObs → List (Option Eviction) → Option EvictionRecord
own_eviction n ticks evictions =
    option_map
    (λ (found : EvictedAt). record { place = length (pod_ticks (take found.tick ticks) n); order = found.order })
    (evicted_at n evictions)

-- a pod's status after these ticks and evictions
abbrev pub IsStatusIn : List TickObs → List (Option Eviction) → ℕ → PodSpec → PodStatus → Type 0
IsStatusIn ticks evictions n pod = IsStatusAfter n pod (own_eviction n ticks evictions) (pod_ticks ticks n)

-- a pod that may be evicted, and its status after the tick's update: it is present, and has not ended, unless that tick
-- reports that the node has ended it
pub record IsCandidate (pods : List PodSpec) (before : List TickObs) (tick : TickObs)
    (evictions : List (Option Eviction)) (n : ℕ) (status : PodStatus) : Type 0 where
  pub pod : PodSpec
  pub at : slice_get pods n ≡ Some pod
  pub present : IsSome (shown_of tick n)
  pub is_status : IsStatusIn (before ++ tick ∷ []) evictions n pod status
  pub may : MayBeEvicted tick.at status

-- the grace period of an eviction, in seconds: none of a hard one, of a soft one the pod's own, but no
-- longer than the node allows
abbrev pub grace_of : NodeConfig → PodSpec → ThresholdKind → ℕ
grace_of config pod Hard = 0
grace_of config pod Soft = min pod.grace_period_seconds config.eviction_max_pod_grace_period

-- the order to evict a pod at a moment, for a threshold
abbrev pub order_of : NodeConfig → PodSpec → ℕ → ThresholdKey → EvictOrder
order_of config pod at key =
    record { at = at; signal = key.signal; kind = key.kind; grace = grace_of config pod key.kind }

-- the pod of this number is evicted at this moment, for this threshold
pub record Evicts (config : NodeConfig) (pods : List PodSpec) (at : ℕ) (key : ThresholdKey) (n : ℕ)
    (eviction : Eviction) : Type 0 where
  pub pod : PodSpec
  pub is_pod : slice_get pods n ≡ Some pod
  pub number : eviction.pod ≡ n
  pub order : eviction.order ≡ order_of config pod at key

-- the victim is evicted, if there is one
abbrev pub IsOfVictim : NodeConfig → List PodSpec → ℕ → ThresholdKey → Option ℕ → Option Eviction → Type 0
IsOfVictim config pods at key None eviction = eviction ≡ None
IsOfVictim config pods at key (Some n) None = ⊥
IsOfVictim config pods at key (Some n) (Some eviction) = Evicts config pods at key n eviction

-- one pod at most is evicted, for the threshold that is acted on
abbrev pub IsEvictionFor : NodeConfig → List PodSpec → List TickObs → TickObs → List (Option Eviction)
    → Option ThresholdKey → Option Eviction → Type 0
IsEvictionFor config pods before tick evictions None eviction = eviction ≡ None
IsEvictionFor config pods before tick evictions (Some key) eviction =
    (victim : Option ℕ)
    × IsVictim key.signal config.has_dedicated_imagefs (IsCandidate pods before tick evictions) victim
    × IsOfVictim config pods tick.at key victim eviction

-- a pause of this many seconds after an eviction, in which no pod is evicted: in versions 1 and 2 there is none (this
-- project's extended format)
abbrev pub pause_by : Version → ℕ → ℕ
pause_by One pause = 0
pause_by Two pause = 0
pause_by Three pause = pause

-- the node's pause after an eviction, in seconds
abbrev pub pause_in : NodeConfig → ℕ
pause_in config = pause_by config.version config.eviction_pause

-- a container has ended in a tick that lists it as exited, or not at all
abbrev pub has_ended : Option Seen → Bool
has_ended None = true
has_ended (Some seen) = is_exited seen.state

-- a pod is over in a tick in which all its containers have ended, or in which it is not present
abbrev pub is_over : Option PodObs → Bool
is_over None = true
is_over (Some shown) = list_all (λ (container : ContainerObs). has_ended container.seen) shown.containers

-- the pod of this number is over in the tick
abbrev pub is_over_in : ℕ → TickObs → Bool
is_over_in n tick = is_over (shown_of tick n)

-- where the node's pause ends with the evicted pod: in some of the ticks after its eviction the pod is over
abbrev pub ends_early : NodeConfig → Eviction → List TickObs → Bool
ends_early config eviction later = config.pauses_until_gone && list_any (is_over_in eviction.pod) later

-- the eviction of a tick, if it has one, pauses others: it is less than the node's pause ago at this moment, and the
-- ticks after its own, up to the tick of this moment, have not ended the pause early
abbrev pub pauses : NodeConfig → ℕ → Option Eviction → List TickObs → Bool
pauses config at None later = false
pauses config at (Some eviction) later =
    nat_lt (at - eviction.order.at) (pause_in config) && not (ends_early config eviction later)

-- the eviction of some of these ticks pauses others, where these are the evictions of the first of them (this project's
-- extended format)
abbrev pub is_paused : NodeConfig → ℕ → List TickObs → List (Option Eviction) → Bool
is_paused config at [] evictions = false
is_paused config at (tick ∷ later) [] = false
is_paused config at (tick ∷ later) (eviction ∷ evictions) =
    pauses config at eviction later || is_paused config at later evictions

-- the threshold that is acted on, or none while evictions pause
abbrev pub unless_paused : Bool → Option ThresholdKey → Option ThresholdKey
unless_paused true served = None
unless_paused false served = served

-- whom the rules choose in a tick that comes after these ticks with these evictions, and for what
pub record IsChoiceOfTick (config : NodeConfig) (pods : List PodSpec) (before : List TickObs) (tick : TickObs)
    (evictions : List (Option Eviction)) (choice : Option Eviction) : Type 0 where
  pub served : Option ThresholdKey
  pub is_served : IsServed config.eviction before tick served
  pub is_for : IsEvictionFor config pods before tick evictions
      (unless_paused (is_paused config tick.at (before ++ tick ∷ []) evictions) served) choice

-- a choice is carried out, unless the trace reports itself whom the node evicted (this project's extended format)
abbrev pub unless_recorded : Bool → Option Eviction → Option Eviction
unless_recorded true choice = None
unless_recorded false choice = choice

-- the eviction of a tick that comes after these ticks with these evictions
pub record IsEvictionOfTick (config : NodeConfig) (pods : List PodSpec) (before : List TickObs) (tick : TickObs)
    (evictions : List (Option Eviction)) (eviction : Option Eviction) : Type 0 where
  pub choice : Option Eviction
  pub is_choice : IsChoiceOfTick config pods before tick evictions choice
  pub is_carried : eviction ≡ unless_recorded config.evictions_recorded choice

-- these are the evictions of these ticks, one or none for each
pub record IsReplay (config : NodeConfig) (pods : List PodSpec) (ticks : List TickObs)
    (evictions : List (Option Eviction)) : Type 0 where
  pub as_many : length evictions ≡ length ticks
  pub each : (t : ℕ) (tick : TickObs) (eviction : Option Eviction) → slice_get ticks t ≡ Some tick
      → slice_get evictions t ≡ Some eviction
      → IsEvictionOfTick config pods (take t ticks) tick (take t evictions) eviction
