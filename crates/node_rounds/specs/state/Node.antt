-- Where the pods and the ticks of a node lead.
use Rattle.std.specs.Prelude.{◌≡◌, ℕ, ◌+◌, ◌<◌, ◌≤◌, true, List, [], ◌∷◌, ◌++◌, length, slice_get, is_some}
use Rattle.std.specs.List.{list_all}
use Rattle.std.specs.Prelude.{Option, Some, None, IfSome}
use Rattle.quantity.specs.rule.Duration.{end_of_time}
use Rattle.manifest.specs.declared.pod.PodSpec.{PodSpec}
use Rattle.node_config.specs.declared.node.NodeConfig.{NodeConfig}
use Rattle.node_config.specs.declared.node.Version.{Version}
use Rattle.node_config.specs.declared.node.Version.TheVariants.{One, Two, Three}
use Rattle.observations.specs.declared.tick.TickObs.{TickObs}
use Rattle.observations.specs.rule.Limits.{most_ticks, most_pods}
use Rattle.node_signals.specs.declared.node.NodeSignals.{NodeSignals}
use Rattle.node_signals.specs.state.Node.{IsStateOf}
use Rattle.pod_piece.specs.rule.Piece.{Piece}
use Rattle.eviction.specs.declared.eviction.Eviction.{Eviction}
use Rattle.eviction.specs.state.Pausing.{Kept, IsPausing}
use Rattle.eviction.specs.rule.Replay.{pod_ticks, own_eviction, IsReplay}
use Rattle.totals.specs.declared.totals.Totals.{Totals}
use Rattle.node_pods.specs.state.Pods.{Pods, MayBeHanded, Fits as PodsFit, after_each}
use Rattle.event_list.specs.declared.event.Event.{Event}
use Rattle.event_list.specs.rule.Events.{AreEvents}
use Rattle.event_list.specs.rule.Totals.{totals_of}

-- what a node keeps that is not halted
pub record State : Type 0 where
  pub config : NodeConfig
  pub signals : NodeSignals
  pub pods : Pods
  -- the eviction of each tick, or none
  pub evictions : List (Option Eviction)
  -- the one by which others may pause
  pub pausing : Option Eviction
  -- what happened, tick after tick
  pub events : List Event
  pub totals : Totals
  -- the moment of the last tick, in seconds
  pub last : Option ℕ

abbrev pub state : NodeConfig → NodeSignals → Pods → Kept → List Event → Totals → Option ℕ → State
state config signals pods evictions events totals last = record {
  config = config;
  signals = signals;
  pods = pods;
  evictions = evictions.each;
  pausing = evictions.pausing;
  events = events;
  totals = totals;
  last = last;
}

-- a pod after these ticks and evictions: its own ticks have come into its status, and its eviction
abbrev pub piece_after : NodeConfig → List TickObs → List (Option Eviction) → ℕ → PodSpec → Piece
piece_after config ticks evictions n pod = record {
  number = n;
  pod = pod;
  max_restart_delay = config.max_restart_delay;
  handed = pod_ticks ticks n;
  waiting = 0;
  begun = length (pod_ticks ticks n);
  eviction = own_eviction n ticks evictions;
}

-- the pieces are the states of these pods' own ticks and evictions
pub record ArePieces (config : NodeConfig) (pods : List PodSpec) (ticks : List TickObs)
    (evictions : List (Option Eviction)) (pieces : List Piece) : Type 0 where
  pub as_many : length pieces ≡ length pods
  pub each : (n : ℕ) (pod : PodSpec) → slice_get pods n ≡ Some pod
      → slice_get pieces n ≡ Some (piece_after config ticks evictions n pod)

-- the moment of the last of these ticks
abbrev pub last_of : List TickObs → Option ℕ
last_of [] = None
last_of (tick ∷ []) = Some tick.at
last_of (tick ∷ next ∷ ticks) = last_of (next ∷ ticks)

-- these pods have arrived, and these ticks were taken
pub record HasTaken (pods : List PodSpec) (ticks : List TickObs) (s : State) : Type 0 where
  pub replay : IsReplay s.config pods ticks s.evictions
  pub pieces : ArePieces s.config pods ticks s.evictions s.pods.pieces
  pub events : AreEvents s.config pods ticks s.evictions s.events
  pub totals : s.totals ≡ totals_of ticks s.events
  pub signals : IsStateOf s.config.eviction s.config.eviction_pressure_transition_period ticks s.signals
  pub pausing : IsPausing s.config ticks s.evictions s.last s.pausing
  pub max_restart_delay : s.pods.max_restart_delay ≡ s.config.max_restart_delay
  pub dedicated : s.pods.has_dedicated_imagefs ≡ s.config.has_dedicated_imagefs
  pub shown : (t : ℕ) (tick : TickObs) → slice_get ticks t ≡ Some tick → length tick.pods ≤ length pods
  pub last_is : s.last ≡ last_of ticks
  pub few_ticks : length ticks ≤ most_ticks
  pub few_pods : length pods ≤ most_pods

-- each pod that has arrived is shown; in version 3 one may be left out, which is not present then
abbrev pub IsWhole : Version → TickObs → Type 0
IsWhole One tick = list_all is_some tick.pods ≡ true
IsWhole Two tick = list_all is_some tick.pods ≡ true
IsWhole Three tick = Unit {0}

-- the tick may come next: one more may be taken, it is later than the last, it leaves out only pods that the version
-- allows it to leave out, and it shows each other pod so that this may be given to the pod
pub record Fits (s : State) (tick : TickObs) : Type 0 where
  pub few : length s.evictions < most_ticks
  pub later : IfSome s.last (λ last. last < tick.at)
  pub bounded : tick.at < end_of_time
  pub whole : IsWhole s.config.version tick
  pub pods : PodsFit s.pods tick

-- the ticks may be given to these pods, one after the other, each later than the one before it
abbrev pub MayBeHandedAll : List Piece → Option ℕ → List TickObs → Type 0
MayBeHandedAll pieces last [] = Unit {0}
MayBeHandedAll pieces last (tick ∷ ticks) =
    MayBeHanded pieces tick × IfSome last (λ moment. moment < tick.at)
    × MayBeHandedAll (after_each pieces tick.pods) (Some tick.at) ticks

-- the ticks may come next, one after the other: so many more may be taken, and they may be given to the pods
pub record FitAll (s : State) (ticks : List TickObs) : Type 0 where
  pub few : length s.evictions + length ticks ≤ most_ticks
  pub handed : MayBeHandedAll s.pods.pieces s.last ticks

-- the same node, once it has taken these ticks too, one after the other
pub record IsNextBy (ticks : List TickObs) (old new : State) : Type 0 where
  pub config : new.config ≡ old.config
  pub taken : (pods : List PodSpec) (before : List TickObs) → HasTaken pods before old
      → HasTaken pods (before ++ ticks) new
