-- Ticks of a node that make one round: which may follow each other in it, and what comes before the updates of its
-- pods.
use Rattle.std.specs.Prelude.{◌≡◌, ℕ, ◌<◌, List, [], ◌∷◌, ◌++◌, map, Option, None}
use Rattle.node_config.specs.declared.node.NodeConfig.{NodeConfig}
use Rattle.observations.specs.declared.tick.TickObs.{TickObs}
use Rattle.node_signals.specs.declared.node.NodeSignals.{NodeSignals}
use Rattle.node_signals.specs.declared.event.NodeEvent.{NodeEvent}
use Rattle.node_signals.specs.declared.key.ThresholdKey.{ThresholdKey}
use Rattle.node_signals.specs.rule.Events.{AreNodeEvents}
use Rattle.node_signals.specs.state.Node.{IsStateOf}
use Rattle.node_signals.specs.rule.Thresholds.{IsServed}
use Rattle.pod_piece.specs.rule.Piece.{Piece}
use Rattle.pod_piece.specs.state.Piece.{all_updated}
use Rattle.eviction.specs.declared.eviction.Eviction.{Eviction}
use Rattle.eviction.specs.state.Pausing.{kept, still}
use Rattle.eviction.specs.rule.Replay.{pauses, unless_paused}
use Rattle.totals.specs.declared.totals.Totals.{Totals}
use Rattle.event_list.specs.declared.tick.TickEvents.{TickEvents}
use Rattle.node_pods.specs.state.Pods.{Pods, pods_of, AreNumbered, handed_each, sent_from, staying, awaited, joined}
use Rattle.node_rounds.specs.declared.stretch.Begun.{Begun}
use Rattle.node_rounds.specs.declared.stretch.Stretch.{Stretch}
use Rattle.node_rounds.specs.declared.stretch.Round.{Round}
use Rattle.node_rounds.specs.state.Node.{State, FitAll}
use Rattle.node_rounds.specs.state.Round.{IsKept}
use Rattle.totals.specs.state.Rounds.{AreAdded}

-- what the samples of a tick make of the node
pub record IsSampled (config : NodeConfig) (old : NodeSignals) (tick : TickObs) (new : NodeSignals)
    (node_events : List NodeEvent) (served : Option ThresholdKey) : Type 0 where
  pub signals : (before : List TickObs)
      → IsStateOf config.eviction config.eviction_pressure_transition_period before old
      → IsStateOf config.eviction config.eviction_pressure_transition_period (before ++ tick ∷ []) new
  pub node_events_are : (before : List TickObs)
      → IsStateOf config.eviction config.eviction_pressure_transition_period before old
      → AreNodeEvents config.eviction config.eviction_pressure_transition_period before tick node_events
  pub serves : (before : List TickObs)
      → IsStateOf config.eviction config.eviction_pressure_transition_period (before ++ tick ∷ []) new
      → IsServed config.eviction before tick served

-- the threshold on which the node acts in a tick: the first one in the serving order that is due, unless evictions
-- pause by this one
abbrev pub heeded_in : NodeConfig → TickObs → Option Eviction → Option ThresholdKey → Option ThresholdKey
heeded_in config tick pausing served = unless_paused (pauses config tick.at (still config tick pausing) []) served

-- the samples of a tick make this of the node, which acts on no threshold in it
pub record IsCalm (config : NodeConfig) (old : NodeSignals) (pausing : Option Eviction) (tick : TickObs)
    (new : NodeSignals) (row : TickEvents) : Type 0 where
  pub served : Option ThresholdKey
  pub sampled : IsSampled config old tick new row.node_events.items served
  pub at : row.at ≡ tick.at
  pub calm : heeded_in config tick pausing served ≡ None

-- in none of these ticks, one after the other, the node acts on a threshold; they lead from these signals and the
-- eviction by which others may pause to those, and make these events of the node
abbrev pub AreCalm : NodeConfig → List TickObs → NodeSignals → Option Eviction → List TickEvents → NodeSignals
    → Option Eviction → Type 0
AreCalm config [] old pausing rows new paused = (rows ≡ []) × (new ≡ old) × (paused ≡ pausing)
AreCalm config (tick ∷ ticks) old pausing rows new paused =
    (row : TickEvents) × (rest : List TickEvents) × (next : NodeSignals) × IsCalm config old pausing tick next row
    × AreCalm config ticks next (still config tick pausing) rest new paused × (rows ≡ row ∷ rest)

-- nobody is evicted in any of these ticks
abbrev pub no_evictions : List TickObs → List (Option Eviction)
no_evictions ticks = map (λ (tick : TickObs). None) ticks

-- the pieces once they have each tick, one after the other
abbrev pub handed_all : List Piece → List TickObs → List Piece
handed_all pieces [] = pieces
handed_all pieces (tick ∷ ticks) = handed_all (handed_each pieces tick.pods) ticks

-- a node in this state has begun a round with these ticks, in which it acts on no threshold, and this last one
pub record HasBegun (s : State) (calm : List TickObs) (tick : TickObs) (begun : Begun) : Type 0 where
  pub before : NodeSignals
  pub pausing : Option Eviction
  pub rows : List TickEvents
  pub row : TickEvents
  pub served : Option ThresholdKey
  pub are_calm : AreCalm s.config calm s.signals s.pausing rows before pausing
  pub sampled : IsSampled s.config before tick begun.signals row.node_events.items served
  pub row_at : row.at ≡ tick.at
  pub config : begun.config ≡ s.config
  pub ticks : begun.ticks.items ≡ rows ++ row ∷ []
  pub heeded : begun.heeded ≡ heeded_in s.config tick pausing served
  pub evictions : begun.evictions ≡ kept (s.evictions ++ no_evictions calm) (still s.config tick pausing)
  pub events : begun.events.items ≡ s.events
  pub at : begun.at ≡ tick.at

-- its pods have them, and more may come
pub record IsOpen (s : State) (calm : List TickObs) (tick : TickObs) (stretch : Stretch) : Type 0 where
  pub has_begun : HasBegun s calm tick stretch.begun
  pub pods : stretch.pods
      ≡ pods_of (handed_all s.pods.pieces (calm ++ tick ∷ [])) s.pods.max_restart_delay s.pods.has_dedicated_imagefs

-- the stretch belongs to some node that may take these ticks after the ones that it has taken into it
pub record MayGoOn (stretch : Stretch) (more : List TickObs) : Type 0 where
  pub node : State
  pub kept : IsKept node
  pub calm : List TickObs
  pub tick : TickObs
  pub is_open : IsOpen node calm tick stretch
  pub fits : FitAll node ((calm ++ tick ∷ []) ++ more)

-- it goes on with some of these ticks, and leaves those
pub record GoesOnWith (s : State) (calm : List TickObs) (tick : TickObs) (more : List TickObs) (stretch : Stretch)
    (rest : List TickObs) : Type 0 where
  pub calm_now : List TickObs
  pub last : TickObs
  pub is_open : IsOpen s calm_now last stretch
  pub taken : (calm ++ tick ∷ []) ++ more ≡ (calm_now ++ last ∷ []) ++ rest

-- a round takes no further tick once so many updates wait
abbrev pub most_waiting : ℕ
most_waiting = 32768

-- another tick may come: the node acts on no threshold in the last one, and not so many updates wait yet
pub record HasRoom (stretch : Stretch) : Type 0 where
  pub calm : stretch.begun.heeded ≡ None
  pub few : stretch.waiting < most_waiting

-- an allocation for one of these ticks failed, for which there was room after the earlier ones, and these are left
pub record IsRefusedIn (s : State) (calm : List TickObs) (tick : TickObs) (more rest : List TickObs) : Type 0 where
  pub stretch : Stretch
  pub refused : TickObs
  pub goes_on : GoesOnWith s calm tick more stretch (refused ∷ rest)
  pub room : HasRoom stretch

-- a tick is taken into a stretch
pub record Takes (tick : TickObs) (old new : Stretch) : Type 0 where
  pub row : TickEvents
  pub served : Option ThresholdKey
  pub sampled : IsSampled old.begun.config old.begun.signals tick new.begun.signals row.node_events.items served
  pub row_at : row.at ≡ tick.at
  pub config : new.begun.config ≡ old.begun.config
  pub ticks : new.begun.ticks.items ≡ old.begun.ticks.items ++ row ∷ []
  pub heeded : new.begun.heeded ≡ heeded_in old.begun.config tick old.begun.evictions.pausing served
  pub evictions : new.begun.evictions
      ≡ kept old.begun.evictions.each (still old.begun.config tick old.begun.evictions.pausing)
  pub events : new.begun.events.items ≡ old.begun.events.items
  pub at : new.begun.at ≡ tick.at
  pub pods : new.pods
      ≡ pods_of (handed_each old.pods.pieces tick.pods) old.pods.max_restart_delay old.pods.has_dedicated_imagefs

-- the node of this state as a stretch without ticks
pub record IsStretchOf (s : State) (stretch : Stretch) : Type 0 where
  pub config : stretch.begun.config ≡ s.config
  pub signals : stretch.begun.signals ≡ s.signals
  pub ticks : stretch.begun.ticks.items ≡ []
  pub evictions : stretch.begun.evictions ≡ kept s.evictions s.pausing
  pub events : stretch.begun.events.items ≡ s.events
  pub pods : stretch.pods ≡ s.pods

-- nobody is evicted by the last tick of a stretch, and another one may come
pub record IsPassed (old new : Stretch) : Type 0 where
  pub config : new.begun.config ≡ old.begun.config
  pub signals : new.begun.signals ≡ old.begun.signals
  pub ticks : new.begun.ticks.items ≡ old.begun.ticks.items
  pub evictions : new.begun.evictions ≡ kept (old.begun.evictions.each ++ None ∷ []) old.begun.evictions.pausing
  pub events : new.begun.events.items ≡ old.begun.events.items
  pub pods : new.pods ≡ old.pods

-- its pods have taken all that waited for them, and the totals have what that adds: the node may close the round
pub record MayClose (s : State) (calm : List TickObs) (tick : TickObs) (begun : Begun) (pods : Pods)
    (totals : Totals) : Type 0 where
  pub fits : FitAll s (calm ++ tick ∷ [])
  pub has_begun : HasBegun s calm tick begun
  pub pods_are : pods
      ≡ pods_of (map all_updated (handed_all s.pods.pieces (calm ++ tick ∷ []))) s.pods.max_restart_delay
      s.pods.has_dedicated_imagefs
  pub added : AreAdded (map all_updated (handed_all s.pods.pieces (calm ++ tick ∷ []))) s.totals totals

-- some node may close its round with these pods and these totals
pub record CanClose (begun : Begun) (pods : Pods) (totals : Totals) : Type 0 where
  pub node : State
  pub calm : List TickObs
  pub tick : TickObs
  pub kept : IsKept node
  pub may : MayClose node calm tick begun pods totals

-- its pods have gone out with all that waits for them, have taken it, and were entered: the node may end the round
pub record MayEnd (s : State) (calm : List TickObs) (tick : TickObs) (round : Round) (back : List Piece)
    (totals : Totals) : Type 0 where
  pub kept : IsKept s
  pub fits : FitAll s (calm ++ tick ∷ [])
  pub has_begun : HasBegun s calm tick round.begun
  pub pods : round.pods
      ≡ awaited (staying (handed_all s.pods.pieces (calm ++ tick ∷ []))) s.pods.max_restart_delay
      s.pods.has_dedicated_imagefs
  pub back_are : back ≡ map all_updated (sent_from 0 (handed_all s.pods.pieces (calm ++ tick ∷ [])))
  pub added : AreAdded back s.totals totals

-- the pieces of such a node are out, and its book
pub record IsOut (s : State) (calm : List TickObs) (tick : TickObs) (pieces : List Piece) (totals : Totals)
    (round : Round) : Type 0 where
  pub kept : IsKept s
  pub has_begun : HasBegun s calm tick round.begun
  pub sent : pieces ≡ sent_from 0 (handed_all s.pods.pieces (calm ++ tick ∷ []))
  pub pods : round.pods
      ≡ awaited (staying (handed_all s.pods.pieces (calm ++ tick ∷ []))) s.pods.max_restart_delay
      s.pods.has_dedicated_imagefs
  pub numbered : AreNumbered (joined round.pods (map all_updated pieces))
  pub book : totals ≡ s.totals

-- they are, with the first of these ticks, and the others are left
pub record AreOut (s : State) (ticks : List TickObs) (pieces : List Piece) (totals : Totals) (round : Round)
    (rest : List TickObs) : Type 0 where
  pub calm : List TickObs
  pub tick : TickObs
  pub all : ticks ≡ (calm ++ tick ∷ []) ++ rest
  pub out : IsOut s calm tick pieces totals round

-- some node may end its round with these pieces and these totals
pub record CanEnd (round : Round) (back : List Piece) (totals : Totals) : Type 0 where
  pub node : State
  pub calm : List TickObs
  pub tick : TickObs
  pub may : MayEnd node calm tick round back totals
  pub numbered : AreNumbered (joined round.pods back)
