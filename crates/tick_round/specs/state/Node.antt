-- Where the ticks of a node lead, and which updates a gate has made.
use Rattle.std.specs.Prelude.{◌≡◌, ◌<◌, Bool, List, ◌∷◌, [], ◌++◌, length}
use Rattle.std.specs.Prelude.{Option, Result, IfSome, IsSomeAnd, OnOk}
use Rattle.manifest.specs.declared.pod.PodSpec.{PodSpec}
use Rattle.node_config.specs.declared.node.NodeConfig.{NodeConfig}
use Rattle.observations.specs.declared.tick.TickObs.{TickObs}
use Rattle.observations.specs.rule.Limits.{most_pods}
use Rattle.pod_piece.specs.rule.Piece.{Piece}
use Rattle.node_rounds.specs.state.Node.{State, HasTaken, Fits, FitAll, IsNextBy}
use Rattle.tick_round.specs.rule.Gated.{AreUpdatesGated}

-- where the node is not halted, one more pod may arrive
abbrev pub HasRoom : Option State → Type 0
HasRoom node = IfSome node (λ s. length s.pods.pieces < most_pods)

-- the node is not halted: of this configuration, these pods have arrived, and these ticks were taken
abbrev pub IsAfter : NodeConfig → List PodSpec → List TickObs → Option State → Type 0
IsAfter config pods ticks node = IsSomeAnd node (λ s. (s.config ≡ config) × HasTaken pods ticks s)

-- where a call does not fail, the node that it leaves has taken this tick too
abbrev pub TakesTick : {V F : Type 0} → TickObs → Option State → Option State → Result V F → Type 0
TakesTick tick old new result =
    (config : NodeConfig) (pods : List PodSpec) (ticks : List TickObs) → IsAfter config pods ticks old
    → OnOk result (IsAfter config pods (ticks ++ tick ∷ []) new)

-- unless it is halted, the tick may come next
abbrev pub MayTake : Option State → TickObs → Type 0
MayTake node tick = IfSome node (λ s. Fits s tick)

-- where a call does not fail, the node that it leaves has taken these ticks too
abbrev pub TakesTicks : {V F : Type 0} → List TickObs → Option State → Option State → Result V F → Type 0
TakesTicks ticks old new result =
    (config : NodeConfig) (pods : List PodSpec) (before : List TickObs) → IsAfter config pods before old
    → OnOk result (IsAfter config pods (before ++ ticks) new)

-- the gate has made the updates by these ticks, which such a node takes next
abbrev pub AreNextGated : (Piece → Bool → Bool) → State → List TickObs → Type 0
AreNextGated left s ticks =
    (pods : List PodSpec) (before : List TickObs) → HasTaken pods before s → AreUpdatesGated left pods before ticks

-- where a call does not fail, the gate has made the updates by the ticks that the node has taken
abbrev pub GatesUpdates : {V F : Type 0} → (Piece → Bool → Bool) → List TickObs → Option State → Result V F → Type 0
GatesUpdates left ticks old result =
    (config : NodeConfig) (pods : List PodSpec) (before : List TickObs) → IsAfter config pods before old
    → OnOk result (AreUpdatesGated left pods before ticks)

-- unless it is halted, the ticks may come next, one after the other
abbrev pub MayTakeAll : Option State → List TickObs → Type 0
MayTakeAll node ticks = IfSome node (λ s. FitAll s ticks)

-- a node has taken the first of these ticks, as many as one round takes, by updates of the gate, and may take the
-- others
pub record HasTakenSome (left : Piece → Bool → Bool) (ticks : List TickObs) (old new : State)
    (rest : List TickObs) : Type 0 where
  pub taken : List TickObs
  pub all : ticks ≡ taken ++ rest
  pub next : IsNextBy taken old new
  pub gated : AreNextGated left old taken
  pub fits : FitAll new rest
