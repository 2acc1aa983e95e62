-- A node that is not halted, after more ticks.
use Rattle.std.proofs.Common.{◌≡◌, ◌∙◌, List, ◌++◌, Bool, Option, Some, sym, subst}
use Rattle.manifest.specs.declared.pod.PodSpec.{PodSpec}
use Rattle.node_config.specs.declared.node.NodeConfig.{NodeConfig}
use Rattle.observations.specs.declared.tick.TickObs.{TickObs}
use Rattle.pod_piece.specs.rule.Piece.{Piece}
use Rattle.tick_round.specs.rule.Gated.{AreUpdatesGated}
use Rattle.tick_round.specs.state.Node.{IsAfter, AreNextGated}
use Rattle.node_rounds.specs.state.Node.{State, HasTaken, IsNextBy}

pub of_some : (config : NodeConfig) (pods : List PodSpec) (ticks : List TickObs) (before : Option State) (s : State)
    → before ≡ Some s → IsAfter config pods ticks before
    → (s.config ≡ config) × HasTaken pods ticks s
of_some config pods ticks before s is after = subst (λ (o : Option State). IsAfter config pods ticks o) is after

pub to_some : (config : NodeConfig) (pods : List PodSpec) (ticks : List TickObs) (after : Option State) (s : State)
    → after ≡ Some s → s.config ≡ config → HasTaken pods ticks s → IsAfter config pods ticks after
to_some config pods ticks after s is same taken =
    subst (λ (o : Option State). IsAfter config pods ticks o) (sym is) (same, taken)

-- a node has taken ticks where what it keeps becomes what has
pub takes_ticks : (more : List TickObs) {before after : Option State} {s next : State} → before ≡ Some s
    → after ≡ Some next → IsNextBy more s next
    → (config : NodeConfig) (pods : List PodSpec) (ticks : List TickObs) → IsAfter config pods ticks before
    → IsAfter config pods (ticks ++ more) after
takes_ticks more {before} {after} {s} {next} was now by config pods ticks old =
    let had = of_some config pods ticks before s was old in
    to_some config pods (ticks ++ more) after next now (by.config ∙ had.0) (by.taken pods ticks had.1)

-- and the gate has made the updates by them
pub gates_updates : (left : Piece → Bool → Bool) (more : List TickObs) {before : Option State} {s : State}
    → before ≡ Some s → AreNextGated left s more
    → (config : NodeConfig) (pods : List PodSpec) (ticks : List TickObs) → IsAfter config pods ticks before
    → AreUpdatesGated left pods ticks more
gates_updates left more {before} {s} was next config pods ticks old =
    next pods ticks (of_some config pods ticks before s was old).1
