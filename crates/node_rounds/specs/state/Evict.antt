-- The eviction of a tick, by what a node keeps of its pods. (Kubernetes, "Node-pressure Eviction".)
use Rattle.std.specs.Prelude.{◌≡◌, ℕ, List, Option, Some, None}
use Rattle.node_config.specs.declared.node.NodeConfig.{NodeConfig}
use Rattle.node_signals.specs.declared.key.ThresholdKey.{ThresholdKey}
use Rattle.pod_piece.specs.rule.Piece.{Piece}
use Rattle.pod_piece.specs.state.Piece.{pods_in}
use Rattle.ranking.specs.rule.Order.{IsVictim}
use Rattle.eviction.specs.declared.eviction.Eviction.{Eviction}
use Rattle.eviction.specs.rule.Replay.{IsOfVictim}
use Rattle.node_pods.specs.state.Pods.{IsCandidate, IsEvictable, AreEvicted}

-- the choice at a moment for the threshold that is acted on, among these pods
abbrev pub IsChoiceAt : NodeConfig → List Piece → ℕ → Option ThresholdKey → Option Eviction → Type 0
IsChoiceAt config pieces at None choice = choice ≡ None
IsChoiceAt config pieces at (Some key) choice =
    (victim : Option ℕ) × IsVictim key.signal config.has_dedicated_imagefs (IsCandidate pieces at) victim
    × IsOfVictim config (pods_in pieces) at key victim choice

-- the eviction may be carried out
abbrev pub MayBeCarriedOut : List Piece → Option Eviction → Type 0
MayBeCarriedOut pieces None = Unit {0}
MayBeCarriedOut pieces (Some eviction) = IsEvictable pieces eviction.pod eviction.order.at

-- the pods once it was
abbrev pub AreWithout : List Piece → Option Eviction → List Piece → Type 0
AreWithout old None new = new ≡ old
AreWithout old (Some eviction) new = AreEvicted old eviction.pod eviction.order new
