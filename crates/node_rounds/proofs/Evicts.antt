-- The eviction of a tick, by a node's pieces.
use Rattle.std.proofs.Common.{◌≡◌, ℕ, zero, suc, ◌<◌, List, [], ◌∷◌, length, get_or, true}
use Rattle.std.proofs.Common.{Option, Some, None, refl, sym, ap, subst, arith}
use Rattle.std.specs.Prelude.{nat_lt, slice_get}
use Rattle.std.proofs.lemmas.Bool.{ltb-true}
use Rattle.node_config.specs.declared.node.NodeConfig.{NodeConfig}
use Rattle.node_signals.specs.declared.key.ThresholdKey.{ThresholdKey}
use Rattle.pod_piece.specs.declared.order.EvictOrder.{EvictOrder}
use Rattle.pod_piece.specs.rule.Piece.{Piece}
use Rattle.pod_piece.specs.state.Piece.{pods_in}
use Rattle.ranking.specs.rule.Order.{IsVictim}
use Rattle.eviction.specs.rule.Replay.{order_of}
use Rattle.node_pods.specs.state.Pods.{IsCandidate}
use Rattle.node_rounds.specs.state.Evict.{IsChoiceAt}

-- the specification of a pod stands where its piece does
pub get_pod : (pieces : List Piece) (n : ℕ) (piece : Piece) → slice_get pieces n ≡ Some piece
    → slice_get (pods_in pieces) n ≡ Some piece.pod
get_pod [] n piece e = absurd (cc)
get_pod (p ∷ pieces) zero piece e = let same : p ≡ piece = cc in ap (λ (q : Piece). Some q.pod) same
get_pod (p ∷ pieces) (suc n) piece e = get_pod pieces n piece e

-- the first of the candidates is evicted
pub evicts_first : (config : NodeConfig) (pieces : List Piece) (at : ℕ) (key : ThresholdKey) (victim : Option ℕ)
    (n : ℕ) (piece : Piece) (order : EvictOrder)
    → IsVictim key.signal config.has_dedicated_imagefs (IsCandidate pieces at) victim → victim ≡ Some n
    → slice_get pieces n ≡ Some piece → order ≡ order_of config piece.pod at key
    → IsChoiceAt config pieces at (Some key) (Some (record { pod = n; order = order }))
evicts_first config pieces at key victim n piece order first is found by = (
  Some n,
  subst (λ (v : Option ℕ). IsVictim key.signal config.has_dedicated_imagefs (IsCandidate pieces at) v) is first,
  record { pod = piece.pod; is_pod = get_pod pieces n piece found; number = refl; order = by },
)

-- without candidates nobody is
pub evicts_none : (config : NodeConfig) (pieces : List Piece) (at : ℕ) (key : ThresholdKey) (victim : Option ℕ)
    → IsVictim key.signal config.has_dedicated_imagefs (IsCandidate pieces at) victim → victim ≡ None
    → IsChoiceAt config pieces at (Some key) None
evicts_none config pieces at key victim first is = (
  None,
  subst (λ (v : Option ℕ). IsVictim key.signal config.has_dedicated_imagefs (IsCandidate pieces at) v) is first,
  refl,
)

-- what is found at a place is there
pub get_here : (pieces now : List Piece) (n : ℕ) (piece : Piece) → now ≡ pieces → true ≡ nat_lt n (length now)
    → piece ≡ get_or now n piece → slice_get pieces n ≡ Some piece
get_here pieces now n piece same lt is =
    subst (λ (ps : List Piece). slice_get ps n ≡ Some piece) same (at now n piece (ltb-true n (length now) (sym lt)) is)
  where
    at : (xs : List Piece) (n : ℕ) (x : Piece) → n < length xs → x ≡ get_or xs n x → slice_get xs n ≡ Some x
    at [] n x lt is = absurd (omega arith)
    at (y ∷ xs) zero x lt is = ap (λ (p : Piece). Some p) (sym is)
    at (y ∷ xs) (suc n) x lt is = at xs n x (omega arith) is
