-- The pods of a summary, by their numbers.
use Rattle.std.proofs.Common.{◌≡◌, ◌∙◌, ℕ, suc, zero, ◌<◌, List, [], ◌∷◌, length, take, get_or, Option, Some, ap, sym}
use Rattle.std.proofs.Common.{subst}
use Rattle.std.proofs.Common.{arith}
use Rattle.std.specs.Prelude.{slice_get}
use Rattle.std.proofs.lemmas.List.{take_all}
use Rattle.histories.proofs.Lists.{given_at}
use Rattle.manifest.specs.declared.pod.PodSpec.{PodSpec}
use Rattle.node_config.specs.declared.node.NodeConfig.{NodeConfig}
use Rattle.observations.specs.declared.tick.TickObs.{TickObs}
use Rattle.pod_piece.specs.rule.Piece.{Piece}
use Rattle.eviction.specs.declared.eviction.Eviction.{Eviction}
use Rattle.node_rounds.specs.state.Node.{ArePieces, piece_after}
use Rattle.node_report.specs.rule.Report.{AreLines}

pub piece_here : (config : NodeConfig) (pods : List PodSpec) (ticks : List TickObs)
    (evictions : List (Option Eviction)) (pieces : List Piece) (n : ℕ) (piece : Piece)
    → ArePieces config pods ticks evictions pieces → n < length pieces → piece ≡ get_or pieces n piece
    → (pod : PodSpec) × (n < length pods) × (pod ≡ get_or pods n pod)
    × (piece ≡ piece_after config ticks evictions n pod)
piece_here config pods ticks evictions pieces n piece are lt is =
    let many : length pieces ≡ length pods = are.as_many in
    let pod = given_at pods n (omega arith) in
    let here : Some piece ≡ Some (piece_after config ticks evictions n pod.0) = sym (found pieces n piece lt is)
    ∙ are.each n pod.0 pod.1 in (
      pod.0,
      omega arith,
      sym (slice_get-get_or pods n pod.0 pod.0 pod.1),
      let same : piece ≡ piece_after config ticks
          evictions n pod.0 = cc in same,
    )
  where
    found : (xs : List Piece) (k : ℕ) (x : Piece) → k < length xs → x ≡ get_or xs k x → slice_get xs k ≡ Some x
    found [] k x lt e = absurd (omega arith)
    found (y ∷ xs) zero x lt e = ap (λ (p : Piece). Some p) (sym e)
    found (y ∷ xs) (suc k) x lt e = found xs k x (omega arith) e

    slice_get-get_or : (xs : List PodSpec) (k : ℕ) (x d : PodSpec) → slice_get xs k ≡ Some x → get_or xs k d ≡ x
    slice_get-get_or [] k x d e = absurd (cc)
    slice_get-get_or (y ∷ xs) zero x d e = cc
    slice_get-get_or (y ∷ xs) (suc k) x d e = slice_get-get_or xs k x d e

pub whole_report : (config : NodeConfig) (ticks : List TickObs) (evictions : List (Option Eviction))
    (pods : List PodSpec) (pieces : List Piece) (n : ℕ) (bytes : List ℕ)
    → ArePieces config pods ticks evictions pieces → n ≡ length pieces → AreLines ticks evictions (take n pods) bytes
    → AreLines ticks evictions pods bytes
whole_report config ticks evictions pods pieces n bytes are all is =
    let many : length pieces ≡ length pods = are.as_many in
    subst (λ (ps : List PodSpec). AreLines ticks evictions ps bytes) (take_all n pods (omega arith)) is
