-- A round that workers play, or update by threads.
use Rattle.std.proofs.Common.{◌≡◌, ◌∙◌, ℕ, zero, suc, ◌+◌, ◌<◌, List, [], ◌∷◌, length, get_or, Some}
use Rattle.std.proofs.Common.{refl, ap, subst, arith}
use Rattle.std.specs.Prelude.{slice_get}
use Rattle.std.specs.List.{All}
use Rattle.pod_piece.specs.rule.Piece.{Piece}
use Rattle.totals.specs.declared.totals.Totals.{Totals}
use Rattle.totals.specs.state.Totals.{plus}
use Rattle.totals.specs.state.Rounds.{AreAdditionsOf, sums_of_additions, AreAdded}
use Rattle.piece_deques.specs.state.Rule.{AreNumbered}
use Rattle.node_pods.specs.state.Pods.{sent_from}
use Rattle.node_pods.proofs.Sent.{sent_at}
use Rattle.round_updates.specs.state.Update.{MayUpdate}
use Rattle.round_updates.proofs.Pieces.{all_by}

-- pieces that may be updated are all pending
pub all_pending : (pieces : List Piece) (totals : Totals) → MayUpdate pieces totals
    → All (λ (piece : Piece). 0 < piece.waiting) pieces
all_pending pieces totals may = all_by (λ (piece : Piece). 0 < piece.waiting) pieces may.pending

-- what was added
pub are_added : (pieces : List Piece) (old new : Totals)
    → (additions : List Totals) × AreAdditionsOf pieces additions × (new ≡ plus old (sums_of_additions additions))
    → AreAdded pieces old new
are_added pieces old new is = record { additions = is.0; are_additions = is.1; totals = is.2 }

-- the pieces that go out stand under their numbers
pub are_numbered : (all pieces : List Piece) → pieces ≡ sent_from 0 all → AreNumbered pieces
are_numbered all pieces is n piece at =
    let here = subst (λ (ps : List Piece). slice_get ps n ≡ Some piece) is at in
    let w = sent_at 0 all n piece here in
    let same : 0 + n ≡ n = omega arith in
    ap (λ (p : Piece). p.number) w.is ∙ same
