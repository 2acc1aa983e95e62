-- The pods of a round.
use Rattle.std.specs.Prelude.{◌≡◌, ◌<◌, List, All}
use Rattle.pod_state.specs.rule.Pods.{PodTick}
use Rattle.pod_piece.specs.state.Listings.{IsNextTick}
use Rattle.pod_piece.specs.rule.Piece.{Piece}
use Rattle.piece_deques.specs.state.Rule.{AreNumbered}

-- pods, numbered from 0 on, that are to be updated
pub record ArePending (pieces : List Piece) : Type 0 where
  pub pending : All (λ (piece : Piece). 0 < piece.waiting) pieces
  pub numbered : AreNumbered pieces

-- the piece has taken all that was handed to it, behind which the tick may come
pub record MayBeHanded (piece : Piece) (tick : PodTick) : Type 0 where
  pub free : piece.waiting ≡ 0
  pub next : IsNextTick piece.pod piece.handed tick
