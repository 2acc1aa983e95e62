-- Updates of pieces that a gate has made, or has tried to: `left` holds of each piece as an update leaves it.
use Rattle.std.specs.Prelude.{ℕ, ◌<◌, ◌≤◌, Bool, true, false, List, All, IsTrue}
use Rattle.pod_piece.specs.rule.Piece.{Piece}
use Rattle.pod_piece.specs.state.Piece.{all_updated}
use Rattle.worker_results.specs.state.Done.{IsDone, IsLeftOf, waiting_at, with_waiting}

-- the gate has made each update that took a tick of a piece, where so many waited
abbrev pub WereGated : (Piece → Bool → Bool) → ℕ → Piece → Type 0
WereGated left waited piece = (n : ℕ) → piece.waiting ≤ n → n < waited → IsTrue (left (with_waiting n piece) true)

-- and so of each of these pieces, by all ticks that wait for it
abbrev pub AreGated : (Piece → Bool → Bool) → List Piece → Type 0
AreGated left pieces = All (λ (piece : Piece). WereGated left piece.waiting (all_updated piece)) pieces

-- the piece is done, by updates of the gate
pub record IsFinished (left : Piece → Bool → Bool) (all : List Piece) (piece : Piece) : Type 0 where
  pub is_done : IsDone all piece
  pub gated : WereGated left (waiting_at all piece.number) piece

-- an update of the piece by the gate failed
pub record IsRefused (left : Piece → Bool → Bool) (all : List Piece) (piece : Piece) : Type 0 where
  pub is_left : IsLeftOf all piece
  pub refused : IsTrue (left piece false)

-- an update by the gate failed
abbrev pub WasRefused : (Piece → Bool → Bool) → Type 0
WasRefused left = (piece : Piece) × IsTrue (left piece false)
