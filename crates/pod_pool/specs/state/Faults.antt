-- What comes back where a round was not made.
use Rattle.std.specs.Prelude.{◌≡◌, Bool, false, IsTrue, Vec}
use Rattle.std.specs.Global.{Global}
use Rattle.pod_piece.specs.rule.Piece.{Piece}
use Rattle.event_book.specs.state.Shares.{ShareState}
use Rattle.pod_pool.specs.declared.fault.PoolFault.{PoolFault}
use Rattle.pod_pool.specs.declared.fault.PoolFault.TheVariants as fault
use Rattle.worker_results.specs.state.Done.{IsLeftOf}

-- the pieces and the share as they were, or one of the pieces, whose updates did not all come
abbrev pub GivesBack : {U E O : Type 0} → Vec Piece Global → ShareState → PoolFault U E O → Type 0
GivesBack pieces share (fault.NoRoom p s) = (p ≡ pieces) × (s ≡ share)
GivesBack pieces share (fault.Update p) = IsLeftOf pieces.items p

-- an update by the gate failed if that is why a round was not made: `left` holds of each piece as an update leaves it
abbrev pub IsRefusalOf : {U E O : Type 0} → (Piece → Bool → Bool) → PoolFault U E O → Type 0
IsRefusalOf left (fault.NoRoom pieces share) = Unit {0}
IsRefusalOf left (fault.Update piece) = IsTrue (left piece false)
