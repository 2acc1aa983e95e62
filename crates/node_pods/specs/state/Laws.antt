-- The statements of the laws.
use Rattle.std.specs.Prelude.{◌≡◌, ℕ, List, Bool, Option, IsSome}
use Rattle.signals.specs.declared.signal.Signal.{Signal}
use Rattle.observations.specs.rule.Pods.{PodObs}
use Rattle.observations.specs.declared.tick.TickObs.{TickObs}
use Rattle.observations.specs.rule.Observations.{shown_of}
use Rattle.pod_piece.specs.declared.order.EvictOrder.{EvictOrder}
use Rattle.pod_piece.specs.declared.status.PodStatus.{PodStatus}
use Rattle.pod_piece.specs.rule.Piece.{Piece}
use Rattle.ranking.specs.rule.Order.{IsVictim}
use Rattle.node_pods.specs.state.Pods.{Pods, IsCandidate, AreNext, Fits, AreAfter, IsEvictable, AreEvicted}
use Rattle.node_pods.specs.state.Steps.{AreFree}

-- two statuses of a candidate are one in all by which pods are ranked, and in the phase
pub record AreAlike (p q : PodStatus) : Type 0 where
  pub number : p.number ≡ q.number
  pub phase : p.phase ≡ q.phase
  pub requests : p.requests ≡ q.requests
  pub usage : p.usage ≡ q.usage
  pub priority : p.priority ≡ q.priority

-- all statuses of a candidate are alike
abbrev pub CandidatesAreAlike : Type 0
CandidatesAreAlike = (pieces : List Piece) (moment n : ℕ) (p q : PodStatus)
    → IsCandidate pieces moment n p → IsCandidate pieces moment n q → AreAlike p q

-- of the candidates there is one victim at most
abbrev pub OneVictim : Type 0
OneVictim = (pieces : List Piece) (moment : ℕ) (signal : Signal) (has_dedicated_imagefs : Bool) (one other : Option ℕ)
    → IsVictim signal has_dedicated_imagefs (IsCandidate pieces moment) one
    → IsVictim signal has_dedicated_imagefs (IsCandidate pieces moment) other → one ≡ other

-- the candidates after a tick are pods that the tick shows
abbrev pub CandidateIsShown : Type 0
CandidateIsShown = (pods : Pods) (tick : TickObs) (new : List Piece) (n : ℕ) (status : PodStatus)
    → Fits pods tick → AreAfter pods.pieces tick.pods new → IsCandidate new tick.at n status → IsSome (shown_of tick n)

-- the pod that was evicted is no candidate any more
abbrev pub EvictedIsNoCandidate : Type 0
EvictedIsNoCandidate = (old new : List Piece) (number : ℕ) (order : EvictOrder)
    → AreFree old → IsEvictable old number order.at → AreEvicted old number order new
    → (moment : ℕ) (status : PodStatus) → IsCandidate new moment number status → ⊥

-- there are pieces after a tick, and only these
pub record OneIsAfter : Type 0 where
  pub exists : (old : List Piece) (shown : List (Option PodObs)) → AreNext old shown
      → (new : List Piece) × AreAfter old shown new
  pub unique : (old : List Piece) (shown : List (Option PodObs)) (one other : List Piece) → AreNext old shown
      → AreAfter old shown one → AreAfter old shown other → one ≡ other

-- there are pieces after an eviction, and only these
pub record OneIsEvicted : Type 0 where
  pub exists : (old : List Piece) (number : ℕ) (order : EvictOrder)
      → (new : List Piece) × AreEvicted old number order new
  pub unique : (old : List Piece) (number : ℕ) (order : EvictOrder) (one other : List Piece)
      → AreEvicted old number order one → AreEvicted old number order other → one ≡ other
