-- What an index of a node's pods holds.
use Rattle.std.specs.Prelude.{◌≡◌, ℕ, ◌<◌, ◌≤◌, List, Option, Some, None, IsSome}
use Rattle.pod_piece.specs.declared.status.PodStatus.{PodStatus}
use Rattle.pod_piece.specs.rule.Piece.{Piece}
use Rattle.node_pods.specs.state.Pods.{IsCandidate}

-- what is held under a number is the pod of that number, if it is a candidate at the moment
pub record IsHeldAt (pieces : List Piece) (moment : ℕ) (held : ℕ → Option PodStatus) (n : ℕ) : Type 0 where
  pub sound : (p : PodStatus) → held n ≡ Some p → IsCandidate pieces moment n p
  pub complete : (p : PodStatus) → IsCandidate pieces moment n p → IsSome (held n)

-- exactly the candidates are held
abbrev pub AreHeld : List Piece → ℕ → (ℕ → Option PodStatus) → Type 0
AreHeld pieces moment held = (n : ℕ) → IsHeldAt pieces moment held n

-- exactly the candidates below a number are held
pub record AreHeldBelow (pieces : List Piece) (moment i : ℕ) (held : ℕ → Option PodStatus) : Type 0 where
  pub below : (n : ℕ) → n < i → IsHeldAt pieces moment held n
  pub rest : (n : ℕ) → i ≤ n → held n ≡ None
