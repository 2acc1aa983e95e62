-- All candidates in the order in which they are evicted (Kubernetes, "Node-pressure Eviction", "Pod selection for
-- kubelet eviction"). Candidates are pods by their numbers, with their statuses.
use Rattle.std.specs.Prelude.{◌≢◌, ℕ, List, [], ◌∷◌, Bool, Some, None}
use Rattle.signals.specs.declared.signal.Signal.{Signal}
use Rattle.pod_piece.specs.declared.status.PodStatus.{PodStatus}
use Rattle.ranking.specs.rule.Order.{IsVictim}

-- the candidates but for the one with this number
abbrev pub Without : ℕ → (ℕ → PodStatus → Type 0) → ℕ → PodStatus → Type 0
Without n IsCandidate m q = IsCandidate m q × (m ≢ n)

-- the numbers of all candidates, in the order of eviction: the victim's, and then those of all the others, in their
-- order
abbrev pub AreRanked : Signal → Bool → (ℕ → PodStatus → Type 0) → List ℕ → Type 0
AreRanked signal has_dedicated_imagefs IsCandidate [] = IsVictim signal has_dedicated_imagefs IsCandidate None
AreRanked signal has_dedicated_imagefs IsCandidate (n ∷ numbers) =
    IsVictim signal has_dedicated_imagefs IsCandidate (Some n)
    × AreRanked signal has_dedicated_imagefs (Without n IsCandidate) numbers
