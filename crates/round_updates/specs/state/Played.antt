-- A round that workers play by a list of steps.
use Rattle.std.specs.Prelude.{◌≡◌, ℕ, List, length}
use Rattle.round_steps.specs.declared.step.Step.{Step}
use Rattle.totals.specs.declared.totals.Entry.{Entry}
use Rattle.round_core.specs.state.Pool.{after_drain, finished_lists}

-- these are the numbers of the pods that each worker finished, in a round of this many pods: after the deal,
-- the steps and the drain. What the pods add to the book makes no difference
abbrev pub AreFinished : ℕ → ℕ → List Step → List (List ℕ) → Type 0
AreFinished pods workers steps lists =
    (entries : List Entry) → length entries ≡ pods → lists ≡ finished_lists (after_drain entries workers steps)
