-- Runs of results in a list, oldest first. A place is counted from 0; the e-th result is counted
-- from 1. (Kubernetes, "Configure Liveness, Readiness and Startup Probes", "Configure Probes":
-- successThreshold, failureThreshold.)
use Rattle.std.specs.Prelude.{◌≡◌, ℕ, ◌+◌, ◌<◌, ◌≤◌, Bool, true, false, List, length, slice_get, Some}
use Rattle.manifest.specs.declared.outcome.Outcome.{Outcome}
use Rattle.manifest.specs.declared.outcome.Outcome.TheVariants.{Success, Failure, Unknown}

-- whether the result is a success or a failure; no action is taken on any other
-- ("Pod Lifecycle", "Probe outcome")
abbrev pub is_known : Outcome → Bool
is_known Success = true
is_known Failure = true
is_known Unknown = false

-- the n results that end with the e-th are all the outcome
pub record EndsRun (outcome : Outcome) (n : ℕ) (results : List Outcome) (e : ℕ) : Type 0 where
  pub among : e ≤ length results
  pub enough : n ≤ e
  pub all : (k : ℕ) → k < e → e ≤ k + n → slice_get results k ≡ Some outcome

-- n failures come in a row
abbrev pub FailsInARow : ℕ → List Outcome → Type 0
FailsInARow n results = (e : ℕ) × EndsRun Failure n results e

-- s successes come in a row, and no f failures in a row later
abbrev pub HoldsAfter : ℕ → ℕ → List Outcome → Type 0
HoldsAfter s f results = (e : ℕ) × EndsRun Success s results e
    × ((later : ℕ) → e < later → EndsRun Failure f results later → ⊥)

-- one of the first f results is a success
abbrev pub PassesWithin : ℕ → List Outcome → Type 0
PassesWithin f results = (k : ℕ) × (k < f) × (slice_get results k ≡ Some Success)

-- there are at least f results, and the first f are failures
pub record FailsWithin (f : ℕ) (results : List Outcome) : Type 0 where
  pub enough : f ≤ length results
  pub all : (k : ℕ) → k < f → slice_get results k ≡ Some Failure
