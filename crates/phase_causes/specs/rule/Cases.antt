-- Which case of the rules gives a pod its phase, and the container that makes it hold (Kubernetes, "Pod Lifecycle",
-- "Pod phase" and "Container restart policy"; the order of the cases is this profile's). W container code: the
-- container is restarted after an exit with this code.
use Rattle.std.specs.Prelude.{◌≡◌, ℕ, ℤ, List, Any, Some, slice_get}
use Rattle.histories.specs.rule.Histories.{IsFirst}
use Rattle.manifest.specs.declared.pod.Role.TheVariants.{App}
use Rattle.phase.specs.declared.phase.Phase.{Phase}
use Rattle.phase.specs.declared.phase.Phase.TheVariants.{Pending, Running, Succeeded, Failed}
use Rattle.phase.specs.rule.Facts.{Facts, HasCompleted, HasFailed}
use Rattle.phase.specs.rule.RawPhase.{IsAwaited, IsStarting, AllApps, AnyApp}
use Rattle.phase.specs.rule.ByContainer.{HasStopped, HasFailedForGood, HaveStopped}
use Rattle.phase_causes.specs.declared.cases.PhaseCase.{PhaseCase}
use Rattle.phase_causes.specs.declared.cases.PhaseCase.TheVariants as case

-- P holds of the container at the place
abbrev pub IsAt : {C : Type 0} → (C → Type 0) → List C → ℕ → Type 0
IsAt {C} P containers place = (container : C) × (slice_get containers place ≡ Some container) × P container

-- it is the first of which P holds
abbrev pub IsFirstAt : {C : Type 0} → (C → Type 0) → List C → ℕ → Type 0
IsFirstAt P containers place = IsFirst (IsAt P containers) place

-- no init container has failed for good, and the pod waits for none
pub record HasBegun {C : Type 0} (facts : Facts C) (W : C → ℤ → Type 0) (containers : List C) : Type 0 where
  pub none_failed : Any (HasFailedForGood facts W) containers → ⊥
  pub none_awaited : IsStarting facts containers → ⊥

-- an app container that has not exited, or is restarted
abbrev pub IsNotStopped : {C : Type 0} → Facts C → (C → ℤ → Type 0) → C → Type 0
IsNotStopped facts W container = facts.is container App × (HasStopped facts W container → ⊥)

-- the case: the first of the rules that holds
abbrev pub IsPhaseCase : {C : Type 0} → Facts C → (C → ℤ → Type 0) → List C → PhaseCase → Type 0
IsPhaseCase facts W containers (case.InitFailed place) = IsFirstAt (HasFailedForGood facts W) containers place
IsPhaseCase facts W containers (case.Awaited place) =
    (Any (HasFailedForGood facts W) containers → ⊥) × IsFirstAt (IsAwaited facts) containers place
IsPhaseCase facts W containers case.Completed =
    HasBegun facts W containers × HaveStopped facts W containers × AllApps facts (HasCompleted facts) containers
IsPhaseCase facts W containers case.Stopped =
    HasBegun facts W containers × HaveStopped facts W containers × AnyApp facts (HasFailed facts) containers
IsPhaseCase facts W containers (case.Unfinished place) =
    HasBegun facts W containers × IsFirstAt (IsNotStopped facts W) containers place

-- the phase that a case gives
abbrev pub phase_of : PhaseCase → Phase
phase_of (case.InitFailed place) = Failed
phase_of (case.Awaited place) = Pending
phase_of case.Completed = Succeeded
phase_of case.Stopped = Failed
phase_of (case.Unfinished place) = Running
