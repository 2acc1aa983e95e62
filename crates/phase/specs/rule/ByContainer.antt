-- The raw phase of a pod whose containers decide each by itself whether they are restarted (Kubernetes, "Pod
-- Lifecycle", "Pod phase" and "Individual container restart policy and rules"; the order of the cases is this
-- profile's). W container code: the container is restarted after an exit with this code.
use Rattle.std.specs.Prelude.{◌≡◌, ◌≢◌, ℤ, pos, List, Any}
use Rattle.manifest.specs.declared.pod.Role.TheVariants.{Init}
use Rattle.phase.specs.declared.phase.Phase.{Phase}
use Rattle.phase.specs.declared.phase.Phase.TheVariants.{Pending, Running, Succeeded, Failed}
use Rattle.phase.specs.rule.Facts.{Facts, HasCompleted, HasFailed}
use Rattle.phase.specs.rule.RawPhase.{Where, IsStarting, AllApps, AnyApp}

-- the container's newest instance has exited, and is not restarted
pub record HasStopped {C : Type 0} (facts : Facts C) (W : C → ℤ → Type 0) (container : C) : Type 0 where
  pub code : ℤ
  pub exited : facts.exited container code
  pub wants_none : W container code → ⊥

-- an init container that has failed, and is not restarted
pub record HasFailedForGood {C : Type 0} (facts : Facts C) (W : C → ℤ → Type 0) (container : C) : Type 0 where
  pub init : facts.is container Init
  pub code : ℤ
  pub exited : facts.exited container code
  pub failed : code ≢ pos 0
  pub wants_none : W container code → ⊥

-- every app container has exited, and none is restarted
abbrev pub HaveStopped : {C : Type 0} → Facts C → (C → ℤ → Type 0) → List C → Type 0
HaveStopped facts W containers = AllApps facts (HasStopped facts W) containers

-- the raw phase: the first case that holds gives it
abbrev pub IsRawPhaseBy : {C : Type 0} → Facts C → (C → ℤ → Type 0) → List C → Phase → Type 0
IsRawPhaseBy facts W containers phase =
    Where (Any (HasFailedForGood facts W) containers) (phase ≡ Failed)
    (Where (IsStarting facts containers) (phase ≡ Pending)
    (Where (HaveStopped facts W containers × AllApps facts (HasCompleted facts) containers) (phase ≡ Succeeded)
    (Where (HaveStopped facts W containers × AnyApp facts (HasFailed facts) containers) (phase ≡ Failed)
    (phase ≡ Running))))
