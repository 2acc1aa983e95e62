-- The raw phase of a pod whose containers all go by the pod's restart policy, as in the standard format (Kubernetes,
-- "Pod Lifecycle", "Pod phase" and "Container restart policy"; "Init Containers"; "Sidecar Containers"; the order of
-- the cases is this profile's).
use Rattle.std.specs.Prelude.{◌≡◌, ℤ, List, Any}
use Rattle.manifest.specs.declared.policy.Policy.{Policy}
use Rattle.manifest.specs.declared.policy.Policy.TheVariants.{Never}
use Rattle.manifest.specs.declared.pod.Role.TheVariants.{Init, App}
use Rattle.restarts.specs.rule.Policy.{WantsRestart}
use Rattle.phase.specs.declared.phase.Phase.{Phase}
use Rattle.phase.specs.declared.phase.Phase.TheVariants.{Pending, Running, Succeeded, Failed}
use Rattle.phase.specs.rule.Facts.{Facts, HasCompleted, HasFailed}
use Rattle.phase.specs.rule.RawPhase.{Where, IsStarting, AllApps, AnyApp}

-- the container's newest instance has exited, and an app container is not restarted after such an exit
pub record HasFinished {C : Type 0} (facts : Facts C) (policy : Policy) (container : C) : Type 0 where
  pub code : ℤ
  pub exited : facts.exited container code
  pub wants_none : WantsRestart policy App code → ⊥

-- an init container that has failed
abbrev pub IsFailedInit : {C : Type 0} → Facts C → C → Type 0
IsFailedInit facts container = facts.is container Init × HasFailed facts container

-- some init container has failed, and is not restarted since the policy is Never
abbrev pub InitHasFailed : {C : Type 0} → Facts C → Policy → List C → Type 0
InitHasFailed facts policy containers = (policy ≡ Never) × Any (IsFailedInit facts) containers

-- every app container has finished
abbrev pub HaveFinished : {C : Type 0} → Facts C → Policy → List C → Type 0
HaveFinished facts policy containers = AllApps facts (HasFinished facts policy) containers

-- every app container has finished, and each has completed
abbrev pub HaveSucceeded : {C : Type 0} → Facts C → Policy → List C → Type 0
HaveSucceeded facts policy containers =
    HaveFinished facts policy containers × AllApps facts (HasCompleted facts) containers

-- every app container has finished, and some has failed
abbrev pub HaveFailed : {C : Type 0} → Facts C → Policy → List C → Type 0
HaveFailed facts policy containers = HaveFinished facts policy containers × AnyApp facts (HasFailed facts) containers

-- the raw phase: the first case that holds gives it; a sidecar that still runs does not keep a pod Running
abbrev pub IsRawPhase : {C : Type 0} → Facts C → Policy → List C → Phase → Type 0
IsRawPhase facts policy containers phase =
    Where (InitHasFailed facts policy containers) (phase ≡ Failed)
    (Where (IsStarting facts containers) (phase ≡ Pending)
    (Where (HaveSucceeded facts policy containers) (phase ≡ Succeeded)
    (Where (HaveFailed facts policy containers) (phase ≡ Failed)
    (phase ≡ Running))))
