-- The raw phase of a pod: its phase by the present state of its containers alone, whatever was before
-- (Kubernetes, "Pod Lifecycle", "Pod phase"; "Init Containers"; "Sidecar Containers"; the order of the
-- cases is this profile's).
use Rattle.std.specs.Prelude.{◌≡◌, ◌⊎◌, List, All, Any}
use Rattle.manifest.specs.declared.pod.Role.TheVariants.{Init, Sidecar, App}
use Rattle.phase.specs.declared.phase.Phase.{Phase}
use Rattle.phase.specs.declared.phase.Phase.TheVariants.{Succeeded, Failed}
use Rattle.phase.specs.rule.Facts.{Facts, HasCompleted}

-- the pod waits for the container: an init container that hasn't completed, a sidecar that was never started, or an app
-- container that isn't set up
abbrev pub IsAwaited : {C : Type 0} → Facts C → C → Type 0
IsAwaited facts container =
    (facts.is container Init × (HasCompleted facts container → ⊥))
    ⊎ ((facts.is container Sidecar × (facts.was_started container → ⊥))
    ⊎ (facts.is container App × (facts.set_up container → ⊥)))

-- the pod waits for some container
abbrev pub IsStarting : {C : Type 0} → Facts C → List C → Type 0
IsStarting facts containers = Any (IsAwaited facts) containers

-- P holds of every app container
abbrev pub AllApps : {C : Type 0} → Facts C → (C → Type 0) → List C → Type 0
AllApps facts P containers = All (λ container. facts.is container App → P container) containers

-- P holds of some app container
abbrev pub AnyApp : {C : Type 0} → Facts C → (C → Type 0) → List C → Type 0
AnyApp facts P containers = Any (λ container. facts.is container App × P container) containers

-- `here` where P holds, else `otherwise`
abbrev pub Where : Type 0 → Type 0 → Type 0 → Type 0
Where P here otherwise = (P × here) ⊎ ((P → ⊥) × otherwise)

-- a pod of this phase has ended
abbrev pub IsTerminal : Phase → Type 0
IsTerminal phase = (phase ≡ Succeeded) ⊎ (phase ≡ Failed)

-- nothing is left to be done for the container before the app containers start: an init container has completed, and
-- a sidecar was started
pub record HasInitialized {C : Type 0} (facts : Facts C) (container : C) : Type 0 where
  pub init : facts.is container Init → HasCompleted facts container
  pub sidecar : facts.is container Sidecar → facts.was_started container

-- the pod is initialized: every init container has completed, and every sidecar was started
abbrev pub AreInitialized : {C : Type 0} → Facts C → List C → Type 0
AreInitialized facts containers = All (HasInitialized facts) containers
