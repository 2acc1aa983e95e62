-- What the rules on phases ask of one container (Kubernetes, "Pod Lifecycle", "Pod phase" and "Container
-- restart policy"; "Init Containers"; "Sidecar Containers"). C is what stands for the container: a view of
-- it, or its number in a pod with a history.
use Rattle.std.specs.Prelude.{◌≢◌, ℤ, pos}
use Rattle.manifest.specs.declared.pod.Role.{Role}

-- what the rules ask of a container
pub record Facts (C : Type 0) : Type 1 where
  -- it has this role in its pod
  pub is : C → Role → Type 0
  -- its newest instance has exited with the code
  pub exited : C → ℤ → Type 0
  -- one of its instances has started or exited
  pub set_up : C → Type 0
  -- at some tick it was running and its startup had passed
  pub was_started : C → Type 0

-- the container's newest instance has exited with 0
abbrev pub HasCompleted : {C : Type 0} → Facts C → C → Type 0
HasCompleted facts container = facts.exited container (pos 0)

-- the container's newest instance has exited with a code other than 0
abbrev pub HasFailed : {C : Type 0} → Facts C → C → Type 0
HasFailed facts container = (code : ℤ) × facts.exited container code × (code ≢ pos 0)
