-- The exits of a container, and the restart after the last one. (Kubernetes, "Pod Lifecycle", "Container restart
-- policy" and "Individual container restart policy and rules"; that every exit counts towards the delay, and that a
-- restart falls due at one tick alone, are this profile's rules.)
use Rattle.std.specs.Prelude.{◌≡◌, ◌↔◌, ℕ, ℤ, ◌<◌, ◌≤◌, List, [], ◌∷◌, slice_get, Contains, Some, IsSomeAnd}
use Rattle.histories.specs.rule.Histories.{IsFirst, IsFirstMoment, moment_at}
use Rattle.manifest.specs.declared.policy.Policy.{Policy}
use Rattle.manifest.specs.declared.pod.ContainerSpec.{ContainerSpec}
use Rattle.restarts.specs.rule.Own.{WantsRestartBy}
use Rattle.state_diff.specs.rule.Instances.{Tick, Ends, IsNewest, IsExit, IsExitCode, IsRun}
use Rattle.restarts.specs.rule.Exits.{Exit}
use Rattle.restarts.specs.rule.Delays.{IsDelay, IsRestartDue}
use Rattle.containers.specs.rule.Ticks.{ContainerTick, listings}

-- the exit of an instance: its moment, and for how many seconds the instance ran
pub record IsExitOf (h : List Tick) (a : ℕ) (exit : Exit) : Type 0 where
  pub moment : IsFirstMoment h (Ends h a) (Some exit.moment)
  pub run : IsRun h a exit.entry

-- these are the exits of these attempts, one by one
abbrev pub AreExitsOf : List Tick → List ℕ → List Exit → Type 0
AreExitsOf h [] [] = Unit {0}
AreExitsOf h [] (exit ∷ exits) = ⊥
AreExitsOf h (a ∷ attempts) [] = ⊥
AreExitsOf h (a ∷ attempts) (exit ∷ exits) = IsExitOf h a exit × AreExitsOf h attempts exits

-- each attempt is greater than those before it
abbrev pub IsRisingList : List ℕ → Type 0
IsRisingList attempts = (i j a b : ℕ) → i < j → slice_get attempts i ≡ Some a → slice_get attempts j ≡ Some b → a < b

-- all exits of the container, in the order of their attempts, which is also the order of their moments
pub record AreExits (h : List Tick) (exits : List Exit) : Type 0 where
  pub attempts : List ℕ
  pub in_order : IsRisingList attempts
  pub all : (a : ℕ) → (Contains attempts a ↔ ((t : ℕ) × IsExit h a t))
  pub each : AreExitsOf h attempts exits

-- the newest instance has exited, and is to be started again: by the pod's policy and by what the container has of its
-- own
pub record IsToRestart (policy : Policy) (spec : ContainerSpec) (h : List ContainerTick) (a : ℕ) : Type 0 where
  pub newest : IsNewest (listings h) a
  pub code : ℤ
  pub exited : IsExitCode (listings h) a code
  pub wanted : WantsRestartBy policy spec.own_restarts spec.role code

-- the delay after the last exit, on a node with a maximum delay
abbrev pub IsDelayed : ℕ → List ContainerTick → ℕ → Type 0
IsDelayed max_restart_delay h delay = (exits : List Exit) × AreExits (listings h) exits
    × IsDelay max_restart_delay exits delay

-- t is the first tick that is not before the moment from which on the restart after the last exit is due
abbrev pub FallsDue : ℕ → List ContainerTick → ℕ → Type 0
FallsDue max_restart_delay h t =
    (exits : List Exit) × (due : ℕ) × AreExits (listings h) exits × IsRestartDue max_restart_delay exits (Some due)
    × IsFirst (λ u. IsSomeAnd (moment_at h u) (λ moment. due ≤ moment)) t
