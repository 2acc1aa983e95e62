-- What holds of a container whatever its ticks were.
use Rattle.std.specs.Prelude.{◌≡◌, ℕ, Bool, List, [], ◌∷◌, ◌++◌, length, IsTrue}
use Rattle.manifest.specs.declared.policy.Policy.{Policy}
use Rattle.manifest.specs.declared.pod.ContainerSpec.{ContainerSpec}
use Rattle.state_diff.specs.rule.Instances.{Tick, IsNewest, IsExit}
use Rattle.probes.specs.declared.probe_set.Cause.{Cause}
use Rattle.probes.specs.rule.Ticks.{Tick as ProbeTick}
use Rattle.probes.specs.state.Container.{AreInRange}
use Rattle.restarts.specs.rule.Exits.{Exit}
use Rattle.phase.specs.declared.view.ContainerView.{ContainerView}
use Rattle.containers.specs.declared.status.ContainerStatus.{ContainerStatus}
use Rattle.containers.specs.declared.pod_event_kind.PodEventKind.TheVariants.{Kill, Restart}
use Rattle.containers.specs.declared.events.ContainerEvents.{ContainerEvents}
use Rattle.containers.specs.rule.Ticks.{ContainerTick, listings, AreTicksOf}
use Rattle.containers.specs.rule.Exits.{AreExits, IsDelayed}
use Rattle.containers.specs.rule.Shown.{IsShown}
use Rattle.containers.specs.state.Shown.{IsViewOf}
use Rattle.containers.specs.rule.Events.{IsKilled, IsRestarted, AreEvents}

-- a container has a list of exits, whatever its listings are
abbrev pub SomeListOfExits : Type 0
SomeListOfExits = (h : List Tick) → (exits : List Exit) × AreExits h exits

-- there is a delay after the last of its exits
abbrev pub SomeDelay : Type 0
SomeDelay = (max_restart_delay : ℕ) (h : List ContainerTick) → (delay : ℕ) × IsDelayed max_restart_delay h delay

-- each of its instances has a list of results
abbrev pub SomeListOfResults : Type 0
SomeListOfResults = (h : List ContainerTick) (a : ℕ) → (ticks : List ProbeTick) × AreTicksOf h a ticks

-- a container has a view, and a status in a pod that was evicted or was not
pub record SomeStatus : Type 0 where
  pub view : (spec : ContainerSpec) (h : List ContainerTick) → (view : ContainerView) × IsViewOf spec h view
  pub shown : (spec : ContainerSpec) (is_ended_by_node : Bool) (h : List ContainerTick)
      → (status : ContainerStatus) × IsShown spec (IsTrue is_ended_by_node) h status

-- a container has at most one list of exits
abbrev pub OneListOfExits : Type 0
OneListOfExits = (h : List Tick) (exits others : List Exit) → AreExits h exits → AreExits h others → exits ≡ others

-- an instance has at most one list of results
abbrev pub OneListOfResults : Type 0
OneListOfResults = (h : List ContainerTick) (a : ℕ) (ticks others : List ProbeTick) → AreTicksOf h a ticks
    → AreTicksOf h a others → ticks ≡ others

-- what is restarted is the newest instance, and it has exited
abbrev pub RestartsTheNewest : Type 0
RestartsTheNewest =
    (policy : Policy) (max_restart_delay : ℕ) (spec : ContainerSpec) (h : List ContainerTick) (t a : ℕ)
    → IsRestarted policy max_restart_delay spec h t (Restart a)
    → IsNewest (listings h) a × ((u : ℕ) × IsExit (listings h) a u)

-- an instance is to be killed at one tick at most, and for one cause
abbrev pub KilledOnce : Type 0
KilledOnce =
    (spec : ContainerSpec) (h : List ContainerTick) (t u a : ℕ) (cause other : Cause) → AreInRange spec.probes
    → IsKilled spec h t (Kill a cause) → IsKilled spec h u (Kill a other) → (t ≡ u) × (cause ≡ other)

-- a tick makes events of a container, where the numbers of its probes are in their ranges
abbrev pub SomeListOfEvents : Type 0
SomeListOfEvents =
    (policy : Policy) (max_restart_delay : ℕ) (spec : ContainerSpec) (h : List ContainerTick) (x : ContainerTick)
    → AreInRange spec.probes
    → (events : ContainerEvents) × AreEvents policy max_restart_delay spec (h ++ x ∷ []) (length h) events

-- the events of a tick are determined
abbrev pub OneListOfEvents : Type 0
OneListOfEvents =
    (policy : Policy) (max_restart_delay : ℕ) (spec : ContainerSpec) (h : List ContainerTick) (t : ℕ)
    (events others : ContainerEvents)
    → AreEvents policy max_restart_delay spec h t events → AreEvents policy max_restart_delay spec h t others
    → events ≡ others
