-- Laws of the causes, over the definitions alone.
use Rattle.std.specs.Prelude.{◌≡◌, ℕ, List, [], ◌∷◌, ◌++◌, length}
use Rattle.manifest.specs.declared.pod.ContainerSpec.{ContainerSpec}
use Rattle.state_diff.specs.rule.Instances.{IsExit}
use Rattle.probes.specs.declared.probe_set.Cause.{Cause}
use Rattle.probes.specs.state.Container.{AreInRange}
use Rattle.restart_causes.specs.declared.exit_count.ExitCount.{ExitCount}
use Rattle.restart_causes.specs.rule.ExitCounts.{doublings_of, delay_by}
use Rattle.containers.specs.declared.pod_event_kind.PodEventKind.TheVariants.{Kill, StartupPassed}
use Rattle.containers.specs.rule.Ticks.{ContainerTick, listings}
use Rattle.containers.specs.rule.Probed.{IsKillOrdered}
use Rattle.containers.specs.rule.Events.{IsKilled, Passes}
use Rattle.containers.specs.rule.Exits.{IsDelayed}
use Rattle.container_causes.specs.declared.exits.LastExit.{LastExit}
use Rattle.container_causes.specs.rule.Exits.{IsLastExit, IsCounted}
use Rattle.container_causes.specs.rule.Results.{AreKillFailures, AreReadySuccesses, AreUnreadyFailures}
use Rattle.container_causes.specs.rule.Results.{IsStartupSuccess}

-- an instance that is to be killed has failures for it
abbrev pub SomeKillFailures : Type 0
SomeKillFailures = (spec : ContainerSpec) (h : List ContainerTick) (x : ContainerTick) (a : ℕ) (cause : Cause)
    → AreInRange spec.probes → IsKilled spec (h ++ x ∷ []) (length h) (Kill a cause)
    → (moments : List ℕ) × AreKillFailures spec cause a (h ++ x ∷ []) moments

-- they are one list
abbrev pub OneListOfKillFailures : Type 0
OneListOfKillFailures = (spec : ContainerSpec) (h : List ContainerTick) (a : ℕ) (cause : Cause)
    (moments others : List ℕ) → AreKillFailures spec cause a h moments → AreKillFailures spec cause a h others
    → moments ≡ others

-- where an instance has such failures, its kill is ordered
abbrev pub KillFollows : Type 0
KillFollows = (spec : ContainerSpec) (h : List ContainerTick) (a : ℕ) (cause : Cause) (moments : List ℕ)
    → AreKillFailures spec cause a h moments → IsKillOrdered spec cause a h

-- the successes that make an instance ready are one list, and the failures that make it unready
abbrev pub OneListOfSuccesses : Type 0
OneListOfSuccesses = (spec : ContainerSpec) (h : List ContainerTick) (a : ℕ) (moments others : List ℕ)
    → AreReadySuccesses spec a h moments → AreReadySuccesses spec a h others → moments ≡ others

abbrev pub OneListOfFailures : Type 0
OneListOfFailures = (spec : ContainerSpec) (h : List ContainerTick) (a : ℕ) (moments others : List ℕ)
    → AreUnreadyFailures spec a h moments → AreUnreadyFailures spec a h others → moments ≡ others

-- an instance whose startup probe passes has the number of its success
abbrev pub SomeStartupSuccess : Type 0
SomeStartupSuccess = (spec : ContainerSpec) (h : List ContainerTick) (x : ContainerTick) (a : ℕ)
    → Passes spec (h ++ x ∷ []) (length h) (StartupPassed a)
    → (number : ℕ) × IsStartupSuccess spec a (h ++ x ∷ []) number

-- the exits of a container have one count at most
abbrev pub OneCounted : Type 0
OneCounted = (h : List ContainerTick) (count other : ExitCount) → IsCounted h count → IsCounted h other → count ≡ other

-- a container with a delay, one of whose instances has exited, has a count
abbrev pub SomeCounted : Type 0
SomeCounted = (max_restart_delay : ℕ) (h : List ContainerTick) (delay a t : ℕ) → IsDelayed max_restart_delay h delay
    → IsExit (listings h) a t → (count : ExitCount) × IsCounted h count

-- the delay follows from the count
abbrev pub DelayFollows : Type 0
DelayFollows = (max_restart_delay : ℕ) (h : List ContainerTick) (count : ExitCount) (delay : ℕ) → IsCounted h count
    → IsDelayed max_restart_delay h delay → delay ≡ delay_by max_restart_delay (doublings_of count.number)

-- the last exit is one
abbrev pub OneLastExit : Type 0
OneLastExit = (h : List ContainerTick) (cause other : LastExit) → IsLastExit h cause → IsLastExit h other
    → cause ≡ other
