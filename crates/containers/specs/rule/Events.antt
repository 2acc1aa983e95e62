-- The events of one container in the last tick of its history, t, by their places in the tick.
use Rattle.std.specs.Prelude.{◌≡◌, ◌⊎◌, ℕ, suc, ℤ, ◌<◌, List, IsSomeAnd}
use Rattle.histories.specs.rule.Histories.{HoldsAt, ComesTrue}
use Rattle.histories.specs.rule.TheOne.{IsTheOne}
use Rattle.manifest.specs.declared.policy.Policy.{Policy}
use Rattle.manifest.specs.declared.pod.ContainerSpec.{ContainerSpec}
use Rattle.state_diff.specs.rule.Instances.{Listed, IsStart, IsExit, IsCodeAt, killed_code}
use Rattle.probes.specs.declared.probe_set.Cause.{Cause}
use Rattle.containers.specs.declared.pod_event_kind.PodEventKind.{PodEventKind}
use Rattle.containers.specs.declared.pod_event_kind.PodEventKind.TheVariants.{Died, Started, StartupPassed, Kill, Ready}
use Rattle.containers.specs.declared.pod_event_kind.PodEventKind.TheVariants.{Unready, Backoff}
use Rattle.containers.specs.declared.pod_event_kind.PodEventKind.TheVariants.{Restart}
use Rattle.containers.specs.declared.events.ContainerEvents.{ContainerEvents}
use Rattle.containers.specs.rule.Ticks.{ContainerTick, listings}
use Rattle.containers.specs.rule.Probed.{HasPassed, IsKillOrdered, IsContainerReady}
use Rattle.containers.specs.rule.Exits.{IsToRestart, IsDelayed, FallsDue}

-- an instance died because the tick no longer lists it
abbrev pub IsGone : List ContainerTick → ℕ → PodEventKind → Type 0
IsGone h t kind = (a : ℕ) × (kind ≡ Died a killed_code) × IsExit (listings h) a t × (Listed (listings h) a t → ⊥)

-- the listed instance started
abbrev pub HasStarted : List ContainerTick → ℕ → PodEventKind → Type 0
HasStarted h t kind = (a : ℕ) × (kind ≡ Started a) × IsStart (listings h) a t

-- the listed instance died
abbrev pub HasDied : List ContainerTick → ℕ → PodEventKind → Type 0
HasDied h t kind =
    (a : ℕ) × (code : ℤ) × (kind ≡ Died a code) × IsExit (listings h) a t × Listed (listings h) a t
    × IsCodeAt (listings h) a code t

-- the startup probe of an instance passed
abbrev pub Passes : ContainerSpec → List ContainerTick → ℕ → PodEventKind → Type 0
Passes spec h t kind =
    (a : ℕ) × (kind ≡ StartupPassed a) × IsSomeAnd spec.probes.startup (λ probe. ComesTrue (HasPassed probe a) h t)

-- an instance is to be killed
abbrev pub IsKilled : ContainerSpec → List ContainerTick → ℕ → PodEventKind → Type 0
IsKilled spec h t kind =
    (a : ℕ) × (cause : Cause) × (kind ≡ Kill a cause) × ComesTrue (IsKillOrdered spec cause a) h t

-- the container was ready after the tick before t; before the first tick it was not
abbrev pub WasReady : ContainerSpec → List ContainerTick → ℕ → Type 0
WasReady spec h t = (u : ℕ) × (suc u ≡ t) × HoldsAt (IsContainerReady spec) h u

-- the container became ready, or is no longer
abbrev pub ChangesReadiness : ContainerSpec → List ContainerTick → ℕ → PodEventKind → Type 0
ChangesReadiness spec h t kind =
    ((kind ≡ Ready) × IsContainerReady spec h × (WasReady spec h t → ⊥))
    ⊎ ((kind ≡ Unready) × (IsContainerReady spec h → ⊥) × WasReady spec h t)

-- the newest instance died, and its restart is backed off
abbrev pub IsBackedOff : Policy → ℕ → ContainerSpec → List ContainerTick → ℕ → PodEventKind → Type 0
IsBackedOff policy max_restart_delay spec h t kind =
    (a : ℕ) × (delay : ℕ) × (kind ≡ Backoff delay) × IsExit (listings h) a t × IsToRestart policy spec h a
    × IsDelayed max_restart_delay h delay × (0 < delay)

-- the restart of the newest instance falls due; it comes unless the pod has succeeded or failed
abbrev pub IsRestarted : Policy → ℕ → ContainerSpec → List ContainerTick → ℕ → PodEventKind → Type 0
IsRestarted policy max_restart_delay spec h t kind =
    (a : ℕ) × (kind ≡ Restart a) × IsToRestart policy spec h a × FallsDue max_restart_delay h t

-- the events of the tick, place by place
pub record AreEvents (policy : Policy) (max_restart_delay : ℕ) (spec : ContainerSpec) (h : List ContainerTick) (t : ℕ)
    (events : ContainerEvents) : Type 0 where
  pub gone : IsTheOne (IsGone h t) events.gone
  pub started : IsTheOne (HasStarted h t) events.started
  pub died : IsTheOne (HasDied h t) events.died
  pub passed : IsTheOne (Passes spec h t) events.passed
  pub kill : IsTheOne (IsKilled spec h t) events.kill
  pub readiness : IsTheOne (ChangesReadiness spec h t) events.readiness
  pub backoff : IsTheOne (IsBackedOff policy max_restart_delay spec h t) events.backoff
  pub restart : IsTheOne (IsRestarted policy max_restart_delay spec h t) events.restart
