-- The state of a container after its ticks.
use Rattle.std.specs.Prelude.{◌≡◌, ◌↔◌, ℕ, List, Option, IsTrue}
use Rattle.histories.specs.state.Histories.{IsRising}
use Rattle.manifest.specs.declared.pod.ContainerSpec.{ContainerSpec}
use Rattle.state_diff.specs.declared.seen.Seen.{Seen}
use Rattle.state_diff.specs.rule.Instances.{IsNewest}
use Rattle.state_diff.specs.state.Differ.{IsStateOf as IsDifferOf, Accepts as DifferAccepts}
use Rattle.state_diff.specs.state.Differ.{IsBefore as IsDifferBefore}
use Rattle.probes.specs.rule.Ticks.{Tick as ProbeTick}
use Rattle.probes.specs.state.ProbeSet.{Follows, IsStateOf as IsProbeSetOf}
use Rattle.restarts.specs.rule.Exits.{Exit}
use Rattle.restarts.specs.state.Backoff.{IsStateOf as IsBackoffOf}
use Rattle.containers.specs.declared.container.Container.{Container}
use Rattle.containers.specs.rule.Ticks.{ContainerTick, listings, AreTicksOf, StartsAt}
use Rattle.containers.specs.rule.Probed.{WasStarted}
use Rattle.containers.specs.rule.Exits.{AreExits}

-- the newest instance, a, started at this moment, and the probe set follows it
pub record IsFollowedBy (spec : ContainerSpec) (h : List ContainerTick) (c : Container) (start : ℕ)
    (a : ℕ) : Type 0 where
  pub ticks : List ProbeTick
  pub are_ticks : AreTicksOf h a ticks
  pub followed : IsProbeSetOf spec.probes start ticks c.probes

-- the container's role, instances and probes after these ticks
pub record IsFollowing (spec : ContainerSpec) (h : List ContainerTick) (c : Container) : Type 0 where
  pub role : c.role ≡ spec.role
  pub differ : IsDifferOf (listings h) c.differ
  pub follows : Follows c.probes spec.probes
  pub probed : (a start : ℕ) → IsNewest (listings h) a → StartsAt h a start → IsFollowedBy spec h c start a

-- the container's state after these ticks, on a node with a maximum restart delay
pub record IsStateOf (spec : ContainerSpec) (max_restart_delay : ℕ) (h : List ContainerTick)
    (c : Container) : Type 0 where
  pub role : c.role ≡ spec.role
  pub rising : IsRising h
  pub differ : IsDifferOf (listings h) c.differ
  pub follows : Follows c.probes spec.probes
  pub probed : (a start : ℕ) → IsNewest (listings h) a → StartsAt h a start → IsFollowedBy spec h c start a
  pub exits : List Exit
  pub are_exits : AreExits (listings h) exits
  pub backoff : IsBackoffOf max_restart_delay exits c.backoff
  pub was_started : IsTrue c.was_started ↔ WasStarted spec h

-- the listing, or none, may come next
abbrev pub Accepts : Container → Option Seen → Type 0
Accepts c seen = DifferAccepts c.differ seen

-- the last tick, if there was one, is before the moment
abbrev pub IsBefore : Container → ℕ → Type 0
IsBefore c moment = IsDifferBefore c.differ moment
