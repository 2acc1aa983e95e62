-- The ticks of one container, and those that are an instance's. (Kubernetes, "Configure Liveness,
-- Readiness and Startup Probes"; which results belong to an instance is this profile's rule.)
use Rattle.std.specs.Prelude.{ℕ, ◌-◌, List, length, map, Some}
use Rattle.histories.specs.rule.Histories.{Recorded, project, HoldsAt, IsFirstMoment}
use Rattle.histories.specs.rule.Picked.{ArePicked}
use Rattle.observations.specs.declared.container.ContainerObs.{ContainerObs}
use Rattle.state_diff.specs.declared.seen.CriState.TheVariants.{Running}
use Rattle.state_diff.specs.rule.Instances.{Tick, Listed, ListedAs, IsState}
use Rattle.probes.specs.rule.Ticks.{Tick as ProbeTick, tick as results_at}

-- one tick of a container: its moment, what it lists of the container, and the results of the container's probes
abbrev pub ContainerTick : Type 0
ContainerTick = Recorded ContainerObs

-- what the ticks list
abbrev pub listings : List ContainerTick → List Tick
listings h = project (λ (observed : ContainerObs). observed.seen) h

-- the last tick lists the instance, and the instance is running
pub record BelongsTo (a : ℕ) (h : List ContainerTick) : Type 0 where
  pub listed : Listed (listings h) a (length h - 1)
  pub runs : IsState (listings h) a Running

-- a tick as the probes see it
abbrev pub results_of : ContainerTick → ProbeTick
results_of tick = results_at tick.moment tick.entry.results

-- the ticks whose results are the instance's: those that list it while it is running
abbrev pub AreTicksOf : List ContainerTick → ℕ → List ProbeTick → Type 0
AreTicksOf h a ticks = ArePicked (HoldsAt (BelongsTo a) h) (map results_of h) ticks

-- the moment at which the instance starts: the moment of the first tick that lists it as running
abbrev pub StartsAt : List ContainerTick → ℕ → ℕ → Type 0
StartsAt h a start = IsFirstMoment (listings h) (ListedAs (listings h) a Running) (Some start)

-- Q holds of an instance that has started: of its start, and of the ticks whose results are the instance's
pub record SaysOf (Q : ℕ → List ProbeTick → Type 0) (h : List ContainerTick) (a : ℕ) : Type 0 where
  pub start : ℕ
  pub starts : StartsAt h a start
  pub ticks : List ProbeTick
  pub are_ticks : AreTicksOf h a ticks
  pub says : Q start ticks
