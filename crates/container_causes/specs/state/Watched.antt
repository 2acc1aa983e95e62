-- What is kept of a container's past for the causes of its events.
use Rattle.std.specs.Prelude.{◌≡◌, ℕ, Bool, List, [], ◌∷◌, ◌++◌, Option, Some, IsTrue, IsSomeAnd, IfSome, option_map}
use Rattle.manifest.specs.declared.outcome.Outcome.{Outcome}
use Rattle.manifest.specs.declared.pod.ContainerSpec.{ContainerSpec}
use Rattle.manifest.specs.rule.Probe.{Probes}
use Rattle.state_diff.specs.declared.seen.CriState.TheVariants.{Running}
use Rattle.state_diff.specs.rule.Instances.{IsNewest, IsState, IsExit}
use Rattle.probes.specs.rule.Ticks.{Tick as ProbeTick, tick}
use Rattle.probe_causes.specs.state.ResultMoments.{AreMomentsOf, PassesNow}
use Rattle.containers.specs.declared.pod_event_kind.PodEventKind.{PodEventKind}
use Rattle.containers.specs.declared.pod_event_kind.PodEventKind.TheVariants.{Started, StartupPassed}
use Rattle.containers.specs.rule.Ticks.{ContainerTick, listings, AreTicksOf, StartsAt}
use Rattle.containers.specs.state.Container.{IsStateOf}
use Rattle.container_causes.specs.state.Exits.{IsCountKept}
use Rattle.container_causes.specs.declared.instance_results.InstanceResults.{InstanceResults}
use Rattle.container_causes.specs.rule.Listings.{IsLastTick}
use Rattle.container_causes.specs.declared.listing_causes.KeptTick.{KeptTick}
use Rattle.container_causes.specs.declared.watched_container.WatchedContainer.{WatchedContainer}

-- the results of the instance with this start are kept
pub record IsKept (spec : ContainerSpec) (h : List ContainerTick) (a start : ℕ) (kept : InstanceResults) : Type 0 where
  pub same : kept.attempt ≡ a
  pub ticks : List ProbeTick
  pub are_ticks : AreTicksOf h a ticks
  pub moments : AreMomentsOf spec.probes start ticks kept.moments

-- the results of the newest instance are kept, once it has started
abbrev pub AreResultsOf : ContainerSpec → List ContainerTick → Option InstanceResults → Type 0
AreResultsOf spec h kept = (a start : ℕ) → IsNewest (listings h) a → StartsAt h a start
    → IsSomeAnd kept (IsKept spec h a start)

-- the newest instance runs from its start on until it exits
abbrev pub RunsOn : List ContainerTick → Type 0
RunsOn h = (a start : ℕ) → IsNewest (listings h) a → StartsAt h a start
    → ((t : ℕ) → IsExit (listings h) a t → ⊥) → IsState (listings h) a Running

-- what is kept of a tick
abbrev pub kept_tick : ContainerTick → KeptTick
kept_tick x = record { at = x.moment; seen = x.entry.seen }

-- the last of these ticks is kept, if there is one
abbrev pub IsLastKept : List ContainerTick → Option KeptTick → Type 0
IsLastKept h kept = (last : Option ContainerTick) × IsLastTick h last × (kept ≡ option_map kept_tick last)

-- what is kept after these ticks, on a node with a maximum restart delay
pub record IsWatchedOf (spec : ContainerSpec) (max_restart_delay : ℕ) (h : List ContainerTick)
    (watched : WatchedContainer) : Type 0 where
  pub container : IsStateOf spec max_restart_delay h watched.container
  pub follows : watched.probes ≡ spec.probes
  pub results : AreResultsOf spec h watched.instance
  pub runs_on : RunsOn h
  pub count : IsCountKept h watched.count
  pub last : IsLastKept h watched.last
  pub before : (front : List ContainerTick) (x : ContainerTick) → h ≡ front ++ x ∷ [] → IsLastKept front watched.before

-- an instance whose results are kept from its start on, if one starts at this moment
pub record IsBegun (probes : Probes) (started : Option PodEventKind) (at : ℕ) (old new : Option InstanceResults)
    : Type 0 where
  pub begins : (a : ℕ) → started ≡ Some (Started a)
      → IsSomeAnd new (λ kept. (kept.attempt ≡ a) × AreMomentsOf probes at [] kept.moments)
  pub same : ((a : ℕ) → started ≡ Some (Started a) → ⊥) → new ≡ old

-- the results of one more tick, at this moment, are kept too
pub record IsTakenTo (passed : Option PodEventKind) (at : ℕ) (results : List (Option Outcome))
    (old new : InstanceResults) : Type 0 where
  pub same : new.attempt ≡ old.attempt
  pub moments : (probes : Probes) (start : ℕ) (ticks : List ProbeTick)
      → PassesNow probes.startup start ticks (tick at results) (passed ≡ Some (StartupPassed old.attempt))
      → AreMomentsOf probes start ticks old.moments
      → AreMomentsOf probes start (ticks ++ tick at results ∷ []) new.moments

-- so they are, if they are the instance's
pub record IsTaken (passed : Option PodEventKind) (takes : Bool) (at : ℕ) (results : List (Option Outcome))
    (old new : Option InstanceResults) : Type 0 where
  pub taken : IsTrue takes → IfSome old (λ kept. IsSomeAnd new (IsTakenTo passed at results kept))
  pub idle : (IsTrue takes → ⊥) → new ≡ old
