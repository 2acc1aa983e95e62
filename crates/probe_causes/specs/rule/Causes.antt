-- Which results make a probe act, by their moments: the failures for which an instance is to be killed, the successes
-- that make it ready, the failures that make it unready, and the success of its startup probe. All ticks are those of
-- one instance up to the tick of the event. (Kubernetes, "Configure Liveness, Readiness and Startup Probes",
-- "Configure Probes": successThreshold, failureThreshold; "Pod Lifecycle", "Types of probe".)
use Rattle.std.specs.Prelude.{◌≡◌, ℕ, suc, ◌<◌, ◌-◌, List, length, take, slice_get, Option, Some, None, IsSomeAnd}
use Rattle.manifest.specs.declared.outcome.Outcome.{Outcome}
use Rattle.manifest.specs.declared.outcome.Outcome.TheVariants.{Success, Failure}
use Rattle.manifest.specs.rule.Probe.{Probe, Probes}
use Rattle.histories.specs.rule.Histories.{HoldsAt, IsFirst, IsFirstMoment, last_moment}
use Rattle.probes.specs.declared.probe_set.Cause.{Cause}
use Rattle.probes.specs.declared.probe_set.Cause.TheVariants.{Startup, Liveness}
use Rattle.probes.specs.rule.Outcomes.{EndsRun, FailsWithin}
use Rattle.probes.specs.rule.Ticks.{Results, Tick, startup_results, HasPassed}
use Rattle.probes.specs.rule.Container.{AreCounted}
use Rattle.probe_causes.specs.rule.Moments.{startup_in, liveness_in, readiness_in, results_of, moments_of, last_of}

-- the last n results that belong have this outcome; these are their moments, and the last of them is the last tick's
pub record AreLast (which : Results → Option Outcome) (outcome : Outcome) (n : ℕ) (probe : Probe) (start : ℕ)
    (ticks : List Tick) (moments : List ℕ) : Type 0 where
  pub run : EndsRun outcome n (results_of which probe start ticks) (length (results_of which probe start ticks))
  pub at : moments ≡ last_of n (moments_of which probe start ticks)
  pub now : slice_get moments (n - 1) ≡ last_moment ticks

-- the first results of the startup probe that belong are failures, as many as its failure threshold; these are their
-- moments
pub record AreFirst (probe : Probe) (start : ℕ) (ticks : List Tick) (moments : List ℕ) : Type 0 where
  pub failed : FailsWithin probe.failure_threshold (startup_results probe start ticks)
  pub at : moments ≡ take probe.failure_threshold (moments_of startup_in probe start ticks)

-- the moments of the failures for which the instance is to be killed
abbrev pub AreKillFailures : Probes → ℕ → Cause → List Tick → List ℕ → Type 0
AreKillFailures probes start Startup ticks moments = IsSomeAnd probes.startup (λ p. AreFirst p start ticks moments)
AreKillFailures probes start Liveness ticks moments =
    (counted : List Tick) × AreCounted probes.startup start ticks counted
    × IsSomeAnd probes.liveness (λ p. AreLast liveness_in Failure p.failure_threshold p start counted moments)

-- the moments of the successes that make the instance ready with the last tick
abbrev pub AreReadySuccesses : Probes → ℕ → List Tick → List ℕ → Type 0
AreReadySuccesses probes start ticks moments =
    (counted : List Tick) × AreCounted probes.startup start ticks counted
    × IsSomeAnd probes.readiness (λ p. AreLast readiness_in Success p.success_threshold p start counted moments)

-- the moments of the failures that make the instance unready with the last tick
abbrev pub AreUnreadyFailures : Probes → ℕ → List Tick → List ℕ → Type 0
AreUnreadyFailures probes start ticks moments =
    (counted : List Tick) × AreCounted probes.startup start ticks counted
    × IsSomeAnd probes.readiness (λ p. AreLast readiness_in Failure p.failure_threshold p start counted moments)

-- of the results of the startup probe that belong, counted from 1, the one with this number is the first success, and
-- no more results came before it than the failure threshold allows
pub record IsFirstSuccess (probe : Probe) (start : ℕ) (ticks : List Tick) (number : ℕ) : Type 0 where
  pub place : ℕ
  pub counts : number ≡ suc place
  pub in_time : place < probe.failure_threshold
  pub first : IsFirst (λ k. slice_get (startup_results probe start ticks) k ≡ Some Success) place

-- the moment of the tick in which startup passed: none while it has not, and none without a startup probe
abbrev pub IsPassMoment : Option Probe → ℕ → List Tick → Option ℕ → Type 0
IsPassMoment None start ticks moment = moment ≡ None
IsPassMoment (Some probe) start ticks moment = IsFirstMoment ticks (HoldsAt (HasPassed probe start) ticks) moment
