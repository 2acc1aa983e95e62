-- Laws of the causes, over the definitions alone: for every container and every list of ticks.
use Rattle.std.specs.Prelude.{◌≡◌, ◌-◌, ◌∷◌, ℕ, List, [], ◌++◌, length, slice_get, Option, Some, IsSome, IsSomeAnd}
use Rattle.manifest.specs.declared.outcome.Outcome.{Outcome}
use Rattle.manifest.specs.rule.Probe.{Probe, Probes}
use Rattle.histories.specs.rule.Histories.{up_to}
use Rattle.probes.specs.declared.probe_set.Cause.{Cause}
use Rattle.probes.specs.declared.probe_set.Cause.TheVariants.{Startup, Liveness}
use Rattle.probes.specs.rule.Ticks.{Results, Tick, belonging, startup_results, HasPassed}
use Rattle.probes.specs.rule.Container.{IsKillOrdered, IsInstanceReady, IsPassTick}
use Rattle.probes.specs.state.Container.{AreInRange, IsKillTick}
use Rattle.probe_causes.specs.rule.Causes.{AreLast, AreKillFailures, AreReadySuccesses, AreUnreadyFailures, IsFirstSuccess}
use Rattle.probe_causes.specs.rule.Causes.{IsPassMoment}

-- the failures of a kill are one list
abbrev pub OneKill : Type 0
OneKill = (probes : Probes) (start : ℕ) (cause : Cause) (ticks : List Tick) (moments others : List ℕ)
    → AreKillFailures probes start cause ticks moments → AreKillFailures probes start cause ticks others
    → moments ≡ others

-- where there are such failures, the kill is ordered
abbrev pub KillFollows : Type 0
KillFollows = (probes : Probes) (start : ℕ) (cause : Cause) (ticks : List Tick) (moments : List ℕ)
    → AreKillFailures probes start cause ticks moments → IsKillOrdered probes start cause ticks

-- the probe that fails for this cause
abbrev pub probe_for : Probes → Cause → Option Probe
probe_for probes Startup = probes.startup
probe_for probes Liveness = probes.liveness

-- they are as many as the failure threshold says
abbrev pub AsManyAsAllowed : Type 0
AsManyAsAllowed = (probes : Probes) (start : ℕ) (cause : Cause) (ticks : List Tick) (moments : List ℕ)
    → AreKillFailures probes start cause ticks moments
    → IsSomeAnd (probe_for probes cause) (λ p. length moments ≡ p.failure_threshold)

-- the tick that orders a kill has such failures
abbrev pub SomeKill : Type 0
SomeKill = (probes : Probes) (start : ℕ) (cause : Cause) (ticks : List Tick) (t : ℕ) → AreInRange probes
    → IsKillTick probes start cause ticks t
    → (moments : List ℕ) × AreKillFailures probes start cause (up_to ticks t) moments

-- each moment is that of a tick with a result that belongs, and has the outcome
abbrev pub InWords : Type 0
InWords = (which : Results → Option Outcome) (outcome : Outcome) (n : ℕ) (probe : Probe) (start : ℕ)
    (ticks : List Tick) (moments : List ℕ) (k moment : ℕ) → AreLast which outcome n probe start ticks moments
    → slice_get moments k ≡ Some moment
    → (t : ℕ) × (x : Tick) × (slice_get ticks t ≡ Some x) × (x.moment ≡ moment)
    × (belonging probe (x.moment - start) (which x.entry) ≡ Some outcome)

-- the successes that make an instance ready are one list
abbrev pub OneReady : Type 0
OneReady = (probes : Probes) (start : ℕ) (ticks : List Tick) (moments others : List ℕ)
    → AreReadySuccesses probes start ticks moments → AreReadySuccesses probes start ticks others → moments ≡ others

-- an instance with a readiness probe that becomes ready has such successes
abbrev pub SomeReady : Type 0
SomeReady = (probes : Probes) (start : ℕ) (ticks : List Tick) (next : Tick) → AreInRange probes
    → IsSome probes.readiness → IsInstanceReady probes start (ticks ++ next ∷ [])
    → (IsInstanceReady probes start ticks → ⊥)
    → (moments : List ℕ) × AreReadySuccesses probes start (ticks ++ next ∷ []) moments

-- the failures that make an instance unready are one list
abbrev pub OneUnready : Type 0
OneUnready = (probes : Probes) (start : ℕ) (ticks : List Tick) (moments others : List ℕ)
    → AreUnreadyFailures probes start ticks moments → AreUnreadyFailures probes start ticks others → moments ≡ others

-- an instance that is no longer ready, and goes on running, has such failures
abbrev pub SomeUnready : Type 0
SomeUnready = (probes : Probes) (start : ℕ) (ticks : List Tick) (next : Tick) → AreInRange probes
    → IsInstanceReady probes start ticks → (IsInstanceReady probes start (ticks ++ next ∷ []) → ⊥)
    → (moments : List ℕ) × AreUnreadyFailures probes start (ticks ++ next ∷ []) moments

-- where there are such failures, the instance is not ready
abbrev pub UnreadyFollows : Type 0
UnreadyFollows = (probes : Probes) (start : ℕ) (ticks : List Tick) (moments : List ℕ) → AreInRange probes
    → AreUnreadyFailures probes start ticks moments → IsInstanceReady probes start ticks → ⊥

-- where there are such successes, the instance is ready
abbrev pub ReadyFollows : Type 0
ReadyFollows = (probes : Probes) (start : ℕ) (ticks : List Tick) (moments : List ℕ) → AreInRange probes
    → AreReadySuccesses probes start ticks moments → IsInstanceReady probes start ticks

-- the first success of a startup probe has one number
abbrev pub OneSuccess : Type 0
OneSuccess = (probe : Probe) (start : ℕ) (ticks : List Tick) (number other : ℕ)
    → IsFirstSuccess probe start ticks number → IsFirstSuccess probe start ticks other → number ≡ other

-- where there is one, the startup probe has passed
abbrev pub PassFollows : Type 0
PassFollows = (probe : Probe) (start : ℕ) (ticks : List Tick) (number : ℕ)
    → IsFirstSuccess probe start ticks number → HasPassed probe start ticks

-- in the tick in which a startup probe passes, the last of its results so far is the first success
abbrev pub PassesByLast : Type 0
PassesByLast = (probe : Probe) (start : ℕ) (ticks : List Tick) (t : ℕ) → IsPassTick probe start ticks t
    → IsFirstSuccess probe start (up_to ticks t) (length (startup_results probe start (up_to ticks t)))

-- the moment of the pass is one
abbrev pub OnePassMoment : Type 0
OnePassMoment = (startup : Option Probe) (start : ℕ) (ticks : List Tick) (moment other : Option ℕ)
    → IsPassMoment startup start ticks moment → IsPassMoment startup start ticks other → moment ≡ other
