-- Which results of its probes led to the events of a container: to a kill, to readiness and its end, and to the pass of
-- startup. They are said of an instance over all ticks of the container up to the tick of the event. (Kubernetes,
-- "Configure Liveness, Readiness and Startup Probes"; "Pod Lifecycle", "Types of probe".)
use Rattle.std.specs.Prelude.{ℕ, List, Option, IsSomeAnd}
use Rattle.manifest.specs.declared.pod.ContainerSpec.{ContainerSpec}
use Rattle.probes.specs.declared.probe_set.Cause.{Cause}
use Rattle.probe_causes.specs.rule.Causes.{AreKillFailures as KillBy, AreReadySuccesses as ReadyBy}
use Rattle.probe_causes.specs.rule.Causes.{AreUnreadyFailures as UnreadyBy, IsFirstSuccess, IsPassMoment as PassesAt}
use Rattle.containers.specs.rule.Ticks.{ContainerTick, SaysOf}

-- the moments of the failures for which the instance is to be killed
abbrev pub AreKillFailures : ContainerSpec → Cause → ℕ → List ContainerTick → List ℕ → Type 0
AreKillFailures spec cause a h moments = SaysOf (λ start ticks. KillBy spec.probes start cause ticks moments) h a

-- the moments of the successes that make the instance ready with the last tick
abbrev pub AreReadySuccesses : ContainerSpec → ℕ → List ContainerTick → List ℕ → Type 0
AreReadySuccesses spec a h moments = SaysOf (λ start ticks. ReadyBy spec.probes start ticks moments) h a

-- the moments of the failures that make the instance unready with the last tick
abbrev pub AreUnreadyFailures : ContainerSpec → ℕ → List ContainerTick → List ℕ → Type 0
AreUnreadyFailures spec a h moments = SaysOf (λ start ticks. UnreadyBy spec.probes start ticks moments) h a

-- the number of the success by which the startup probe of the instance passed
abbrev pub IsStartupSuccess : ContainerSpec → ℕ → List ContainerTick → ℕ → Type 0
IsStartupSuccess spec a h number =
    SaysOf (λ start ticks. IsSomeAnd spec.probes.startup (λ p. IsFirstSuccess p start ticks number)) h a

-- the moment in which startup of the instance passed, if it has
abbrev pub IsPassMoment : ContainerSpec → ℕ → List ContainerTick → Option ℕ → Type 0
IsPassMoment spec a h moment = SaysOf (λ start ticks. PassesAt spec.probes.startup start ticks moment) h a
