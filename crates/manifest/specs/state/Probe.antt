-- The ranges of a probe's numbers (Kubernetes, "Configure Liveness, Readiness and Startup Probes", "Configure
-- Probes").
use Rattle.std.specs.Prelude.{◌≡◌, ◌≤◌, ◌<◌, ◌^◌, Option, Some, None}
use Rattle.manifest.specs.rule.Probe.{Probe, Probes}

-- each number in its range
pub record IsInRange (p : Probe) : Type 0 where
  pub initial_delay : p.initial_delay_seconds < 2 ^ 31
  pub some_period : 1 ≤ p.period_seconds
  pub period : p.period_seconds < 2 ^ 31
  pub some_timeout : 1 ≤ p.timeout_seconds
  pub timeout : p.timeout_seconds < 2 ^ 31
  pub some_successes : 1 ≤ p.success_threshold
  pub successes : p.success_threshold < 2 ^ 31
  pub some_failures : 1 ≤ p.failure_threshold
  pub failures : p.failure_threshold < 2 ^ 31

-- one success is enough for the probe, if there is one
abbrev pub SucceedsByOne : Option Probe → Type 0
SucceedsByOne None = Unit {0}
SucceedsByOne (Some p) = p.success_threshold ≡ 1

-- the numbers of the probe, if there is one, are in their ranges
abbrev pub HasNumbersInRange : Option Probe → Type 0
HasNumbersInRange None = Unit {0}
HasNumbersInRange (Some p) = IsInRange p

pub record AreProbes (p : Probes) : Type 0 where
  pub startup_by_one : SucceedsByOne p.startup
  pub liveness_by_one : SucceedsByOne p.liveness
