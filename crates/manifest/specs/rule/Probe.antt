-- The probes of a container (Kubernetes, "Configure Liveness, Readiness and Startup Probes").
use Rattle.std.specs.Prelude.{ℕ, Option, None}

-- one probe's numbers
pub record Probe : Type 0 where
  pub initial_delay_seconds : ℕ
  pub period_seconds : ℕ
  pub timeout_seconds : ℕ
  pub success_threshold : ℕ
  pub failure_threshold : ℕ

-- a probe of these numbers
abbrev pub probe : ℕ → ℕ → ℕ → ℕ → ℕ → Probe
probe delay period timeout successes failures = record {
  initial_delay_seconds = delay;
  period_seconds = period;
  timeout_seconds = timeout;
  success_threshold = successes;
  failure_threshold = failures;
}

-- the probes of a container
pub record Probes : Type 0 where
  pub startup : Option Probe
  pub liveness : Option Probe
  pub readiness : Option Probe

abbrev pub no_probes : Probes
no_probes = record { startup = None; liveness = None; readiness = None }
