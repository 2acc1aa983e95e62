-- The kinds of probe (Kubernetes, "Pod Lifecycle", "Types of probe").
use Rattle.std.specs.Prelude.{ℕ}
use Rattle.manifest.specs.declared.outcome.ProbeKind.{ProbeKind}
use Rattle.manifest.specs.declared.outcome.ProbeKind.TheVariants.{Startup, Liveness, Readiness}

-- a probe's place in the order startup, liveness, readiness
abbrev pub place : ProbeKind → ℕ
place Startup = 0
place Liveness = 1
place Readiness = 2
