-- The probes that a manifest writes (Kubernetes, "Configure Liveness, Readiness and Startup
-- Probes").
use Rattle.std.specs.Prelude.{ℕ, ◌&&◌, ℤ, nat_le, Option, Some, None, option_and_then, if◌then◌else◌}
use Rattle.std.specs.Prelude.{Result, Ok, Err, codes}
use Rattle.serde_json.specs.Data.{Data}
use Rattle.serde_json.specs.Find.{as_number, as_i64, as_u64}
use Rattle.json_fields.specs.rule.Fields.{field_at}
use Rattle.json_fields.specs.rule.Numbers.{max_int32}
use Rattle.json_fields.specs.rule.Reading.{◌>>=◌}
use Rattle.manifest_fields.specs.declared.fault.Field.TheVariants as fields
use Rattle.manifest_fields.specs.declared.fault.ManifestFault.{ManifestFault}
use Rattle.manifest_fields.specs.declared.fault.ManifestFault.TheVariants.{WrongKind, ProbeRange, InitProbe}
use Rattle.manifest.specs.declared.pod.Role.{Role}
use Rattle.manifest.specs.declared.pod.Role.TheVariants.{Init, Sidecar, App}
use Rattle.manifest.specs.rule.Probe.{Probe, Probes, probe, no_probes}
use Rattle.manifest_fields.specs.rule.Fields.{object_of, absent}

-- a whole number that isn't from 0 on is below each range, and any other number is none
abbrev pub not_from_0 : Option ℤ → Result ℕ ManifestFault
not_from_0 None = Err (WrongKind fields.Probe)
not_from_0 (Some z) = Err ProbeRange

abbrev pub in_range : ℕ → ℕ → ℕ → Result ℕ ManifestFault
in_range least most n = if nat_le least n && nat_le n most then Ok n else Err ProbeRange

abbrev pub number_from : ℕ → ℕ → Data → Option ℕ → Result ℕ ManifestFault
number_from least most d None = not_from_0 (option_and_then as_i64 (as_number d))
number_from least most d (Some n) = in_range least most n

-- a number of a probe in its range, or its default where none is written
abbrev pub number_of : ℕ → ℕ → ℕ → Option Data → Result ℕ ManifestFault
number_of least most default None = Ok default
number_of least most default (Some d) = number_from least most d (option_and_then as_u64 (as_number d))

-- one probe, of this many successes at most
unfoldable pub probe_in : ℕ → Data → Result Probe ManifestFault
probe_in most_successes d = do
  written ← object_of fields.Probe (Some d)
  initial_delay ← number_of 0 max_int32 0 (field_at (codes "initialDelaySeconds") written)
  period ← number_of 1 max_int32 10 (field_at (codes "periodSeconds") written)
  timeout ← number_of 1 max_int32 1 (field_at (codes "timeoutSeconds") written)
  successes ← number_of 1 most_successes 1 (field_at (codes "successThreshold") written)
  failures ← number_of 1 max_int32 3 (field_at (codes "failureThreshold") written)
  Ok (probe initial_delay period timeout successes failures)

-- a probe that may be left out
abbrev pub probe_of : ℕ → Option Data → Result (Option Probe) ManifestFault
probe_of most_successes None = Ok None
probe_of most_successes (Some d) = probe_in most_successes d >>= λ p. Ok (Some p)

-- the probes of an app container or a sidecar: one success is enough for startup and liveness
unfoldable pub some_probes : Data → Result Probes ManifestFault
some_probes d = do
  startup ← probe_of 1 (field_at (codes "startupProbe") d)
  liveness ← probe_of 1 (field_at (codes "livenessProbe") d)
  readiness ← probe_of max_int32 (field_at (codes "readinessProbe") d)
  Ok (record { startup = startup; liveness = liveness; readiness = readiness })

-- an init container has none
unfoldable pub unprobed : Data → Result Probes ManifestFault
unprobed d = do
  startup ← absent InitProbe (field_at (codes "startupProbe") d)
  liveness ← absent InitProbe (field_at (codes "livenessProbe") d)
  readiness ← absent InitProbe (field_at (codes "readinessProbe") d)
  Ok no_probes

abbrev pub probes_of : Role → Data → Result Probes ManifestFault
probes_of Init d = unprobed d
probes_of Sidecar d = some_probes d
probes_of App d = some_probes d
