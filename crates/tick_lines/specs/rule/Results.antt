-- The results of probes in an entry, as they are written.
use Rattle.std.specs.Prelude.{ℕ, List, [], ◌∷◌, Option, Result, Ok, codes}
use Rattle.serde_json.specs.Data.{Data}
use Rattle.json_fields.specs.rule.Fields.{text_at}
use Rattle.json_fields.specs.rule.Reading.{◌>>=◌, some_or}
use Rattle.manifest.specs.declared.outcome.Outcome.{Outcome}
use Rattle.manifest.specs.declared.outcome.Outcome.TheVariants.{Success, Failure, Unknown}
use Rattle.manifest.specs.declared.outcome.ProbeKind.{ProbeKind}
use Rattle.manifest.specs.declared.outcome.ProbeKind.TheVariants.{Startup, Liveness, Readiness}
use Rattle.tick_lines.specs.declared.fault.TickLineFault.{TickLineFault}
use Rattle.tick_lines.specs.declared.fault.TickLineFault.TheVariants.{Usage}
use Rattle.tick_lines.specs.declared.probing.ProbeResult.{ProbeResult}
use Rattle.tick_lines.specs.rule.Fields.{each_item, value_named}

abbrev pub probe_names : List (List ℕ × ProbeKind)
probe_names = (codes "startup", Startup) ∷ (codes "liveness", Liveness) ∷ (codes "readiness", Readiness) ∷ []

-- the probe of this name
abbrev pub probe_named : Option (List ℕ) → Result ProbeKind TickLineFault
probe_named found = some_or Usage found >>= value_named probe_names

abbrev pub outcome_names : List (List ℕ × Outcome)
outcome_names = (codes "success", Success) ∷ (codes "failure", Failure) ∷ (codes "unknown", Unknown) ∷ []

-- the outcome of this name (Kubernetes, "Pod Lifecycle", "Probe outcome")
abbrev pub outcome_named : Option (List ℕ) → Result Outcome TickLineFault
outcome_named found = some_or Usage found >>= value_named outcome_names

unfoldable pub result_of : Data → Result ProbeResult TickLineFault
result_of d = do
  container ← some_or Usage (text_at (codes "container") d)
  probe ← probe_named (text_at (codes "probe") d)
  outcome ← outcome_named (text_at (codes "result") d)
  Ok (record { container = container; probe = probe; outcome = outcome })

-- the results of an entry, in order
abbrev pub results_of : Option Data → Result (List ProbeResult) TickLineFault
results_of found = each_item result_of found
