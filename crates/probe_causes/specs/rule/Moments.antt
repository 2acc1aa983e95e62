-- The moments of the results of one instance's probes. (Kubernetes, "Configure Liveness, Readiness and Startup Probes";
-- "Pod Lifecycle", "Probe outcome".)
use Rattle.std.specs.Prelude.{ℕ, ◌-◌, List, length, drop, Option, option_map}
use Rattle.std.specs.List.{filter_map}
use Rattle.manifest.specs.declared.outcome.Outcome.{Outcome}
use Rattle.manifest.specs.rule.Probe.{Probe}
use Rattle.probes.specs.rule.Ticks.{Results, Tick, belonging}

-- the result of one of the three probes in a tick
abbrev pub startup_in : Results → Option Outcome
startup_in results = results.startup

abbrev pub liveness_in : Results → Option Outcome
liveness_in results = results.liveness

abbrev pub readiness_in : Results → Option Outcome
readiness_in results = results.readiness

-- the moment, if the result of the probe at it belongs to the instance with this start
abbrev pub told_at : Probe → ℕ → ℕ → Option Outcome → Option ℕ
told_at probe start moment result = option_map (λ _. moment) (belonging probe (moment - start) result)

-- the results that belong to the instance with this start, in order
abbrev pub results_of : (Results → Option Outcome) → Probe → ℕ → List Tick → List Outcome
results_of which probe start ticks = filter_map (λ t. belonging probe (t.moment - start) (which t.entry)) ticks

-- their moments, in the same order
abbrev pub moments_of : (Results → Option Outcome) → Probe → ℕ → List Tick → List ℕ
moments_of which probe start ticks = filter_map (λ t. told_at probe start t.moment (which t.entry)) ticks

-- the last n of a list, and all of one that has fewer
abbrev pub last_of : {A : Type 0} → ℕ → List A → List A
last_of n xs = drop (length xs - n) xs
