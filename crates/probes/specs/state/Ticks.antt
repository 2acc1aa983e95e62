-- A probe with its result in one tick, and a state that one more tick leads on.
use Rattle.std.specs.Prelude.{◌≡◌, ℕ, ◌-◌, List, [], ◌∷◌, ◌++◌}
use Rattle.std.specs.Prelude.{Option, Some, None}
use Rattle.manifest.specs.declared.outcome.Outcome.{Outcome}
use Rattle.manifest.specs.rule.Probe.{Probe}
use Rattle.probes.specs.declared.configured.ProbeResult.{ProbeResult}
use Rattle.probes.specs.rule.Ticks.{Results, Tick, belonging}

-- a probe and its result, if it has one
abbrev pub with_probe : Probe → Option Outcome → Option ProbeResult
with_probe probe None = None
with_probe probe (Some outcome) = Some (record { probe = probe; outcome = outcome })

-- a probe, if there is one, and its result, if that belongs to an instance of this age
abbrev pub result_of : Option Probe → ℕ → Option Outcome → Option ProbeResult
result_of None age given = None
result_of (Some probe) age given = with_probe probe (belonging probe age given)

-- one more tick, at this age of the instance and with this result of the probe, leads from the old state
-- to the new one
abbrev pub TakesOne : {S : Type 0} → (ℕ → List Tick → S → Type 0) → (Results → Option Outcome) → ℕ → Option Outcome
    → S → S → Type 0
TakesOne IsOf of age outcome old new = (start : ℕ) (ticks : List Tick) (next : Tick) → next.moment - start ≡ age
    → of next.entry ≡ outcome → IsOf start ticks old → IsOf start (ticks ++ next ∷ []) new
