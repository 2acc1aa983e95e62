-- The statuses of the conditions that a pod's readiness gates name, as they are carried from tick to tick.
use Rattle.std.specs.Prelude.{◌≡◌, ℕ, ◌<◌, ◌≤◌, Bool, true, false, List, [], ◌∷◌, length, get_or, unwrap_or}
use Rattle.manifest.specs.rule.Gates.{most_gates}
use Rattle.pod_state.specs.declared.gates.GateStatuses.{GateStatuses}
use Rattle.pod_state.specs.rule.Pods.{PodTick}
use Rattle.pod_state.specs.rule.Gates.{gate_said}

-- the status after these ticks, of a condition with this one before them
abbrev pub status_after : Bool → List PodTick → ℕ → Bool
status_after before [] gate = before
status_after before (tick ∷ h) gate = status_after (unwrap_or (gate_said tick gate) before) h gate

-- the statuses of so many conditions after these ticks
pub record AreStatusesOf (count : ℕ) (h : List PodTick) (gates : GateStatuses) : Type 0 where
  pub as_many : gates.count ≡ count
  pub each : (gate : ℕ) → gate < count → get_or gates.statuses gate false ≡ status_after false h gate

-- the first n statuses are those after one tick more, and the others those before it
pub record AreNextBelow (n : ℕ) (tick : PodTick) (old new : List Bool) : Type 0 where
  pub as_many : length new ≡ most_gates
  pub below : (gate : ℕ) → gate < n → get_or new gate false ≡ unwrap_or (gate_said tick gate) (get_or old gate false)
  pub above : (gate : ℕ) → n ≤ gate → get_or new gate false ≡ get_or old gate false

-- the first n statuses are True
abbrev pub AreTrueBelow : ℕ → List Bool → Type 0
AreTrueBelow n statuses = (gate : ℕ) → gate < n → get_or statuses gate false ≡ true
