-- What one more tick makes of a container: the verdicts on the listed instance, and the exits.
use Rattle.std.specs.Prelude.{◌≡◌, ◌⊎◌, ℕ, Bool, true, false, List, [], ◌∷◌, ◌++◌, length, Option, Some, None}
use Rattle.std.specs.Prelude.{IsSomeAnd}
use Rattle.histories.specs.rule.Histories.{recorded}
use Rattle.manifest.specs.declared.outcome.Outcome.{Outcome}
use Rattle.manifest.specs.declared.pod.ContainerSpec.{ContainerSpec}
use Rattle.state_diff.specs.rule.Instances.{IsExit}
use Rattle.probes.specs.declared.probe_set.Verdicts.{Verdicts}
use Rattle.probes.specs.rule.Ticks.{Tick, tick}
use Rattle.probes.specs.state.Container.{AreInRange}
use Rattle.probes.specs.state.ProbeSet.{AreVerdicts}
use Rattle.restarts.specs.declared.backoff.Backoff.{Backoff as RestartBackoff}
use Rattle.restarts.specs.rule.Exits.{Exit}
use Rattle.restarts.specs.rule.Delays.{IsDelay}
use Rattle.restarts.specs.state.Backoff.{IsStateOf as IsBackoffOf}
use Rattle.containers.specs.rule.Ticks.{ContainerTick, listings, BelongsTo, results_of, AreTicksOf, StartsAt}
use Rattle.containers.specs.rule.Exits.{AreExits}

-- the exit at this moment after a run of this many seconds, if there is one
abbrev pub exits_at : ℕ → Option ℕ → List Exit
exits_at at None = []
exits_at at (Some run) = recorded at run ∷ []

-- the tick as the probes see it, if it is the instance's
abbrev pub ticks_at : Bool → ℕ → List (Option Outcome) → List Tick
ticks_at true at results = tick at results ∷ []
ticks_at false at results = []

-- the tick is one more tick of an instance that has started
pub record IsTaken (h : List ContainerTick) (x : ContainerTick) (a start : ℕ) (ticks : List Tick) : Type 0 where
  pub belongs : BelongsTo a (h ++ x ∷ [])
  pub starts : StartsAt (h ++ x ∷ []) a start
  pub before : AreTicksOf h a ticks
  pub after : AreTicksOf (h ++ x ∷ []) a (ticks ++ results_of x ∷ [])
  -- before the start there are none
  pub begun : StartsAt h a start ⊎ (ticks ≡ [])

-- the verdicts of a tick: the verdicts of its results on the instance that they belong to, if they do
abbrev pub AreVerdictsOf : ContainerSpec → List ContainerTick → ContainerTick → Option Verdicts → Type 0
AreVerdictsOf spec h x None = AreInRange spec.probes × ((a : ℕ) → BelongsTo a (h ++ x ∷ []) → ⊥)
AreVerdictsOf spec h x (Some verdicts) =
    AreInRange spec.probes
    × ((a : ℕ) × (start : ℕ) × (ticks : List Tick) × IsTaken h x a start ticks
    × AreVerdicts spec.probes start (ticks ++ results_of x ∷ []) (length ticks) verdicts)

-- the exits are counted, with the exits of the tick; if the tick has one, the delay after it is known
pub record AreCounted (max_restart_delay : ℕ) (h : List ContainerTick) (x : ContainerTick) (backoff : RestartBackoff)
    (delay : Option ℕ) : Type 0 where
  pub exits : List Exit
  pub are_exits : AreExits (listings (h ++ x ∷ [])) exits
  pub counted : IsBackoffOf max_restart_delay exits backoff
  pub delayed : (a : ℕ) → IsExit (listings (h ++ x ∷ [])) a (length h)
      → IsSomeAnd delay (λ d. IsDelay max_restart_delay exits d)
