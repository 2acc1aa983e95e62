-- Laws of since when, over the definitions alone.
use Rattle.std.specs.Prelude.{◌≡◌, ◌↔◌, ℕ, List, Option, IsSome}
use Rattle.signals.specs.declared.threshold.Threshold.{Threshold}
use Rattle.thresholds.specs.rule.Samples.{Sample}
use Rattle.thresholds.specs.rule.Thresholds.{IsThresholdDue}
use Rattle.pressure.specs.rule.Pressures.{Observation}
use Rattle.signal_causes.specs.rule.Stretches.{IsDueSince, WasLastMet}

-- a threshold has been due since one moment at most
abbrev pub OneDueSince : Type 0
OneDueSince = (threshold : Threshold) (capacity : Option ℕ) (h : List Sample) (since other : Option ℕ)
    → IsDueSince threshold capacity h since → IsDueSince threshold capacity h other → since ≡ other

-- and there is such a moment exactly if it is due
abbrev pub DueHasSince : Type 0
DueHasSince = (threshold : Threshold) (capacity : Option ℕ) (h : List Sample) (since : Option ℕ)
    → IsDueSince threshold capacity h since → (IsSome since ↔ IsThresholdDue threshold capacity h)

-- a condition was last met at one moment at most
abbrev pub OneLastMet : Type 0
OneLastMet = (h : List Observation) (moment other : Option ℕ) → WasLastMet h moment → WasLastMet h other
    → moment ≡ other
