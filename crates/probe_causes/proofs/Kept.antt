-- What is kept of the moments gives the causes.
use Rattle.std.proofs.Common.{◌≡◌, ◌∙◌, ℕ, ◌≤◌, List, [], ◌∷◌, ◌++◌, length, take, Option, Some, None, refl, sym, ap}
use Rattle.std.proofs.Common.{arith}
use Rattle.std.specs.Prelude.{IsSomeAnd}
use Rattle.manifest.specs.declared.outcome.Outcome.{Outcome}
use Rattle.manifest.specs.rule.Probe.{Probe}
use Rattle.probes.specs.rule.Ticks.{Results, Tick, startup_results}
use Rattle.probes.specs.rule.Container.{AreCounted}
use Rattle.probe_causes.specs.rule.Moments.{startup_in, results_of, moments_of, last_of}
use Rattle.probe_causes.specs.rule.Causes.{AreLast, AreFirst}
use Rattle.probe_causes.specs.state.ResultMoments.{moments_with, told_with}
use Rattle.probe_causes.proofs.Parts.{last_back}
use Rattle.probe_causes.proofs.Told.{told_length, moments_more}
use Rattle.probe_causes.proofs.Counted.{counted_back}

-- one more tick adds the moment of its result
pub kept_more : (which : Results → Option Outcome) (probe : Option Probe) (start : ℕ) (ticks : List Tick) (next : Tick)
    → moments_with which probe start (ticks ++ next ∷ [])
    ≡ moments_with which probe start ticks ++ told_with probe start next.moment (which next.entry)
kept_more which None start ticks next = refl
kept_more which (Some p) start ticks next = moments_more which p start ticks (next ∷ [])

-- the last of the results that count are the last of all
whole : (which : Results → Option Outcome) (outcome : Outcome) (n : ℕ) (startup : Option Probe) (p : Probe) (start : ℕ)
    (ticks c : List Tick) (moments : List ℕ) → AreCounted startup start ticks c
    → AreLast which outcome n p start c moments → moments ≡ last_of n (moments_of which p start ticks)
whole which outcome n startup p start ticks c moments counted are =
    let back = counted_back startup start ticks c counted in
    let enough : n ≤ length (results_of which p start c) = are.run.enough in
    let long : length (moments_of which p start c) ≡ length (results_of which p start c) =
    told_length which p start c in
    let split : moments_of which p start (back.0 ++ c) ≡ moments_of which p start back.0 ++ moments_of which p start c =
    moments_more which p start back.0 c in
    are.at ∙ sym (last_back n (moments_of which p start back.0) (moments_of which p start c) (omega (arith, long)))
    ∙ ap (λ (ms : List ℕ). last_of n ms) (sym split)
    ∙ ap (λ (ts : List Tick). last_of n (moments_of which p start ts)) back.1

-- so the last of what is kept are the causes
pub last_kept : (which : Results → Option Outcome) (outcome : Outcome) (n : Probe → ℕ) (many : ℕ)
    (startup probe : Option Probe) (start : ℕ) (ticks c : List Tick) (moments kept : List ℕ)
    → kept ≡ moments_with which probe start ticks → ((p : Probe) → probe ≡ Some p → many ≡ n p)
    → AreCounted startup start ticks c → IsSomeAnd probe (λ p. AreLast which outcome (n p) p start c moments)
    → last_of many kept ≡ moments
last_kept which outcome n many startup None start ticks c moments kept is as_many counted are = absurd are
last_kept which outcome n many startup (Some p) start ticks c moments kept is as_many counted are =
    rw (is, as_many p refl) (sym (whole which outcome (n p) startup p start ticks c moments counted are))

pub first_kept : (many : ℕ) (startup : Option Probe) (start : ℕ) (ticks : List Tick) (moments kept : List ℕ)
    → kept ≡ moments_with startup_in startup start ticks
    → ((p : Probe) → startup ≡ Some p → many ≡ p.failure_threshold)
    → IsSomeAnd startup (λ p. AreFirst p start ticks moments) → take many kept ≡ moments
first_kept many None start ticks moments kept is as_many are = absurd are
first_kept many (Some p) start ticks moments kept is as_many are = rw (is, as_many p refl) (sym are.at)

-- how many there are
pub kept_count : (startup : Option Probe) (start : ℕ) (ticks : List Tick) (probe : Probe) (kept : List ℕ)
    → kept ≡ moments_with startup_in startup start ticks → startup ≡ Some probe
    → length kept ≡ length (startup_results probe start ticks)
kept_count startup start ticks probe kept is some = rw (is, some) (told_length startup_in probe start ticks)

-- what is kept, with the moment of one more result
pub taken : (which : Results → Option Outcome) (probe : Option Probe) (start : ℕ) (ticks : List Tick) (next : Tick)
    (given : Option Probe) (begun : ℕ) (old new : List ℕ) → begun ≡ start → given ≡ probe
    → old ≡ moments_with which probe start ticks
    → new ≡ old ++ told_with given begun next.moment (which next.entry)
    → new ≡ moments_with which probe start (ticks ++ next ∷ [])
taken which probe start ticks next given begun old new begins same is more =
    more ∙ rw (begins, same, is) (sym (kept_more which probe start ticks next))
