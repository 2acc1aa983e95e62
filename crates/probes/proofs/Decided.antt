-- What the results of an instance make of it holds or does not.
use Rattle.std.proofs.Common.{◌≡◌, inl, inr, ℕ, suc, ◌+◌, ◌<◌, ◌≤◌, List, length, Option, Some, None, refl, subst, ap}
use Rattle.std.proofs.Common.{arith}
use Rattle.std.specs.Prelude.{slice_get}
use Rattle.std.proofs.lemmas.Option.{same_Some}
use Rattle.histories.proofs.Decide.{OrNot, negated, both, implied, less_or_not, at_most_or_not}
use Rattle.histories.proofs.Found.{some_below, all_below}
use Rattle.manifest.specs.declared.outcome.Outcome.{Outcome}
use Rattle.manifest.specs.declared.outcome.Outcome.TheVariants.{Success, Failure, Unknown}
use Rattle.manifest.specs.rule.Probe.{Probe, Probes}
use Rattle.probes.specs.declared.probe_set.Cause.{Cause}
use Rattle.probes.specs.declared.probe_set.Cause.TheVariants.{Startup, Liveness}
use Rattle.probes.specs.rule.Outcomes.{EndsRun, FailsInARow, HoldsAfter, FailsWithin}
use Rattle.probes.specs.rule.Ticks.{Tick, startup_results, liveness_results, readiness_results, HasPassed, IsStarted}
use Rattle.probes.specs.rule.Ticks.{HasStartupFailed, HasLivenessFailed, HoldsReady}
use Rattle.probes.specs.rule.Container.{IsKillOrdered, IsInstanceReady}
use Rattle.probes.proofs.Counted.{AreCounted-unique}
use Rattle.probes.proofs.Determined.{passes_or_not, counted_of}

pub success_or_not : (o : Outcome) → OrNot (o ≡ Success)
success_or_not Success = inl refl
success_or_not Failure = inr (λ e. cc)
success_or_not Unknown = inr (λ e. cc)

pub failure_or_not : (o : Outcome) → OrNot (o ≡ Failure)
failure_or_not Failure = inl refl
failure_or_not Success = inr (λ e. cc)
failure_or_not Unknown = inr (λ e. cc)

-- an outcome that every result is or is not
abbrev IsTold : Outcome → Type 0
IsTold outcome = (o : Outcome) → OrNot (o ≡ outcome)

result_or_not : (outcome : Outcome) → IsTold outcome → (o : Option Outcome) → OrNot (o ≡ Some outcome)
result_or_not outcome told None = inr (λ e. cc)
result_or_not outcome told (Some o) = elim (told o) [
  | inl e ↦ inl (ap (λ k. Some k) e)
  | inr not ↦ inr (λ e. not (same_Some o outcome e))
]

-- a run of the outcome ends with the e-th result
pub run_or_not : (outcome : Outcome) → IsTold outcome → (n : ℕ) (results : List Outcome) (e : ℕ)
    → OrNot (EndsRun outcome n results e)
run_or_not outcome told n results e =
    elim (both (both (at_most_or_not e (length results)) (at_most_or_not n e)) all) [
      | inl w ↦ inl (record { among = w.0.0; enough = w.0.1; all = w.1 })
      | inr not ↦ inr (λ r. not ((r.among, r.enough), r.all))
    ]
  where
    all : OrNot ((k : ℕ) → k < e → e ≤ k + n → slice_get results k ≡ Some outcome)
    all = all_below _ (λ k. implied (at_most_or_not e (k + n)) (result_or_not outcome told (slice_get results k))) e

fails_or_not : (n : ℕ) (results : List Outcome) → OrNot (FailsInARow n results)
fails_or_not n results = elim (some_below _ (run_or_not Failure failure_or_not n results) (suc (length results))) [
  | inl w ↦ inl (w.0, w.2)
  | inr none ↦ inr (λ (e, r). let le : e ≤ length results = r.among in none (e, omega arith, r))
]

-- no later failures undo it, of those among the results
abbrev IsNotUndone : ℕ → List Outcome → ℕ → Type 0
IsNotUndone f results e = (later : ℕ) → later < suc (length results) → e < later → EndsRun Failure f results later → ⊥

holds_or_not : (s f : ℕ) (results : List Outcome) → OrNot (HoldsAfter s f results)
holds_or_not s f results = elim (some_below _ each (suc (length results))) [
  | inl (e, lt, w) ↦ inl (
    e,
    w.0,
    (λ later after fails.
        let le : later ≤ length results = fails.among in
        w.1 later (omega arith) after fails),
  )
  | inr none ↦ inr (λ (e, run, stays).
      let le : e ≤ length results = run.among in
      none (e, omega arith, (run, (λ later lt after fails. stays later after fails))))
]
  where
    not_undone : (e : ℕ) → OrNot (IsNotUndone f results e)
    not_undone e =
        let undone = run_or_not Failure failure_or_not f results in
        all_below _ (λ later. implied (less_or_not e later) (negated (undone later))) (suc (length results))

    each : (e : ℕ) → OrNot (EndsRun Success s results e × IsNotUndone f results e)
    each e = both (run_or_not Success success_or_not s results e) (not_undone e)

fails_within_or_not : (f : ℕ) (results : List Outcome) → OrNot (FailsWithin f results)
fails_within_or_not f results = elim (both (at_most_or_not f (length results)) all) [
  | inl w ↦ inl (record { enough = w.0; all = w.1 })
  | inr not ↦ inr (λ w. not (w.enough, w.all))
]
  where
    all : OrNot ((k : ℕ) → k < f → slice_get results k ≡ Some Failure)
    all = all_below _ (λ k. result_or_not Failure failure_or_not (slice_get results k)) f

-- the startup probe has passed, or not
pub has_passed_or_not : (probe : Probe) (start : ℕ) (ticks : List Tick) → OrNot (HasPassed probe start ticks)
has_passed_or_not probe start ticks = passes_or_not probe.failure_threshold (startup_results probe start ticks)

pub started_or_not : (startup : Option Probe) (start : ℕ) (ticks : List Tick) → OrNot (IsStarted startup start ticks)
started_or_not None start ticks = inl tt
started_or_not (Some probe) start ticks = has_passed_or_not probe start ticks

startup_failed_or_not : (startup : Option Probe) (start : ℕ) (ticks : List Tick)
    → OrNot (HasStartupFailed startup start ticks)
startup_failed_or_not None start ticks = inr (λ w. w)
startup_failed_or_not (Some probe) start ticks =
    fails_within_or_not probe.failure_threshold (startup_results probe start ticks)

liveness_failed_or_not : (liveness : Option Probe) (start : ℕ) (ticks : List Tick)
    → OrNot (HasLivenessFailed liveness start ticks)
liveness_failed_or_not None start ticks = inr (λ w. w)
liveness_failed_or_not (Some probe) start ticks =
    fails_or_not probe.failure_threshold (liveness_results probe start ticks)

held_or_not : (readiness : Option Probe) (start : ℕ) (ticks : List Tick) → OrNot (HoldsReady readiness start ticks)
held_or_not None start ticks = inl tt
held_or_not (Some probe) start ticks =
    holds_or_not probe.success_threshold probe.failure_threshold (readiness_results probe start ticks)

-- the instance is ready, or not
pub ready_or_not : (probes : Probes) (start : ℕ) (ticks : List Tick) → OrNot (IsInstanceReady probes start ticks)
ready_or_not probes start ticks =
    let c = counted_of probes.startup start ticks in
    let P : List Tick → Type 0 = λ counted. HoldsReady probes.readiness start counted in
    elim (both (started_or_not probes.startup start ticks) (held_or_not probes.readiness start c.0)) [
      | inl w ↦ inl (w.0, (c.0, c.1, w.1))
      | inr not ↦ inr (λ (started, (counted, are, holds)).
          not (started, subst P (AreCounted-unique probes.startup start ticks counted c.0 are c.1) holds))
    ]

-- a kill is ordered for the cause, or not
pub kill_or_not : (probes : Probes) (start : ℕ) (cause : Cause) (ticks : List Tick)
    → OrNot (IsKillOrdered probes start cause ticks)
kill_or_not probes start Startup ticks = startup_failed_or_not probes.startup start ticks
kill_or_not probes start Liveness ticks =
    let c = counted_of probes.startup start ticks in
    let P : List Tick → Type 0 = λ counted. HasLivenessFailed probes.liveness start counted in
    elim (liveness_failed_or_not probes.liveness start c.0) [
      | inl fails ↦ inl (c.0, c.1, fails)
      | inr not ↦
          inr (λ (counted, are, fails).
          let same = AreCounted-unique probes.startup start ticks counted c.0 are c.1 in
          not (subst P same fails))
    ]
