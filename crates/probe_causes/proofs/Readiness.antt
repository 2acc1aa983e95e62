-- The results that make an instance ready and unready.
use Rattle.std.proofs.Common.{◌≡◌, inl, inr, ℕ, ◌-◌, ◌<◌, ◌≤◌, List, [], ◌∷◌, ◌++◌, Option, Some, None, sym}
use Rattle.std.proofs.Common.{subst, arith}
use Rattle.std.specs.Prelude.{IsSome, IsSomeAnd}
use Rattle.std.specs.List.{cons_option}
use Rattle.manifest.specs.declared.outcome.Outcome.{Outcome}
use Rattle.manifest.specs.declared.outcome.Outcome.TheVariants.{Success, Failure}
use Rattle.manifest.specs.rule.Probe.{Probe, Probes}
use Rattle.manifest.specs.state.Probe.{HasNumbersInRange}
use Rattle.probes.specs.rule.Outcomes.{HoldsAfter}
use Rattle.probes.specs.rule.Ticks.{Tick, belonging, IsStarted, HoldsReady}
use Rattle.probes.specs.rule.Container.{AreCounted, IsInstanceReady}
use Rattle.probes.specs.state.Container.{AreInRange}
use Rattle.probes.proofs.Counted.{passed_lasts, AreCounted-unique, AreCounted-more}
use Rattle.probe_causes.specs.rule.Moments.{readiness_in, results_of, moments_of, last_of}
use Rattle.probe_causes.specs.rule.Causes.{AreLast, AreReadySuccesses, AreUnreadyFailures}
use Rattle.probe_causes.proofs.Told.{results_more}
use Rattle.probe_causes.proofs.Runs.{successes_now, successes_hold, failures_undo, undone}
use Rattle.probe_causes.proofs.Counted.{counted_next, started_by}
use Rattle.probe_causes.proofs.Kills.{one_last, some_last}

pub one_ready : (probes : Probes) (start : ℕ) (ticks : List Tick) (moments others : List ℕ)
    → AreReadySuccesses probes start ticks moments → AreReadySuccesses probes start ticks others → moments ≡ others
one_ready probes start ticks moments others (c, counted, are) (d, counted', are') =
    one_last readiness_in Success (λ p. p.success_threshold) probes.startup probes.readiness start ticks c d moments
    others counted are counted' are'

pub one_unready : (probes : Probes) (start : ℕ) (ticks : List Tick) (moments others : List ℕ)
    → AreUnreadyFailures probes start ticks moments → AreUnreadyFailures probes start ticks others → moments ≡ others
one_unready probes start ticks moments others (c, counted, are) (d, counted', are') =
    one_last readiness_in Failure (λ p. p.failure_threshold) probes.startup probes.readiness start ticks c d moments
    others counted are counted' are'

-- startup that has passed stays so
started_later : (startup : Option Probe) (start : ℕ) (ticks later : List Tick) → IsStarted startup start ticks
    → IsStarted startup start (ticks ++ later)
started_later None start ticks later started = tt
started_later (Some p) start ticks later started = (passed_lasts p start).more ticks later started

-- no results hold no readiness of a probe
none_holds : (p : Probe) (start : ℕ) → HasNumbersInRange (Some p) → HoldsReady (Some p) start [] → ⊥
none_holds p start range (e, run, none) =
    let least : 1 ≤ p.success_threshold = range.some_successes in
    let among : e ≤ 0 = run.among in
    let enough : p.success_threshold ≤ e = run.enough in
    absurd (omega arith)

-- a readiness that holds with one more tick that counts, and did not before
some_successes : (readiness : Option Probe) (start : ℕ) (before : List Tick) (next : Tick) → IsSome readiness
    → HasNumbersInRange readiness → HoldsReady readiness start (before ++ next ∷ [])
    → (HoldsReady readiness start before → ⊥)
    → (moments : List ℕ) × IsSomeAnd readiness (λ p. AreLast readiness_in Success p.success_threshold p start
    (before ++ next ∷ []) moments)
some_successes None start before next some range holds not = absurd (cc)
some_successes (Some p) start before next some range holds not =
    let s : ℕ = p.success_threshold in
    let f : ℕ = p.failure_threshold in
    let xs : List Outcome = results_of readiness_in p start before in
    let b : Option Outcome = belonging p (next.moment - start) next.entry.readiness in
    let now : HoldsAfter s f (xs ++ cons_option b []) =
    subst (HoldsAfter s f) (results_more readiness_in p start before next) holds in (
      last_of s (moments_of readiness_in p start (before ++ next ∷ [])),
      some_last readiness_in Success s p start before next range.some_successes (successes_now s f b xs now not)
          (λ old. not (successes_hold s f xs old)),
    )

-- none is ready without a tick that counts
none_ready : (readiness : Option Probe) (start : ℕ) → IsSome readiness → HasNumbersInRange readiness
    → HoldsReady readiness start [] → ⊥
none_ready None start some range holds = cc
none_ready (Some p) start some range holds = none_holds p start range holds

pub some_ready : (probes : Probes) (start : ℕ) (ticks : List Tick) (next : Tick) → AreInRange probes
    → IsSome probes.readiness → IsInstanceReady probes start (ticks ++ next ∷ [])
    → (IsInstanceReady probes start ticks → ⊥)
    → (moments : List ℕ) × AreReadySuccesses probes start (ticks ++ next ∷ []) moments
some_ready probes start ticks next range some (started, (c, counted, holds)) not =
    elim (counted_next probes.startup start ticks next c counted) [
      | inl w ↦
          let now = subst (HoldsReady probes.readiness start) w.3 holds in
          let found = some_successes probes.readiness start w.0 next some range.readiness now
          (λ old. not (w.2, (w.0, w.1, old))) in (
            found.0,
            (w.0 ++ next ∷ [], subst (AreCounted probes.startup start (ticks ++ next ∷ [])) w.3 counted, found.1),
          )
      | inr none ↦
          absurd (none_ready probes.readiness start some range.readiness
          (subst (HoldsReady probes.readiness start) none holds))
    ]

-- without a tick an instance with a readiness probe is not ready
pub not_ready_yet : (probes : Probes) (start : ℕ) → IsSome probes.readiness → AreInRange probes
    → IsInstanceReady probes start [] → ⊥
not_ready_yet probes start some range (started, (c, counted, holds)) =
    none_ready probes.readiness start some range.readiness
    (subst (HoldsReady probes.readiness start) (none_counted probes.startup c counted) holds)
  where
    none_counted : (startup : Option Probe) (c : List Tick) → AreCounted startup start [] c → c ≡ []
    none_counted None c is = is
    none_counted (Some p) c (inl (t, f, is)) = let within : t < 0 = f.holds.within in absurd (omega arith)
    none_counted (Some p) c (inr (never, is)) = is

-- a readiness that held and no longer does with one more tick that counts
some_failures : (readiness : Option Probe) (start : ℕ) (before : List Tick) (next : Tick)
    → HasNumbersInRange readiness → HoldsReady readiness start before
    → (HoldsReady readiness start (before ++ next ∷ []) → ⊥)
    → (moments : List ℕ) × IsSomeAnd readiness (λ p. AreLast readiness_in Failure p.failure_threshold p start
    (before ++ next ∷ []) moments)
some_failures None start before next range holds not = absurd (not tt)
some_failures (Some p) start before next range holds not =
    let s : ℕ = p.success_threshold in
    let f : ℕ = p.failure_threshold in
    let xs : List Outcome = results_of readiness_in p start before in
    let b : Option Outcome = belonging p (next.moment - start) next.entry.readiness in
    let ended : HoldsAfter s f (xs ++ cons_option b []) → ⊥ =
    λ h. not (subst (HoldsAfter s f) (sym (results_more readiness_in p start before next)) h) in (
      last_of f (moments_of readiness_in p start (before ++ next ∷ [])),
      some_last readiness_in Failure f p start before next range.some_failures (failures_undo s f b xs holds ended)
          (λ old. undone s f xs range.some_successes range.some_failures holds old),
    )

pub some_unready : (probes : Probes) (start : ℕ) (ticks : List Tick) (next : Tick) → AreInRange probes
    → IsInstanceReady probes start ticks → (IsInstanceReady probes start (ticks ++ next ∷ []) → ⊥)
    → (moments : List ℕ) × AreUnreadyFailures probes start (ticks ++ next ∷ []) moments
some_unready probes start ticks next range (started, (c, counted, holds)) not =
    let more = AreCounted-more probes.startup start ticks (next ∷ []) c started counted in
    let later = started_later probes.startup start ticks (next ∷ []) started in
    let found = some_failures probes.readiness start c next range.readiness holds
    (λ now. not (later, (c ++ next ∷ [], more, now))) in
    (found.0, (c ++ next ∷ [], more, found.1))

-- readiness by the last results
ready_by : (readiness : Option Probe) (start : ℕ) (c : List Tick) (moments : List ℕ)
    → IsSomeAnd readiness (λ p. AreLast readiness_in Success p.success_threshold p start c moments)
    → HoldsReady readiness start c
ready_by None start c moments are = absurd are
ready_by (Some p) start c moments are =
    successes_hold p.success_threshold p.failure_threshold (results_of readiness_in p start c) are.run

some_ticks : (readiness : Option Probe) (start : ℕ) (moments : List ℕ) → HasNumbersInRange readiness
    → IsSomeAnd readiness (λ p. AreLast readiness_in Success p.success_threshold p start [] moments) → ⊥
some_ticks None start moments range are = are
some_ticks (Some p) start moments range are =
    let least : 1 ≤ p.success_threshold = range.some_successes in
    let enough : p.success_threshold ≤ 0 = are.run.enough in
    absurd (omega arith)

pub ready_follows : (probes : Probes) (start : ℕ) (ticks : List Tick) (moments : List ℕ) → AreInRange probes
    → AreReadySuccesses probes start ticks moments → IsInstanceReady probes start ticks
ready_follows probes start ticks moments range (c, counted, are) = (
  started_by probes.startup start ticks c
      (λ e. some_ticks probes.readiness start moments range.readiness
      (subst (λ (ts : List Tick). IsSomeAnd probes.readiness
      (λ p. AreLast readiness_in Success p.success_threshold p start ts moments)) e are))
      counted,
  (c, counted, ready_by probes.readiness start c moments are),
)

unready_by : (readiness : Option Probe) (start : ℕ) (c : List Tick) (moments : List ℕ) → HasNumbersInRange readiness
    → IsSomeAnd readiness (λ p. AreLast readiness_in Failure p.failure_threshold p start c moments)
    → HoldsReady readiness start c → ⊥
unready_by None start c moments range are holds = are
unready_by (Some p) start c moments range are holds =
    undone p.success_threshold p.failure_threshold (results_of readiness_in p start c) range.some_successes
    range.some_failures holds are.run

pub unready_follows : (probes : Probes) (start : ℕ) (ticks : List Tick) (moments : List ℕ) → AreInRange probes
    → AreUnreadyFailures probes start ticks moments → IsInstanceReady probes start ticks → ⊥
unready_follows probes start ticks moments range (c, counted, are) (started, (d, counted', holds)) =
    let same : d ≡ c = AreCounted-unique probes.startup start ticks d c counted' counted in
    unready_by probes.readiness start c moments range.readiness are
    (subst (HoldsReady probes.readiness start) same holds)
