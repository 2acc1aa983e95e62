-- The failures of a kill: one list, as many as allowed, and some for each kill.
use Rattle.std.proofs.Common.{◌≡◌, ◌∙◌, inl, inr, ℕ, ◌+◌, ◌-◌, ◌<◌, ◌≤◌, List, [], ◌∷◌, ◌++◌, length, take, Option, Some}
use Rattle.std.proofs.Common.{None, refl, sym, subst, length-take, arith}
use Rattle.std.specs.Prelude.{IsSomeAnd, slice_get}
use Rattle.std.specs.List.{cons_option}
use Rattle.std.proofs.lemmas.Option.{slice_get_within}
use Rattle.manifest.specs.declared.outcome.Outcome.{Outcome}
use Rattle.manifest.specs.declared.outcome.Outcome.TheVariants.{Failure}
use Rattle.manifest.specs.rule.Probe.{Probe, Probes}
use Rattle.manifest.specs.state.Probe.{HasNumbersInRange}
use Rattle.histories.specs.rule.Histories.{up_to}
use Rattle.histories.proofs.Moments.{last_moment-more}
use Rattle.probes.specs.declared.probe_set.Cause.{Cause}
use Rattle.probes.specs.declared.probe_set.Cause.TheVariants.{Startup, Liveness}
use Rattle.probes.specs.rule.Outcomes.{FailsInARow}
use Rattle.probes.specs.rule.Ticks.{Results, Tick, belonging, HasStartupFailed, HasLivenessFailed}
use Rattle.probes.specs.rule.Container.{AreCounted, IsKillOrdered}
use Rattle.probes.specs.state.Container.{AreInRange, IsKillTick}
use Rattle.probes.proofs.Counted.{AreCounted-unique}
use Rattle.probes.proofs.Kills.{kill_lasts, HasLivenessFailed-none}
use Rattle.probe_causes.specs.rule.Moments.{startup_in, liveness_in, results_of, moments_of, last_of}
use Rattle.probe_causes.specs.rule.Causes.{AreLast, AreFirst, AreKillFailures}
use Rattle.probe_causes.specs.state.Laws.{probe_for}
use Rattle.probe_causes.proofs.Parts.{last_length, drop_at_place}
use Rattle.probe_causes.proofs.Told.{told_length, results_more, moments_more, paired, IsTickWith}
use Rattle.probe_causes.proofs.Runs.{EndsNow, run_now, failures_now}
use Rattle.probe_causes.proofs.Counted.{counted_next, not_before, up_to_more}

-- the last results are one list
pub one_last : (which : Results → Option Outcome) (outcome : Outcome) (n : Probe → ℕ) (startup probe : Option Probe)
    (start : ℕ) (ticks c d : List Tick) (moments others : List ℕ) → AreCounted startup start ticks c
    → IsSomeAnd probe (λ p. AreLast which outcome (n p) p start c moments) → AreCounted startup start ticks d
    → IsSomeAnd probe (λ p. AreLast which outcome (n p) p start d others) → moments ≡ others
one_last which outcome n startup None start ticks c d moments others counted are counted' are' = absurd are
one_last which outcome n startup (Some p) start ticks c d moments others counted are counted' are' =
    let same : c ≡ d = AreCounted-unique startup start ticks c d counted counted' in
    are.at ∙ subst (λ (ts : List Tick). last_of (n p) (moments_of which p start ts) ≡ others) (sym same) (sym are'.at)

one_first : (startup : Option Probe) (start : ℕ) (ticks : List Tick) (moments others : List ℕ)
    → IsSomeAnd startup (λ p. AreFirst p start ticks moments)
    → IsSomeAnd startup (λ p. AreFirst p start ticks others) → moments ≡ others
one_first None start ticks moments others are are' = absurd are
one_first (Some p) start ticks moments others are are' = are.at ∙ sym are'.at

pub one_kill : (probes : Probes) (start : ℕ) (cause : Cause) (ticks : List Tick) (moments others : List ℕ)
    → AreKillFailures probes start cause ticks moments → AreKillFailures probes start cause ticks others
    → moments ≡ others
one_kill probes start Startup ticks moments others are are' =
    one_first probes.startup start ticks moments others are are'
one_kill probes start Liveness ticks moments others (c, counted, are) (d, counted', are') =
    one_last liveness_in Failure (λ p. p.failure_threshold) probes.startup probes.liveness start ticks c d moments
    others counted are counted' are'

-- they are as many as the failure threshold says
pub last_count : (which : Results → Option Outcome) (outcome : Outcome) (n : ℕ) (p : Probe) (start : ℕ)
    (ticks : List Tick) (moments : List ℕ) → AreLast which outcome n p start ticks moments → length moments ≡ n
last_count which outcome n p start ticks moments are =
    let enough : n ≤ length (results_of which p start ticks) = are.run.enough in
    let long = told_length which p start ticks in
    rw are.at (last_length n (moments_of which p start ticks) (omega (arith, long)))

first_count : (p : Probe) (start : ℕ) (ticks : List Tick) (moments : List ℕ) → AreFirst p start ticks moments
    → length moments ≡ p.failure_threshold
first_count p start ticks moments are =
    let enough : p.failure_threshold ≤ length (results_of startup_in p start ticks) = are.failed.enough in
    let long = told_length startup_in p start ticks in
    let taken = length-take p.failure_threshold (moments_of startup_in p start ticks) in
    rw are.at (omega (arith, long, taken))

mapped : {A : Type 0} (P Q : A → Type 0) (o : Option A) → ((x : A) → P x → Q x) → IsSomeAnd o P → IsSomeAnd o Q
mapped P Q None f p = p
mapped P Q (Some x) f p = f x p

pub kill_count : (probes : Probes) (start : ℕ) (cause : Cause) (ticks : List Tick) (moments : List ℕ)
    → AreKillFailures probes start cause ticks moments
    → IsSomeAnd (probe_for probes cause) (λ p. length moments ≡ p.failure_threshold)
kill_count probes start Startup ticks moments are =
    mapped _ _ probes.startup (λ p a. first_count p start ticks moments a) are
kill_count probes start Liveness ticks moments (c, counted, are) =
    mapped _ _ probes.liveness (λ p a. last_count liveness_in Failure p.failure_threshold p start c moments a) are

-- where there are such failures, the kill is ordered
pub kill_follows : (probes : Probes) (start : ℕ) (cause : Cause) (ticks : List Tick) (moments : List ℕ)
    → AreKillFailures probes start cause ticks moments → IsKillOrdered probes start cause ticks
kill_follows probes start Startup ticks moments are = mapped _ _ probes.startup (λ p a. a.failed) are
kill_follows probes start Liveness ticks moments (c, counted, are) =
    (c, counted, mapped _ _ probes.liveness (λ p a. (_, a.run)) are)

-- a startup that has failed has its first failures
some_first : (startup : Option Probe) (start : ℕ) (ticks : List Tick) → HasStartupFailed startup start ticks
    → (moments : List ℕ) × IsSomeAnd startup (λ p. AreFirst p start ticks moments)
some_first None start ticks fails = absurd fails
some_first (Some p) start ticks fails =
    (take p.failure_threshold (moments_of startup_in p start ticks), record { failed = fails; at = refl })

-- the last results, with a tick by which their run ends
pub some_last : (which : Results → Option Outcome) (outcome : Outcome) (n : ℕ) (p : Probe) (start : ℕ)
    (before : List Tick) (next : Tick) → 1 ≤ n
    → EndsNow outcome n (results_of which p start before
    ++ cons_option (belonging p (next.moment - start) (which next.entry)) [])
    → (EndsNow outcome n (results_of which p start before) → ⊥)
    → AreLast which outcome n p start (before ++ next ∷ [])
    (last_of n (moments_of which p start (before ++ next ∷ [])))
some_last which outcome n p start before next least run not = record {
  run = rw (results_more which p start before next) run;
  at = refl;
  now = rw (moments_more which p start before (next ∷ []), last_moment-more before next)
      (run_now outcome n next.moment (belonging p (next.moment - start) (which next.entry))
      (results_of which p start before) (moments_of which p start before) least (told_length which p start before)
      run not);
}

-- liveness that has failed with one more tick that counts, and had not before
some_failures : (liveness : Option Probe) (start : ℕ) (before : List Tick) (next : Tick) → HasNumbersInRange liveness
    → HasLivenessFailed liveness start (before ++ next ∷ []) → (HasLivenessFailed liveness start before → ⊥)
    → (moments : List ℕ) × IsSomeAnd liveness (λ p. AreLast liveness_in Failure p.failure_threshold p start
    (before ++ next ∷ []) moments)
some_failures None start before next range fails not = absurd fails
some_failures (Some p) start before next range fails not =
    let f : ℕ = p.failure_threshold in
    let xs : List Outcome = results_of liveness_in p start before in
    let b : Option Outcome = belonging p (next.moment - start) next.entry.liveness in
    let now : FailsInARow f (xs ++ cons_option b []) =
    subst (FailsInARow f) (results_more liveness_in p start before next) fails in (
      last_of f (moments_of liveness_in p start (before ++ next ∷ [])),
      some_last liveness_in Failure f p start before next range.some_failures (failures_now f b xs now not)
          (λ old. not (length xs, old)),
    )

liveness_kill : (probes : Probes) (start : ℕ) (ticks : List Tick) (next : Tick) → AreInRange probes
    → IsKillOrdered probes start Liveness (ticks ++ next ∷ []) → (IsKillOrdered probes start Liveness ticks → ⊥)
    → (moments : List ℕ) × AreKillFailures probes start Liveness (ticks ++ next ∷ []) moments
liveness_kill probes start ticks next range (c, counted, fails) not =
    elim (counted_next probes.startup start ticks next c counted) [
      | inl w ↦
          let now = subst (HasLivenessFailed probes.liveness start) w.3 fails in
          let found = some_failures probes.liveness start w.0 next range.liveness now
          (λ old. not (w.0, w.1, old)) in (
            found.0,
            (w.0 ++ next ∷ [], subst (AreCounted probes.startup start (ticks ++ next ∷ [])) w.3 counted, found.1),
          )
      | inr none ↦
          absurd (HasLivenessFailed-none probes.liveness start range.liveness
          (subst (HasLivenessFailed probes.liveness start) none fails))
    ]

pub some_kill_now : (probes : Probes) (start : ℕ) (cause : Cause) (ticks : List Tick) (next : Tick) → AreInRange probes
    → IsKillOrdered probes start cause (ticks ++ next ∷ []) → (IsKillOrdered probes start cause ticks → ⊥)
    → (moments : List ℕ) × AreKillFailures probes start cause (ticks ++ next ∷ []) moments
some_kill_now probes start Startup ticks next range ordered not =
    some_first probes.startup start (ticks ++ next ∷ []) ordered
some_kill_now probes start Liveness ticks next range ordered not =
    liveness_kill probes start ticks next range ordered not

pub some_kill : (probes : Probes) (start : ℕ) (cause : Cause) (ticks : List Tick) (t : ℕ) → AreInRange probes
    → IsKillTick probes start cause ticks t
    → (moments : List ℕ) × AreKillFailures probes start cause (up_to ticks t) moments
some_kill probes start cause ticks t range comes =
    let w = up_to_more ticks t comes.holds.within in
    let ordered = subst (IsKillOrdered probes start cause) w.1 comes.holds.so in
    let found = some_kill_now probes start cause (take t ticks) w.0 range ordered
    (not_before (IsKillOrdered probes start cause) ticks t (kill_lasts probes start cause range) comes) in
    subst (λ (ts : List Tick). (moments : List ℕ) × AreKillFailures probes start cause ts moments) (sym w.1) found

-- each moment is that of a result that belongs
pub in_words : (which : Results → Option Outcome) (outcome : Outcome) (n : ℕ) (probe : Probe) (start : ℕ)
    (ticks : List Tick) (moments : List ℕ) (k moment : ℕ) → AreLast which outcome n probe start ticks moments
    → slice_get moments k ≡ Some moment → IsTickWith which probe start ticks outcome moment
in_words which outcome n probe start ticks moments k moment are at =
    let xs : List Outcome = results_of which probe start ticks in
    let ms : List ℕ = moments_of which probe start ticks in
    let long : length ms ≡ length xs = told_length which probe start ticks in
    let enough : n ≤ length xs = are.run.enough in
    let there : slice_get ms ((length ms - n) + k) ≡ Some moment =
    drop_at_place (length ms - n) ms k moment (subst (λ (l : List ℕ). slice_get l k ≡ Some moment) are.at at) in
    let within : (length ms - n) + k < length ms = slice_get_within ms ((length ms - n) + k) moment there in
    paired which probe start ticks outcome moment ((length ms - n) + k) there
    (are.run.all ((length ms - n) + k) (omega (arith, long)) (omega (arith, long)))
