-- Runs that come with a new result.
use Rattle.std.proofs.Common.{◌≡◌, inl, inr, ℕ, suc, ◌+◌, ◌-◌, ◌<◌, ◌≤◌, List, [], ◌∷◌, ◌++◌, length, Option, Some}
use Rattle.std.proofs.Common.{None, refl, subst, sym, append-nil, length-append, arith}
use Rattle.std.specs.Prelude.{slice_get, option_map}
use Rattle.std.specs.List.{cons_option}
use Rattle.std.proofs.lemmas.Bool.{cases_lt}
use Rattle.std.proofs.lemmas.Option.{same_Some}
use Rattle.histories.proofs.Decide.{OrNot, both, implied, at_most_or_not}
use Rattle.histories.proofs.Found.{all_below}
use Rattle.histories.proofs.Lists.{place_split, slice_get-new}
use Rattle.manifest.specs.declared.outcome.Outcome.{Outcome}
use Rattle.manifest.specs.declared.outcome.Outcome.TheVariants.{Success, Failure, Unknown}
use Rattle.histories.specs.rule.Histories.{IsFirst}
use Rattle.probes.specs.rule.Outcomes.{EndsRun, FailsInARow, HoldsAfter, PassesWithin}
use Rattle.probes.proofs.Decided.{failure_or_not, run_or_not}
use Rattle.probes.proofs.Runs.{FailsInARow-more, HoldsAfter-more}
use Rattle.probe_causes.specs.rule.Moments.{last_of}
use Rattle.probe_causes.proofs.Parts.{last_now}

-- a run that ends at the last result
abbrev pub EndsNow : Outcome → ℕ → List Outcome → Type 0
EndsNow o n xs = EndsRun o n xs (length xs)

-- the last moment is that of the new result
pub run_now : (o : Outcome) (n m : ℕ) (b : Option Outcome) (xs : List Outcome) (ms : List ℕ) → 1 ≤ n
    → length ms ≡ length xs → EndsNow o n (xs ++ cons_option b []) → (EndsNow o n xs → ⊥)
    → slice_get (last_of n (ms ++ cons_option (option_map (λ _. m) b) [])) (n - 1) ≡ Some m
run_now o n m None xs ms least long run not = absurd (not (subst (EndsNow o n) (append-nil xs) run))
run_now o n m (Some x) xs ms least long run not =
    let enough : n ≤ length (xs ++ x ∷ []) = run.enough in
    let more : length (xs ++ x ∷ []) ≡ length xs + 1 = length-append xs (x ∷ []) in
    last_now n ms m least (omega (arith, more, long))

-- failures in a row that were not there before end with the new result
pub failures_now : (f : ℕ) (b : Option Outcome) (xs : List Outcome) → FailsInARow f (xs ++ cons_option b [])
    → (FailsInARow f xs → ⊥) → EndsNow Failure f (xs ++ cons_option b [])
failures_now f None xs fails not = absurd (not (subst (FailsInARow f) (append-nil xs) fails))
failures_now f (Some x) xs fails not = elim ((FailsInARow-more f xs x).0 fails) [
  | inl old ↦ absurd (not old)
  | inr now ↦ now
]

-- readiness that did not hold before holds by successes that end with the new result
pub successes_now : (s f : ℕ) (b : Option Outcome) (xs : List Outcome) → HoldsAfter s f (xs ++ cons_option b [])
    → (HoldsAfter s f xs → ⊥) → EndsNow Success s (xs ++ cons_option b [])
successes_now s f None xs holds not = absurd (not (subst (HoldsAfter s f) (append-nil xs) holds))
successes_now s f (Some x) xs holds not = elim ((HoldsAfter-more s f xs x).0 holds) [
  | inl now ↦ now
  | inr old ↦ absurd (not old.0)
]

-- successes that end with the last result make readiness hold
pub successes_hold : (s f : ℕ) (xs : List Outcome) → EndsNow Success s xs → HoldsAfter s f xs
successes_hold s f xs run = (
  length xs,
  run,
  λ later lt fails. let among : later ≤ length xs = fails.among in absurd (omega arith),
)

-- readiness that held and no longer does was ended by failures that end with the new result
pub failures_undo : (s f : ℕ) (b : Option Outcome) (xs : List Outcome) → HoldsAfter s f xs
    → (HoldsAfter s f (xs ++ cons_option b []) → ⊥) → EndsNow Failure f (xs ++ cons_option b [])
failures_undo s f None xs holds not = absurd (not (subst (HoldsAfter s f) (sym (append-nil xs)) holds))
failures_undo s f (Some x) xs holds not =
    elim (run_or_not Failure failure_or_not f (xs ++ x ∷ []) (length (xs ++ x ∷ []))) [
      | inl now ↦ now
      | inr none ↦ absurd (not ((HoldsAfter-more s f xs x).1 (inr (holds, none))))
    ]

-- where failures end with the last result, readiness does not hold
pub undone : (s f : ℕ) (xs : List Outcome) → 1 ≤ s → 1 ≤ f → HoldsAfter s f xs → EndsNow Failure f xs → ⊥
undone s f xs some_s some_f (e, run, none) fails = elim (cases_lt e (length xs)) [
  | inl lt ↦ none (length xs) lt fails
  | inr ge ↦
      let among : e ≤ length xs = run.among in
      let enough : s ≤ e = run.enough in
      let good : slice_get xs (length xs - 1) ≡ Some Success = run.all (length xs - 1) (omega arith) (omega arith) in
      let bad : slice_get xs (length xs - 1) ≡ Some Failure = fails.all (length xs - 1) (omega arith) (omega arith) in
      cc
]

-- a startup that passes with the new result: that is a success, and the first
pub passes_now : (f : ℕ) (b : Option Outcome) (xs : List Outcome) → PassesWithin f (xs ++ cons_option b [])
    → (PassesWithin f xs → ⊥)
    → (length (xs ++ cons_option b []) ≡ suc (length xs)) × (length xs < f)
    × IsFirst (λ k. slice_get (xs ++ cons_option b []) k ≡ Some Success) (length xs)
passes_now f None xs passes not = absurd (not (subst (PassesWithin f) (append-nil xs) passes))
passes_now f (Some x) xs (k, lt, is) not = elim (place_split xs x Success k is) [
  | inl old ↦ absurd (not (k, lt, old))
  | inr new ↦
      let at : k ≡ length xs = new.0 in
      let within : length xs < f = omega arith in
      let more : length (xs ++ x ∷ []) ≡ length xs + 1 = length-append xs (x ∷ []) in (
        omega (arith, more),
        within,
        record {
          holds = subst (λ (o : Outcome). slice_get (xs ++ x ∷ []) (length xs) ≡ Some o) new.1 (slice_get-new xs x);
          none_before = λ u before success. elim (place_split xs x Success u success) [
            | inl old ↦ not (u, omega arith, old)
            | inr same ↦ let e : u ≡ length xs = same.0 in absurd (omega arith)
          ];
        },
      )
]
