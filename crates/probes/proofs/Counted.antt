-- The ticks that count, and startup, as ticks are added.
use Rattle.std.proofs.Common.{◌≡◌, ◌⊎◌, inl, inr, ℕ, suc, ◌-◌, ◌<◌, ◌≤◌, List, [], ◌∷◌, ◌++◌, length, drop, Option}
use Rattle.std.proofs.Common.{Some, None, refl, sym, length-append, ◌∙◌, ap, arith}
use Rattle.std.specs.Prelude.{slice_get}
use Rattle.std.proofs.lemmas.List.{length_push, drop-append-le, drop_all}
use Rattle.std.proofs.lemmas.List.Elements.{filter_map-append}
use Rattle.std.proofs.lemmas.Option.{slice_get_within}
use Rattle.manifest.specs.declared.outcome.Outcome.{Outcome}
use Rattle.manifest.specs.declared.outcome.Outcome.TheVariants.{Success, Failure}
use Rattle.manifest.specs.rule.Probe.{Probe}
use Rattle.probes.specs.declared.startup.StartupProgress.{StartupProgress}
use Rattle.probes.specs.declared.startup.StartupProgress.TheVariants.{Waiting, Passed, Failed}
use Rattle.probes.specs.rule.Outcomes.{PassesWithin, FailsWithin}
use Rattle.probes.specs.rule.Ticks.{Tick, belonging, startup_results, HasPassed, IsStarted}
use Rattle.probes.specs.state.Startup.{IsProgressOf, IsProgressWith}
use Rattle.probes.specs.rule.Container.{IsPassTick, AreCounted}
use Rattle.histories.specs.state.Histories.{Lasts}
use Rattle.histories.proofs.First.{IsFirst-unique}
use Rattle.histories.proofs.Lasting.{Lasts-all, ComesTrue-later, ComesTrue-now}
use Rattle.histories.proofs.Lists.{slice_get-kept}

pub PassesWithin-more : (f : ℕ) (xs ys : List Outcome) → PassesWithin f xs → PassesWithin f (xs ++ ys)
PassesWithin-more f xs ys (k, lt, is) = (k, lt, slice_get-kept xs ys k Success is)

pub FailsWithin-more : (f : ℕ) (xs ys : List Outcome) → FailsWithin f xs → FailsWithin f (xs ++ ys)
FailsWithin-more f xs ys w = record {
  enough = let le : f ≤ length xs = w.enough in omega (arith, length-append xs ys);
  all = λ k lt. slice_get-kept xs ys k Failure (w.all k lt);
}

-- passing and failing exclude each other
pub not_both : (f : ℕ) (xs : List Outcome) → PassesWithin f xs → FailsWithin f xs → ⊥
not_both f xs (k, lt, is) w = let fails : slice_get xs k ≡ Some Failure = w.all k lt in cc

-- once a startup probe has passed, it has
pub passed_lasts : (p : Probe) (start : ℕ) → Lasts (HasPassed p start)
passed_lasts p start = record {
  none = λ (k, lt, is). cc;
  more = λ ticks later here.
      rw (filter_map-append (λ t. belonging p (t.moment - start) t.entry.startup) ticks later)
      (PassesWithin-more p.failure_threshold _ _ here);
}

-- a pass tick is there only where it has passed
pub passed_by : (p : Probe) (start : ℕ) (ticks : List Tick) (t : ℕ) → IsPassTick p start ticks t
    → HasPassed p start ticks
passed_by p start ticks t f = Lasts-all (HasPassed p start) ticks t (passed_lasts p start) f.holds

-- it has passed or not, by the progress
pub passed_or_not : (f : ℕ) (xs : List Outcome) (progress : StartupProgress) → IsProgressOf f xs progress
    → PassesWithin f xs ⊎ (PassesWithin f xs → ⊥)
passed_or_not f xs Passed st = inl st
passed_or_not f xs Failed st = inr (λ passes. not_both f xs passes st)
passed_or_not f xs (Waiting n) st = inr (λ (k, lt, is). waits k is)
  where
    waits : (k : ℕ) → slice_get xs k ≡ Some Success → ⊥
    waits k is =
        let within : k < length xs = slice_get_within xs k Success is in
        let count : n ≡ length xs = st.count in
        let fails : slice_get xs k ≡ Some Failure = st.all k (omega arith) in
        cc

-- the ticks that count are determined
pub AreCounted-unique : (startup : Option Probe) (start : ℕ) (ticks c d : List Tick)
    → AreCounted startup start ticks c → AreCounted startup start ticks d → c ≡ d
AreCounted-unique None start ticks c d is is' = is ∙ sym is'
AreCounted-unique (Some p) start ticks c d (inl (t, f, is)) (inl (u, g, is')) =
    let same : t ≡ u = IsFirst-unique _ t u f g in
    is ∙ ap (λ (n : ℕ). drop (suc n) ticks) same ∙ sym is'
AreCounted-unique (Some p) start ticks c d (inl (t, f, is)) (inr (never, is')) =
    absurd (never (passed_by p start ticks t f))
AreCounted-unique (Some p) start ticks c d (inr (never, is)) (inl (t, f, is')) =
    absurd (never (passed_by p start ticks t f))
AreCounted-unique (Some p) start ticks c d (inr (never, is)) (inr (never', is')) = is ∙ sym is'

-- once startup has passed, later ticks count
pub AreCounted-more : (startup : Option Probe) (start : ℕ) (ticks later c : List Tick) → IsStarted startup start ticks
    → AreCounted startup start ticks c
    → AreCounted startup start (ticks ++ later) (c ++ later)
AreCounted-more None start ticks later c started is = ap (λ (x : List Tick). x ++ later) is
AreCounted-more (Some p) start ticks later c started (inr (never, is)) = absurd (never started)
AreCounted-more (Some p) start ticks later c started (inl (t, f, is)) =
    let within : t < length ticks = f.holds.within in
    inl (
      t,
      ComesTrue-later (HasPassed p start) ticks later t f,
      ap (λ (x : List Tick). x ++ later) is ∙ sym (drop-append-le (suc t) ticks later (omega arith)),
    )

-- before that none counts, nor does the tick in which it passes
pub AreCounted-none : (startup : Option Probe) (start : ℕ) (ticks c : List Tick) (next : Tick)
    (progress : StartupProgress)
    → (IsStarted startup start ticks → ⊥)
    → IsProgressWith startup start (ticks ++ next ∷ []) progress → AreCounted startup start ticks c
    → AreCounted startup start (ticks ++ next ∷ []) c
AreCounted-none None start ticks c next progress not_started st is = absurd (not_started tt)
AreCounted-none (Some p) start ticks c next progress not_started st (inl (t, f, is)) =
    absurd (not_started (passed_by p start ticks t f))
AreCounted-none (Some p) start ticks c next progress not_started st (inr (never, is)) =
    elim (passed_or_not p.failure_threshold (startup_results p start (ticks ++ next ∷ [])) progress st) [
      | inl passes ↦ inl (
        length ticks,
        (ComesTrue-now (HasPassed p start) ticks next (passed_lasts p start)).1 (passes, never),
        is ∙ sym (drop_all (suc (length ticks)) (ticks ++ next ∷ []) (omega (arith, length_push ticks next))),
      )
      | inr not_now ↦ inr (not_now, is)
    ]

-- no ticks, none counted
pub AreCounted-start : (startup : Option Probe) (start : ℕ) → AreCounted startup start [] []
AreCounted-start None start = refl
AreCounted-start (Some p) start = inr ((passed_lasts p start).none, refl)
