-- The first success of a startup probe.
use Rattle.std.proofs.Common.{◌≡◌, ◌∙◌, ◌-◌, ◌<◌, ℕ, List, ◌∷◌, ◌++◌, [], length, take, Option, Some, None, Bool, true, false}
use Rattle.std.proofs.Common.{refl, sym, subst, arith}
use Rattle.std.specs.Prelude.{IsTrue, if◌then◌else◌}
use Rattle.manifest.specs.declared.outcome.Outcome.{Outcome}
use Rattle.manifest.specs.rule.Probe.{Probe}
use Rattle.histories.specs.rule.Histories.{up_to, HoldsAt}
use Rattle.histories.proofs.First.{IsFirst-old, IsFirst-new, IsFirstMoment-unique, none_more}
use Rattle.histories.proofs.Growth.{grows_so}
use Rattle.histories.proofs.Places.{moment_at-old, moment_at-new}
use Rattle.std.specs.List.{cons_option}
use Rattle.probes.specs.rule.Outcomes.{PassesWithin}
use Rattle.probes.specs.rule.Ticks.{Tick, belonging, startup_results, HasPassed}
use Rattle.probes.specs.rule.Container.{IsPassTick}
use Rattle.probes.proofs.Counted.{passed_lasts}
use Rattle.probe_causes.specs.rule.Moments.{startup_in, results_of}
use Rattle.probe_causes.specs.rule.Causes.{IsFirstSuccess, IsPassMoment}
use Rattle.probe_causes.specs.state.ResultMoments.{PassesNow}
use Rattle.probe_causes.proofs.Told.{results_more}
use Rattle.probe_causes.proofs.Runs.{passes_now}
use Rattle.probe_causes.proofs.Counted.{not_before, up_to_more}

pub success_now : (p : Probe) (start : ℕ) (ticks : List Tick) (next : Tick) → HasPassed p start (ticks ++ next ∷ [])
    → (HasPassed p start ticks → ⊥)
    → IsFirstSuccess p start (ticks ++ next ∷ []) (length (startup_results p start (ticks ++ next ∷ [])))
success_now p start ticks next passes not =
    let xs : List Outcome = results_of startup_in p start ticks in
    let b : Option Outcome = belonging p (next.moment - start) next.entry.startup in
    let more : results_of startup_in p start (ticks ++ next ∷ []) ≡ xs ++ cons_option b [] =
    results_more startup_in p start ticks next in
    let w = passes_now p.failure_threshold b xs (subst (PassesWithin p.failure_threshold) more passes) not in
    record {
      place = length xs;
      counts = rw more w.0;
      in_time = w.1;
      first = rw more w.2;
    }

pub passes_by_last : (probe : Probe) (start : ℕ) (ticks : List Tick) (t : ℕ) → IsPassTick probe start ticks t
    → IsFirstSuccess probe start (up_to ticks t) (length (startup_results probe start (up_to ticks t)))
passes_by_last probe start ticks t comes =
    let w = up_to_more ticks t comes.holds.within in
    let passes = subst (HasPassed probe start) w.1 comes.holds.so in
    let found = success_now probe start (take t ticks) w.0 passes
    (not_before (HasPassed probe start) ticks t (passed_lasts probe start) comes) in
    subst (λ (ts : List Tick). IsFirstSuccess probe start ts (length (startup_results probe start ts))) (sym w.1) found

pub one_pass : (startup : Option Probe) (start : ℕ) (ticks : List Tick) (moment other : Option ℕ)
    → IsPassMoment startup start ticks moment → IsPassMoment startup start ticks other → moment ≡ other
one_pass None start ticks moment other is is' = is ∙ sym is'
one_pass (Some p) start ticks moment other is is' =
    IsFirstMoment-unique ticks (HoldsAt (HasPassed p start) ticks) moment other is is'

-- the moment of the pass, after one more tick
old_pass : (p : Probe) (start : ℕ) (ticks : List Tick) (next : Tick) (o : Option ℕ)
    → (IsPassTick p start (ticks ++ next ∷ []) (length ticks) → ⊥) → IsPassMoment (Some p) start ticks o
    → IsPassMoment (Some p) start (ticks ++ next ∷ []) o
old_pass p start ticks next (Some m) not (t, first, at) =
    (t, IsFirst-old (length ticks) _ _ _ (grows_so (HasPassed p start) ticks next) t first, moment_at-old ticks next t m at)
old_pass p start ticks next None not none =
    none_more (length ticks) _ _ _ (grows_so (HasPassed p start) ticks next) none
    (λ now. not (IsFirst-new (length ticks) _ _ _ (grows_so (HasPassed p start) ticks next) none now))

pub pass_more : (startup : Option Probe) (start : ℕ) (ticks : List Tick) (next : Tick) (passes : Bool)
    (o new : Option ℕ) → PassesNow startup start ticks next (IsTrue passes) → IsPassMoment startup start ticks o
    → new ≡ (if passes then Some next.moment else o) → IsPassMoment startup start (ticks ++ next ∷ []) new
pass_more None start ticks next true o new iff is e = absurd (iff.0 refl)
pass_more None start ticks next false o new iff is e = e ∙ is
pass_more (Some p) start ticks next true o new iff is e =
    rw e (length ticks, iff.0 refl, moment_at-new ticks next)
pass_more (Some p) start ticks next false o new iff is e =
    rw e (old_pass p start ticks next o (λ comes. let so : IsTrue false = iff.1 comes in cc) is)

-- no tick, no pass
pub pass_none : (startup : Option Probe) (start : ℕ) → IsPassMoment startup start [] None
pass_none None start = refl
pass_none (Some p) start = λ t holds. let within : t < 0 = holds.within in absurd (omega arith)
