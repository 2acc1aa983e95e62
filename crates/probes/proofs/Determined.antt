-- The ticks that count are there for every list of ticks.
use Rattle.std.proofs.Common.{◌≡◌, ◌⊎◌, inl, inr, ℕ, suc, zero, ◌<◌, ◌≤◌, List, [], ◌∷◌, ◌++◌, length, length-take}
use Rattle.std.proofs.Common.{take, drop, Option, Some, None, refl, sym, subst, arith}
use Rattle.std.specs.Prelude.{◌↔◌, slice_get}
use Rattle.std.proofs.lemmas.List.{take_all, take-take}
use Rattle.std.proofs.lemmas.Option.{same_Some}
use Rattle.manifest.specs.declared.outcome.Outcome.{Outcome}
use Rattle.manifest.specs.declared.outcome.Outcome.TheVariants.{Success, Failure, Unknown}
use Rattle.manifest.specs.rule.Probe.{Probe, Probes}
use Rattle.probes.specs.rule.Outcomes.{PassesWithin}
use Rattle.probes.specs.rule.Ticks.{Tick, startup_results, HasPassed, IsStarted, HoldsReady}
use Rattle.histories.specs.rule.Histories.{ComesTrue}
use Rattle.histories.specs.state.Histories.{Lasts}
use Rattle.probes.specs.rule.Container.{IsPassTick, AreCounted, IsInstanceReady}
use Rattle.histories.proofs.First.{IsFirst-unique}
use Rattle.histories.proofs.Lasting.{Lasts-all, ComesTrue-later}
use Rattle.probes.proofs.Counted.{passed_lasts}

-- after a result that is no success the others decide
passes_later : (f : ℕ) (x : Outcome) (xs : List Outcome) → (x ≡ Success → ⊥)
    → PassesWithin f xs ⊎ (PassesWithin f xs → ⊥)
    → PassesWithin (suc f) (x ∷ xs) ⊎ (PassesWithin (suc f) (x ∷ xs) → ⊥)
passes_later f x xs other (inl later) =
    inl (suc later.0, (let lt : later.0 < f = later.1 in omega arith), later.2)
passes_later f x xs other (inr never) = inr (λ (k, lt, is). never (tail k lt is))
  where
    tail : (k : ℕ) → k < suc f → slice_get (x ∷ xs) k ≡ Some Success → PassesWithin f xs
    tail zero lt is = absurd (other (same_Some x Success is))
    tail (suc k) lt is = (k, omega arith, is)

-- one of the first results is a success, or none is
pub passes_or_not : (f : ℕ) (xs : List Outcome) → PassesWithin f xs ⊎ (PassesWithin f xs → ⊥)
passes_or_not zero xs = inr (λ (k, lt, is). absurd (omega arith))
passes_or_not (suc f) [] = inr (λ (k, lt, is). absurd (cc))
passes_or_not (suc f) (Success ∷ xs) = inl (0, omega arith, refl)
passes_or_not (suc f) (Failure ∷ xs) = passes_later f Failure xs (λ e. cc) (passes_or_not f xs)
passes_or_not (suc f) (Unknown ∷ xs) = passes_later f Unknown xs (λ e. cc) (passes_or_not f xs)

-- what holds of the first n ticks and lasts holds first at some tick
first_tick : (P : List Tick → Type 0) (ticks : List Tick) → Lasts P → ((some : List Tick) → P some ⊎ (P some → ⊥))
    → (n : ℕ) → n ≤ length ticks → P (take n ticks) → (t : ℕ) × ComesTrue P ticks t
first_tick P ticks lasts decide zero le here = absurd (lasts.none here)
first_tick P ticks lasts decide (suc n) le here = elim (decide (take n ticks)) [
  | inl before ↦ first_tick P ticks lasts decide n (omega arith) before
  | inr not_before ↦ (
    n,
    record {
      holds = record { within = omega arith; so = here };
      none_before = λ u lt w.
          let shorter : take (suc u) (take n ticks) ≡ take (suc u) ticks = take-take (suc u) n ticks (omega arith) in
          not_before (Lasts-all P (take n ticks) u lasts
          (record { within = omega (arith, length-take n ticks); so = subst P (sym shorter) w.so }));
    },
  )
]

pub counted_of : (startup : Option Probe) (start : ℕ) (ticks : List Tick) → (counted : List Tick)
    × AreCounted startup start ticks counted
counted_of None start ticks = (ticks, refl)
counted_of (Some p) start ticks = elim (passes_or_not p.failure_threshold (startup_results p start ticks)) [
  | inl passed ↦ found (first_tick (HasPassed p start) ticks (passed_lasts p start)
      (λ some. passes_or_not p.failure_threshold (startup_results p start some)) (length ticks) (omega arith)
      (let P : List Tick → Type 0 = HasPassed p start in subst P (sym (take_all (length ticks) ticks (omega arith)))
      passed))
  | inr never ↦ ([], inr (never, refl))
]
  where
    found : (t : ℕ) × IsPassTick p start ticks t → (counted : List Tick) × AreCounted (Some p) start ticks counted
    found (t, f) = (drop (suc t) ticks, inl (t, f, refl))

-- a startup probe passes at one tick
pub passes_once : (p : Probe) (start : ℕ) (ticks later : List Tick) (t u : ℕ) → IsPassTick p start ticks t
    → IsPassTick p start (ticks ++ later) u → t ≡ u
passes_once p start ticks later t u f g = IsFirst-unique _ t u (ComesTrue-later (HasPassed p start) ticks later t f) g

-- ready with no readiness probe
pub ready_by_startup : (probes : Probes) (start : ℕ) (ticks : List Tick) → probes.readiness ≡ None
    → (IsInstanceReady probes start ticks ↔ IsStarted probes.startup start ticks)
ready_by_startup probes start ticks none = (
  (λ ready. ready.0),
  (λ started.
      let counted = counted_of probes.startup start ticks in (
        started,
        (
          counted.0,
          counted.1,
          (let P : Option Probe → Type 0 = λ p. HoldsReady p start counted.0 in
              subst P (sym none) tt),
        ),
      )),
)
