-- Moments of results stand beside the results.
use Rattle.std.proofs.Common.{◌≡◌, ◌∙◌, ℕ, zero, suc, ◌-◌, List, [], ◌∷◌, ◌++◌, length, Option, Some, None, refl, ap}
use Rattle.std.specs.Prelude.{slice_get, option_map}
use Rattle.std.specs.List.{cons_option}
use Rattle.std.proofs.lemmas.List.Elements.{filter_map-append}
use Rattle.std.proofs.lemmas.Option.{same_Some}
use Rattle.manifest.specs.declared.outcome.Outcome.{Outcome}
use Rattle.manifest.specs.rule.Probe.{Probe}
use Rattle.probes.specs.rule.Ticks.{Results, Tick, belonging}
use Rattle.probe_causes.specs.rule.Moments.{told_at, results_of, moments_of}

-- one more of each, or of none
one_more : (b : Option Outcome) (m : ℕ) (xs : List Outcome) (ms : List ℕ) → length ms ≡ length xs
    → length (cons_option (option_map (λ _. m) b) ms) ≡ length (cons_option b xs)
one_more None m xs ms e = e
one_more (Some o) m xs ms e = ap suc e

-- there are as many moments as results
pub told_length : (which : Results → Option Outcome) (p : Probe) (start : ℕ) (ticks : List Tick)
    → length (moments_of which p start ticks) ≡ length (results_of which p start ticks)
told_length which p start [] = refl
told_length which p start (x ∷ ticks) =
    one_more (belonging p (x.moment - start) (which x.entry)) x.moment (results_of which p start ticks)
    (moments_of which p start ticks) (told_length which p start ticks)

-- what one more tick adds
pub results_more : (which : Results → Option Outcome) (p : Probe) (start : ℕ) (ticks : List Tick) (next : Tick)
    → results_of which p start (ticks ++ next ∷ [])
    ≡ results_of which p start ticks ++ cons_option (belonging p (next.moment - start) (which next.entry)) []
results_more which p start ticks next =
    filter_map-append (λ t. belonging p (t.moment - start) (which t.entry)) ticks (next ∷ [])

pub moments_more : (which : Results → Option Outcome) (p : Probe) (start : ℕ) (ticks later : List Tick)
    → moments_of which p start (ticks ++ later) ≡ moments_of which p start ticks ++ moments_of which p start later
moments_more which p start ticks later =
    filter_map-append (λ t. told_at p start t.moment (which t.entry)) ticks later

-- a tick with this result, at this moment
abbrev pub IsTickWith : (Results → Option Outcome) → Probe → ℕ → List Tick → Outcome → ℕ → Type 0
IsTickWith which p start ticks o m =
    (t : ℕ) × (x : Tick) × (slice_get ticks t ≡ Some x) × (x.moment ≡ m)
    × (belonging p (x.moment - start) (which x.entry) ≡ Some o)

-- one tick ahead
ahead : (which : Results → Option Outcome) (p : Probe) (start : ℕ) (x : Tick) (ticks : List Tick) (o : Outcome) (m : ℕ)
    → IsTickWith which p start ticks o m → IsTickWith which p start (x ∷ ticks) o m
ahead which p start x ticks o m (t, y, there, moment, result) =
    (suc t, y, there, moment, result)

-- what stands at one place of both is of one tick: of the first, or of a later one
first_or_later : (which : Results → Option Outcome) (p : Probe) (start : ℕ) (x : Tick) (ticks : List Tick) (o : Outcome)
    (m : ℕ) (b : Option Outcome) (k : ℕ) → belonging p (x.moment - start) (which x.entry) ≡ b
    → ((j : ℕ) → slice_get (moments_of which p start ticks) j ≡ Some m
    → slice_get (results_of which p start ticks) j ≡ Some o → IsTickWith which p start ticks o m)
    → slice_get (cons_option (option_map (λ _. x.moment) b) (moments_of which p start ticks)) k ≡ Some m
    → slice_get (cons_option b (results_of which p start ticks)) k ≡ Some o
    → IsTickWith which p start (x ∷ ticks) o m
first_or_later which p start x ticks o m None k is later at result =
    ahead which p start x ticks o m (later k at result)
first_or_later which p start x ticks o m (Some q) zero is later at result =
    (0, x, refl, same_Some x.moment m at, is ∙ result)
first_or_later which p start x ticks o m (Some q) (suc k) is later at result =
    ahead which p start x ticks o m (later k at result)

pub paired : (which : Results → Option Outcome) (p : Probe) (start : ℕ) (ticks : List Tick) (o : Outcome) (m k : ℕ)
    → slice_get (moments_of which p start ticks) k ≡ Some m
    → slice_get (results_of which p start ticks) k ≡ Some o → IsTickWith which p start ticks o m
paired which p start [] o m k at result = absurd (cc)
paired which p start (x ∷ ticks) o m k at result =
    first_or_later which p start x ticks o m (belonging p (x.moment - start) (which x.entry)) k refl
    (λ j a r. paired which p start ticks o m j a r) at result
