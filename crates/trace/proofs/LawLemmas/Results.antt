-- What a tick shows of a probe is the result that is given.
use Rattle.std.proofs.Common.{◌≡◌, ◌∙◌, ℕ, zero, suc, true, false, List, [], ◌∷◌, slice_get, Some, refl, ap}
use Rattle.std.proofs.Common.{sym, inl, inr}
use Rattle.std.specs.Prelude.{◌==◌, ◌&&◌}
use Rattle.std.specs.List.{list_any}
use Rattle.std.proofs.lemmas.Bool.{cases_Bool, and_parts, or_parts, eqb-true, eq-eqb}
use Rattle.std.proofs.lemmas.Map.Keys.{any_passes_from_place}
use Rattle.manifest.specs.declared.outcome.Outcome.{Outcome}
use Rattle.manifest.specs.declared.outcome.ProbeKind.{ProbeKind}
use Rattle.manifest.specs.declared.outcome.ProbeKind.TheVariants.{Startup, Liveness, Readiness}
use Rattle.trace.specs.declared.placing.PlacedResult.{PlacedResult}
use Rattle.manifest.specs.rule.ProbeKinds.{place}
use Rattle.trace.specs.rule.Placing.{has_twice, is_of_probe, are_of_one_probe}
use Rattle.trace.specs.rule.Observed.{outcome_in}
use Rattle.trace.specs.state.Laws.{IsGiven, ResultsShown}

same_probe : (a b : ProbeKind) → (place a == place b) ≡ true → a ≡ b
same_probe Startup Startup e = refl
same_probe Startup Liveness e = absurd (cc)
same_probe Startup Readiness e = absurd (cc)
same_probe Liveness Startup e = absurd (cc)
same_probe Liveness Liveness e = refl
same_probe Liveness Readiness e = absurd (cc)
same_probe Readiness Startup e = absurd (cc)
same_probe Readiness Liveness e = absurd (cc)
same_probe Readiness Readiness e = refl

abbrev result : ℕ → ProbeKind → Outcome → PlacedResult
result n probe outcome = record { container = n; probe = probe; outcome = outcome }

-- a result of the probe is this one
is_result : (r : PlacedResult) (n : ℕ) (probe : ProbeKind) → is_of_probe r n probe ≡ true → r ≡ result n probe r.outcome
is_result r n probe e =
    let of = and_parts (r.container == n) (place r.probe == place probe) e in
    ap (λ (c : ℕ). result c r.probe r.outcome) (eqb-true r.container n of.0)
    ∙ ap (λ (p : ProbeKind). result n p r.outcome) (same_probe r.probe probe of.1)

of_itself : (n : ℕ) (probe : ProbeKind) → (n == n && place probe == place probe) ≡ true
of_itself n probe = rw (eq-eqb n n refl, eq-eqb (place probe) (place probe) refl) refl

shown : (rs : List PlacedResult) (n : ℕ) (probe : ProbeKind) (outcome : Outcome)
    → outcome_in rs n probe ≡ Some outcome → IsGiven rs n probe outcome
shown [] n probe outcome e = absurd (cc)
shown (r ∷ rs) n probe outcome e = elim (cases_Bool (is_of_probe r n probe)) [
  | inl here ↦
      let first : outcome_in (r ∷ rs) n probe ≡ Some r.outcome = rw here refl in
      let same : r.outcome ≡ outcome = cc in
      (0, ap Some (is_result r n probe here ∙ ap (result n probe) same))
  | inr other ↦
      let next : outcome_in (r ∷ rs) n probe ≡ outcome_in rs n probe = rw other refl in
      let later = shown rs n probe outcome (sym next ∙ e) in
      (suc later.0, later.1)
]

given : (rs : List PlacedResult) (n : ℕ) (probe : ProbeKind) (outcome : Outcome)
    → has_twice are_of_one_probe rs ≡ false → (m : ℕ) → slice_get rs m ≡ Some (result n probe outcome)
    → outcome_in rs n probe ≡ Some outcome
given [] n probe outcome once m here = absurd (cc)
given (r ∷ rs) n probe outcome once zero here =
    let is : r ≡ result n probe outcome = cc in
    let first : is_of_probe r n probe ≡ true = ap (λ (s : PlacedResult). is_of_probe s n probe) is
    ∙ of_itself n probe in
    let same : r.outcome ≡ outcome = ap (λ (s : PlacedResult). s.outcome) is in
    rw first (ap Some same)
given (r ∷ rs) n probe outcome once (suc m) here =
    let none = or_parts (list_any (λ s. are_of_one_probe s r) rs) (has_twice are_of_one_probe rs) once in
    elim (cases_Bool (is_of_probe r n probe)) [
      | inl first ↦
          let alike : are_of_one_probe (result n probe outcome) r ≡ true =
          ap (are_of_one_probe (result n probe outcome)) (is_result r n probe first) ∙ of_itself n probe in
          let twice = any_passes_from_place (λ s. are_of_one_probe s r) rs m (result n probe outcome) here alike in
          let never : false ≡ true = sym none.0 ∙ twice in
          absurd (cc)
      | inr other ↦ rw other (given rs n probe outcome none.1 m here)
    ]

pub results_shown : ResultsShown
results_shown rs n probe outcome once = (shown rs n probe outcome, λ is. given rs n probe outcome once is.0 is.1)
