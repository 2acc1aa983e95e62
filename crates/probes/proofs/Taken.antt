-- What one more tick makes of the counters of each probe.
use Rattle.std.proofs.Common.{◌≡◌, ◌⊎◌, inl, inr, ℕ, ◌-◌, Bool, nat_eq, List, [], ◌∷◌, ◌++◌, length, Option, Some}
use Rattle.std.proofs.Common.{None, refl, ap, subst, ◌∙◌}
use Rattle.std.specs.Prelude.{◌↔◌, ◌||◌, IsTrue}
use Rattle.std.specs.List.{filter_map, cons_option}
use Rattle.std.proofs.lemmas.Bool.{or_cases, or_left, or_right, eqb-true, eq-eqb}
use Rattle.std.proofs.lemmas.List.{append-nil}
use Rattle.std.proofs.lemmas.Option.{same_Some}
use Rattle.std.proofs.lemmas.List.Elements.{filter_map-append}
use Rattle.manifest.specs.declared.outcome.Outcome.{Outcome}
use Rattle.manifest.specs.declared.outcome.Outcome.TheVariants.{Success, Failure}
use Rattle.manifest.specs.rule.Probe.{Probe}
use Rattle.probes.specs.declared.configured.ProbeResult.{ProbeResult}
use Rattle.probes.specs.declared.startup.StartupProgress.{StartupProgress}
use Rattle.probes.specs.rule.Outcomes.{EndsRun, FailsInARow, HoldsAfter}
use Rattle.probes.specs.state.Outcomes.{IsRunLength}
use Rattle.probes.specs.rule.Ticks.{Tick, belonging}
use Rattle.probes.specs.state.Ticks.{with_probe, result_of}
use Rattle.probes.specs.state.Startup.{IsProgressOf, IsProgressWith}
use Rattle.probes.specs.state.Liveness.{CountsLiveness}
use Rattle.probes.specs.state.Readiness.{CountsReadiness, CountsResults}
use Rattle.probes.proofs.Runs.{IsRunLength-reaches, FailsInARow-more, HoldsAfter-more}

-- one more element, which gives nothing or an item
pub filter_map-nothing : {X Y : Type 0} (f : X → Option Y) (xs : List X) (x : X) → f x ≡ None
    → filter_map f (xs ++ x ∷ []) ≡ filter_map f xs
filter_map-nothing {X} {Y} f xs x none =
    filter_map-append f xs (x ∷ []) ∙ ap (λ (o : Option Y). filter_map f xs ++ cons_option o []) none
    ∙ append-nil (filter_map f xs)

pub filter_map-item : {X Y : Type 0} (f : X → Option Y) (xs : List X) (x : X) (y : Y) → f x ≡ Some y
    → filter_map f (xs ++ x ∷ []) ≡ filter_map f xs ++ y ∷ []
filter_map-item {X} {Y} f xs x y some =
    filter_map-append f xs (x ∷ []) ∙ ap (λ (o : Option Y). filter_map f xs ++ cons_option o []) some

-- what belongs to the instance in the new tick, by the age and the result that were handed in
none_belongs : (p : Probe) (age : ℕ) (given : Option Outcome) → result_of (Some p) age given ≡ None
    → belonging p age given ≡ None
none_belongs p age given e = none_of (belonging p age given) e
  where
    none_of : (o : Option Outcome) → with_probe p o ≡ None → o ≡ None
    none_of None e = refl
    none_of (Some o) e = absurd (cc)

pub one_belongs : (probe : Option Probe) (age : ℕ) (given : Option Outcome) (found : ProbeResult)
    → result_of probe age given ≡ Some found
    → (probe ≡ Some found.probe) × (belonging found.probe age given ≡ Some found.outcome)
one_belongs None age given found e = absurd (cc)
one_belongs (Some p) age given found e = one_of (belonging p age given) refl e
  where
    one_of : (r : Option Outcome) → belonging p age given ≡ r → with_probe p r ≡ Some found
        → (Some p ≡ Some found.probe) × (belonging found.probe age given ≡ Some found.outcome)
    one_of None is e = absurd (cc)
    one_of (Some o) is e =
        let same = same_Some (record { probe = p; outcome = o }) found e in
        let probe : p ≡ found.probe = ap (λ (x : ProbeResult). x.probe) same in (
          ap (λ (x : Probe). Some x) probe,
          rw (← probe) (is ∙ ap (λ (x : ProbeResult). Some x.outcome) same),
        )

-- startup: the tick has no result that belongs, or one
pub startup_skips : (probe : Option Probe) (start : ℕ) (ticks : List Tick) (next : Tick) (progress : StartupProgress)
    (age : ℕ) (given : Option Outcome) → next.moment - start ≡ age → next.entry.startup ≡ given
    → result_of probe age given ≡ None
    → IsProgressWith probe start ticks progress → IsProgressWith probe start (ticks ++ next ∷ []) progress
startup_skips None start ticks next progress age given at is none st = st
startup_skips (Some p) start ticks next progress age given at is none st =
    rw (filter_map-nothing (λ t. belonging p (t.moment - start) t.entry.startup) ticks next
    (rw (at, is) (none_belongs p age given none))) st

pub startup_takes : (p : Probe) (start : ℕ) (ticks : List Tick) (next : Tick) (o : Outcome) (limit : ℕ)
    (progress progress' : StartupProgress)
    → belonging p (next.moment - start) next.entry.startup ≡ Some o → limit ≡ p.failure_threshold
    → ((results : List Outcome) → IsProgressOf limit results progress → IsProgressOf limit (results ++ o ∷ [])
    progress')
    → IsProgressWith (Some p) start ticks progress → IsProgressWith (Some p) start (ticks ++ next ∷ []) progress'
startup_takes p start ticks next o limit progress progress' some same step st =
    let F : ℕ → Type 0 = λ f. (results : List Outcome) → IsProgressOf f results progress
    → IsProgressOf f (results ++ o ∷ []) progress' in
    rw (filter_map-item (λ t. belonging p (t.moment - start) t.entry.startup) ticks next o some)
    (subst F same step _ st)

-- a run counted up to a limit, where the probe's number is that limit
run_by : (o : Outcome) (limit number : ℕ) (counted : Outcome) (n n' : ℕ) → limit ≡ number
    → ((results : List Outcome) → IsRunLength counted limit results n → IsRunLength counted limit (results ++ o ∷ [])
    n')
    → (results : List Outcome) → IsRunLength counted number results n → IsRunLength counted number (results ++ o ∷ [])
    n'
run_by o limit number counted n n' same step =
    let F : ℕ → Type 0 = λ f. (results : List Outcome) → IsRunLength counted f results n
    → IsRunLength counted f (results ++ o ∷ []) n' in
    subst F same step

-- liveness
pub liveness_skips : (probe : Option Probe) (start : ℕ) (ticks : List Tick) (next : Tick) (failures : ℕ) (failed : Bool)
    (age : ℕ) (given : Option Outcome) → next.moment - start ≡ age → next.entry.liveness ≡ given
    → result_of probe age given ≡ None
    → CountsLiveness probe start ticks failures failed
    → CountsLiveness probe start (ticks ++ next ∷ []) failures failed
liveness_skips None start ticks next failures failed age given at is none st = st
liveness_skips (Some p) start ticks next failures failed age given at is none st =
    rw (filter_map-nothing (λ t. belonging p (t.moment - start) t.entry.liveness) ticks next
    (rw (at, is) (none_belongs p age given none))) st

liveness_counts : (f : ℕ) (results : List Outcome) (o : Outcome) (failures : ℕ) (failed : Bool)
    → IsRunLength Failure f (results ++ o ∷ []) failures
    → (IsTrue failed ↔ FailsInARow f results)
    → (IsTrue (failed || nat_eq failures f) ↔ FailsInARow f (results ++ o ∷ []))
liveness_counts f results o failures failed run st = (
  (λ t. (FailsInARow-more f results o).1 (elim (or_cases failed (nat_eq failures f) t) [
    | inl was ↦ inl (st.0 was)
    | inr now ↦ inr ((IsRunLength-reaches Failure f (results ++ o ∷ []) failures run).0 (eqb-true failures f now))
  ])),
  (λ w. elim ((FailsInARow-more f results o).0 w) [
    | inl was ↦ or_left failed (nat_eq failures f) (st.1 was)
    | inr now ↦ or_right failed (nat_eq failures f)
        (eq-eqb failures f ((IsRunLength-reaches Failure f (results ++ o ∷ []) failures run).1 now))
  ]),
)

pub liveness_takes : (p : Probe) (start : ℕ) (ticks : List Tick) (next : Tick) (o : Outcome)
    (limit failures failures' : ℕ) (failed : Bool)
    → belonging p (next.moment - start) next.entry.liveness ≡ Some o → limit ≡ p.failure_threshold
    → ((results : List Outcome) → IsRunLength Failure limit results failures
    → IsRunLength Failure limit (results ++ o ∷ []) failures')
    → CountsLiveness (Some p) start ticks failures failed
    → CountsLiveness (Some p) start (ticks ++ next ∷ []) failures' (failed || nat_eq failures' limit)
liveness_takes p start ticks next o limit failures failures' failed some same step st =
    let run = run_by o limit p.failure_threshold Failure failures failures' same step _ st.0 in
    rw (filter_map-item (λ t. belonging p (t.moment - start) t.entry.liveness) ticks next o some)
    (rw same (run, liveness_counts p.failure_threshold _ o failures' failed run st.1))

-- readiness
pub readiness_skips : (probe : Option Probe) (start : ℕ) (ticks : List Tick) (next : Tick)
    (successes failures : ℕ) (ready : Bool) (age : ℕ) (given : Option Outcome)
    → next.moment - start ≡ age → next.entry.readiness ≡ given
    → result_of probe age given ≡ None
    → CountsReadiness probe start ticks successes failures ready
    → CountsReadiness probe start (ticks ++ next ∷ []) successes failures ready
readiness_skips None start ticks next successes failures ready age given at is none st = st
readiness_skips (Some p) start ticks next successes failures ready age given at is none st =
    rw (filter_map-nothing (λ t. belonging p (t.moment - start) t.entry.readiness) ticks next
    (rw (at, is) (none_belongs p age given none))) st

readiness_counts : (p : Probe) (results : List Outcome) (o : Outcome) (s s' f f' : ℕ) (ready ready' : Bool)
    → (IsTrue ready' ↔ (IsTrue (nat_eq s' p.success_threshold) ⊎
    (IsTrue ready × (IsTrue (nat_eq f' p.failure_threshold) → ⊥))))
    → IsRunLength Success p.success_threshold (results ++ o ∷ []) s' → IsRunLength Failure p.failure_threshold
    (results ++ o ∷ []) f'
    → CountsResults p results s f ready → CountsResults p (results ++ o ∷ []) s' f' ready'
readiness_counts p results o s s' f f' ready ready' is succeeds fails st = record {
  succeeds = succeeds;
  fails = fails;
  holds = (
    (λ t. more.1 (elim (is.0 t) [
      | inl now ↦ inl (reaches.0 (eqb-true s' p.success_threshold now))
      | inr was ↦ inr (st.holds.0 was.0, (λ ends. was.1 (eq-eqb f' p.failure_threshold (fails_reach.1 ends))))
    ])),
    (λ w. is.1 (elim (more.0 w) [
      | inl now ↦ inl (eq-eqb s' p.success_threshold (reaches.1 now))
      | inr was ↦ inr (st.holds.1 was.0, (λ e. was.1 (fails_reach.0 (eqb-true f' p.failure_threshold e))))
    ])),
  );
}
  where
    more : HoldsAfter p.success_threshold p.failure_threshold (results ++ o ∷ [])
        ↔ (EndsRun Success p.success_threshold (results ++ o ∷ []) (length (results ++ o ∷ []))
        ⊎ (HoldsAfter p.success_threshold p.failure_threshold results
        × (EndsRun Failure p.failure_threshold (results ++ o ∷ []) (length (results ++ o ∷ [])) → ⊥)))
    more = HoldsAfter-more p.success_threshold p.failure_threshold results o

    reaches : (s' ≡ p.success_threshold) ↔ EndsRun Success p.success_threshold (results ++ o ∷ [])
        (length (results ++ o ∷ []))
    reaches = IsRunLength-reaches Success p.success_threshold (results ++ o ∷ []) s' succeeds

    fails_reach : (f' ≡ p.failure_threshold) ↔ EndsRun Failure p.failure_threshold (results ++ o ∷ [])
        (length (results ++ o ∷ []))
    fails_reach = IsRunLength-reaches Failure p.failure_threshold (results ++ o ∷ []) f' fails

pub readiness_takes : (p : Probe) (start : ℕ) (ticks : List Tick) (next : Tick) (o : Outcome)
    (s s' f f' s_limit s_most f_limit f_most : ℕ) (ready ready' : Bool)
    → belonging p (next.moment - start) next.entry.readiness ≡ Some o
    → s_limit ≡ p.success_threshold → s_most ≡ p.success_threshold → f_limit ≡ p.failure_threshold
    → f_most ≡ p.failure_threshold
    → ((results : List Outcome) → IsRunLength Success s_limit results s
    → IsRunLength Success s_limit (results ++ o ∷ []) s')
    → ((results : List Outcome) → IsRunLength Failure f_limit results f
    → IsRunLength Failure f_limit (results ++ o ∷ []) f')
    → (IsTrue ready' ↔ (IsTrue (nat_eq s' s_most) ⊎ (IsTrue ready × (IsTrue (nat_eq f' f_most) → ⊥))))
    → CountsReadiness (Some p) start ticks s f ready → CountsReadiness (Some p) start (ticks ++ next ∷ []) s' f' ready'
readiness_takes p start ticks next o s s' f f' s_limit s_most f_limit f_most ready ready' some s_is s_most_is f_is
    f_most_is succeed fail is st =
    let R : ℕ → ℕ → Type 0 = λ a b. IsTrue ready'
    ↔ (IsTrue (nat_eq s' a) ⊎ (IsTrue ready × (IsTrue (nat_eq f' b) → ⊥))) in
    rw (filter_map-item (λ t. belonging p (t.moment - start) t.entry.readiness) ticks next o some)
    (readiness_counts p _ o s s' f f' ready ready'
    (subst (λ b. R p.success_threshold b) f_most_is (subst (λ a. R a f_most) s_most_is is))
    (run_by o s_limit p.success_threshold Success s s' s_is succeed _ st.succeeds)
    (run_by o f_limit p.failure_threshold Failure f f' f_is fail _ st.fails) st)
