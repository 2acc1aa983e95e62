-- Of every history of a container there are its exits, the results of each instance, a view and a
-- status.
use Rattle.std.proofs.Common.{◌≡◌, ◌∙◌, sym, ℤ, false, inl, inr, ℕ, zero, suc, ◌-◌, ◌<◌, List, [], ◌∷◌, ◌++◌}
use Rattle.std.proofs.Common.{length, map, Option, Some}
use Rattle.std.proofs.Common.{None, refl, subst, arith}
use Rattle.std.specs.Prelude.{◌↔◌, Contains, IsTrue}
use Rattle.std.proofs.lemmas.Bool.{cases_lt}
use Rattle.histories.specs.rule.Histories.{recorded, HoldsAt, IsFirstMoment}
use Rattle.histories.proofs.Decide.{OrNot, negated, both, test_of, true_or_not}
use Rattle.histories.proofs.Found.{so_or_not, once_or_never, picked_of}
use Rattle.manifest.specs.declared.pod.ContainerSpec.{ContainerSpec}
use Rattle.manifest.specs.declared.pod.Role.TheVariants.{Init}
use Rattle.state_diff.specs.declared.seen.CriState.TheVariants.{Running}
use Rattle.state_diff.specs.rule.Instances.{Tick, ListedAs, IsNewest}
use Rattle.state_diff.proofs.Found.{listed_or_not, start_moment, exit_moment, run_of, exit_or_none, ended_listed}
use Rattle.state_diff.proofs.Found.{newest_or_none}
use Rattle.state_diff.proofs.Found.{above_attempts, running_state_or_not, newest_seen, set_up_or_not}
use Rattle.state_diff.proofs.Unique.{IsNewest-unique}
use Rattle.manifest.specs.declared.policy.Policy.{Policy}
use Rattle.restarts.specs.rule.Own.{policy_after, WantsRestartBy}
use Rattle.phase.proofs.DecideLemmas.{role_or_not, wants_or_not}
use Rattle.phase.specs.declared.restart_view.RestartView.{RestartView}
use Rattle.phase.specs.declared.view.ContainerView.{ContainerView}
use Rattle.phase.specs.state.Facts.{exit_code}
use Rattle.phase.specs.state.Views.{state_shown, restarts_of}
use Rattle.probes.specs.rule.Ticks.{Tick as ProbeTick}
use Rattle.probes.proofs.Decided.{started_or_not as started_by_or_not, ready_or_not as ready_by_or_not}
use Rattle.restarts.specs.rule.Exits.{Exit}
use Rattle.restarts.proofs.LawLemmas.{one_delay}
use Rattle.containers.specs.declared.status.ContainerStatus.{ContainerStatus}
use Rattle.containers.specs.rule.Ticks.{ContainerTick, listings, BelongsTo, results_of, SaysOf}
use Rattle.containers.specs.rule.Probed.{Serves, IsStarted, IsContainerReady, WasStarted}
use Rattle.containers.specs.rule.Exits.{IsExitOf, AreExitsOf, IsRisingList}
use Rattle.containers.specs.rule.Shown.{IsShown}
use Rattle.containers.specs.state.Shown.{IsViewOf, IsRestartViewOf}
use Rattle.containers.specs.state.Laws.{SomeListOfExits, SomeDelay, SomeListOfResults, SomeStatus}
use Rattle.containers.proofs.ExitLemmas.{HasExit}
use Rattle.containers.proofs.ListLemmas.{contains_nothing, contains_here, contains_there, contains_old, contains_new}
use Rattle.containers.proofs.ListLemmas.{contains_cases, rising_end}
use Rattle.containers.proofs.ProbedLemmas.{said}
use Rattle.containers.proofs.ViewLemmas.{state_is, restarts_is, view_code}

-- the numbers below a number of which P holds, as a rising list
abbrev AreThose : (ℕ → Type 0) → ℕ → List ℕ → Type 0
AreThose P n xs = IsRisingList xs × ((a : ℕ) → (Contains xs a ↔ ((a < n) × P a)))

those_added : (P : ℕ → Type 0) (n : ℕ) (xs : List ℕ) → P n → AreThose P n xs → AreThose P (suc n) (xs ++ n ∷ [])
those_added P n xs here (rising, are) = (
  rising_end xs n rising (λ b c. ((are b).0 c).0),
  (λ a. (
    (λ c. elim (contains_cases xs n a c) [
      | inl old ↦ let w = (are a).0 old in (let lt : a < n = w.0 in omega arith, w.1)
      | inr e ↦ (omega (arith, e), subst P e here)
    ]),
    (λ w. elim (cases_lt a n) [
      | inl lt ↦ contains_old xs n a ((are a).1 (lt, w.1))
      | inr ge ↦
          let e : n ≡ a = omega (arith, w.0) in subst (λ (b : ℕ). Contains (xs ++ n ∷ []) b) e (contains_new xs n)
    ]),
  )),
)

those_kept : (P : ℕ → Type 0) (n : ℕ) (xs : List ℕ) → (P n → ⊥) → AreThose P n xs → AreThose P (suc n) xs
those_kept P n xs not (rising, are) = (
  rising,
  (λ a. (
    (λ c. let w = (are a).0 c in (let lt : a < n = w.0 in omega arith, w.1)),
    (λ w. elim (cases_lt a n) [
      | inl lt ↦ (are a).1 (lt, w.1)
      | inr ge ↦ let e : a ≡ n = omega (arith, w.0) in absurd (not (subst P e w.1))
    ]),
  )),
)

those_below : (P : ℕ → Type 0) → ((a : ℕ) → OrNot (P a)) → (n : ℕ) → (xs : List ℕ) × AreThose P n xs
those_below P each zero = (
  [],
  (
    (λ i j a b lt e f. absurd (cc)),
    (λ a. ((λ c. absurd (contains_nothing a c)), (λ w. let lt : a < 0 = w.0 in absurd (omega arith)))),
  ),
)
those_below P each (suc n) =
    let rest = those_below P each n in
    elim (each n) [
      | inl here ↦ (rest.0 ++ n ∷ [], those_added P n rest.0 here rest.1)
      | inr not ↦ (rest.0, those_kept P n rest.0 not rest.1)
    ]

-- the exits
exit_of : (k : List Tick) (a : ℕ) → HasExit k a → (exit : Exit) × IsExitOf k a exit
exit_of k a (t, first) =
    let m = exit_moment k a t first in
    let run = run_of k a t first in
    (recorded m.0 run.0, record { moment = m.1; run = run.1 })

exits_for : (k : List Tick) (attempts : List ℕ) → ((a : ℕ) → Contains attempts a → HasExit k a)
    → (exits : List Exit) × AreExitsOf k attempts exits
exits_for k [] each = ([], tt)
exits_for k (a ∷ attempts) each =
    let exit = exit_of k a (each a (contains_here a attempts)) in
    let rest = exits_for k attempts (λ b c. each b (contains_there a b attempts c)) in
    (exit.0 ∷ rest.0, (exit.1, rest.1))

pub some_list_of_exits : SomeListOfExits
some_list_of_exits k =
    let n = above_attempts k in
    let those = those_below (HasExit k) (exit_or_none k) n.0 in
    let exits = exits_for k those.0 (λ a c. ((those.1.1 a).0 c).1) in (
      exits.0,
      record {
        attempts = those.0;
        in_order = those.1.0;
        all = λ a. (
          (λ c. ((those.1.1 a).0 c).1),
          (λ w. let l = ended_listed k a w.0 w.1.holds in (those.1.1 a).1 (n.1 a l.0 l.1, w)),
        );
        each = exits.1;
      },
    )

pub some_delay : SomeDelay
some_delay max_restart_delay h =
    let exits = some_list_of_exits (listings h) in
    let delay = (one_delay max_restart_delay exits.0).0 in
    (delay.0, (exits.0, exits.1, delay.1))

-- the results that are an instance's
pub belongs_or_not : (a : ℕ) (h : List ContainerTick) → OrNot (BelongsTo a h)
belongs_or_not a h = elim (both (listed_or_not (listings h) a (length h - 1)) (running_state_or_not (listings h) a)) [
  | inl w ↦ inl (record { listed = w.0; runs = w.1 })
  | inr not ↦ inr (λ w. not (w.listed, w.runs))
]

pub some_list_of_results : SomeListOfResults
some_list_of_results h a =
    picked_of (HoldsAt (BelongsTo a) h) (so_or_not (BelongsTo a) (belongs_or_not a) h) (map results_of h)

-- of an instance that has started its probes say so, or not
says_from : (Q : ℕ → List ProbeTick → Type 0) → ((start : ℕ) (ticks : List ProbeTick) → OrNot (Q start ticks))
    → (h : List ContainerTick) (a : ℕ) (o : Option ℕ) → IsFirstMoment (listings h) (ListedAs (listings h) a Running) o
    → OrNot (SaysOf Q h a)
says_from Q each h a None never = inr (λ s. never s.starts.0 s.starts.1.holds)
says_from Q each h a (Some start) starts =
    let ticks = some_list_of_results h a in
    elim (each start ticks.0) [
      | inl q ↦ inl (record { start = start; starts = starts; ticks = ticks.0; are_ticks = ticks.1; says = q })
      | inr not ↦ inr (λ s. not (said Q h a start ticks.0 starts ticks.1 s))
    ]

pub says_or_not : (Q : ℕ → List ProbeTick → Type 0) → ((start : ℕ) (ticks : List ProbeTick) → OrNot (Q start ticks))
    → (h : List ContainerTick) (a : ℕ) → OrNot (SaysOf Q h a)
says_or_not Q each h a = let start = start_moment (listings h) a in says_from Q each h a start.0 start.1

-- the container serves by its newest instance, of which R holds, or not
serves_or_not : (spec : ContainerSpec) (h : List ContainerTick) (a : ℕ) → IsNewest (listings h) a
    → OrNot (Serves spec h a)
serves_or_not spec h a newest =
    elim (both (negated (role_or_not Init spec.role)) (running_state_or_not (listings h) a)) [
      | inl w ↦ inl (record { role = w.0; newest = newest; runs = w.1 })
      | inr not ↦ inr (λ s. not (s.role, s.runs))
    ]

served_or_not : (spec : ContainerSpec) (h : List ContainerTick) (R : ℕ → Type 0) → ((a : ℕ) → OrNot (R a))
    → OrNot ((a : ℕ) × Serves spec h a × R a)
served_or_not spec h R each = elim (newest_or_none (listings h)) [
  | inr none ↦ inr (λ (a, serves, r). none a serves.newest.listed.0 serves.newest.listed.1)
  | inl (a, newest) ↦ elim (both (serves_or_not spec h a newest) (each a)) [
    | inl w ↦ inl (a, w.0, w.1)
    | inr not ↦ inr (λ (b, serves, r).
        let P : ℕ → Type 0 = λ c. Serves spec h c × R c in
        not (subst P (IsNewest-unique (listings h) b a serves.newest newest) (serves, r)))
  ]
]

pub started_or_not : (spec : ContainerSpec) (h : List ContainerTick) → OrNot (IsStarted spec h)
started_or_not spec h = served_or_not spec h _ (says_or_not _ (started_by_or_not spec.probes.startup) h)

pub ready_or_not : (spec : ContainerSpec) (h : List ContainerTick) → OrNot (IsContainerReady spec h)
ready_or_not spec h = served_or_not spec h _ (says_or_not _ (ready_by_or_not spec.probes) h)

was_started_or_not : (spec : ContainerSpec) (h : List ContainerTick) → OrNot (WasStarted spec h)
was_started_or_not spec h = once_or_never (IsStarted spec) (started_or_not spec) h

-- the view and the status
pub view_of : (spec : ContainerSpec) (h : List ContainerTick) → (view : ContainerView) × IsViewOf spec h view
view_of spec h =
    let seen = newest_seen (listings h) in
    let set_up = test_of (set_up_or_not (listings h)) in
    let started = test_of (was_started_or_not spec h) in (
      record { role = spec.role; seen = seen.0; set_up = set_up.0; was_started = started.0 },
      record { role = refl; newest = seen.1; set_up = set_up.1; was_started = started.1 },
    )

pub restart_view_of : (policy : Policy) (spec : ContainerSpec) (h : List ContainerTick)
    → (container : RestartView) × IsRestartViewOf policy spec h container
restart_view_of policy spec h = there (exit_code view.0) refl
  where
    view : (view : ContainerView) × IsViewOf spec h view
    view = view_of spec h

    there : (o : Option ℤ) → exit_code view.0 ≡ o → (container : RestartView) × IsRestartViewOf policy spec h container
    there None e = (
      record { view = view.0; wants_restart = false },
      record { view = view.1; wants = λ n exited. let x : None ≡ Some n = sym e ∙ exited in absurd (cc) },
    )
    there (Some code) e =
        let w = test_of (wants_or_not (policy_after policy spec.own_restarts code) spec.role code) in (
          record { view = view.0; wants_restart = w.0 },
          record {
            view = view.1;
            wants = λ n exited.
                let x : Some code ≡ Some n = sym e ∙ exited in
                let same : code ≡ n = cc in
                subst (λ (k : ℤ). IsTrue w.0 ↔ WantsRestartBy policy spec.own_restarts spec.role k) same w.1;
          },
        )

pub status_of : (spec : ContainerSpec) (is_ended_by_node : Type 0) (h : List ContainerTick) → OrNot is_ended_by_node
    → (status : ContainerStatus) × IsShown spec is_ended_by_node h status
status_of spec is_ended_by_node h evicted_or_not =
    let view = view_of spec h in
    let seen = view.0.seen in
    let ready = test_of (both (negated evicted_or_not) (ready_or_not spec h)) in
    let started = test_of (both (negated evicted_or_not) (started_or_not spec h)) in (
      record {
        state = state_shown seen;
        code = exit_code view.0;
        restarts = restarts_of seen;
        ready = ready.0;
        started = started.0;
      },
      record {
        state = state_is (listings h) seen view.1.newest;
        code = view_code spec h view.0 view.1;
        restarts = restarts_is (listings h) seen view.1.newest;
        ready = ready.1;
        started = started.1;
      },
    )

pub some_status : SomeStatus
some_status = record {
  view = view_of;
  shown = λ spec is_ended_by_node h. status_of spec (IsTrue is_ended_by_node) h (true_or_not is_ended_by_node);
}
