-- Each place of a tick has an event or none.
use Rattle.std.proofs.Common.{◌≡◌, ◌∙◌, inl, inr, ℕ, suc, ℤ, ◌+◌, ◌-◌, ◌<◌, ◌≤◌, List, [], ◌∷◌, ◌++◌}
use Rattle.std.proofs.Common.{length, map, Option, Some, None, refl, subst, sym, ap, arith}
use Rattle.std.specs.Prelude.{IsSomeAnd}
use Rattle.std.proofs.lemmas.Bool.{cases_eq}
use Rattle.histories.specs.rule.Histories.{moment_at, last_moment, HoldsAt, IsFirst, ComesTrue}
use Rattle.histories.specs.rule.TheOne.{IsTheOne}
use Rattle.histories.proofs.Decide.{OrNot, negated, both, less_or_not, at_most_or_not, given_or_not}
use Rattle.histories.proofs.Found.{some_below, first_place, first_or_not, so_or_not, comes_or_not}
use Rattle.histories.proofs.Places.{moment_given-below}
use Rattle.histories.proofs.Picked.{picked_one, so_picked_back}
use Rattle.histories.proofs.TheOne.{IsTheOne-exists}
use Rattle.manifest.specs.rule.Probe.{Probe}
use Rattle.restarts.specs.rule.Own.{policy_after, WantsRestartBy}
use Rattle.manifest.specs.declared.policy.Policy.{Policy}
use Rattle.manifest.specs.declared.pod.ContainerSpec.{ContainerSpec}
use Rattle.state_diff.specs.declared.seen.CriState.TheVariants.{Running}
use Rattle.state_diff.specs.rule.Instances.{Tick, seen_at, IsOf, Listed, IsNewest, IsStart, IsExit, IsCodeAt}
use Rattle.state_diff.specs.rule.Instances.{killed_code}
use Rattle.state_diff.proofs.Listings.{of_weaker, one_listed}
use Rattle.state_diff.proofs.Found.{listed_or_not, start_or_not, exit_or_not, exit_or_none, ended_listed}
use Rattle.state_diff.proofs.Found.{newest_or_none}
use Rattle.state_diff.proofs.Found.{attempt_or_none, gone_before, code_at}
use Rattle.state_diff.proofs.Unique.{IsNewest-unique, IsCodeAt-unique, IsExitCode-unique}
use Rattle.phase.proofs.DecideLemmas.{wants_or_not}
use Rattle.probes.specs.declared.probe_set.Cause.{Cause}
use Rattle.probes.specs.declared.probe_set.Cause.TheVariants.{Startup, Liveness}
use Rattle.probes.specs.rule.Ticks.{Tick as ProbeTick, HasPassed as PassesBy}
use Rattle.probes.specs.rule.Container.{IsKillOrdered as IsOrderedBy}
use Rattle.probes.specs.state.Container.{AreInRange}
use Rattle.probes.proofs.Counted.{passed_lasts}
use Rattle.probes.proofs.Kills.{kill_lasts}
use Rattle.probes.proofs.Decided.{has_passed_or_not, kill_or_not}
use Rattle.restarts.specs.rule.Exits.{Exit}
use Rattle.restarts.specs.rule.Delays.{IsDelay, IsRestartDue}
use Rattle.restarts.proofs.LawLemmas.{one_delay}
use Rattle.containers.specs.declared.pod_event_kind.PodEventKind.{PodEventKind}
use Rattle.containers.specs.declared.pod_event_kind.PodEventKind.TheVariants.{Died, Started, StartupPassed, Kill, Ready}
use Rattle.containers.specs.declared.pod_event_kind.PodEventKind.TheVariants.{Unready}
use Rattle.containers.specs.declared.pod_event_kind.PodEventKind.TheVariants.{Backoff, Restart}
use Rattle.containers.specs.rule.Ticks.{ContainerTick, listings, BelongsTo, results_of, AreTicksOf, SaysOf}
use Rattle.containers.specs.rule.Probed.{HasPassed, IsKillOrdered, IsContainerReady}
use Rattle.containers.specs.rule.Exits.{AreExits, IsToRestart, IsDelayed, FallsDue}
use Rattle.containers.specs.rule.Events.{IsGone, HasStarted, HasDied, Passes, IsKilled, WasReady, ChangesReadiness}
use Rattle.containers.specs.rule.Events.{IsBackedOff, IsRestarted}
use Rattle.containers.specs.state.Laws.{SomeListOfEvents}
use Rattle.containers.proofs.TickLemmas.{seen_now, start_cases}
use Rattle.containers.proofs.FollowLemmas.{belongs_listed, none_before_start}
use Rattle.containers.proofs.ComesLemmas.{said_before, said_now}
use Rattle.containers.proofs.RestartLemmas.{exits_one, due_one}
use Rattle.containers.proofs.LawLemmas.{killed_once}
use Rattle.containers.proofs.FoundLemmas.{belongs_or_not, says_or_not, ready_or_not, some_list_of_exits, some_delay}

-- the instance that is gone
gone_one : (h : List ContainerTick) (t : ℕ) (v w : PodEventKind) → IsGone h t v → IsGone h t w → v ≡ w
gone_one h t v w (a, e, exit, gone) (b, f, exit', gone') =
    let k = listings h in
    let same : a ≡ b =
    one_listed (seen_at k (t - 1)) a b (gone_before k a t exit gone) (gone_before k b t exit' gone') in
    e ∙ ap (λ c. Died c killed_code) same ∙ sym f

abbrev IsGoneAt : List Tick → ℕ → ℕ → Type 0
IsGoneAt k t a = IsExit k a t × (Listed k a t → ⊥)

gone_or_not : (k : List Tick) (t a : ℕ) → OrNot (IsGoneAt k t a)
gone_or_not k t a = both (exit_or_not k a t) (negated (listed_or_not k a t))

gone_event : (h : List ContainerTick) (t : ℕ) → (event : Option PodEventKind) × IsTheOne (IsGone h t) event
gone_event h t =
    let k = listings h in
    let some = attempt_or_none k (IsGoneAt k t) (gone_or_not k t) (λ a w. ended_listed k a t w.0.holds) in
    IsTheOne-exists (IsGone h t) (elim some [
      | inl w ↦ inl (Died w.0 killed_code, (w.0, refl, w.1.0, w.1.1))
      | inr none ↦ inr (λ (kind, (a, e, exit, gone)). none (a, (exit, gone)))
    ]) (gone_one h t)

-- the one that started
started_listed : (k : List Tick) (a t : ℕ) → IsStart k a t → Listed k a t
started_listed k a t start = of_weaker a Running (seen_at k t) start.holds

started_one : (h : List ContainerTick) (t : ℕ) (v w : PodEventKind) → HasStarted h t v → HasStarted h t w → v ≡ w
started_one h t v w (a, e, start) (b, f, start') =
    let k = listings h in
    let same : a ≡ b = one_listed (seen_at k t) a b (started_listed k a t start) (started_listed k b t start') in
    e ∙ ap (λ c. Started c) same ∙ sym f

started_event : (h : List ContainerTick) (t : ℕ) → (event : Option PodEventKind) × IsTheOne (HasStarted h t) event
started_event h t =
    let k = listings h in
    let some =
    attempt_or_none k (λ a. IsStart k a t) (λ a. start_or_not k a t) (λ a start. (t, started_listed k a t start)) in
    IsTheOne-exists (HasStarted h t) (elim some [
      | inl w ↦ inl (Started w.0, (w.0, refl, w.1))
      | inr none ↦ inr (λ (kind, (a, e, start)). none (a, start))
    ]) (started_one h t)

-- the listed one that died
died_one : (h : List ContainerTick) (t : ℕ) (v w : PodEventKind) → HasDied h t v → HasDied h t w → v ≡ w
died_one h t v w (a, c, e, exit, l, is) (b, d, f, exit', l', is') =
    let k = listings h in
    let same : a ≡ b = one_listed (seen_at k t) a b l l' in
    let code : c ≡ d = IsCodeAt-unique k b c d t (subst (λ (i : ℕ). IsCodeAt k i c t) same is) is' in
    e ∙ ap (λ i. Died i c) same ∙ ap (λ j. Died b j) code ∙ sym f

died_event : (h : List ContainerTick) (t : ℕ) → (event : Option PodEventKind) × IsTheOne (HasDied h t) event
died_event h t =
    let k = listings h in
    let died = λ (a : ℕ). both (exit_or_not k a t) (listed_or_not k a t) in
    let some = attempt_or_none k (λ a. IsExit k a t × Listed k a t) died (λ a w. (t, w.1)) in
    IsTheOne-exists (HasDied h t) (elim some [
      | inl w ↦
          let code = code_at k w.0 t w.1.0.holds in inl (Died w.0 code.0, (w.0, code.0, refl, w.1.0, w.1.1, code.1))
      | inr none ↦ inr (λ (kind, (a, c, e, exit, l, is)). none (a, (exit, l)))
    ]) (died_one h t)

-- what comes true of an instance by what its results say comes true of the listed one
comes_listed : (Q : ℕ → List ProbeTick → Type 0) (h : List ContainerTick) (x : ContainerTick) (a : ℕ)
    → ((start : ℕ) → Q start [] → ⊥)
    → ComesTrue (λ k. SaysOf Q k a) (h ++ x ∷ []) (length h) → IsSomeAnd x.entry.seen (IsOf a)
comes_listed Q h x a nothing comes = elim (belongs_or_not a (h ++ x ∷ [])) [
  | inl belongs ↦ belongs_listed h x a belongs
  | inr not ↦
      let s = said_now Q h x a comes in
      let before : AreTicksOf h a s.ticks = so_picked_back (BelongsTo a) results_of h x s.ticks s.are_ticks not in
      absurd (elim (start_cases h x a s.start s.starts) [
        | inl old ↦
            let says : SaysOf Q h a =
            record { start = s.start; starts = old; ticks = s.ticks; are_ticks = before; says = s.says } in
            said_before Q h x a says comes
        | inr w ↦
            let empty : s.ticks ≡ [] =
            picked_one (HoldsAt (BelongsTo a) h) (map results_of h) s.ticks [] before (none_before_start h a w.2) in
            nothing s.start (subst (λ (ts : List ProbeTick). Q s.start ts) empty s.says)
      ])
]

-- the startup probe that passes
abbrev PassesAt : Option Probe → List ContainerTick → ℕ → ℕ → Type 0
PassesAt startup h t a = IsSomeAnd startup (λ probe. ComesTrue (HasPassed probe a) h t)

passes_listed : (startup : Option Probe) (h : List ContainerTick) (x : ContainerTick) (a : ℕ)
    → PassesAt startup (h ++ x ∷ []) (length h) a
    → IsSomeAnd x.entry.seen (IsOf a)
passes_listed None h x a passes = absurd passes
passes_listed (Some probe) h x a passes =
    comes_listed (PassesBy probe) h x a (λ start. (passed_lasts probe start).none) passes

passes_or_not : (startup : Option Probe) (h : List ContainerTick) (t a : ℕ) → OrNot (PassesAt startup h t a)
passes_or_not startup h t a = given_or_not _ (λ probe. comes_or_not (HasPassed probe a) (passed probe) h t) startup
  where
    passed : (probe : Probe) (k : List ContainerTick) → OrNot (HasPassed probe a k)
    passed probe k = says_or_not (PassesBy probe) (has_passed_or_not probe) k a

passed_one : (spec : ContainerSpec) (h : List ContainerTick) (x : ContainerTick) (v w : PodEventKind)
    → Passes spec (h ++ x ∷ []) (length h) v
    → Passes spec (h ++ x ∷ []) (length h) w → v ≡ w
passed_one spec h x v w (a, e, passes) (b, f, passes') =
    let listed = passes_listed spec.probes.startup h x in
    e ∙ ap (λ c. StartupPassed c) (one_listed x.entry.seen a b (listed a passes) (listed b passes')) ∙ sym f

passed_event : (spec : ContainerSpec) (h : List ContainerTick) (x : ContainerTick)
    → (event : Option PodEventKind) × IsTheOne (Passes spec (h ++ x ∷ []) (length h)) event
passed_event spec h x =
    let now = h ++ x ∷ [] in
    let startup = spec.probes.startup in
    let some = attempt_or_none (listings now) (PassesAt startup now (length h)) (passes_or_not startup now (length h))
    (λ a passes. (length h, (seen_now (IsOf a) h x).1 (passes_listed startup h x a passes))) in
    IsTheOne-exists (Passes spec now (length h)) (elim some [
      | inl w ↦ inl (StartupPassed w.0, (w.0, refl, w.1))
      | inr none ↦ inr (λ (kind, (a, e, passes)). none (a, passes))
    ]) (passed_one spec h x)

-- the kill order
abbrev IsKilledAt : ContainerSpec → List ContainerTick → ℕ → ℕ → Type 0
IsKilledAt spec h t a = (cause : Cause) × ComesTrue (IsKillOrdered spec cause a) h t

killed_or_not : (spec : ContainerSpec) (h : List ContainerTick) (t a : ℕ) → OrNot (IsKilledAt spec h t a)
killed_or_not spec h t a = elim (by Startup) [
  | inl comes ↦ inl (Startup, comes)
  | inr no_startup ↦ elim (by Liveness) [
    | inl comes ↦ inl (Liveness, comes)
    | inr no_liveness ↦ inr (λ w. neither no_startup no_liveness w.0 w.1)
  ]
]
  where
    by : (cause : Cause) → OrNot (ComesTrue (IsKillOrdered spec cause a) h t)
    by cause =
        let Q = λ (start : ℕ). IsOrderedBy spec.probes start cause in
        let ordered = says_or_not Q (λ start. kill_or_not spec.probes start cause) in
        comes_or_not (IsKillOrdered spec cause a) (λ k. ordered k a) h t

    neither : (ComesTrue (IsKillOrdered spec Startup a) h t → ⊥) → (ComesTrue (IsKillOrdered spec Liveness a) h t → ⊥)
        → (cause : Cause)
        → ComesTrue (IsKillOrdered spec cause a) h t → ⊥
    neither no_startup no_liveness Startup comes = no_startup comes
    neither no_startup no_liveness Liveness comes = no_liveness comes

kill_listed : (spec : ContainerSpec) (h : List ContainerTick) (x : ContainerTick) (a : ℕ) → AreInRange spec.probes
    → IsKilledAt spec (h ++ x ∷ []) (length h) a → IsSomeAnd x.entry.seen (IsOf a)
kill_listed spec h x a range (cause, comes) =
    let nothing = λ (start : ℕ). (kill_lasts spec.probes start cause range).none in
    comes_listed (λ start. IsOrderedBy spec.probes start cause) h x a nothing comes

killed_one : (spec : ContainerSpec) (h : List ContainerTick) (x : ContainerTick) → AreInRange spec.probes
    → (v w : PodEventKind)
    → IsKilled spec (h ++ x ∷ []) (length h) v → IsKilled spec (h ++ x ∷ []) (length h) w → v ≡ w
killed_one spec h x range v w (a, c, e, comes) (b, d, f, comes') =
    let now = h ++ x ∷ [] in
    let listed = kill_listed spec h x in
    let same : a ≡ b = one_listed x.entry.seen a b (listed a range (c, comes)) (listed b range (d, comes')) in
    let mine = subst (λ (i : ℕ). ComesTrue (IsKillOrdered spec c i) now (length h)) same comes in
    let cause : c ≡ d =
    (killed_once spec now (length h) (length h) b c d range (b, c, refl, mine) (b, d, refl, comes')).1 in
    e ∙ ap (λ i. Kill i c) same ∙ ap (λ j. Kill b j) cause ∙ sym f

kill_event : (spec : ContainerSpec) (h : List ContainerTick) (x : ContainerTick) → AreInRange spec.probes
    → (event : Option PodEventKind) × IsTheOne (IsKilled spec (h ++ x ∷ []) (length h)) event
kill_event spec h x range =
    let now = h ++ x ∷ [] in
    let some = attempt_or_none (listings now) (IsKilledAt spec now (length h)) (killed_or_not spec now (length h))
    (λ a killed. (length h, (seen_now (IsOf a) h x).1 (kill_listed spec h x a range killed))) in
    IsTheOne-exists (IsKilled spec now (length h)) (elim some [
      | inl w ↦ inl (Kill w.0 w.1.0, (w.0, w.1.0, refl, w.1.1))
      | inr none ↦ inr (λ (kind, (a, cause, e, comes)). none (a, (cause, comes)))
    ]) (killed_one spec h x range)

-- the change of readiness
was_ready_or_not : (spec : ContainerSpec) (h : List ContainerTick) (t : ℕ) → OrNot (WasReady spec h t)
was_ready_or_not spec h t =
    elim (some_below _ (λ u. both (cases_eq (suc u) t) (so_or_not (IsContainerReady spec) (ready_or_not spec) h u)) t) [
      | inl w ↦ inl (w.0, w.2.0, w.2.1)
      | inr none ↦ inr (λ (u, e, s). none (u, omega (arith, e), (e, s)))
    ]

readiness_one : (spec : ContainerSpec) (h : List ContainerTick) (t : ℕ) (v w : PodEventKind)
    → ChangesReadiness spec h t v
    → ChangesReadiness spec h t w → v ≡ w
readiness_one spec h t v w (inl p) (inl q) = p.0 ∙ sym q.0
readiness_one spec h t v w (inl p) (inr q) = absurd (q.1 p.1)
readiness_one spec h t v w (inr p) (inl q) = absurd (p.1 q.1)
readiness_one spec h t v w (inr p) (inr q) = p.0 ∙ sym q.0

readiness_event : (spec : ContainerSpec) (h : List ContainerTick) (t : ℕ)
    → (event : Option PodEventKind) × IsTheOne (ChangesReadiness spec h t) event
readiness_event spec h t =
    let some = by (ready_or_not spec h) (was_ready_or_not spec h t) in
    IsTheOne-exists (ChangesReadiness spec h t) some (readiness_one spec h t)
  where
    by : OrNot (IsContainerReady spec h) → OrNot (WasReady spec h t)
        → OrNot ((kind : PodEventKind) × ChangesReadiness spec h t kind)
    by (inl now) (inl was) = inr (λ (kind, c). elim c [ inl p ↦ p.2 was | inr p ↦ p.1 now ])
    by (inl now) (inr was_not) = inl (Ready, inl (refl, now, was_not))
    by (inr not_now) (inl was) = inl (Unready, inr (refl, not_now, was))
    by (inr not_now) (inr was_not) = inr (λ (kind, c). elim c [ inl p ↦ not_now p.1 | inr p ↦ was_not p.2 ])

-- the newest instance, if it is to be started again
to_restart_or_not : (policy : Policy) (spec : ContainerSpec) (h : List ContainerTick) (a : ℕ) → IsNewest (listings h) a
    → OrNot (IsToRestart policy spec h a)
to_restart_or_not policy spec h a newest = elim (exit_or_none (listings h) a) [
  | inr never ↦ inr (λ to. never (to.exited.0, to.exited.1))
  | inl (t, exit) ↦
      let code = code_at (listings h) a t exit.holds in
      let P : ℤ → Type 0 = λ c. WantsRestartBy policy spec.own_restarts spec.role c in
      elim (wants_or_not (policy_after policy spec.own_restarts code.0) spec.role code.0) [
        | inl wants ↦ inl (record { newest = newest; code = code.0; exited = (t, exit, code.1); wanted = wants })
        | inr not ↦
            inr (λ to.
            let same = IsExitCode-unique (listings h) a to.code code.0 to.exited (t, exit, code.1) in
            not (subst P same to.wanted))
      ]
]

to_restart_or_none : (policy : Policy) (spec : ContainerSpec) (h : List ContainerTick)
    → OrNot ((a : ℕ) × IsToRestart policy spec h a)
to_restart_or_none policy spec h = elim (newest_or_none (listings h)) [
  | inr none ↦ inr (λ (a, to). none a to.newest.listed.0 to.newest.listed.1)
  | inl (a, newest) ↦ elim (to_restart_or_not policy spec h a newest) [
    | inl to ↦ inl (a, to)
    | inr not ↦ inr (λ (b, to).
        not (subst (λ (c : ℕ). IsToRestart policy spec h c) (IsNewest-unique (listings h) b a to.newest newest) to))
  ]
]

-- the delay of its restart
delay_one : (max_restart_delay : ℕ) (h : List ContainerTick) (c d : ℕ) → IsDelayed max_restart_delay h c
    → IsDelayed max_restart_delay h d → c ≡ d
delay_one max_restart_delay h c d (exits, are, is) (others, are', is') =
    let same : exits ≡ others = exits_one (listings h) exits others are are' in
    (one_delay max_restart_delay others).1 c d (subst (λ (es : List Exit). IsDelay max_restart_delay es c) same is) is'

backoff_one : (policy : Policy) (max_restart_delay : ℕ) (spec : ContainerSpec) (h : List ContainerTick) (t : ℕ)
    (v w : PodEventKind)
    → IsBackedOff policy max_restart_delay spec h t v → IsBackedOff policy max_restart_delay spec h t w → v ≡ w
backoff_one policy max_restart_delay spec h t v w (a, c, e, exit, to, is, lt) (b, d, f, exit', to', is', lt') =
    e ∙ ap (λ n. Backoff n) (delay_one max_restart_delay h c d is is') ∙ sym f

backoff_event : (policy : Policy) (max_restart_delay : ℕ) (spec : ContainerSpec) (h : List ContainerTick) (t : ℕ)
    → (event : Option PodEventKind) × IsTheOne (IsBackedOff policy max_restart_delay spec h t) event
backoff_event policy max_restart_delay spec h t =
    IsTheOne-exists (IsBackedOff policy max_restart_delay spec h t) some (backoff_one policy max_restart_delay spec h t)
  where
    some : OrNot ((kind : PodEventKind) × IsBackedOff policy max_restart_delay spec h t kind)
    some =
        let k = listings h in
        let delay = some_delay max_restart_delay h in
        elim (to_restart_or_none policy spec h) [
          | inr none ↦ inr (λ (kind, (a, d, e, exit, to, is, lt)). none (a, to))
          | inl (a, to) ↦ elim (both (exit_or_not k a t) (less_or_not 0 delay.0)) [
            | inl w ↦ inl (Backoff delay.0, (a, delay.0, refl, w.0, to, delay.1, w.1))
            | inr not ↦ inr (λ (kind, (b, d, e, exit, to', is, lt)). not (
              subst (λ (c : ℕ). IsExit k c t) (IsNewest-unique k b a to'.newest to.newest) exit,
              subst (λ (n : ℕ). 0 < n) (delay_one max_restart_delay h d delay.0 is delay.1) lt,
            ))
          ]
        ]

-- the tick at which it falls due
due_of : (max_restart_delay : ℕ) (exits : List Exit) (o : Option ℕ) → last_moment exits ≡ o
    → OrNot ((due : ℕ) × IsRestartDue max_restart_delay exits (Some due))
due_of max_restart_delay exits None e =
    inr (λ (due, (last, delay, at, is, s)). let x : None ≡ Some last = sym e ∙ at in cc)
due_of max_restart_delay exits (Some last) e =
    let delay = (one_delay max_restart_delay exits).0 in
    inl (last + delay.0, (last, delay.0, e, delay.1, refl))

first_due_or_not : (h : List ContainerTick) (due t : ℕ)
    → OrNot (IsFirst (λ u. IsSomeAnd (moment_at h u) (λ moment. due ≤ moment)) t)
first_due_or_not h due t =
    let reached = λ (u : ℕ). given_or_not (λ (moment : ℕ). due ≤ moment) (at_most_or_not due) (moment_at h u) in
    first_or_not _ (first_place _ reached (length h) (moment_given-below _ h)) t

falls_due_or_not : (max_restart_delay : ℕ) (h : List ContainerTick) (t : ℕ) → OrNot (FallsDue max_restart_delay h t)
falls_due_or_not max_restart_delay h t = elim (due_of max_restart_delay exits.0 (last_moment exits.0) refl) [
  | inr none ↦ inr (λ (es, d, are, is, first). none (d, mine es d are is))
  | inl (due, is) ↦ elim (first_due_or_not h due t) [
    | inl first ↦ inl (exits.0, due, exits.1, is, first)
    | inr not ↦ inr (λ (es, d, are, is', first).
        let same : d ≡ due = due_one max_restart_delay exits.0 d due (mine es d are is') is in
        not (subst (λ (c : ℕ). IsFirst (λ u. IsSomeAnd (moment_at h u) (λ moment. c ≤ moment)) t) same first))
  ]
]
  where
    exits : (exits : List Exit) × AreExits (listings h) exits
    exits = some_list_of_exits (listings h)

    mine : (es : List Exit) (d : ℕ) → AreExits (listings h) es → IsRestartDue max_restart_delay es (Some d)
        → IsRestartDue max_restart_delay exits.0 (Some d)
    mine es d are is =
        subst (λ (xs : List Exit). IsRestartDue max_restart_delay xs (Some d))
        (exits_one (listings h) es exits.0 are exits.1) is

restart_one : (policy : Policy) (max_restart_delay : ℕ) (spec : ContainerSpec) (h : List ContainerTick) (t : ℕ)
    (v w : PodEventKind)
    → IsRestarted policy max_restart_delay spec h t v → IsRestarted policy max_restart_delay spec h t w → v ≡ w
restart_one policy max_restart_delay spec h t v w (a, e, to, falls) (b, f, to', falls') =
    e ∙ ap (λ c. Restart c) (IsNewest-unique (listings h) a b to.newest to'.newest) ∙ sym f

restart_event : (policy : Policy) (max_restart_delay : ℕ) (spec : ContainerSpec) (h : List ContainerTick) (t : ℕ)
    → (event : Option PodEventKind) × IsTheOne (IsRestarted policy max_restart_delay spec h t) event
restart_event policy max_restart_delay spec h t =
    IsTheOne-exists (IsRestarted policy max_restart_delay spec h t)
    (elim (both (to_restart_or_none policy spec h) (falls_due_or_not max_restart_delay h t)) [
      | inl w ↦ inl (Restart w.0.0, (w.0.0, refl, w.0.1, w.1))
      | inr not ↦ inr (λ (kind, (a, e, to, falls)). not ((a, to), falls))
    ]) (restart_one policy max_restart_delay spec h t)

-- the events of a tick
pub some_list_of_events : SomeListOfEvents
some_list_of_events policy max_restart_delay spec h x range =
    let now = h ++ x ∷ [] in
    let t = length h in
    let (g, g') = gone_event now t in
    let (s, s') = started_event now t in
    let (d, d') = died_event now t in
    let (p, p') = passed_event spec h x in
    let (k, k') = kill_event spec h x range in
    let (r, r') = readiness_event spec now t in
    let (b, b') = backoff_event policy max_restart_delay spec now t in
    let (a, a') = restart_event policy max_restart_delay spec now t in (
      record { gone = g; started = s; died = d; passed = p; kill = k; readiness = r; backoff = b; restart = a },
      record { gone = g'; started = s'; died = d'; passed = p'; kill = k'; readiness = r'; backoff = b'; restart = a' },
    )
