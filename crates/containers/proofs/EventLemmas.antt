-- The events of one more tick, place by place.
use Rattle.std.proofs.Common.{◌≡◌, ◌⊎◌, inl, inr, ℕ, suc, ℤ, ◌-◌, ◌<◌, ◌≤◌, Bool, List, [], ◌∷◌, ◌++◌, length}
use Rattle.std.proofs.Common.{Option, Some, None, refl, subst, sym, ◌∙◌, arith}
use Rattle.std.specs.Prelude.{◌↔◌, IsSomeAnd, IfSome, IsTrue}
use Rattle.std.proofs.lemmas.Bool.{cases_lt, cases_order}
use Rattle.std.proofs.lemmas.List.{take_all}
use Rattle.histories.specs.rule.Histories.{moment_at, last_moment, IsFirst, IsFirstMoment}
use Rattle.histories.specs.state.Histories.{IsRising}
use Rattle.histories.specs.rule.TheOne.{IsTheOne}
use Rattle.histories.proofs.Growth.{grows_so}
use Rattle.histories.proofs.Moments.{all_before, moment_within}
use Rattle.histories.proofs.Places.{moment_at-old, moment_at-new, moment_at-below, moment_at-project}
use Rattle.observations.specs.declared.container.ContainerObs.{ContainerObs}
use Rattle.manifest.specs.declared.policy.Policy.{Policy}
use Rattle.manifest.specs.declared.pod.ContainerSpec.{ContainerSpec}
use Rattle.state_diff.specs.declared.differ.Differ.{Differ}
use Rattle.state_diff.specs.declared.differ.Changes.{Changes}
use Rattle.state_diff.specs.rule.Instances.{Tick, seen_at, IsOf, Listed, IsExit, Ends, killed_code}
use Rattle.state_diff.specs.state.Differ.{IsStateOf as IsDifferOf, AreChanges}
use Rattle.state_diff.proofs.Places.{kept}
use Rattle.state_diff.proofs.Unique.{of_coded}
use Rattle.restarts.specs.declared.backoff.Backoff.{Backoff as RestartBackoff}
use Rattle.restarts.specs.rule.Exits.{Exit}
use Rattle.restarts.specs.rule.Delays.{IsDelay, IsRestartDue}
use Rattle.restarts.proofs.LawLemmas.{one_delay}
use Rattle.containers.specs.declared.pod_event_kind.PodEventKind.{PodEventKind}
use Rattle.containers.specs.declared.pod_event_kind.PodEventKind.TheVariants.{Died, Ready, Unready, Backoff, Restart}
use Rattle.containers.specs.rule.Ticks.{ContainerTick, listings}
use Rattle.containers.specs.rule.Probed.{IsContainerReady}
use Rattle.containers.specs.rule.Exits.{IsToRestart}
use Rattle.containers.specs.rule.Events.{IsGone, HasDied, WasReady, ChangesReadiness, IsBackedOff, IsRestarted}
use Rattle.containers.specs.state.Step.{AreCounted}
use Rattle.containers.proofs.TickLemmas.{listing, onto_at, from_at}
use Rattle.containers.proofs.ExitLemmas.{IsGoneNow, leaving}
use Rattle.containers.proofs.RestartLemmas.{exits_one}

-- the instance that is gone
gone_is : (k : List Tick) (d : Differ) (x : Tick) (changes : Changes) → IsDifferOf k d
    → AreChanges (k ++ x ∷ []) (length k) changes → (a : ℕ)
    → (((changes.removed ≡ Some a) × IsTrue changes.removed_died) ↔ IsGoneNow k x a)
gone_is k d x changes is are a = (
  (λ w.
      let g = are.removed_died.0 w.1 in
      let s : Some a ≡ Some g.0 = sym w.0 ∙ removed g.0 (g.1, g.2) in
      let e : g.0 ≡ a = cc in
      subst (λ (b : ℕ). IsGoneNow k x b) e (g.1, g.2)),
  (λ g. (removed a g, are.removed_died.1 (a, g.0, g.1))),
)
  where
    removed : (b : ℕ) → IsGoneNow k x b → changes.removed ≡ Some b
    removed b g = (are.removed b).1 (kept (IsOf b) k x (length k - 1) (leaving k d x b is g).listed, g.1)

pub gone_gives : (h : List ContainerTick) (x : ContainerTick) (d : Differ) (changes : Changes)
    (event : Option PodEventKind)
    → IsDifferOf (listings h) d
    → AreChanges (listings (h ++ x ∷ [])) (length h) changes
    → ((kind : PodEventKind)
    → ((event ≡ Some kind) ↔ ((a : ℕ) × (kind ≡ Died a killed_code) × (changes.removed ≡ Some a)
    × IsTrue changes.removed_died)))
    → IsTheOne (IsGone (h ++ x ∷ []) (length h)) event
gone_gives h x d changes event is are gives kind =
    let G : List Tick → ℕ → ℕ → Type 0 = λ k t a. IsExit k a t × (Listed k a t → ⊥) in
    let changed = from_at (λ k t. AreChanges k t changes) h x are in
    let by = gone_is (listings h) d (listing x) changes is changed in (
      (λ e.
          let w = (gives kind).0 e in
          let g = onto_at (λ k t. G k t w.0) h x ((by w.0).0 (w.2, w.3)) in
          (w.0, w.1, g.0, g.1)),
      (λ w.
          let r = (by w.0).1 (from_at (λ k t. G k t w.0) h x (w.2, w.3)) in
          (gives kind).1 (w.0, w.1, r.0, r.1)),
    )

-- the listed one that died
pub died_gives : (h : List ContainerTick) (x : ContainerTick) (changes : Changes) (event : Option PodEventKind)
    → AreChanges (listings (h ++ x ∷ [])) (length h) changes
    → ((kind : PodEventKind) → ((event ≡ Some kind)
    ↔ ((a : ℕ) × (code : ℤ) × (kind ≡ Died a code) × (changes.died ≡ Some (a, code)))))
    → IsTheOne (HasDied (h ++ x ∷ []) (length h)) event
died_gives h x changes event are gives kind = (
  (λ e.
      let w = (gives kind).0 e in
      let q = (are.died w.0 w.1).0 w.3 in
      (w.0, w.1, w.2, q.0, of_coded w.0 w.1 (seen_at (listings (h ++ x ∷ [])) (length h)) q.1, inl q.1)),
  (λ (a, code, e, exit, listed, at). elim at [
    | inl q ↦ (gives kind).1 (a, code, e, (are.died a code).1 (exit, q))
    | inr w ↦ absurd (w.0 listed)
  ]),
)

-- whether it was ready
pub was_ready : (spec : ContainerSpec) (h : List ContainerTick) (x : ContainerTick)
    → (WasReady spec (h ++ x ∷ []) (length h) ↔ IsContainerReady spec h)
was_ready spec h x = (forth, back h)
  where
    forth : WasReady spec (h ++ x ∷ []) (length h) → IsContainerReady spec h
    forth (u, e, s) = elim ((grows_so (IsContainerReady spec) h x).split u s) [
      | inl old ↦ subst (λ (k : List ContainerTick). IsContainerReady spec k) (take_all (suc u) h (omega
          (arith, e))) old.so
      | inr w ↦ let f : u ≡ length h = w.0 in absurd (omega (arith, e, f))
    ]

    back : (h : List ContainerTick) → IsContainerReady spec h → WasReady spec (h ++ x ∷ []) (length h)
    back [] r = absurd (r.1.newest.listed.1)
    back (y ∷ h) r = (
      length h,
      refl,
      (grows_so (IsContainerReady spec) (y ∷ h) x).old (length h) (record {
        within = omega arith;
        so = subst (λ (k : List ContainerTick). IsContainerReady spec k)
            (sym (take_all (suc (length h)) (y ∷ h) (omega arith))) r;
      }),
    )

pub readiness_gives : (spec : ContainerSpec) (h : List ContainerTick) (x : ContainerTick) (before now : Bool)
    (event : Option PodEventKind) → (IsTrue before ↔ IsContainerReady spec h)
    → (IsTrue now ↔ IsContainerReady spec (h ++ x ∷ []))
    → ((kind : PodEventKind) → ((event ≡ Some kind)
    ↔ (((kind ≡ Ready) × IsTrue now × (IsTrue before → ⊥)) ⊎ ((kind ≡ Unready) × (IsTrue now → ⊥)
    × IsTrue before))))
    → IsTheOne (ChangesReadiness spec (h ++ x ∷ []) (length h)) event
readiness_gives spec h x before now event old new gives kind =
    let was = was_ready spec h x in (
      (λ e. elim ((gives kind).0 e) [
        | inl w ↦ inl (w.0, new.0 w.1, (λ r. w.2 (old.1 (was.0 r))))
        | inr w ↦ inr (w.0, (λ r. w.1 (new.1 r)), was.1 (old.0 w.2))
      ]),
      (λ c. (gives kind).1 (elim c [
        | inl w ↦ inl (w.0, new.1 w.1, (λ t. w.2 (was.1 (old.0 t))))
        | inr w ↦ inr (w.0, (λ t. w.1 (new.0 t)), old.1 (was.0 w.2))
      ])),
    )

-- an exit at the tick's moment is at the tick
moment_listed : (h : List ContainerTick) (t : ℕ) → moment_at (listings h) t ≡ moment_at h t
moment_listed h t = moment_at-project (λ (observed : ContainerObs). observed.seen) h t

exit_now : (h : List ContainerTick) (x : ContainerTick) (a : ℕ) → IsRising (h ++ x ∷ [])
    → (IsFirstMoment (listings (h ++ x ∷ [])) (Ends (listings (h ++ x ∷ [])) a) (Some x.moment)
    ↔ IsExit (listings (h ++ x ∷ [])) a (length h))
exit_now h x a rising = (
  (λ (t, f, e).
      let at : moment_at (h ++ x ∷ []) t ≡ Some x.moment = sym (moment_listed (h ++ x ∷ []) t) ∙ e in
      let here : moment_at (h ++ x ∷ []) (length h) ≡ Some x.moment = moment_at-new h x in
      let same : t ≡ length h = elim (cases_order t (length h)) [
        | inl e ↦ e
        | inr w ↦ elim w [
          | inl lt ↦ let less : x.moment < x.moment = rising t (length h) x.moment x.moment lt at here in
              absurd (omega arith)
          | inr gt ↦ let less : x.moment < x.moment = rising (length h) t x.moment x.moment gt here at in
              absurd (omega arith)
        ]
      ] in
      subst (λ (u : ℕ). IsExit (listings (h ++ x ∷ [])) a u) same f),
  (λ e. (length h, e, moment_listed (h ++ x ∷ []) (length h) ∙ moment_at-new h x)),
)

-- the delay of the exits
delay_at : (P : ℕ → Type 0) (o : Option ℕ) (d : ℕ) → o ≡ Some d → IsSomeAnd o P → P d
delay_at P None d e q = absurd q
delay_at P (Some c) d e q = let same : c ≡ d = cc in subst P same q

delay_there : (P : ℕ → Type 0) (o : Option ℕ) → IsSomeAnd o P → (d : ℕ) × (o ≡ Some d) × P d
delay_there P None q = absurd q
delay_there P (Some d) q = (d, refl, q)

pub backoff_gives : (policy : Policy) (max_restart_delay : ℕ) (spec : ContainerSpec) (h : List ContainerTick)
    (x : ContainerTick) (backoff : RestartBackoff) (delay : Option ℕ) (backs_off : Bool) (event : Option PodEventKind)
    → IsRising (h ++ x ∷ []) → AreCounted max_restart_delay h x backoff delay
    → (IsTrue backs_off ↔ ((a : ℕ) × IsToRestart policy spec (h ++ x ∷ []) a × IsFirstMoment (listings (h ++ x ∷ []))
    (Ends (listings (h ++ x ∷ [])) a) (Some x.moment)))
    → ((kind : PodEventKind) → ((event ≡ Some kind)
    ↔ ((d : ℕ) × (kind ≡ Backoff d) × (delay ≡ Some d) × (0 < d) × IsTrue backs_off)))
    → IsTheOne (IsBackedOff policy max_restart_delay spec (h ++ x ∷ []) (length h)) event
backoff_gives policy max_restart_delay spec h x backoff delay backs_off event rising counted off gives kind = (
  (λ e.
      let w = (gives kind).0 e in
      let p = off.0 w.4 in
      let exit = (exit_now h x p.0 rising).0 p.2 in
      let d = delay_at (λ n. IsDelay max_restart_delay counted.exits n) delay w.0 w.2 (counted.delayed p.0 exit) in
      (p.0, w.0, w.1, exit, p.1, (counted.exits, counted.are_exits, d), w.3)),
  (λ (a, d, e, exit, to, (exits, are, is), lt).
      let w = delay_there (λ n. IsDelay max_restart_delay counted.exits n) delay (counted.delayed a exit) in
      let same : exits ≡ counted.exits = exits_one (listings (h ++ x ∷ [])) exits counted.exits are counted.are_exits in
      let mine : IsDelay max_restart_delay counted.exits d =
      subst (λ (es : List Exit). IsDelay max_restart_delay es d) same is in
      let one : w.0 ≡ d = (one_delay max_restart_delay counted.exits).1 w.0 d w.2 mine in
      (gives kind).1 (
        d,
        e,
        subst (λ (n : ℕ). delay ≡ Some n) one w.1,
        lt,
        off.1
            (a, to, (exit_now h x a rising).1 exit),
      )),
)

-- the first tick that is not before a moment
first_due : (h : List ContainerTick) (x : ContainerTick) (due : ℕ) → IsRising h
    → (((due ≤ x.moment) × IfSome (last_moment h) (λ last. last < due))
    ↔ IsFirst (λ u. IsSomeAnd (moment_at (h ++ x ∷ []) u) (λ moment. due ≤ moment)) (length h))
first_due h x due rising = (
  (λ w. record {
    holds = subst (λ (o : Option ℕ). IsSomeAnd o (λ moment. due ≤ moment)) (sym (moment_at-new h x)) w.0;
    none_before = λ u lt q.
        let m = moment_within h u lt in
        let less : m.0 < due = all_before h u m.0 due rising w.1 m.1 in
        let le : due ≤ m.0 = subst (λ (o : Option ℕ). IsSomeAnd o (λ moment. due ≤ moment))
        (moment_at-old h x u m.0 m.1) q in
        omega arith;
  }),
  (λ f. (
    subst (λ (o : Option ℕ). IsSomeAnd o (λ moment. due ≤ moment)) (moment_at-new h x) f.holds,
    last (last_moment h) (λ m e. e) f,
  )),
)
  where
    last : (o : Option ℕ) → ((m : ℕ) → o ≡ Some m → last_moment h ≡ Some m)
        → IsFirst (λ u. IsSomeAnd (moment_at (h ++ x ∷ []) u) (λ moment. due ≤ moment)) (length h)
        → IfSome o (λ last. last < due)
    last None is f = tt
    last (Some m) is f =
        let at : moment_at h (length h - 1) ≡ Some m = is m refl in
        let lt : length h - 1 < length h = moment_at-below h (length h - 1) m at in
        elim (cases_lt m due) [
          | inl less ↦ less
          | inr ge ↦ absurd (f.none_before (length h - 1) lt
              (subst (λ (o : Option ℕ). IsSomeAnd o (λ moment. due ≤ moment))
              (sym (moment_at-old h x (length h - 1) m at)) (let le : due ≤ m = omega arith in le)))
        ]

pub restart_gives : (policy : Policy) (max_restart_delay : ℕ) (spec : ContainerSpec) (h : List ContainerTick)
    (x : ContainerTick) (backoff : RestartBackoff) (delay attempt last_at : Option ℕ) (is_due : Bool)
    (event : Option PodEventKind)
    → IsRising h → (counted : AreCounted max_restart_delay h x backoff delay) → last_at ≡ last_moment h
    → ((a : ℕ) → ((attempt ≡ Some a) ↔ IsToRestart policy spec (h ++ x ∷ []) a))
    → (IsTrue is_due ↔ ((due : ℕ) × IsRestartDue max_restart_delay counted.exits (Some due) × (due ≤ x.moment)
    × IfSome last_at (λ last. last < due)))
    → ((kind : PodEventKind)
    → ((event ≡ Some kind) ↔ ((a : ℕ) × (kind ≡ Restart a) × (attempt ≡ Some a) × IsTrue is_due)))
    → IsTheOne (IsRestarted policy max_restart_delay spec (h ++ x ∷ []) (length h)) event
restart_gives policy max_restart_delay spec h x backoff delay attempt last_at is_due event rising counted last to due
    gives
    kind = (
      (λ e.
          let w = (gives kind).0 e in
          let d = due.0 w.3 in
          let before = subst (λ (o : Option ℕ). IfSome o (λ last. last < d.0)) last d.3 in (
            w.0,
            w.1,
            (to w.0).0 w.2,
            (
              counted.exits,
              d.0,
              counted.are_exits,
              d.1,
              (first_due h x d.0 rising).0
                  (d.2, before),
            ),
          )),
      (λ (a, e, t, (exits, at, are, is, f)).
          let w = (first_due h x at rising).1 f in
          let before = subst (λ (o : Option ℕ). IfSome o (λ last. last < at)) (sym last) w.1 in
          let same : exits ≡ counted.exits =
          exits_one (listings (h ++ x ∷ [])) exits counted.exits are counted.are_exits in
          let mine : IsRestartDue max_restart_delay counted.exits (Some at) =
          subst (λ (es : List Exit). IsRestartDue max_restart_delay es (Some at)) same is in
          (gives kind).1 (a, e, (to a).1 t, due.1 (at, mine, w.0, before))),
    )
