-- A container after one more tick, and the events of the tick.
use Rattle.std.proofs.Common.{◌≡◌, ◌⊎◌, inl, inr, ℕ, ◌-◌, ◌<◌, Bool, true, false, List, [], ◌∷◌, ◌++◌, length, Option}
use Rattle.std.proofs.Common.{Some, refl, subst, sym, ap, ◌∙◌, arith}
use Rattle.std.specs.Prelude.{◌↔◌, ◌||◌, IsSomeAnd, IfSome, IsTrue}
use Rattle.histories.specs.rule.Histories.{Recorded, moment_at, last_moment, HoldsAt}
use Rattle.histories.specs.state.Histories.{EndsBefore}
use Rattle.histories.specs.rule.TheOne.{IsTheOne}
use Rattle.histories.proofs.Growth.{grows_so}
use Rattle.histories.proofs.Moments.{IsRising-more}
use Rattle.histories.proofs.Places.{moment_at-project}
use Rattle.observations.specs.declared.container.ContainerObs.{ContainerObs}
use Rattle.manifest.specs.declared.pod.ContainerSpec.{ContainerSpec}
use Rattle.state_diff.specs.declared.differ.Differ.{Differ}
use Rattle.state_diff.specs.declared.differ.Changes.{Changes}
use Rattle.state_diff.specs.rule.Instances.{IsOf}
use Rattle.state_diff.specs.state.Differ.{IsStateOf as IsDifferOf, Accepts as DifferAccepts, AreChanges}
use Rattle.probes.specs.declared.probe_set.Cause.{Cause}
use Rattle.probes.specs.declared.probe_set.ProbeSet.{ProbeSet}
use Rattle.probes.specs.declared.probe_set.Verdicts.{Verdicts}
use Rattle.probes.specs.state.ProbeSet.{Follows, IsStateOf as IsProbeSetOf}
use Rattle.containers.specs.declared.container.Container.{Container}
use Rattle.containers.specs.declared.pod_event_kind.PodEventKind.{PodEventKind}
use Rattle.containers.specs.declared.pod_event_kind.PodEventKind.TheVariants.{Started, StartupPassed, Kill}
use Rattle.containers.specs.rule.Ticks.{ContainerTick, listings}
use Rattle.containers.specs.rule.Probed.{IsStarted, WasStarted}
use Rattle.containers.specs.rule.Events.{HasStarted, Passes, IsKilled}
use Rattle.containers.specs.state.Container.{IsBefore, IsFollowing, IsStateOf}
use Rattle.containers.specs.state.Step.{AreVerdictsOf, AreCounted}
use Rattle.containers.proofs.TickLemmas.{long}
use Rattle.containers.proofs.ComesLemmas.{passes_by, kill_by}

-- the last moment of the listings
pub last_listed : (h : List ContainerTick) → last_moment (listings h) ≡ last_moment h
last_listed h =
    let e : length (listings h) - 1 ≡ length h - 1 = omega (arith, long h) in
    ap (λ (t : ℕ). moment_at (listings h) t) e ∙ moment_at-project (λ (observed : ContainerObs). observed.seen) h
    (length h - 1)

pub ends_before : (h : List ContainerTick) (d : Differ) (moment : ℕ) → IsDifferOf (listings h) d
    → IfSome d.last_at (λ last. last < moment) → EndsBefore h moment
ends_before h d moment is before = subst (λ (o : Option ℕ). IfSome o (λ last. last < moment))
    (is.last_at ∙ last_listed h) before

-- what a container follows are its role, its instances and its probes
pub following_same : (spec : ContainerSpec) (h : List ContainerTick) (c after : Container) → after.role ≡ c.role
    → after.differ ≡ c.differ → after.probes ≡ c.probes
    → IsFollowing spec h c → IsFollowing spec h after
following_same spec h c after role differ probes is = record {
  role = role ∙ is.role;
  differ = subst (λ (d : Differ). IsDifferOf (listings h) d) (sym differ) is.differ;
  follows = subst (λ (p : ProbeSet). Follows p spec.probes) (sym probes) is.follows;
  probed = λ a start n starts.
      let f = is.probed a start n starts in
      record {
        ticks = f.ticks;
        are_ticks = f.are_ticks;
        followed = subst (λ (p : ProbeSet). IsProbeSetOf spec.probes start f.ticks p) (sym probes) f.followed;
      };
}

-- once it was started it always was
or_true : (a b : Bool) → (IsTrue (a || b) ↔ (IsTrue a ⊎ IsTrue b))
or_true true b = ((λ e. inl e), (λ w. refl))
or_true false b = ((λ e. inr e), (λ w. elim w [ inl e ↦ absurd (let x : IsTrue false = e in cc) | inr e ↦ e ]))

was_more : {A : Type 0} (P : List (Recorded A) → Type 0) (h : List (Recorded A)) (x : Recorded A) (before now : Bool)
    → (IsTrue before ↔ ((t : ℕ) × HoldsAt P h t)) → (IsTrue now ↔ P (h ++ x ∷ []))
    → (IsTrue (before || now) ↔ ((t : ℕ) × HoldsAt P (h ++ x ∷ []) t))
was_more P h x before now was is =
    let g = grows_so P h x in
    let or = or_true before now in (
      (λ e. elim (or.0 e) [
        | inl b ↦ let w = was.0 b in (w.0, g.old w.0 w.1)
        | inr s ↦ (length h, g.new (is.0 s))
      ]),
      (λ w. or.1 (elim (g.split w.0 w.1) [
        | inl old ↦ inl (was.1 (w.0, old))
        | inr new ↦ inr (is.1 new.1)
      ])),
    )

pub state_more : (spec : ContainerSpec) (max_restart_delay : ℕ) (h : List ContainerTick) (x : ContainerTick)
    (before c : Container) (started : Bool) (delay : Option ℕ) → IsStateOf spec max_restart_delay h before
    → IsBefore before x.moment → IsFollowing spec (h ++ x ∷ []) c → c.was_started ≡ before.was_started
    → AreCounted max_restart_delay h x c.backoff delay
    → (IsTrue started ↔ IsStarted spec (h ++ x ∷ []))
    → IsStateOf spec max_restart_delay (h ++ x ∷ [])
    (record {
      role = c.role;
      differ = c.differ;
      probes = c.probes;
      backoff = c.backoff;
      was_started = c.was_started || started;
    })
state_more spec max_restart_delay h x before c started delay is later follows same counted now = record {
  role = follows.role;
  rising = IsRising-more h x is.rising (ends_before h before.differ x.moment is.differ later);
  differ = follows.differ;
  follows = follows.follows;
  probed = λ a start n starts. let f = follows.probed a start n starts in
      record { ticks = f.ticks; are_ticks = f.are_ticks; followed = f.followed };
  exits = counted.exits;
  are_exits = counted.are_exits;
  backoff = counted.counted;
  was_started = was_more (IsStarted spec) h x c.was_started started
      (subst (λ (b : Bool). IsTrue b ↔ WasStarted spec h) (sym same) is.was_started) now;
}

-- the place of the start
pub started_gives : (h : List ContainerTick) (x : ContainerTick) (changes : Changes) (event : Option PodEventKind)
    → AreChanges (listings (h ++ x ∷ [])) (length h) changes
    → ((kind : PodEventKind) → ((event ≡ Some kind) ↔ ((a : ℕ) × (kind ≡ Started a) × (changes.started ≡ Some a))))
    → IsTheOne (HasStarted (h ++ x ∷ []) (length h)) event
started_gives h x changes event are gives kind = (
  (λ e. let w = (gives kind).0 e in (w.0, w.1, (are.started w.0).0 w.2)),
  (λ w. (gives kind).1 (w.0, w.1, (are.started w.0).1 w.2)),
)

-- the places of the probes
pub passed_gives : (spec : ContainerSpec) (h : List ContainerTick) (x : ContainerTick) (d : Differ)
    (verdicts : Option Verdicts) (event : Option PodEventKind)
    → IsDifferOf (listings h) d → DifferAccepts d x.entry.seen → AreVerdictsOf spec h x verdicts
    → ((kind : PodEventKind)
    → ((event ≡ Some kind) ↔ ((a : ℕ) × (kind ≡ StartupPassed a) × IsSomeAnd x.entry.seen (IsOf a)
    × IsSomeAnd verdicts (λ v. IsTrue v.passed))))
    → IsTheOne (Passes spec (h ++ x ∷ []) (length h)) event
passed_gives spec h x d verdicts event is accepts are gives kind = (
  (λ e. let w = (gives kind).0 e in (w.0, w.1, (passes_by spec h x d verdicts is accepts are w.0).0 (w.2, w.3))),
  (λ w. let v = (passes_by spec h x d verdicts is accepts are w.0).1 w.2 in (gives kind).1 (w.0, w.1, v.0, v.1)),
)

pub kill_gives : (spec : ContainerSpec) (h : List ContainerTick) (x : ContainerTick) (d : Differ)
    (verdicts : Option Verdicts) (event : Option PodEventKind)
    → IsDifferOf (listings h) d → DifferAccepts d x.entry.seen → AreVerdictsOf spec h x verdicts
    → ((kind : PodEventKind) → ((event ≡ Some kind)
    ↔ ((a : ℕ) × (cause : Cause) × (kind ≡ Kill a cause) × IsSomeAnd x.entry.seen (IsOf a)
    × IsSomeAnd verdicts (λ v. v.kill ≡ Some cause))))
    → IsTheOne (IsKilled spec (h ++ x ∷ []) (length h)) event
kill_gives spec h x d verdicts event is accepts are gives kind = (
  (λ e. let w = (gives kind).0 e in (w.0, w.1, w.2, (kill_by spec h x d verdicts is accepts are w.0 w.1).0 (w.3, w.4))),
  (λ w. let v = (kill_by spec h x d verdicts is accepts are w.0 w.1).1 w.3 in (gives kind).1 (w.0, w.1, w.2, v.0, v.1)),
)
