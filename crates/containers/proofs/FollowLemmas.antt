-- What one more tick makes of the instances and the probes.
use Rattle.std.proofs.Common.{◌≡◌, inl, inr, ℕ, zero, suc, ◌-◌, ◌<◌, Bool, true, false, List, [], ◌∷◌, ◌++◌, length}
use Rattle.std.proofs.Common.{take, drop, Option, Some, None, refl, subst, sym, ◌∙◌, arith}
use Rattle.std.specs.Prelude.{◌↔◌, IsSome, IsSomeAnd, IfSome, IsTrue, is_some}
use Rattle.std.proofs.lemmas.List.{take-append-drop}
use Rattle.histories.specs.rule.Histories.{HoldsAt}
use Rattle.histories.proofs.First.{IsFirst-new, IsFirstMoment-unique}
use Rattle.histories.proofs.Picked.{picked_none, so_picked_in, so_picked_out}
use Rattle.histories.proofs.Lists.{some_given}
use Rattle.manifest.specs.declared.pod.ContainerSpec.{ContainerSpec}
use Rattle.state_diff.specs.declared.seen.Seen.{Seen}
use Rattle.state_diff.specs.declared.seen.CriState.TheVariants.{Running}
use Rattle.state_diff.specs.declared.differ.Differ.{Differ}
use Rattle.state_diff.specs.declared.differ.Changes.{Changes}
use Rattle.state_diff.specs.rule.Instances.{seen_at, IsOf, IsOfAs, Listed, ListedAs, IsNewest, IsState, IsStart}
use Rattle.state_diff.specs.state.Differ.{IsStateOf as IsDifferOf, Accepts as DifferAccepts, AreChanges, IsNewestSeen}
use Rattle.state_diff.proofs.Growth.{grows_seen}
use Rattle.state_diff.proofs.Listings.{of_weaker, one_listed}
use Rattle.state_diff.proofs.Unique.{IsNewest-unique}
use Rattle.probes.specs.declared.probe_set.ProbeSet.{ProbeSet}
use Rattle.probes.specs.declared.probe_set.Verdicts.{Verdicts}
use Rattle.probes.specs.rule.Ticks.{Tick as ProbeTick}
use Rattle.probes.specs.state.ProbeSet.{Follows, HasBegun, IsStateOf as IsProbeSetOf, AreVerdicts}
use Rattle.containers.specs.declared.container.Container.{Container}
use Rattle.containers.specs.rule.Ticks.{ContainerTick, listings, BelongsTo, results_of, AreTicksOf, StartsAt}
use Rattle.containers.specs.state.Container.{IsFollowing}
use Rattle.containers.specs.state.Step.{ticks_at, IsTaken, AreVerdictsOf}
use Rattle.containers.proofs.ProbedLemmas.{runs_at, start_of}
use Rattle.containers.proofs.ViewLemmas.{seen_runs}
use Rattle.containers.proofs.TickLemmas.{listing, long, onto, onto_at, last_place, seen_now, newest_listed}
use Rattle.containers.proofs.TickLemmas.{newest_now, running_now, start_cases}

-- an instance to which the last tick belongs is the newest
pub belongs_newest : (h : List ContainerTick) (d : Differ) (a : ℕ) → IsDifferOf (listings h) d → BelongsTo a h
    → IsNewest (listings h) a
belongs_newest h d a is b =
    let P : ℕ → Type 0 = λ t. Listed (listings h) a t in
    let e : length h - 1 ≡ length (listings h) - 1 = omega (arith, long h) in
    newest_listed (listings h) d a is (subst P e b.listed)

pub belongs_listed : (h : List ContainerTick) (x : ContainerTick) (a : ℕ) → BelongsTo a (h ++ x ∷ [])
    → IsSomeAnd x.entry.seen (IsOf a)
belongs_listed h x a b = let P : ℕ → Type 0 = λ t. Listed (listings (h ++ x ∷ [])) a t in
    (seen_now (IsOf a) h x).0 (subst P (last_place h x) b.listed)

pub belongs_now : (h : List ContainerTick) (x : ContainerTick) (a : ℕ) → IsSomeAnd x.entry.seen (IsOf a)
    → IsState (listings (h ++ x ∷ [])) a Running → BelongsTo a (h ++ x ∷ [])
belongs_now h x a q runs = record {
  listed = let P : ℕ → Type 0 = λ t. Listed (listings (h ++ x ∷ [])) a t in subst P (sym (last_place h x))
      ((seen_now (IsOf a) h x).1 q);
  runs = runs;
}

-- one that is listed as running belongs to the tick
pub start_belongs : (h : List ContainerTick) (x : ContainerTick) (d : Differ) (a : ℕ) → IsDifferOf (listings h) d
    → DifferAccepts d x.entry.seen → IsSomeAnd x.entry.seen (IsOfAs a Running)
    → BelongsTo a (h ++ x ∷ [])
start_belongs h x d a is accepts q =
    belongs_now h x a (of_weaker a Running x.entry.seen q)
    (onto (λ k. IsState k a Running) h x (running_now (listings h) d (listing x) a is accepts q))

is_there : {A : Type 0} (o : Option A) (Q : A → Type 0) → IsSomeAnd o Q → IsSome o
is_there None Q q = absurd q
is_there (Some x) Q q = refl

listed_one : (o : Option Seen) → IsSome o → (a : ℕ) × IsSomeAnd o (IsOf a)
listed_one None e = absurd (cc)
listed_one (Some s) e = (s.attempt, refl)

-- whether the tick belongs to an instance
pub takes_is : (h : List ContainerTick) (x : ContainerTick) (d : Differ) (o : Option Seen) (b : Bool)
    → IsDifferOf (listings (h ++ x ∷ [])) d → IsNewestSeen (listings (h ++ x ∷ [])) o
    → (IsTrue b ↔ (IsSome x.entry.seen × IsSomeAnd o (λ s. s.state ≡ Running)))
    → (IsTrue b ↔ ((a : ℕ) × BelongsTo a (h ++ x ∷ [])))
takes_is h x d o b is newest iff =
    let k = listings (h ++ x ∷ []) in (
      (λ e.
          let w = iff.0 e in
          let r = (seen_runs k o newest).1 w.1 in
          let l = listed_one x.entry.seen w.0 in
          let same : l.0 ≡ r.0 = IsNewest-unique k l.0 r.0 (newest_now h x d l.0 is l.1) r.1 in
          let P : ℕ → Type 0 = λ a. IsSomeAnd x.entry.seen (IsOf a) in
          (r.0, belongs_now h x r.0 (subst P same l.1) r.2)),
      (λ w. iff.1 (
        is_there x.entry.seen (IsOf w.0) (belongs_listed h x w.0 w.1),
        (seen_runs k o newest).0 (w.0, belongs_newest (h ++ x ∷ []) d w.0 is w.1, w.1.runs),
      )),
    )

-- what is listed stays so, whatever is recorded later
seen_stays : (Q : Seen → Type 0) (h later : List ContainerTick) (t : ℕ) → IsSomeAnd (seen_at (listings h) t) Q
    → IsSomeAnd (seen_at (listings (h ++ later)) t) Q
seen_stays Q [] later t q = absurd q
seen_stays Q (y ∷ h) later zero q = q
seen_stays Q (y ∷ h) later (suc t) q = seen_stays Q h later t q

-- before its start no tick belongs to an instance
pub none_before_start : (h : List ContainerTick) (a : ℕ) → ((u : ℕ) → ListedAs (listings h) a Running u → ⊥)
    → AreTicksOf h a []
none_before_start h a none = picked_none _ _ (λ t lt s. absurd (never t s))
  where
    never : (t : ℕ) → HoldsAt (BelongsTo a) h t → ⊥
    never t s =
        let r = runs_at (listings (take (suc t) h)) a s.so.runs in
        let P : List ContainerTick → Type 0 = λ k. ListedAs (listings k) a Running r.0 in
        none r.0 (subst P (take-append-drop (suc t) h)
        (seen_stays (IsOfAs a Running) (take (suc t) h) (drop (suc t) h) r.0 r.1))

-- the newest of all ticks was so before, if it was listed
pub newest_before : (h : List ContainerTick) (x : ContainerTick) (a u : ℕ) → IsNewest (listings (h ++ x ∷ [])) a
    → Listed (listings h) a u → IsNewest (listings h) a
newest_before h x a u n l = record {
  listed = (u, l);
  greatest = λ b t m. n.greatest b t
      (onto (λ k. Listed k b t) h x ((grows_seen (IsOf b) (listings h) (listing x)).old t m));
}

start_listed : (h : List ContainerTick) (a start : ℕ) → StartsAt h a start → (u : ℕ) × Listed (listings h) a u
start_listed h a start s = (s.0, of_weaker a Running (seen_at (listings h) s.0) s.1.holds)

-- the start that a tick's changes give is at it
start_given : (h : List ContainerTick) (x : ContainerTick) (changes : Changes) → AreChanges (listings (h ++ x ∷ []))
    (length h) changes → IsSome changes.started
    → (a : ℕ) × IsSomeAnd x.entry.seen (IsOfAs a Running) × IsStart (listings (h ++ x ∷ [])) a (length h)
start_given h x changes are some =
    let w = some_given changes.started some in
    let s = (are.started w.0).0 w.1 in
    (w.0, (seen_now (IsOfAs w.0 Running) h x).0 s.holds, s)

-- an instance that had started does not start
not_again : (h : List ContainerTick) (x : ContainerTick) (a start : ℕ) → StartsAt h a start
    → IsStart (listings (h ++ x ∷ [])) a (length h) → ⊥
not_again h x a start (t, f, e) s =
    let g = grows_seen (IsOfAs a Running) (listings h) (listing x) in
    let lt : t < length (listings h) = g.below t f.holds in
    s.none_before t (omega (arith, long h, lt)) (onto (λ k. ListedAs k a Running t) h x (g.old t f.holds))

-- what the changes of a tick make of the probe set before its results
pub record IsBegun (spec : ContainerSpec) (x : ContainerTick) (changes : Changes) (old new : ProbeSet) : Type 0 where
  pub begins : IsSome changes.started → Follows old spec.probes → IsProbeSetOf spec.probes x.moment [] new
  pub idle : (IsSome changes.started → ⊥) → new ≡ old

-- the instance to which the tick belongs
pub taken : (spec : ContainerSpec) (h : List ContainerTick) (x : ContainerTick) (c : Container) (d : Differ)
    (set : ProbeSet) (changes : Changes) → IsFollowing spec h c
    → IsDifferOf (listings (h ++ x ∷ [])) d → AreChanges (listings (h ++ x ∷ [])) (length h) changes
    → IsBegun spec x changes c.probes set
    → (a : ℕ) → BelongsTo a (h ++ x ∷ []) → (start : ℕ) × (ticks : List ProbeTick) × IsTaken h x a start ticks
    × IsProbeSetOf spec.probes start ticks set
taken spec h x c d set changes is after are begun a b =
    let newest = belongs_newest (h ++ x ∷ []) d a after b in
    let s = start_of (h ++ x ∷ []) d a after newest b.runs in
    elim (start_cases h x a s.0 s.1) [
      | inl old ↦
          let l = start_listed h a s.0 old in
          let f = is.probed a s.0 (newest_before h x a l.0 newest l.1) old in
          let none : IsSome changes.started → ⊥ = λ some.
          (let w = start_given h x changes are some in
          let same : w.0 ≡ a = one_listed x.entry.seen w.0 a (of_weaker w.0 Running x.entry.seen w.1)
          (belongs_listed h x a b) in
          let P : ℕ → Type 0 = λ k. IsStart (listings (h ++ x ∷ [])) k (length h) in
          not_again h x a s.0 old (subst P same w.2)) in
          let Q : ProbeSet → Type 0 = λ p. IsProbeSetOf spec.probes s.0 f.ticks p in (
            s.0,
            f.ticks,
            record {
              belongs = b;
              starts = s.1;
              before = f.are_ticks;
              after = so_picked_in (BelongsTo a) results_of h
                  x f.ticks f.are_ticks b;
              begun = inl old;
            },
            subst Q (sym (begun.idle none)) f.followed,
          )
      | inr w ↦
          let g = grows_seen (IsOfAs a Running) (listings h) (listing x) in
          let start : IsStart (listings (h ++ x ∷ [])) a (length h) =
          onto_at (λ k t. IsStart k a t) h x (IsFirst-new (length (listings h)) _ _ _ g w.2 w.1) in
          let given : changes.started ≡ Some a = (are.started a).1 start in
          let P : ℕ → Type 0 = λ m. IsProbeSetOf spec.probes m [] set in
          let none = none_before_start h a w.2 in (
            s.0,
            [],
            record {
              belongs = b;
              starts = s.1;
              before = none;
              after = so_picked_in (BelongsTo a) results_of h x []
                  none b;
              begun = inr refl;
            },
            subst P (sym w.0) (begun.begins (rw given refl) is.follows),
          )
    ]

-- where the tick belongs to none, none starts
none_starts : (spec : ContainerSpec) (h : List ContainerTick) (x : ContainerTick) (c : Container) (changes : Changes)
    → IsFollowing spec h c → DifferAccepts c.differ x.entry.seen
    → AreChanges (listings (h ++ x ∷ [])) (length h) changes → ((a : ℕ) → BelongsTo a (h ++ x ∷ []) → ⊥)
    → IsSome changes.started → ⊥
none_starts spec h x c changes is accepts are none some =
    let w = start_given h x changes are some in none w.0 (start_belongs h x c.differ w.0 is.differ accepts w.1)

-- the container after the tick, whose results were handed on where it belongs to an instance
pub follows_more : (spec : ContainerSpec) (h : List ContainerTick) (x : ContainerTick) (c after : Container)
    (set : ProbeSet) (changes : Changes) (takes : Bool) → IsFollowing spec h c
    → DifferAccepts c.differ x.entry.seen → IsDifferOf (listings (h ++ x ∷ [])) after.differ
    → AreChanges (listings (h ++ x ∷ [])) (length h) changes
    → IsBegun spec x changes c.probes set → after.role ≡ c.role → (IsTrue takes ↔ ((a : ℕ) × BelongsTo a (h ++ x ∷ [])))
    → ((start : ℕ) (ticks : List ProbeTick) → IsProbeSetOf spec.probes start ticks set
    → IsProbeSetOf spec.probes start (ticks ++ ticks_at takes x.moment x.entry.results) after.probes)
    → ((IsTrue takes → ⊥) → after.probes ≡ set)
    → IsFollowing spec (h ++ x ∷ []) after
follows_more spec h x c after set changes true is accepts differ are begun role iff state idle =
    let b = iff.0 refl in
    let a = b.0 in
    let t = taken spec h x c after.differ set changes is differ are begun a b.1 in
    let now = state t.0 t.1 t.3 in
    record {
      role = role ∙ is.role;
      differ = differ;
      follows = now.follows;
      probed = λ e start n starts.
          let same : a ≡ e = IsNewest-unique _ a e (belongs_newest (h ++ x ∷ []) after.differ a differ b.1) n in
          let P : ℕ → Type 0 = λ k. AreTicksOf (h ++ x ∷ []) k (t.1 ++ results_of x ∷ []) in
          let S : ℕ → Type 0 = λ k. StartsAt (h ++ x ∷ []) k t.0 in
          let one : Some t.0 ≡ Some start = IsFirstMoment-unique _ _ (Some t.0) (Some start) (subst S same t.2.starts)
          starts in
          let one' : t.0 ≡ start = cc in
          let Q : ℕ → Type 0 = λ m. IsProbeSetOf spec.probes m (t.1 ++ results_of x ∷ []) after.probes in
          record { ticks = t.1 ++ results_of x ∷ []; are_ticks = subst P same t.2.after; followed = subst Q one' now };
    }
follows_more spec h x c after set changes false is accepts differ are begun role iff state idle =
    let none : (a : ℕ) → BelongsTo a (h ++ x ∷ []) → ⊥ = λ a b. (let e : IsTrue false = iff.1 (a, b) in cc) in
    let same : after.probes ≡ c.probes = idle (λ e. cc)
    ∙ begun.idle (none_starts spec h x c changes is accepts are none) in
    let P : ProbeSet → Type 0 = λ p. Follows p spec.probes in
    record {
      role = role ∙ is.role;
      differ = differ;
      follows = subst P (sym same) is.follows;
      probed = λ a start n starts. elim (start_cases h x a start starts) [
        | inl old ↦
            let l = start_listed h a start old in
            let f = is.probed a start (newest_before h x a l.0 n l.1) old in
            let Q : ProbeSet → Type 0 = λ p. IsProbeSetOf spec.probes start f.ticks p in
            record {
              ticks = f.ticks;
              are_ticks = so_picked_out (BelongsTo a) results_of h x f.ticks f.are_ticks
                  (none a);
              followed = subst Q (sym same) f.followed;
            }
        | inr w ↦ absurd (none a (start_belongs h x c.differ a is.differ accepts w.1))
      ];
    }

-- and the tick's verdicts
pub verdicts_are : (spec : ContainerSpec) (h : List ContainerTick) (x : ContainerTick) (c : Container) (d : Differ)
    (set : ProbeSet) (changes : Changes) (takes : Bool) (o : Option Verdicts)
    → IsFollowing spec h c → IsDifferOf (listings (h ++ x ∷ [])) d → AreChanges (listings (h ++ x ∷ [])) (length h)
    changes
    → IsBegun spec x changes c.probes set → (IsTrue takes ↔ ((a : ℕ) × BelongsTo a (h ++ x ∷ [])))
    → ((start : ℕ) (ticks : List ProbeTick) → IsProbeSetOf spec.probes start ticks set
    → IfSome o (λ v. AreVerdicts spec.probes start (ticks ++ results_of x ∷ []) (length ticks) v))
    → (HasBegun set → IsTrue takes → IsSome o) → ((IsTrue takes → ⊥) → o ≡ None)
    → AreVerdictsOf spec h x o
verdicts_are spec h x c d set changes true None is differ are begun iff verdicts some none =
    let b = iff.0 refl in
    let t = taken spec h x c d set changes is differ are begun b.0 b.1 in
    let n : Option Verdicts = None in absurd (let e : IsSome n = some t.3.begun refl in cc)
verdicts_are spec h x c d set changes true (Some v) is differ are begun iff verdicts some none =
    let b = iff.0 refl in
    let t = taken spec h x c d set changes is differ are begun b.0 b.1 in
    (is.follows.in_range, (b.0, t.0, t.1, t.2, verdicts t.0 t.1 t.3))
verdicts_are spec h x c d set changes false None is differ are begun iff verdicts some none =
    (is.follows.in_range, (λ a b. let e : IsTrue false = iff.1 (a, b) in cc))
verdicts_are spec h x c d set changes false (Some v) is differ are begun iff verdicts some none =
    absurd (let e : Some v ≡ None = none (λ e. cc) in cc)

-- the probe set before the results, by whether an instance starts
pub begun_is : (spec : ContainerSpec) (x : ContainerTick) (changes : Changes) (old new : ProbeSet) (starts : Bool)
    → starts ≡ is_some changes.started
    → (IsTrue starts → Follows old spec.probes → IsProbeSetOf spec.probes x.moment [] new)
    → ((IsTrue starts → ⊥) → new ≡ old) → IsBegun spec x changes old new
begun_is spec x changes old new starts is begins idle = record {
  begins = λ some f. begins (is ∙ some) f;
  idle = λ none. idle (λ e. none (sym is ∙ e));
}
