-- A history has a newest instance or lists none, and each instance has a state, and a code where it
-- has ended.
use Rattle.std.proofs.Common.{◌≡◌, ◌⊎◌, inl, inr, ℕ, zero, suc, ℤ, false, ◌∙◌, ◌-◌, ◌<◌, ◌≤◌, List, [], ◌∷◌}
use Rattle.std.proofs.Common.{length, Option, Some, None, refl, subst, sym, arith}
use Rattle.std.specs.Prelude.{IsSomeAnd, unwrap_or}
use Rattle.std.proofs.lemmas.Bool.{cases_lt, cases_eq}
use Rattle.std.proofs.lemmas.Option.{same_Some}
use Rattle.histories.specs.rule.Histories.{IsFirstPlace, IsFirstMoment}
use Rattle.histories.proofs.Moments.{moment_within}
use Rattle.histories.proofs.Decide.{OrNot, negated, both, either, all_three, less_or_not, given_or_not}
use Rattle.histories.proofs.Found.{some_below, first_place, first_moment, first_or_none, first_or_not}
use Rattle.state_diff.specs.declared.seen.Seen.{Seen}
use Rattle.state_diff.specs.declared.seen.CriState.{CriState}
use Rattle.state_diff.specs.declared.seen.CriState.TheVariants.{Created, Running, Exited, Unknown}
use Rattle.state_diff.specs.rule.States.{is_exited}
use Rattle.state_diff.specs.rule.Instances.{Tick, seen_at, IsOf, IsOfAs, Listed, ListedAs, Ends, IsNewest}
use Rattle.state_diff.specs.rule.Instances.{killed_code}
use Rattle.state_diff.specs.state.Instances.{tick}
use Rattle.state_diff.specs.rule.Instances.{IsEffective, IsState, IsStart, IsExit, IsCodeAt, IsExitCode, IsSetUp}
use Rattle.state_diff.specs.rule.Instances.{IsRun}
use Rattle.state_diff.specs.state.Laws.{SomeOfEach}
use Rattle.state_diff.specs.rule.Acceptable.{effective_state}
use Rattle.state_diff.specs.state.Differ.{IsSeenOf, IsNewestSeen}
use Rattle.state_diff.proofs.Places.{seen_at-below}
use Rattle.state_diff.proofs.Growth.{Ends-below}
use Rattle.state_diff.proofs.Listings.{of_weaker}
use Rattle.state_diff.proofs.Events.{coded}
use Rattle.state_diff.proofs.Acceptable.{effective_state_is}
use Rattle.state_diff.proofs.Runs.{run_from}
use Rattle.state_diff.proofs.Unique.{IsState-unique}

-- whether a state is Running, and whether it is Exited
state_or_not : (state : CriState) → OrNot (state ≡ Running) × OrNot (state ≡ Exited)
state_or_not Created = (inr (λ e. cc), inr (λ e. cc))
state_or_not Running = (inl refl, inr (λ e. cc))
state_or_not Exited = (inr (λ e. cc), inl refl)
state_or_not Unknown = (inr (λ e. cc), inr (λ e. cc))

pub listed_or_not : (h : List Tick) (a t : ℕ) → OrNot (Listed h a t)
listed_or_not h a t = given_or_not (IsOf a) (λ s. cases_eq s.attempt a) (seen_at h t)

runs_or_not : (h : List Tick) (a t : ℕ) → OrNot (ListedAs h a Running t)
runs_or_not h a t =
    given_or_not (IsOfAs a Running) (λ s. both (cases_eq s.attempt a) (state_or_not s.state).0) (seen_at h t)

exits_or_not : (h : List Tick) (a t : ℕ) → OrNot (ListedAs h a Exited t)
exits_or_not h a t =
    given_or_not (IsOfAs a Exited) (λ s. both (cases_eq s.attempt a) (state_or_not s.state).1) (seen_at h t)

ends_or_not : (h : List Tick) (a t : ℕ) → OrNot (Ends h a t)
ends_or_not h a t =
    let before = some_below (Listed h a) (listed_or_not h a) t in
    either (exits_or_not h a t) (all_three (less_or_not t (length h)) (negated (listed_or_not h a t)) before)

-- the start and the exit, as places and as moments
start_place : (h : List Tick) (a : ℕ) → (o : Option ℕ) × IsFirstPlace (ListedAs h a Running) o
start_place h a = first_place (ListedAs h a Running) (runs_or_not h a) (length h) (seen_at-below (IsOfAs a Running) h)

exit_place : (h : List Tick) (a : ℕ) → (o : Option ℕ) × IsFirstPlace (Ends h a) o
exit_place h a = first_place (Ends h a) (ends_or_not h a) (length h) (Ends-below h a)

pub start_moment : (h : List Tick) (a : ℕ) → (o : Option ℕ) × IsFirstMoment h (ListedAs h a Running) o
start_moment h a = first_moment h (ListedAs h a Running) (runs_or_not h a) (seen_at-below (IsOfAs a Running) h)

pub start_or_none : (h : List Tick) (a : ℕ) → OrNot ((t : ℕ) × IsStart h a t)
start_or_none h a = first_or_none (ListedAs h a Running) (start_place h a)

pub exit_or_none : (h : List Tick) (a : ℕ) → OrNot ((t : ℕ) × IsExit h a t)
exit_or_none h a = first_or_none (Ends h a) (exit_place h a)

pub start_or_not : (h : List Tick) (a t : ℕ) → OrNot (IsStart h a t)
start_or_not h a t = first_or_not (ListedAs h a Running) (start_place h a) t

pub exit_or_not : (h : List Tick) (a t : ℕ) → OrNot (IsExit h a t)
exit_or_not h a t = first_or_not (Ends h a) (exit_place h a) t

-- what has started or ended was listed
pub ended_listed : (h : List Tick) (a t : ℕ) → Ends h a t → (u : ℕ) × Listed h a u
ended_listed h a t (inl q) = (t, of_weaker a Exited (seen_at h t) q)
ended_listed h a t (inr w) = (w.2.0, w.2.2)

begun_listed : (h : List Tick) (a t : ℕ) → IsStart h a t ⊎ IsExit h a t → (u : ℕ) × Listed h a u
begun_listed h a t (inl start) = (t, of_weaker a Running (seen_at h t) start.holds)
begun_listed h a t (inr exit) = ended_listed h a t exit.holds

-- the newest attempt, with one more tick ahead
ahead_cases : (x : Tick) (h : List Tick) (a t : ℕ) → Listed (x ∷ h) a t
    → IsSomeAnd x.entry (IsOf a) ⊎ ((u : ℕ) × Listed h a u)
ahead_cases x h a zero l = inl l
ahead_cases x h a (suc t) l = inr (t, l)

newest_kept : (x : Tick) (h : List Tick) (a : ℕ) → IsNewest h a → ((b : ℕ) → IsSomeAnd x.entry (IsOf b) → b ≤ a)
    → IsNewest (x ∷ h) a
newest_kept x h a n below = record {
  listed = (suc n.listed.0, n.listed.1);
  greatest = λ b t l. elim (ahead_cases x h b t l) [ inl q ↦ below b q | inr w ↦ n.greatest b w.0 w.1 ];
}

newest_ahead : (at : ℕ) (s : Seen) (h : List Tick) → ((b t : ℕ) → Listed h b t → b ≤ s.attempt)
    → IsNewest (tick at (Some s) ∷ h) s.attempt
newest_ahead at s h below = record {
  listed = (zero, refl);
  greatest = λ b t l. elim (ahead_cases (tick at (Some s)) h b t l) [
    | inl q ↦ let e : s.attempt ≡ b = q in omega arith
    | inr w ↦ below b w.0 w.1
  ];
}

-- there is a newest attempt, or none is listed
abbrev pub NewestOrNone : List Tick → Type 0
NewestOrNone h = ((a : ℕ) × IsNewest h a) ⊎ ((a t : ℕ) → Listed h a t → ⊥)

newest_more : (at : ℕ) (o : Option Seen) (h : List Tick) → NewestOrNone h → NewestOrNone (tick at o ∷ h)
newest_more at None h (inl (a, n)) = inl (a, newest_kept (tick at None) h a n (λ b q. absurd q))
newest_more at None h (inr none) =
    inr (λ a t l. elim (ahead_cases (tick at None) h a t l) [ inl q ↦ q | inr w ↦ none a w.0 w.1 ])
newest_more at (Some s) h (inr none) = inl (s.attempt, newest_ahead at s h (λ b t l. absurd (none b t l)))
newest_more at (Some s) h (inl (a, n)) = elim (cases_lt a s.attempt) [
  | inl lt ↦ inl (s.attempt, newest_ahead at s h (λ b t l. let le : b ≤ a = n.greatest b t l in omega arith))
  | inr ge ↦ inl (a, newest_kept (tick at (Some s)) h a n (λ b q. let e : s.attempt ≡ b = q in omega arith))
]

pub newest_or_none : (h : List Tick) → NewestOrNone h
newest_or_none [] = inr (λ a t l. l)
newest_or_none (x ∷ h) = newest_more x.moment x.entry h (newest_or_none h)

-- a number above all attempts
pub above_attempts : (h : List Tick) → (n : ℕ) × ((a t : ℕ) → Listed h a t → a < n)
above_attempts h = elim (newest_or_none h) [
  | inl w ↦ (suc w.0, (λ a t l. let le : a ≤ w.0 = w.1.greatest a t l in omega arith))
  | inr none ↦ (zero, (λ a t l. absurd (none a t l)))
]

-- some attempt has what only those have that were listed, or none has it
pub attempt_or_none : (h : List Tick) (R : ℕ → Type 0) → ((a : ℕ) → OrNot (R a))
    → ((a : ℕ) → R a → (t : ℕ) × Listed h a t)
    → OrNot ((a : ℕ) × R a)
attempt_or_none h R each listed =
    let n = above_attempts h in
    elim (some_below R each n.0) [
      | inl w ↦ inl (w.0, w.2)
      | inr none ↦ inr (λ (a, r). let l = listed a r in none (a, n.1 a l.0 l.1, r))
    ]

-- an instance that ends in a tick that doesn't list it was listed one tick before
pub gone_before : (h : List Tick) (a t : ℕ) → IsExit h a t → (Listed h a t → ⊥) → Listed h a (t - 1)
gone_before h a t exit gone = elim (listed_or_not h a (t - 1)) [
  | inl l ↦ l
  | inr not ↦ elim exit.holds [
    | inl q ↦ absurd (gone (of_weaker a Exited (seen_at h t) q))
    | inr (lt, _, (u, before, l)) ↦ elim (cases_lt u (t - 1)) [
      | inl less ↦ absurd (exit.none_before (t - 1) (omega arith) (inr (omega arith, not, (u, less, l))))
      | inr ge ↦ let e : u ≡ t - 1 = omega arith in absurd (not (subst (λ (v : ℕ). Listed h a v) e l))
    ]
  ]
]

-- the state of an attempt, and its code where it has ended
effective_live : (h : List Tick) (a : ℕ) (state : CriState) → IsEffective h a state → ((t : ℕ) → Ends h a t → ⊥)
    → state ≡ Exited → ⊥
effective_live h a state (inl (t, k)) none e =
    let P : CriState → Type 0 = λ s. ListedAs h a s t in none t (inl (subst P e k.here))
effective_live h a state (inr w) none e = let x : Created ≡ Exited = sym w.1 ∙ e in cc

live_state : (h : List Tick) (a : ℕ) → ((t : ℕ) → Ends h a t → ⊥) → IsState h a (effective_state h a)
live_state h a none = inr ((λ t e. none t e.holds), effective_state_is h a)

pub state_of : (h : List Tick) (a : ℕ) → (state : CriState) × IsState h a state
state_of h a = there (exit_place h a)
  where
    there : (o : Option ℕ) × IsFirstPlace (Ends h a) o → (state : CriState) × IsState h a state
    there (Some t, first) = (Exited, inl ((t, first), refl))
    there (None, none) = (effective_state h a, live_state h a none)

pub running_state_or_not : (h : List Tick) (a : ℕ) → OrNot (IsState h a Running)
running_state_or_not h a =
    let s = state_of h a in
    let P : CriState → Type 0 = λ v. IsState h a v in
    elim (state_or_not s.0).0 [
      | inl e ↦ inl (subst P e s.1)
      | inr not ↦ inr (λ runs. not (IsState-unique h a s.0 Running s.1 runs))
    ]

pub code_at : (h : List Tick) (a t : ℕ) → Ends h a t → (code : ℤ) × IsCodeAt h a code t
code_at h a t (inl q) = let k = coded a (seen_at h t) q in (k.0, inl k.1)
code_at h a t (inr w) = (killed_code, inr (w.1, refl))

-- the moment of an exit, and the run before it
pub exit_moment : (h : List Tick) (a t : ℕ) → IsExit h a t → (m : ℕ) × IsFirstMoment h (Ends h a) (Some m)
exit_moment h a t exit = let m = moment_within h t (Ends-below h a t exit.holds) in (m.0, (t, exit, m.1))

pub run_of : (h : List Tick) (a t : ℕ) → IsExit h a t → (run : ℕ) × IsRun h a run
run_of h a t exit =
    let m = exit_moment h a t exit in
    let start = start_moment h a in
    let run = m.0 - unwrap_or start.0 m.0 in
    (run, run_from h a start.0 m.0 run start.1 m.1 refl)

-- the newest instance, if one is listed
no_code : (state : CriState) → (state ≡ Exited → ⊥) → false ≡ is_exited state
no_code Exited live = absurd (live refl)
no_code Created live = refl
no_code Running live = refl
no_code Unknown live = refl

seen_by : (h : List Tick) (a : ℕ) → IsNewest h a → (o : Option ℕ) × IsFirstPlace (Ends h a) o
    → (s : Seen) × IsSeenOf h s
seen_by h a n (Some t, first) =
    let k = code_at h a t first.holds in
    let P : ℤ → Type 0 = λ c. IsExitCode h a c in (
      record { attempt = a; state = Exited; code = Some k.0; code_given = refl },
      record { newest = n; state = inl ((t, first), refl); code = λ c e. subst P (same_Some k.0 c e) (t, first, k.1) },
    )
seen_by h a n (None, none) =
    let live : effective_state h a ≡ Exited → ⊥ =
    effective_live h a (effective_state h a) (effective_state_is h a) none in (
      record { attempt = a; state = effective_state h a; code = None; code_given = no_code (effective_state h a) live },
      record { newest = n; state = live_state h a none; code = λ c e. absurd (cc) },
    )

pub newest_seen : (h : List Tick) → (o : Option Seen) × IsNewestSeen h o
newest_seen h = elim (newest_or_none h) [
  | inl w ↦ let s = seen_by h w.0 w.1 (exit_place h w.0) in (Some s.0, s.1)
  | inr none ↦ (None, none)
]

-- whether a container is set up
abbrev HasBegun : List Tick → ℕ → Type 0
HasBegun h a = (t : ℕ) × (IsStart h a t ⊎ IsExit h a t)

begun_or_not : (h : List Tick) (a : ℕ) → OrNot (HasBegun h a)
begun_or_not h a = elim (start_or_none h a) [
  | inl s ↦ inl (s.0, inl s.1)
  | inr never ↦ elim (exit_or_none h a) [
    | inl e ↦ inl (e.0, inr e.1)
    | inr stays ↦ inr (λ (t, by). elim by [ inl s ↦ never (t, s) | inr e ↦ stays (t, e) ])
  ]
]

pub set_up_or_not : (h : List Tick) → OrNot (IsSetUp h)
set_up_or_not h = elim (attempt_or_none h (HasBegun h) (begun_or_not h) (λ a w. begun_listed h a w.0 w.1)) [
  | inl w ↦ inl (w.0, w.1.0, w.1.1)
  | inr none ↦ inr (λ (a, t, by). none (a, (t, by)))
]

pub some_of_each : SomeOfEach
some_of_each = record {
  newest = newest_or_none;
  start = start_place;
  exit = exit_place;
  code = λ h a t exit. let k = code_at h a t exit.holds in (k.0, (t, exit, k.1));
  run = run_of;
  state = state_of;
}
