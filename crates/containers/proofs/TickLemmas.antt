-- What one more tick makes of the listings.
use Rattle.std.proofs.Common.{◌≡◌, ◌⊎◌, inl, inr, ℕ, ◌-◌, ◌<◌, ◌≤◌, List, [], ◌∷◌, ◌++◌, length, Option, Some, None}
use Rattle.std.proofs.Common.{subst, sym, ◌∙◌, arith}
use Rattle.std.specs.Prelude.{◌↔◌, IsSomeAnd}
use Rattle.histories.specs.rule.Histories.{moment_at, IsFirst, IsFirstMoment}
use Rattle.histories.proofs.First.{Grows, IsFirst-old, IsFirst-new, IsFirst-split, IsFirst-unique}
use Rattle.histories.proofs.Moments.{moment_within}
use Rattle.histories.proofs.Places.{length-more, project-append, length-project, moment_at-old, moment_at-new}
use Rattle.observations.specs.declared.container.ContainerObs.{ContainerObs}
use Rattle.state_diff.specs.rule.States.{rank}
use Rattle.state_diff.specs.declared.seen.Seen.{Seen}
use Rattle.state_diff.specs.declared.seen.CriState.{CriState}
use Rattle.state_diff.specs.declared.seen.CriState.TheVariants.{Running, Exited}
use Rattle.state_diff.specs.declared.instance.Instance.{Instance}
use Rattle.state_diff.specs.declared.differ.Differ.{Differ}
use Rattle.state_diff.specs.rule.Instances.{Tick, seen_at, IsOf, IsOfAs, Listed, ListedAs, IsNewest, IsState, IsExit}
use Rattle.state_diff.specs.state.Instances.{tick}
use Rattle.state_diff.specs.rule.Instances.{Ends}
use Rattle.state_diff.specs.state.Differ.{IsNewestOf, IsListedBy, Follows, IsStateOf as IsDifferOf}
use Rattle.state_diff.specs.state.Differ.{Accepts as DifferAccepts}
use Rattle.state_diff.proofs.Places.{added}
use Rattle.state_diff.proofs.Growth.{grows_seen, grows_ends, IsEffective-new}
use Rattle.state_diff.proofs.Listings.{of_weaker, exited_of}
use Rattle.state_diff.proofs.Found.{ended_listed}
use Rattle.state_diff.proofs.Events.{now}
use Rattle.containers.specs.rule.Ticks.{ContainerTick, listings, StartsAt}

-- a tick as its listing
abbrev pub listing : ContainerTick → Tick
listing x = tick x.moment x.entry.seen

pub listings_more : (h : List ContainerTick) (x : ContainerTick) → listings (h ++ x ∷ []) ≡ listings h ++ listing x ∷ []
listings_more h x = project-append (λ (observed : ContainerObs). observed.seen) h x

pub long : (h : List ContainerTick) → length (listings h) ≡ length h
long h = length-project (λ (observed : ContainerObs). observed.seen) h

-- what is said of the listings with one more tick
pub onto : (P : List Tick → Type 0) (h : List ContainerTick) (x : ContainerTick) → P (listings h ++ listing x ∷ [])
    → P (listings (h ++ x ∷ []))
onto P h x p = subst P (sym (listings_more h x)) p

pub from : (P : List Tick → Type 0) (h : List ContainerTick) (x : ContainerTick) → P (listings (h ++ x ∷ []))
    → P (listings h ++ listing x ∷ [])
from P h x p = subst P (listings_more h x) p

-- the same at the place of the new tick
pub onto_at : (P : List Tick → ℕ → Type 0) (h : List ContainerTick) (x : ContainerTick)
    → P (listings h ++ listing x ∷ []) (length (listings h)) → P (listings (h ++ x ∷ [])) (length h)
onto_at P h x p = let Q : ℕ → Type 0 = λ t. P (listings (h ++ x ∷ [])) t in
    subst Q (long h) (onto (λ k. P k (length (listings h))) h x p)

pub from_at : (P : List Tick → ℕ → Type 0) (h : List ContainerTick) (x : ContainerTick)
    → P (listings (h ++ x ∷ [])) (length h) → P (listings h ++ listing x ∷ []) (length (listings h))
from_at P h x p = let Q : ℕ → Type 0 = λ t. P (listings (h ++ x ∷ [])) t in from (λ k. P k (length (listings h))) h x
    (subst Q (sym (long h)) p)

-- the last place of a history with one more tick
pub last_place : (h : List ContainerTick) (x : ContainerTick) → length (h ++ x ∷ []) - 1 ≡ length h
last_place h x = omega (arith, length-more h x)

pub seen_now : (Q : Seen → Type 0) (h : List ContainerTick) (x : ContainerTick)
    → (IsSomeAnd (seen_at (listings (h ++ x ∷ [])) (length h)) Q ↔ IsSomeAnd x.entry.seen Q)
seen_now Q h x = (
  (λ q. now Q (listings h) (listing x) (from_at (λ k t. IsSomeAnd (seen_at k t) Q) h x q)),
  (λ q. onto_at (λ k t. IsSomeAnd (seen_at k t) Q) h x (added Q (listings h) (listing x) q)),
)

-- an instance that is listed is the newest
pub newest_listed : (k : List Tick) (d : Differ) (a : ℕ) → IsDifferOf k d → Listed k a (length k - 1) → IsNewest k a
newest_listed k d a is l = there d.newest is.newest ((is.listed a).0 l)
  where
    there : (newest : Option Instance) → IsNewestOf k newest → IsListedBy newest d.listed a → IsNewest k a
    there None none w = absurd w.1
    there (Some i) n w = let P : ℕ → Type 0 = λ b. IsNewest k b in subst P w.1 n.0

pub newest_now : (h : List ContainerTick) (x : ContainerTick) (d : Differ) (a : ℕ)
    → IsDifferOf (listings (h ++ x ∷ [])) d → IsSomeAnd x.entry.seen (IsOf a) → IsNewest (listings (h ++ x ∷ [])) a
newest_now h x d a is q =
    let P : ℕ → Type 0 = λ t. Listed (listings (h ++ x ∷ [])) a t in
    let e : length h ≡ length (listings (h ++ x ∷ [])) - 1 = omega (arith, long (h ++ x ∷ []), length-more h x) in
    newest_listed (listings (h ++ x ∷ [])) d a is (subst P e ((seen_now (IsOf a) h x).1 q))

-- of an attempt that has ended none is accepted as running
ended_not_running : (k : List Tick) (d : Differ) (s : Seen) (a t : ℕ) → IsDifferOf k d → DifferAccepts d (Some s)
    → Ends k a t → s.attempt ≡ a → s.state ≡ Running → ⊥
ended_not_running k d s a t is accepts ends same runs = there d.newest is.newest accepts
  where
    there : (newest : Option Instance) → IsNewestOf k newest → Follows newest d.listed s → ⊥
    there None none f = let l = ended_listed k a t ends in none a l.0 l.1
    there (Some i) n (inl lt) =
        let l = ended_listed k a t ends in
        let le : a ≤ i.attempt = n.0.greatest a l.0 l.1 in omega arith
    there (Some i) n (inr w) =
        let e : a ≡ i.attempt = sym (w.0 ∙ same) in
        let P : ℕ → Type 0 = λ b. Ends k b t in
        let mine : Ends k i.attempt t = subst P e ends in
        let some : i.exit ≡ None
        → ⊥ = λ none. (let Q : Option ℕ → Type 0 = λ o. IsFirstMoment k (Ends k i.attempt) o in
        let f : IsFirstMoment k (Ends k i.attempt) None = subst Q none n.1.exit in f t mine) in
        let exited : i.state ≡ Exited = exited_of k i.attempt i.state i.exit some n.1.exit n.1.state in
        let R : CriState → Type 0 = λ c. rank c ≤ rank s.state in
        let S : CriState → Type 0 = λ c. rank Exited ≤ rank c in
        let two : 2 ≤ 1 = subst S runs (subst R exited w.2) in
        omega arith

both_states : (a : ℕ) (o : Option Seen) → IsSomeAnd o (IsOfAs a Running) → IsSomeAnd o (IsOfAs a Exited) → ⊥
both_states a None q r = q
both_states a (Some s) q r = let e : Running ≡ Exited = sym q.1 ∙ r.1 in cc

accepted_at : (k : List Tick) (d : Differ) (o : Option Seen) (a t : ℕ) → IsDifferOf k d → DifferAccepts d o
    → Ends k a t → IsSomeAnd o (IsOfAs a Running) → ⊥
accepted_at k d None a t is accepts ends q = q
accepted_at k d (Some s) a t is accepts ends q = ended_not_running k d s a t is accepts ends q.0 q.1

-- so one that is listed as running is running
pub running_now : (k : List Tick) (d : Differ) (x : Tick) (a : ℕ) → IsDifferOf k d → DifferAccepts d x.entry
    → IsSomeAnd x.entry (IsOfAs a Running)
    → IsState (k ++ x ∷ []) a Running
running_now k d x a is accepts q = inr (none, IsEffective-new k a x Running q (λ e. cc))
  where
    none : (t : ℕ) → IsExit (k ++ x ∷ []) a t → ⊥
    none t e = elim ((grows_ends k a x).split t e.holds) [
      | inl old ↦ accepted_at k d x.entry a t is accepts old q
      | inr w ↦ elim (w.1) [ inl r ↦ both_states a x.entry q r | inr v ↦ v.0 (of_weaker a Running x.entry q) ]
    ]

-- an exited instance does not start
pub not_started : (k : List Tick) (d : Differ) (x : Tick) (a t : ℕ) → IsDifferOf k d → DifferAccepts d x.entry
    → Ends k a t → IsSomeAnd x.entry (IsOfAs a Running) → ⊥
not_started k d x a t is accepts ends q = accepted_at k d x.entry a t is accepts ends q

-- a first moment that is there stays
pub moment_kept : (k : List Tick) (x : Tick) (P Q : ℕ → Type 0) (now : Type 0) (m : ℕ) → Grows (length k) P Q now
    → IsFirstMoment k P (Some m) → IsFirstMoment (k ++ x ∷ []) Q (Some m)
moment_kept k x P Q now m g (t, f, e) = (t, IsFirst-old (length k) P Q now g t f, moment_at-old k x t m e)

-- it was there before, or is that of the new tick
pub moment_cases : (k : List Tick) (x : Tick) (P Q : ℕ → Type 0) (now : Type 0) (m : ℕ) → Grows (length k) P Q now
    → IsFirstMoment (k ++ x ∷ []) Q (Some m)
    → IsFirstMoment k P (Some m) ⊎ ((m ≡ x.moment) × now × ((u : ℕ) → P u → ⊥))
moment_cases k x P Q now m g (t, f, e) = elim (IsFirst-split (length k) P Q now g t f) [
  | inl old ↦ inl (t, old, before t old)
  | inr w ↦
      let R : ℕ → Type 0 = λ u. moment_at (k ++ x ∷ []) u ≡ Some m in
      let both : Some x.moment ≡ Some m = sym (moment_at-new k x) ∙ subst R w.0 e in
      inr (cc, w.1, w.2)
]
  where
    moved : (u : ℕ) → IsFirst P u → moment_at (k ++ x ∷ []) u ≡ Some m
    moved u old = let R : ℕ → Type 0 = λ v. moment_at (k ++ x ∷ []) v ≡ Some m in
        subst R (IsFirst-unique Q t u f (IsFirst-old (length k) P Q now g u old)) e

    before : (t : ℕ) → IsFirst P t → moment_at k t ≡ Some m
    before t old =
        let lt : t < length k = g.below t old.holds in
        let n = moment_within k t lt in
        let both : Some n.0 ≡ Some m = sym (moment_at-old k x t n.0 n.1) ∙ moved t old in
        let same : n.0 ≡ m = cc in
        let S : ℕ → Type 0 = λ v. moment_at k t ≡ Some v in
        subst S same n.1

pub moment_new : (k : List Tick) (x : Tick) (P Q : ℕ → Type 0) (now : Type 0) → Grows (length k) P Q now → now
    → ((u : ℕ) → P u → ⊥) → IsFirstMoment (k ++ x ∷ []) Q (Some x.moment)
moment_new k x P Q now g w none = (length k, IsFirst-new (length k) P Q now g none w, moment_at-new k x)

-- the start of an instance stays, and it was there before or is at the new tick
pub start_kept : (h : List ContainerTick) (x : ContainerTick) (a start : ℕ) → StartsAt h a start
    → StartsAt (h ++ x ∷ []) a start
start_kept h x a start s =
    onto (λ k. IsFirstMoment k (ListedAs k a Running) (Some start)) h x
    (moment_kept (listings h) (listing x) _ _ _ start (grows_seen (IsOfAs a Running) (listings h) (listing x)) s)

pub start_cases : (h : List ContainerTick) (x : ContainerTick) (a start : ℕ) → StartsAt (h ++ x ∷ []) a start
    → StartsAt h a start ⊎ ((start ≡ x.moment) × IsSomeAnd x.entry.seen (IsOfAs a Running)
    × ((u : ℕ) → ListedAs (listings h) a Running u → ⊥))
start_cases h x a start s =
    moment_cases (listings h) (listing x) _ _ _ start (grows_seen (IsOfAs a Running) (listings h) (listing x))
    (from (λ k. IsFirstMoment k (ListedAs k a Running) (Some start)) h x s)
