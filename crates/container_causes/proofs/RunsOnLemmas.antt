-- An instance that has started runs on until it exits.
use Rattle.std.proofs.Common.{◌≡◌, inl, inr, ℕ, ◌≤◌, List, [], ◌∷◌, ◌++◌, length, Option, Some, None, refl}
use Rattle.std.proofs.Common.{subst, sym, arith}
use Rattle.std.specs.Prelude.{IsSomeAnd}
use Rattle.std.proofs.lemmas.Bool.{cases_eq}
use Rattle.histories.specs.rule.Histories.{IsFirstMoment}
use Rattle.histories.proofs.First.{IsFirst-new}
use Rattle.histories.proofs.Decide.{OrNot}
use Rattle.state_diff.specs.declared.seen.Seen.{Seen}
use Rattle.state_diff.specs.declared.seen.CriState.{CriState}
use Rattle.state_diff.specs.declared.seen.CriState.TheVariants.{Created, Running, Exited, Unknown}
use Rattle.state_diff.specs.declared.instance.Instance.{Instance}
use Rattle.state_diff.specs.declared.differ.Differ.{Differ}
use Rattle.state_diff.specs.rule.States.{rank}
use Rattle.state_diff.specs.rule.Instances.{Tick, IsOf, IsOfAs, IsOfKnown, IsNewest, IsEffective, IsState}
use Rattle.state_diff.specs.rule.Instances.{IsExit, Ends}
use Rattle.state_diff.specs.state.Instances.{IsAcceptable}
use Rattle.state_diff.specs.state.Differ.{IsNewestOf, IsStateOf as IsDifferOf, Accepts}
use Rattle.state_diff.proofs.Growth.{grows_ends, IsExit-old, IsEffective-old, IsEffective-new}
use Rattle.state_diff.proofs.Unique.{IsNewest-unique}
use Rattle.containers.specs.rule.Ticks.{ContainerTick, listings}
use Rattle.containers.proofs.TickLemmas.{listing, onto, start_cases, running_now}
use Rattle.containers.proofs.FollowLemmas.{newest_before}
use Rattle.container_causes.specs.state.Watched.{RunsOn}
use Rattle.container_causes.proofs.TakenLemmas.{start_listed}

-- without an exit the newest instance has not ended
no_end : (k : List Tick) (newest : Option Instance) (a : ℕ) → IsNewestOf k newest → IsNewest k a
    → ((t : ℕ) → IsExit k a t → ⊥) → (t : ℕ) → Ends k a t → ⊥
no_end k None a none n never t ends = none a n.listed.0 n.listed.1
no_end k (Some i) a is n never t ends =
    let same : i.attempt ≡ a = IsNewest-unique k i.attempt a is.0 n in
    first i.exit (subst (λ (b : ℕ). IsFirstMoment k (Ends k b) i.exit) same is.1.exit)
  where
    first : (o : Option ℕ) → IsFirstMoment k (Ends k a) o → ⊥
    first None nowhere = nowhere t ends
    first (Some m) (u, f, at) = never u f

-- a tick by which an instance ends that had not, is its exit
ends_now : (k : List Tick) (x : Tick) (a : ℕ) → ((t : ℕ) → Ends k a t → ⊥)
    → ((t : ℕ) → IsExit (k ++ x ∷ []) a t → ⊥) → (t : ℕ) → Ends (k ++ x ∷ []) a t → ⊥
ends_now k x a none never t ends = elim ((grows_ends k a x).split t ends) [
  | inl old ↦ none t old
  | inr w ↦ never (length k) (IsFirst-new (length k) _ _ _ (grows_ends k a x) none w.1)
]

-- the running state of the newest instance is its effective one
running_effective : (k : List Tick) (a : ℕ) → IsState k a Running → IsEffective k a Running
running_effective k a (inl w) = let e : Running ≡ Exited = w.1 in absurd (cc)
running_effective k a (inr w) = w.1

-- of a running instance that has not ended, a tick that lists it leaves it running
listed_on : (k : List Tick) (x : Tick) (a : ℕ) (seen : Option Seen) → x.entry ≡ seen → IsAcceptable k seen
    → IsEffective k a Running → ((t : ℕ) → Ends (k ++ x ∷ []) a t → ⊥) → IsSomeAnd seen (IsOf a)
    → IsEffective (k ++ x ∷ []) a Running
listed_on k x a None is accepts runs none listed = absurd listed
listed_on k x a (Some s) is accepts runs none listed = by s.state refl
  where
    back : rank Running ≤ rank s.state
    back = accepts.not_back Running (subst (λ (b : ℕ). IsEffective k b Running) (sym listed) runs)

    shown : (state : CriState) → s.state ≡ state → IsSomeAnd x.entry (IsOfAs a state)
    shown state e = rw is (listed, e)

    by : (state : CriState) → s.state ≡ state → IsEffective (k ++ x ∷ []) a Running
    by Created e = let le : 1 ≤ 0 = subst (λ (state : CriState). 1 ≤ rank state) e back in absurd (omega arith)
    by Running e = IsEffective-new k a x Running (shown Running e) (λ u. cc)
    by Exited e = absurd (none (length k) ((grows_ends k a x).new (inl (shown Exited e))))
    by Unknown e =
        IsEffective-old k a x Running
        (λ known. let unknown : s.state ≡ Unknown → ⊥ = (subst (λ o. IsSomeAnd o (IsOfKnown a)) is known).1 in unknown e)
        runs

-- the newest instance that has not ended is listed
listed_still : (k : List Tick) (x : Tick) (a : ℕ) → IsNewest k a → ((t : ℕ) → Ends (k ++ x ∷ []) a t → ⊥)
    → OrNot (IsSomeAnd x.entry (IsOf a)) → IsSomeAnd x.entry (IsOf a)
listed_still k x a n none (inl listed) = listed
listed_still k x a n none (inr not) =
    absurd (none (length k) ((grows_ends k a x).new (inr (not, n.listed))))

of_or_not : (a : ℕ) (o : Option Seen) → OrNot (IsSomeAnd o (IsOf a))
of_or_not a None = inr (λ q. q)
of_or_not a (Some s) = elim (cases_eq s.attempt a) [ inl e ↦ inl e | inr ne ↦ inr ne ]

-- a running instance that does not exit in a tick is listed in it, and runs after it
pub goes_on : (k : List Tick) (d : Differ) (x : Tick) (a : ℕ) → IsDifferOf k d → Accepts d x.entry → IsNewest k a
    → IsState k a Running → ((t : ℕ) → IsExit (k ++ x ∷ []) a t → ⊥)
    → IsSomeAnd x.entry (IsOf a) × IsState (k ++ x ∷ []) a Running
goes_on k d x a is accepts n runs never =
    let before = no_end k d.newest a is.newest n (λ t e. never t (IsExit-old k a x t e)) in
    let none = ends_now k x a before never in
    let listed = listed_still k x a n none (of_or_not a x.entry) in (
      listed,
      inr (
        never,
        listed_on k x a x.entry refl ((is.accepts x.entry).0 accepts) (running_effective k a runs) none listed,
      ),
    )

-- so it runs on
pub runs_on_more : (h : List ContainerTick) (x : ContainerTick) (d : Differ) → IsDifferOf (listings h) d
    → Accepts d x.entry.seen → RunsOn h → RunsOn (h ++ x ∷ [])
runs_on_more h x d is accepts on a start n starts never =
    elim (start_cases h x a start starts) [
      | inl old ↦
          let l = start_listed h a start old in
          let before = newest_before h x a l.0 n l.1 in
          let gone : (t : ℕ) → IsExit (listings h ++ listing x ∷ []) a t → ⊥ =
          λ t e. never t (onto (λ k. IsExit k a t) h x e) in
          let runs = on a start before old (λ t e. gone t (IsExit-old (listings h) a (listing x) t e)) in
          onto (λ k. IsState k a Running) h x
          (goes_on (listings h) d (listing x) a is accepts before runs gone).1
      | inr w ↦ onto (λ k. IsState k a Running) h x (running_now (listings h) d (listing x) a is accepts w.1)
    ]

-- before any tick nothing has started
pub runs_on_none : RunsOn []
runs_on_none a start n starts never = absurd (starts.1.holds)
