-- What the exits of one more tick make of the back-off.
use Rattle.std.proofs.Common.{◌≡◌, ◌⊎◌, inl, inr, ℕ, ℤ, ◌-◌, Bool, true, List, [], ◌∷◌, ◌++◌, length, Option, Some}
use Rattle.std.proofs.Common.{None, refl, subst, sym}
use Rattle.std.specs.Prelude.{IsSome, IsSomeAnd, if◌then◌else◌, unwrap_or}
use Rattle.std.specs.Option.{option_and}
use Rattle.histories.specs.rule.Histories.{IsFirstMoment}
use Rattle.state_diff.specs.declared.seen.CriState.TheVariants.{Running}
use Rattle.state_diff.specs.declared.differ.Differ.{Differ}
use Rattle.state_diff.specs.declared.differ.Changes.{Changes}
use Rattle.state_diff.specs.rule.Instances.{Tick, ListedAs, IsNewest, IsExit}
use Rattle.state_diff.specs.state.Differ.{IsOfNewest, IsNewestRun, IsStateOf as IsDifferOf, Accepts as DifferAccepts}
use Rattle.state_diff.specs.state.Differ.{AreChanges}
use Rattle.state_diff.proofs.Growth.{grows_ends}
use Rattle.restarts.specs.declared.backoff.Backoff.{Backoff}
use Rattle.restarts.specs.rule.Exits.{Exit}
use Rattle.restarts.specs.rule.Delays.{IsDelay}
use Rattle.restarts.specs.state.Backoff.{IsStateOf as IsBackoffOf}
use Rattle.containers.specs.rule.Ticks.{ContainerTick, listings}
use Rattle.containers.specs.rule.Exits.{AreExits}
use Rattle.containers.specs.state.Step.{exits_at, AreCounted}
use Rattle.containers.proofs.TickLemmas.{listing, onto, from, from_at}
use Rattle.containers.proofs.ExitLemmas.{gone_more, died_more, exit_cases, dies_newest}

-- where an instance exits, one of both has a run
some_run : (k : List Tick) (d : Differ) (x : Tick) (changes : Changes) (start run left died : Option ℕ)
    → IsDifferOf (k ++ x ∷ []) d → AreChanges (k ++ x ∷ []) (length k) changes
    → IsNewestRun (k ++ x ∷ []) run
    → left ≡ (if changes.removed_died then Some (x.moment - unwrap_or start x.moment) else None)
    → died ≡ option_and changes.died run
    → (a : ℕ) → IsExit (k ++ x ∷ []) a (length k) → IsSome left ⊎ IsSome died
some_run k d x changes start run left died is are runs left_is died_is a e = elim (exit_cases k x a (length k, e)) [
  | inl p ↦ elim p [
    | inl old ↦
        let g = grows_ends k a x in
        absurd (e.none_before old.0 (g.below old.0 old.1.holds) (g.old old.0 old.1.holds))
    | inr gone ↦
        let t : changes.removed_died ≡ true = are.removed_died.1 (a, gone.0, gone.1) in
        let P : Bool → Type 0 = λ b. left ≡ (if b then Some (x.moment - unwrap_or start x.moment) else None) in
        let s : left ≡ Some (x.moment - unwrap_or start x.moment) = subst P t left_is in
        let Q : Option ℕ → Type 0 = λ o. IsSome o in
        inl (subst Q (sym s) refl)
  ]
  | inr w ↦
      let code = w.0 in
      let s : changes.died ≡ Some (a, code) = (are.died a code).1 w.1 in
      let P : Option (ℕ × ℤ) → Type 0 = λ o. died ≡ option_and o run in
      let same : died ≡ run = subst P s died_is in
      let Q : Option ℕ → Type 0 = λ o. IsSome o in
      inr (subst Q (sym same) (there run runs (dies_newest k d x a code is w.1)))
]
  where
    there : (run : Option ℕ) → IsNewestRun (k ++ x ∷ []) run → IsNewest (k ++ x ∷ []) a → IsSome run
    there None none n = absurd (none a (length k) n e)
    there (Some r) ran n = refl

-- the back-off after the tick
pub counted_more : (max_restart_delay : ℕ) (h : List ContainerTick) (x : ContainerTick) (exits : List Exit)
    (d after : Differ)
    (changes : Changes) (start run left died delay : Option ℕ) (backoff : Backoff)
    → IsDifferOf (listings h) d → IsDifferOf (listings (h ++ x ∷ [])) after → DifferAccepts d x.entry.seen
    → AreChanges (listings (h ++ x ∷ [])) (length h) changes
    → AreExits (listings h) exits
    → IsOfNewest (listings h) (λ a. IsFirstMoment (listings h) (ListedAs (listings h) a Running)) start
    → IsNewestRun (listings (h ++ x ∷ [])) run
    → left ≡ (if changes.removed_died then Some (x.moment - unwrap_or start x.moment) else None)
    → died ≡ option_and changes.died run
    → IsBackoffOf max_restart_delay ((exits ++ exits_at x.moment left) ++ exits_at x.moment died) backoff
    → (IsSome left ⊎ IsSome died
    → IsSomeAnd delay (λ n. IsDelay max_restart_delay ((exits ++ exits_at x.moment left) ++ exits_at x.moment died) n))
    → AreCounted max_restart_delay h x backoff delay
counted_more max_restart_delay h x exits d after changes start run left died delay backoff is is_after accepts
    are_changes are
    first runs left_is died_is counted delayed =
    let k = listings h in
    let y = listing x in
    let now : IsDifferOf (k ++ y ∷ []) after = from (λ k. IsDifferOf k after) h x is_after in
    let changed : AreChanges (k ++ y ∷ []) (length k) changes = from_at (λ k t. AreChanges k t changes) h x
    are_changes in
    let ran : IsNewestRun (k ++ y ∷ []) run = from (λ k. IsNewestRun k run) h x runs in
    let gone = gone_more k d x.moment x.entry.seen exits start changes.removed_died is accepts first
    ((λ t. let w = changed.removed_died.0 t in (w.0, (w.1, w.2))), (λ w. changed.removed_died.1 (w.0, w.1.0, w.1.1)))
    are in
    let all = died_more k after y
    (exits ++ exits_at x.moment (if changes.removed_died then Some (x.moment - unwrap_or start x.moment) else
    None)) changes.died run now changed.died ran gone in
    let P : Option ℕ → Option ℕ → Type 0 = λ o p. AreExits (k ++ y ∷ [])
    ((exits ++ exits_at x.moment o) ++ exits_at x.moment p) in
    let both : AreExits (k ++ y ∷ []) ((exits ++ exits_at x.moment left) ++ exits_at x.moment died) =
    subst (λ p. P left p) (sym died_is) (subst (λ o. P o (option_and changes.died run)) (sym left_is) all) in
    record {
      exits = (exits ++ exits_at x.moment left) ++ exits_at x.moment died;
      are_exits = onto (λ k. AreExits k ((exits ++ exits_at x.moment left) ++ exits_at x.moment died)) h x both;
      counted = counted;
      delayed = λ a e. delayed (some_run k after y changes start run left died now changed ran left_is died_is a
          (from_at (λ k t. IsExit k a t) h x e));
    }
