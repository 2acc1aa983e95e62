-- The run of an instance.
use Rattle.std.proofs.Common.{◌≡◌, ℕ, ◌-◌, List, Option, Some, None, refl, subst}
use Rattle.std.specs.Prelude.{IsSomeAnd, IfSome, ◌↔◌, unwrap_or}
use Rattle.histories.specs.rule.Histories.{IsFirstMoment}
use Rattle.histories.proofs.First.{none_at}
use Rattle.state_diff.specs.declared.seen.CriState.TheVariants.{Running}
use Rattle.state_diff.specs.declared.instance.Instance.{Instance}
use Rattle.state_diff.specs.rule.Instances.{Tick, ListedAs, Ends, IsNewest, IsRun}
use Rattle.state_diff.specs.state.Instance.{IsInstanceOf}
use Rattle.state_diff.specs.state.Differ.{IsNewestOf, IsNewestRun}
use Rattle.state_diff.proofs.Unique.{IsNewest-unique}

-- the run, from the moments of the start and the exit
pub run_from : (h : List Tick) (a : ℕ) (start : Option ℕ) (exit run : ℕ) → IsFirstMoment h (ListedAs h a Running)
    start → IsFirstMoment h (Ends h a) (Some exit)
    → run ≡ exit - unwrap_or start exit → IsRun h a run
run_from h a start exit run s e is = record { exit = exit; exits = e; start = start; starts = s; lasts = is }

pub run_of_none : (h : List Tick) (newest : Option Instance) → newest ≡ None → IsNewestOf h newest → IsNewestRun h None
run_of_none h None e none = λ a t n x. none a n.listed.0 n.listed.1
run_of_none h (Some i) e is = absurd (cc)

pub run_of_newest : (h : List Tick) (newest : Option Instance) (i : Instance) (run : Option ℕ) → newest ≡ Some i
    → IsNewestOf h newest
    → ((run ≡ None) ↔ (i.exit ≡ None))
    → IfSome run (λ r. IsSomeAnd i.exit (λ exit. r ≡ exit - unwrap_or i.start exit)) → IsNewestRun h run
run_of_newest h newest i run e is none some = there i run (rw e at is).0 (rw e at is).1 none some
  where
    there : (i : Instance) (run : Option ℕ) → IsNewest h i.attempt → IsInstanceOf h i
        → ((run ≡ None) ↔ (i.exit ≡ None))
        → IfSome run (λ r. IsSomeAnd i.exit (λ exit. r ≡ exit - unwrap_or i.start exit)) → IsNewestRun h run
    there i None n st none some =
        λ a t m x. none_at h _ i.exit (none.0 refl) st.exit t (let P : ℕ → Type 0 = λ b. Ends h b t in
        subst P (IsNewest-unique h a i.attempt m n) x.holds)
    there i (Some r) n st none some = (i.attempt, n, at i.exit st.exit some)
      where
        at : (o : Option ℕ) → IsFirstMoment h (Ends h i.attempt) o
            → IsSomeAnd o (λ exit. r ≡ exit - unwrap_or i.start exit) → IsRun h i.attempt r
        at None f w = absurd w
        at (Some exit) f w = run_from h i.attempt i.start exit r st.start f w
