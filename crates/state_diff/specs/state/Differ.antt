-- What a differ keeps of a container's ticks, and what one more tick changes.
use Rattle.std.specs.Prelude.{◌≡◌, ◌↔◌, ◌⊎◌, ℕ, ℤ, ◌-◌, ◌<◌, ◌≤◌, List, length, Bool, Option, Some, None, IsTrue}
use Rattle.std.specs.Prelude.{IsSome, IsSomeAnd, IfSome}
use Rattle.state_diff.specs.declared.seen.Seen.{Seen}
use Rattle.state_diff.specs.declared.instance.Instance.{Instance}
use Rattle.state_diff.specs.declared.differ.Differ.{Differ}
use Rattle.state_diff.specs.declared.differ.Changes.{Changes}
use Rattle.state_diff.specs.rule.States.{rank}
use Rattle.state_diff.specs.rule.Instances.{Tick, seen_at, Listed, IsNewest, IsEffective, IsState, IsExit, IsExitCode}
use Rattle.state_diff.specs.rule.Instances.{IsStart, IsSetUp, IsRun}
use Rattle.state_diff.specs.state.Instances.{IsAcceptable}
use Rattle.state_diff.specs.state.Instance.{IsInstanceOf}
use Rattle.histories.specs.rule.Histories.{last_moment}

-- the newest instance, if some tick lists one
abbrev pub IsNewestOf : List Tick → Option Instance → Type 0
IsNewestOf h None = (a t : ℕ) → Listed h a t → ⊥
IsNewestOf h (Some i) = IsNewest h i.attempt × IsInstanceOf h i

-- the newest instance is of the attempt, and was listed
abbrev pub IsListedBy : Option Instance → Bool → ℕ → Type 0
IsListedBy newest listed a = IsTrue listed × IsSomeAnd newest (λ i. i.attempt ≡ a)

-- the listing is of a later attempt, or goes on with the newest instance, if that was listed
abbrev pub Follows : Option Instance → Bool → Seen → Type 0
Follows None listed seen = Unit {0}
Follows (Some i) listed seen =
    (i.attempt < seen.attempt) ⊎ ((i.attempt ≡ seen.attempt) × IsTrue listed × (rank i.state ≤ rank seen.state))

-- the differ accepts the listing
abbrev pub Accepts : Differ → Option Seen → Type 0
Accepts d None = Unit {0}
Accepts d (Some seen) = Follows d.newest d.listed seen

-- the differ's last tick, if there is one, is before the moment
abbrev pub IsBefore : Differ → ℕ → Type 0
IsBefore d moment = IfSome d.last_at (λ last. last < moment)

-- the differ's value after these ticks
pub record IsStateOf (h : List Tick) (d : Differ) : Type 0 where
  pub newest : IsNewestOf h d.newest
  -- what the last tick lists is the newest instance, if the flag is true
  pub listed : (a : ℕ) → (Listed h a (length h - 1) ↔ IsListedBy d.newest d.listed a)
  pub effective : IfSome d.newest (λ i. IsTrue d.listed → IsEffective h i.attempt i.state)
  pub set_up : IsTrue d.set_up ↔ IsSetUp h
  pub accepts : (seen : Option Seen) → (Accepts d seen ↔ IsAcceptable h seen)
  pub last_at : d.last_at ≡ last_moment h

-- the listing is of the newest attempt, with its state and exit code; none is listed where there is
-- none
pub record IsSeenOf (h : List Tick) (seen : Seen) : Type 0 where
  pub newest : IsNewest h seen.attempt
  pub state : IsState h seen.attempt seen.state
  pub code : (code : ℤ) → seen.code ≡ Some code → IsExitCode h seen.attempt code

abbrev pub IsNewestSeen : List Tick → Option Seen → Type 0
IsNewestSeen h None = (a t : ℕ) → Listed h a t → ⊥
IsNewestSeen h (Some seen) = IsSeenOf h seen

-- a moment of the newest attempt, and none where none is listed
pub record IsOfNewest (h : List Tick) (P : ℕ → Option ℕ → Type 0) (o : Option ℕ) : Type 0 where
  pub some : (a : ℕ) → IsNewest h a → P a o
  pub none : ((a t : ℕ) → Listed h a t → ⊥) → o ≡ None

-- the run of the newest attempt, once it has exited
abbrev pub IsNewestRun : List Tick → Option ℕ → Type 0
IsNewestRun h None = (a t : ℕ) → IsNewest h a → IsExit h a t → ⊥
IsNewestRun h (Some run) = (a : ℕ) × IsNewest h a × IsRun h a run

-- what happens at tick t
pub record AreChanges (h : List Tick) (t : ℕ) (changes : Changes) : Type 0 where
  -- the attempt that was listed one tick before and is no longer
  pub removed : (a : ℕ) → ((changes.removed ≡ Some a) ↔ (Listed h a (t - 1) × (Listed h a t → ⊥)))
  -- some attempt exits by that
  pub removed_died : IsTrue changes.removed_died ↔ ((a : ℕ) × IsExit h a t × (Listed h a t → ⊥))
  -- the attempt that starts
  pub started : (a : ℕ) → ((changes.started ≡ Some a) ↔ IsStart h a t)
  -- the listed attempt that exits, with its code
  pub died : (a : ℕ) (code : ℤ)
      → ((changes.died ≡ Some (a, code))
      ↔ (IsExit h a t × IsSomeAnd (seen_at h t) (λ seen. (seen.attempt ≡ a) × (seen.code ≡ Some code))))

-- an instance starts or exits
abbrev pub SetsUp : Changes → Type 0
SetsUp changes = IsTrue changes.removed_died ⊎ (IsSome changes.started ⊎ IsSome changes.died)
