-- What the records of one container show of its instances (Container Runtime Interface, `ContainerState` and
-- `ContainerMetadata.attempt`; Kubernetes, "Pod Lifecycle", "Container states"). A record is a tick, named by its place
-- in the list of all ticks so far, oldest first. Each definition is about the whole list.
use Rattle.std.specs.Prelude.{◌≡◌, ◌≢◌, ◌⊎◌, ℕ, ℤ, pos, ◌-◌, ◌<◌, ◌≤◌, List, length, unwrap_or, Option, Some}
use Rattle.std.specs.Prelude.{None, IsSomeAnd}
use Rattle.state_diff.specs.declared.seen.CriState.{CriState}
use Rattle.state_diff.specs.declared.seen.CriState.TheVariants.{Created, Running, Exited, Unknown}
use Rattle.state_diff.specs.declared.seen.Seen.{Seen}
use Rattle.histories.specs.rule.Histories.{Recorded, entry_at, IsFirst, IsFirstMoment, IsLast}

-- one tick of one container: its moment, and the instance that it lists, if any
abbrev pub Tick : Type 0
Tick = Recorded (Option Seen)

-- what an entry lists
abbrev pub listing_of : Option (Option Seen) → Option Seen
listing_of None = None
listing_of (Some seen) = seen

-- what the tick at a place lists
abbrev pub seen_at : List Tick → ℕ → Option Seen
seen_at h t = listing_of (entry_at h t)

-- the listing is of the attempt
abbrev pub IsOf : ℕ → Seen → Type 0
IsOf a seen = seen.attempt ≡ a

-- the listing is of the attempt, in the state
abbrev pub IsOfAs : ℕ → CriState → Seen → Type 0
IsOfAs a state seen = (seen.attempt ≡ a) × (seen.state ≡ state)

-- the listing is of the attempt, in a state that is known
abbrev pub IsOfKnown : ℕ → Seen → Type 0
IsOfKnown a seen = (seen.attempt ≡ a) × (seen.state ≢ Unknown)

-- tick t lists the attempt
abbrev pub Listed : List Tick → ℕ → ℕ → Type 0
Listed h a t = IsSomeAnd (seen_at h t) (IsOf a)

-- tick t lists the attempt in the state
abbrev pub ListedAs : List Tick → ℕ → CriState → ℕ → Type 0
ListedAs h a state t = IsSomeAnd (seen_at h t) (IsOfAs a state)

-- tick t lists the attempt in a state that is known
abbrev pub ListedKnown : List Tick → ℕ → ℕ → Type 0
ListedKnown h a t = IsSomeAnd (seen_at h t) (IsOfKnown a)

-- the greatest attempt that some tick lists
pub record IsNewest (h : List Tick) (a : ℕ) : Type 0 where
  pub listed : (t : ℕ) × Listed h a t
  pub greatest : (b t : ℕ) → Listed h b t → b ≤ a

-- the state of the last listing of the attempt whose state is known
pub record IsLastKnown (h : List Tick) (a : ℕ) (state : CriState) (t : ℕ) : Type 0 where
  pub last : IsLast (ListedKnown h a) t
  pub here : ListedAs h a state t

-- the effective state: the state of the last known listing, and created if there is none
abbrev pub IsEffective : List Tick → ℕ → CriState → Type 0
IsEffective h a state =
    ((t : ℕ) × IsLastKnown h a state t)
    ⊎ (((t : ℕ) → ListedKnown h a t → ⊥) × (state ≡ Created))

-- tick t lists the attempt as exited, or doesn't list it after an earlier tick did
abbrev pub Ends : List Tick → ℕ → ℕ → Type 0
Ends h a t =
    ListedAs h a Exited t
    ⊎ ((t < length h) × (Listed h a t → ⊥) × ((u : ℕ) × (u < t) × Listed h a u))

-- the exit: the least tick at which the attempt ends
abbrev pub IsExit : List Tick → ℕ → ℕ → Type 0
IsExit h a t = IsFirst (Ends h a) t

-- the start: the least tick that lists the attempt as running
abbrev pub IsStart : List Tick → ℕ → ℕ → Type 0
IsStart h a t = IsFirst (ListedAs h a Running) t

-- the code of an instance that is no longer listed: 128 and the number of the signal SIGKILL, 9
abbrev pub killed_code : ℤ
killed_code = pos 137

-- the code of the tick at a place: the one recorded there for the attempt, and 137 if it isn't
-- listed there
abbrev pub IsCodeAt : List Tick → ℕ → ℤ → ℕ → Type 0
IsCodeAt h a code t =
    IsSomeAnd (seen_at h t) (λ seen. (seen.attempt ≡ a) × (seen.code ≡ Some code))
    ⊎ ((Listed h a t → ⊥) × (code ≡ killed_code))

-- the exit's code
abbrev pub IsExitCode : List Tick → ℕ → ℤ → Type 0
IsExitCode h a code = (t : ℕ) × IsExit h a t × IsCodeAt h a code t

-- the state: exited once there is an exit, else the effective state
abbrev pub IsState : List Tick → ℕ → CriState → Type 0
IsState h a state =
    (((t : ℕ) × IsExit h a t) × (state ≡ Exited))
    ⊎ (((t : ℕ) → IsExit h a t → ⊥) × IsEffective h a state)

-- some instance has a start or an exit: the container was set up (Kubernetes, "Pod Lifecycle", "Pod
-- phase")
abbrev pub IsSetUp : List Tick → Type 0
IsSetUp h = (a t : ℕ) × (IsStart h a t ⊎ IsExit h a t)

-- the run of an instance that has exited: from its start to its exit, in seconds, and 0 without a
-- start
pub record IsRun (h : List Tick) (a : ℕ) (run : ℕ) : Type 0 where
  pub exit : ℕ
  pub exits : IsFirstMoment h (Ends h a) (Some exit)
  pub start : Option ℕ
  pub starts : IsFirstMoment h (ListedAs h a Running) start
  pub lasts : run ≡ exit - unwrap_or start exit
