-- One tick, differ by differ and pod by pod.
use Rattle.std.specs.Prelude.{◌≡◌, ℕ, ◌<◌, List, [], ◌∷◌, ◌++◌, length, slice_index_or, Option, None, IsSome, Vec}
use Rattle.std.specs.Global.{Global}
use Rattle.histories.specs.rule.Histories.{recorded}
use Rattle.state_diff.specs.declared.seen.Seen.{Seen}
use Rattle.state_diff.specs.declared.differ.Differ.{Differ}
use Rattle.state_diff.specs.state.Differ.{IsStateOf, IsBefore, Accepts}
use Rattle.state_diff.specs.rule.Instances.{Tick}
use Rattle.observations.specs.declared.tick.TickObs.{TickObs}
use Rattle.observations.specs.rule.Observations.{shown_of}
use Rattle.observations.specs.state.Observations.{seen_of}

-- this many instance trackers, without any listing
pub record AreNew (count : ℕ) (differs : List Differ) : Type 0 where
  pub as_many : length differs ≡ count
  pub new : (c : ℕ) (d : Differ) → c < count → IsStateOf [] (slice_index_or differs c d)

-- of a pod, the first n differs accept what the tick lists
abbrev pub AreAccepted : TickObs → ℕ → List Differ → ℕ → Type 0
AreAccepted tick pod differs n =
    (c : ℕ) (d : Differ) → c < n → Accepts (slice_index_or differs c d) (seen_of tick pod c)

-- all differs of the first n pods do
abbrev pub PodsAreAccepted : TickObs → List (Vec Differ Global) → ℕ → Type 0
PodsAreAccepted tick differs n = (p : ℕ) (ds : Vec Differ Global) → p < n
    → AreAccepted tick p (slice_index_or differs p ds).items (length (slice_index_or differs p ds).items)

-- the listing may come next, at the moment
pub record Follows (at : ℕ) (seen : Option Seen) (differ : Differ) : Type 0 where
  pub accepted : Accepts differ seen
  pub later : IsBefore differ at

-- the differ has followed it
abbrev pub Takes : ℕ → Option Seen → Differ → Differ → Type 0
Takes at seen old new = (h : List Tick) → IsStateOf h old → IsStateOf (h ++ recorded at seen ∷ []) new

-- what the tick lists of the pod may come next
abbrev pub Follow : TickObs → ℕ → List Differ → Type 0
Follow tick pod differs = (c : ℕ) (d : Differ) → c < length differs
    → Follows tick.at (seen_of tick pod c) (slice_index_or differs c d)

-- the differs of the pod have followed it
pub record HaveTaken (tick : TickObs) (pod : ℕ) (old new : List Differ) : Type 0 where
  pub as_many : length new ≡ length old
  pub each : (c : ℕ) (d e : Differ) → c < length old
      → Takes tick.at (seen_of tick pod c) (slice_index_or old c e) (slice_index_or new c d)

-- they have it if the tick shows the pod, and are as they were if it doesn't
pub record PodHasTaken (tick : TickObs) (pod : ℕ) (old new : List Differ) : Type 0 where
  pub shown : IsSome (shown_of tick pod) → HaveTaken tick pod old new
  pub absent : shown_of tick pod ≡ None → new ≡ old

-- what the tick lists of each pod that it shows may come next
abbrev pub PodsFollow : TickObs → List (Vec Differ Global) → Type 0
PodsFollow tick differs = (p : ℕ) (ds : Vec Differ Global) → p < length differs → IsSome (shown_of tick p)
    → Follow tick p (slice_index_or differs p ds).items

-- the first n pods have followed it
pub record PodsHaveTaken (tick : TickObs) (n : ℕ) (old new : List (Vec Differ Global)) : Type 0 where
  pub as_many : length new ≡ length old
  pub each : (p : ℕ) (ds es : Vec Differ Global) → p < n
      → PodHasTaken tick p (slice_index_or old p es).items (slice_index_or new p ds).items
