-- Which listings are acceptable (this profile's rule on the records of a Container Runtime
-- Interface), as a test that computes over all earlier records.
use Rattle.std.specs.Prelude.{ℕ, Bool, true, false, ◌==◌, nat_le, ◌&&◌, ◌||◌, not, ◌-◌, List, [], ◌∷◌, length, Option}
use Rattle.std.specs.Prelude.{Some, None, if◌then◌else◌}
use Rattle.std.specs.List.{list_all, list_any}
use Rattle.state_diff.specs.declared.seen.CriState.{CriState}
use Rattle.state_diff.specs.declared.seen.CriState.TheVariants.{Created}
use Rattle.state_diff.specs.declared.seen.Seen.{Seen}
use Rattle.state_diff.specs.rule.States.{rank, is_known}
use Rattle.state_diff.specs.rule.Instances.{Tick, seen_at}

-- whether the listing is of the attempt
abbrev pub is_of : ℕ → Option Seen → Bool
is_of a None = false
is_of a (Some seen) = seen.attempt == a

-- whether the listing is of this attempt or an older one; so is no listing
abbrev pub is_at_most : ℕ → Option Seen → Bool
is_at_most a None = true
is_at_most a (Some seen) = nat_le seen.attempt a

-- the last known state of the attempt after a listing, from the one before it
abbrev pub known_after : ℕ → CriState → Option Seen → CriState
known_after a before None = before
known_after a before (Some seen) = if seen.attempt == a && is_known seen.state then seen.state else before

-- the last known state of the attempt after these ticks, from the one before them
abbrev pub last_known : ℕ → CriState → List Tick → CriState
last_known a before [] = before
last_known a before (x ∷ h) = last_known a (known_after a before x.entry) h

-- the effective state: the last known one, and created if there is none
abbrev pub effective_state : List Tick → ℕ → CriState
effective_state h a = last_known a Created h

-- the listing's attempt isn't below one that was listed before
abbrev pub is_not_older : List Tick → ℕ → Bool
is_not_older h a = list_all (λ x. is_at_most a x.entry) h

-- where the attempt was listed before, the last tick lists it
abbrev pub is_not_gone : List Tick → ℕ → Bool
is_not_gone h a = not (list_any (λ x. is_of a x.entry) h) || is_of a (seen_at h (length h - 1))

-- the state isn't below the attempt's effective state
abbrev pub is_not_back : List Tick → ℕ → CriState → Bool
is_not_back h a state = nat_le (rank (effective_state h a)) (rank state)

-- whether the listing, if there is one, may come after these ticks
abbrev pub is_acceptable : List Tick → Option Seen → Bool
is_acceptable h None = true
is_acceptable h (Some seen) =
    is_not_older h seen.attempt && (is_not_gone h seen.attempt && is_not_back h seen.attempt seen.state)
