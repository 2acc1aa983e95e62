-- What an index of ranks holds.
use Rattle.std.specs.Prelude.{◌≡◌, ◌≢◌, ◌⊎◌, ℕ, List, Bool, Option, Some, None, IsTrue, option_map}
use Rattle.std.specs.Map.{lookup}
use Rattle.std.specs.Ordering.{nat_cmp}
use Rattle.std.specs.BTreeMap.{is_at}
use Rattle.histories.specs.rule.Histories.{last_moment}
use Rattle.signals.specs.declared.signal.Signal.{Signal}
use Rattle.pod_piece.specs.declared.status.PodStatus.{PodStatus}
use Rattle.pod_piece.specs.rule.Piece.{Piece}
use Rattle.pod_piece.specs.rule.Status.{MayBeEvicted}
use Rattle.pod_piece.specs.state.Status.{IsStatusOf}
use Rattle.ranking.specs.declared.key.RankKey.{RankKey}
use Rattle.ranking.specs.state.Keys.{key_of}

-- the keys of the pods that are held, by their numbers
pub record Ranks : Type 0 where
  pub signal : Signal
  pub has_dedicated_imagefs : Bool
  pub keys : List (ℕ × RankKey)

-- the ranks by a signal, with these keys
abbrev pub ranks : Signal → Bool → List (ℕ × RankKey) → Ranks
ranks signal has_dedicated_imagefs keys =
    record { signal = signal; has_dedicated_imagefs = has_dedicated_imagefs; keys = keys }

-- the key under a number, if there is one
abbrev pub key_at : List (ℕ × RankKey) → ℕ → Option RankKey
key_at keys number = lookup (is_at (nat_cmp number)) keys

-- a set of keys has exactly the keys that pods have, each pod's under its number
pub record Matches (has : RankKey → Bool) (keys : ℕ → Option RankKey) : Type 0 where
  pub sound : (k : RankKey) → IsTrue (has k) → keys k.number ≡ Some k
  pub complete : (n : ℕ) (k : RankKey) → keys n ≡ Some k → IsTrue (has k)
  pub numbered : (n : ℕ) (k : RankKey) → keys n ≡ Some k → k.number ≡ n

-- the index holds exactly these pods, each under its number, with the key of its last status
pub record IsIndexOf (held : ℕ → Option PodStatus) (ranks : Ranks) : Type 0 where
  pub numbered : (n : ℕ) (p : PodStatus) → held n ≡ Some p → p.number ≡ n
  pub keyed : (n : ℕ) → key_at ranks.keys n ≡ option_map (key_of ranks.signal ranks.has_dedicated_imagefs) (held n)

-- after this the same pods are held, but for the one with this number
pub record AreHeldWithout (held : ℕ → Option PodStatus) (number : ℕ) (after : ℕ → Option PodStatus) : Type 0 where
  pub gone : after number ≡ None
  pub others : (n : ℕ) → n ≢ number → after n ≡ held n

-- after this the same pods are held, and the pod of this status with it; if a tick of the moment may not evict it, it
-- isn't held
pub record AreHeldAfter (moment : ℕ) (held : ℕ → Option PodStatus) (status : PodStatus)
    (after : ℕ → Option PodStatus) : Type 0 where
  pub out : (MayBeEvicted moment status → ⊥) → after status.number ≡ None
  pub in_place : MayBeEvicted moment status → after status.number ≡ Some status
  pub others : (n : ℕ) → n ≢ status.number → after n ≡ held n

-- the pod has its place, if it is present at the moment; else the same pods are held as before
abbrev pub IsRanked : ℕ → Piece → (ℕ → Option PodStatus) → (ℕ → Option PodStatus) → Type 0
IsRanked moment piece held after =
    ((last_moment piece.handed ≡ Some moment)
    × (status : PodStatus) × IsStatusOf piece status × AreHeldAfter moment held status after)
    ⊎ ((last_moment piece.handed ≡ Some moment → ⊥) × ((n : ℕ) → after n ≡ held n))
