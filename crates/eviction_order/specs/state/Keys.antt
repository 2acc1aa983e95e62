-- The keys of pods that are held under their numbers.
use Rattle.std.specs.Prelude.{◌≡◌, ℕ, List, Bool, Option, Some, Contains}
use Rattle.signals.specs.declared.signal.Signal.{Signal}
use Rattle.pod_piece.specs.declared.status.PodStatus.{PodStatus}
use Rattle.ranking.specs.declared.key.RankKey.{RankKey}
use Rattle.ranking.specs.state.Keys.{key_of}

-- these are the keys of exactly the pods that are held, each under its number
pub record AreKeysOf (signal : Signal) (has_dedicated_imagefs : Bool) (held : ℕ → Option PodStatus)
    (keys : List RankKey) : Type 0 where
  pub sound : (k : RankKey) → Contains keys k
      → (p : PodStatus) × (held k.number ≡ Some p) × (key_of signal has_dedicated_imagefs p ≡ k)
  pub complete : (n : ℕ) (p : PodStatus) → held n ≡ Some p → Contains keys (key_of signal has_dedicated_imagefs p)
  pub numbered : (n : ℕ) (p : PodStatus) → held n ≡ Some p → p.number ≡ n
