-- A pod, its ticks so far, and its eviction.
use Rattle.std.specs.Prelude.{ℕ, zero, suc, ◌-◌, List, length, take, Option, option_map}
use Rattle.manifest.specs.declared.pod.PodSpec.{PodSpec}
use Rattle.pod_state.specs.rule.Pods.{PodTick}
use Rattle.pod_piece.specs.declared.piece.EvictionRecord.{EvictionRecord}

-- the place of the tick that evicts a pod
abbrev pub place_of : Option EvictionRecord → Option ℕ
place_of eviction = option_map (λ (e : EvictionRecord). e.place) eviction

-- a pod, its ticks so far, and its eviction
pub record Piece : Type 0 where
  pub number : ℕ
  pub pod : PodSpec
  -- the node's maximum restart delay, in seconds
  pub max_restart_delay : ℕ
  -- every tick of the pod so far
  pub handed : List PodTick
  -- this many of the last of them are still to come into its status
  pub waiting : ℕ
  -- this many had come into it when its present round began
  pub begun : ℕ
  pub eviction : Option EvictionRecord

-- the ticks of these that have come into a pod's status, where so many of the last are still to come
abbrev pub taken : ℕ → List PodTick → List PodTick
taken zero handed = handed
taken (suc waiting) handed = take (length handed - suc waiting) handed

-- the ticks that have come into the status of a piece
abbrev pub ticks : Piece → List PodTick
ticks p = taken p.waiting p.handed

-- the piece once the oldest waiting tick has come into its status
abbrev pub updated : Piece → Piece
updated p = record p { waiting = p.waiting - 1 }
