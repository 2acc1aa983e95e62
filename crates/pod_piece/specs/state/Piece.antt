-- What becomes of a piece as ticks are added to it and come into its pod's status.
use Rattle.std.specs.Prelude.{ℕ, zero, suc, ◌-◌, List, [], ◌∷◌, ◌++◌, length, map, take, slice_get, nat_lt}
use Rattle.std.specs.Prelude.{Option, Some, None, if◌then◌else◌}
use Rattle.manifest.specs.declared.pod.PodSpec.{PodSpec}
use Rattle.pod_state.specs.rule.Pods.{PodTick, pod_tick}
use Rattle.observations.specs.rule.Pods.{PodObs}
use Rattle.pod_piece.specs.declared.order.EvictOrder.{EvictOrder}
use Rattle.pod_piece.specs.declared.piece.EvictionRecord.{EvictionRecord}
use Rattle.pod_piece.specs.rule.Piece.{Piece, place_of, ticks}

-- the piece of these fields, with its observations as ticks
abbrev pub piece : ℕ → PodSpec → ℕ → List PodObs → ℕ → ℕ → Option EvictionRecord → Piece
piece number pod max_restart_delay history waiting begun eviction = record {
  number = number;
  pod = pod;
  max_restart_delay = max_restart_delay;
  handed = map pod_tick history;
  waiting = waiting;
  begun = begun;
  eviction = eviction;
}

-- the pods of these pieces
abbrev pub pods_in : List Piece → List PodSpec
pods_in pieces = map (λ (piece : Piece). piece.pod) pieces

-- all ticks but the last
abbrev pub before_last : List PodTick → List PodTick
before_last h = take (length h - 1) h

-- the last tick
abbrev pub last_of : List PodTick → Option PodTick
last_of h = slice_get h (length h - 1)

-- the place of the tick that evicts the pod of a piece, if it is evicted
abbrev pub evicted_at : Piece → Option ℕ
evicted_at p = place_of p.eviction

-- the place of an evicting tick, if it is before this one
abbrev pub evicted_before : Option ℕ → ℕ → Option ℕ
evicted_before None t = None
evicted_before (Some place) t = if nat_lt place t then Some place else None

-- a pod without ticks
abbrev pub new_piece : ℕ → PodSpec → ℕ → Piece
new_piece number pod max_restart_delay = piece number pod max_restart_delay [] 0 0 None

-- where the round of a piece begins that gets a tick: a new one, after this many ticks, unless some wait
abbrev pub begun_with : ℕ → ℕ → ℕ → ℕ
begun_with zero handed begun = handed
begun_with (suc waiting) handed begun = begun

-- the piece with one more tick
abbrev pub with_tick : Piece → PodTick → Piece
with_tick p tick = record p {
  handed = p.handed ++ tick ∷ [];
  waiting = suc p.waiting;
  begun = begun_with p.waiting (length p.handed) p.begun;
}

-- the piece once all have
abbrev pub all_updated : Piece → Piece
all_updated p = record p { waiting = 0 }

-- the piece once its present round is over
abbrev pub at_rest : Piece → Piece
at_rest p = record p { begun = length (ticks p) }

-- the piece once its last tick has evicted it
abbrev pub with_eviction : Piece → EvictOrder → Piece
with_eviction p order = record p { eviction = Some (record { place = length p.handed - 1; order = order }) }

-- the piece with another number
abbrev pub with_number : Piece → ℕ → Piece
with_number p number = record p { number = number }
