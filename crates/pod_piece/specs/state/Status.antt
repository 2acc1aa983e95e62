-- The status of a piece, and the events of its last tick.
use Rattle.std.specs.Prelude.{◌≡◌, ℕ, List, [], length, Option, MatchOption}
use Rattle.manifest.specs.declared.pod.PodSpec.{PodSpec}
use Rattle.pod_state.specs.declared.events.PodEvent.{PodEvent}
use Rattle.pod_state.specs.rule.Pods.{PodTick}
use Rattle.pod_state.specs.rule.Events.{AreEventsOf}
use Rattle.pod_piece.specs.declared.status.PodStatus.{PodStatus}
use Rattle.pod_piece.specs.rule.Piece.{Piece, ticks}
use Rattle.pod_piece.specs.state.Piece.{before_last, last_of, evicted_at, evicted_before}
use Rattle.pod_piece.specs.rule.Status.{IsStatusAfter, MayBeEvicted}

-- the status of a piece, after the ticks that have come into it
abbrev pub IsStatusOf : Piece → PodStatus → Type 0
IsStatusOf p status = IsStatusAfter p.number p.pod p.eviction (ticks p) status

-- the piece may be evicted by a tick of the moment
abbrev pub IsEvictableAt : ℕ → Piece → Type 0
IsEvictableAt at p = (status : PodStatus) × IsStatusOf p status × MayBeEvicted at status

-- the events of the last of these ticks, as that tick made them: an eviction in it adds none and
-- takes none away
abbrev pub AreEventsAfter : PodSpec → ℕ → Option ℕ → List PodTick → List PodEvent → Type 0
AreEventsAfter pod max_restart_delay evicted h events =
    MatchOption (last_of h) (events ≡ [])
    (λ tick. AreEventsOf pod max_restart_delay (evicted_before evicted (length (before_last h)))
    (before_last h) tick events)

-- the events of a piece
abbrev pub AreLastEvents : Piece → List PodEvent → Type 0
AreLastEvents p events = AreEventsAfter p.pod p.max_restart_delay (evicted_at p) (ticks p) events
