-- The events of a piece's round: of the ticks that came into its status since the round began.
use Rattle.std.specs.Prelude.{◌≡◌, ℕ, ◌-◌, List, [], ◌∷◌, ◌++◌, length, map, take, drop, Option}
use Rattle.std.specs.List.{flat_map}
use Rattle.manifest.specs.declared.pod.PodSpec.{PodSpec}
use Rattle.pod_state.specs.declared.events.PodEvent.{PodEvent}
use Rattle.pod_state.specs.rule.Pods.{PodTick}
use Rattle.pod_state.specs.rule.Events.{AreEventsOf}
use Rattle.pod_piece.specs.declared.made.MadeTick.{MadeTick}
use Rattle.pod_piece.specs.rule.Piece.{Piece, ticks}
use Rattle.pod_piece.specs.state.Piece.{before_last, evicted_at, evicted_before}

-- an event of a pod, at its moment
pub record MadeEvent : Type 0 where
  pub at : ℕ
  pub event : PodEvent

-- the events of a tick of this moment
abbrev pub made_at : ℕ → List PodEvent → List MadeEvent
made_at at events = map (λ (e : PodEvent). record { at = at; event = e }) events

-- the events of these ticks, one after the other
abbrev pub made_of : List MadeTick → List MadeEvent
made_of made = flat_map (λ (tick : MadeTick). made_at tick.at tick.events.items) made

-- the events of these ticks of a pod, which come after those before them, each as its tick made it
abbrev pub AreMadeOver : PodSpec → ℕ → Option ℕ → List PodTick → List PodTick → List MadeEvent → Type 0
AreMadeOver pod max_restart_delay evicted before [] made = made ≡ []
AreMadeOver pod max_restart_delay evicted before (tick ∷ h) made =
    (events : List PodEvent) × (rest : List MadeEvent)
    × AreEventsOf pod max_restart_delay (evicted_before evicted (length before)) before tick events
    × AreMadeOver pod max_restart_delay evicted (before ++ tick ∷ []) h rest
    × (made ≡ made_at tick.moment events ++ rest)

-- how many ticks have come into its status since its round began
abbrev pub round_length : Piece → ℕ
round_length p = length (ticks p) - p.begun

-- those ticks
abbrev pub round_of : Piece → List PodTick
round_of p = drop p.begun (ticks p)

-- the events of its round
abbrev pub AreRoundEvents : Piece → List MadeEvent → Type 0
AreRoundEvents p made =
    AreMadeOver p.pod p.max_restart_delay (evicted_at p) (take p.begun (ticks p)) (round_of p) made

-- the events of its round, except the events of the last tick
abbrev pub AreEarlierEvents : Piece → List MadeTick → Type 0
AreEarlierEvents p made =
    AreMadeOver p.pod p.max_restart_delay (evicted_at p) (take p.begun (ticks p)) (before_last (round_of p))
    (made_of made)
