-- The events of a round.
use Rattle.std.proofs.Common.{◌≡◌, ◌∙◌, inl, inr, ℕ, ◌+◌, ◌<◌, ◌≤◌, Bool, true, false, List, [], ◌∷◌, ◌++◌}
use Rattle.std.proofs.Common.{length, take, drop, Option, Some, None, refl, ap, sym, subst, arith}
use Rattle.std.specs.Prelude.{MatchOption, nat_lt, if◌then◌else◌}
use Rattle.std.proofs.lemmas.Bool.{ltb-true, cases_lt}
use Rattle.std.proofs.lemmas.List.{append-nil, append_assoc, take-append-le, drop-append-le, take-append-drop, drop_all}
use Rattle.std.proofs.lemmas.List.{length-take-le, length-drop}
use Rattle.histories.proofs.Places.{length-more}
use Rattle.manifest.specs.declared.pod.PodSpec.{PodSpec}
use Rattle.pod_state.specs.declared.events.PodEvent.{PodEvent}
use Rattle.pod_state.specs.rule.Pods.{PodTick}
use Rattle.pod_state.specs.rule.Events.{AreEventsOf}
use Rattle.pod_piece.specs.state.Piece.{before_last, last_of, evicted_before}
use Rattle.pod_piece.specs.state.Status.{AreEventsAfter}
use Rattle.pod_piece.specs.state.Made.{MadeEvent, made_at, AreMadeOver}
use Rattle.pod_piece.proofs.LastTicks.{front_more, last_more}

-- the events of the last tick, by the ticks before it
pub events_last : (pod : PodSpec) (max_restart_delay : ℕ) (evicted : Option ℕ) (h : List PodTick) (x : PodTick)
    (events : List PodEvent) → AreEventsAfter pod max_restart_delay evicted (h ++ x ∷ []) events
    → AreEventsOf pod max_restart_delay (evicted_before evicted (length h)) h x events
events_last pod max_restart_delay evicted h x events are =
    let P : List PodTick → Option PodTick → Type 0 = λ k o. MatchOption o (events ≡ [])
    (λ tick. AreEventsOf pod max_restart_delay (evicted_before evicted (length k)) k tick events) in
    subst (λ (o : Option PodTick). P h o) (last_more h x)
    (subst (λ (k : List PodTick). P k (last_of (h ++ x ∷ []))) (front_more h x) are)

-- one tick more makes its events behind the others
pub made_more : (pod : PodSpec) (max_restart_delay : ℕ) (evicted : Option ℕ) (before h : List PodTick) (x : PodTick)
    (made : List MadeEvent) (events : List PodEvent) → AreMadeOver pod max_restart_delay evicted before h made
    → AreEventsOf pod max_restart_delay (evicted_before evicted (length (before ++ h))) (before ++ h) x events
    → AreMadeOver pod max_restart_delay evicted before (h ++ x ∷ []) (made ++ made_at x.moment events)
made_more pod max_restart_delay evicted before [] x made events none are = (
  events,
  [],
  subst (λ (k : List PodTick). AreEventsOf pod max_restart_delay (evicted_before evicted (length k)) k x events)
      (append-nil before) are,
  refl,
  ap (λ (k : List MadeEvent). k ++ made_at x.moment events) none ∙ sym (append-nil (made_at x.moment events)),
)
made_more pod max_restart_delay evicted before (y ∷ h) x made events over are = (
  over.0,
  over.1 ++ made_at x.moment events,
  over.2,
  made_more pod max_restart_delay evicted (before ++ y ∷ []) h x over.1 events over.3
      (subst (λ (k : List PodTick). AreEventsOf pod max_restart_delay (evicted_before evicted (length k)) k x events)
      (sym (append_assoc before (y ∷ []) h)) are),
  ap (λ (k : List MadeEvent). k ++ made_at x.moment events) over.4
      ∙ append_assoc (made_at y.moment over.0) over.1 (made_at x.moment events),
)

-- the events of a round, by those of its earlier ticks and those of its last one
pub made_round : (pod : PodSpec) (max_restart_delay : ℕ) (evicted : Option ℕ) (begun : ℕ) (h : List PodTick)
    (x : PodTick) (made : List MadeEvent) (events : List PodEvent) → begun ≤ length h
    → AreMadeOver pod max_restart_delay evicted (take begun (h ++ x ∷ [])) (before_last (drop begun (h ++ x ∷ []))) made
    → AreEventsAfter pod max_restart_delay evicted (h ++ x ∷ []) events
    → AreMadeOver pod max_restart_delay evicted (take begun (h ++ x ∷ [])) (drop begun (h ++ x ∷ []))
    (made ++ made_at x.moment events)
made_round pod max_restart_delay evicted begun h x made events within earlier last =
    let front : take begun (h ++ x ∷ []) ≡ take begun h = take-append-le begun h (x ∷ []) within in
    let back : drop begun (h ++ x ∷ []) ≡ drop begun h ++ x ∷ [] = drop-append-le begun h (x ∷ []) within in
    let Over = λ (before k : List PodTick) (m : List MadeEvent).
    AreMadeOver pod max_restart_delay evicted before k m in
    let here : AreMadeOver pod max_restart_delay evicted (take begun h) (drop begun h) made =
    subst (λ (k : List PodTick). Over (take begun h) k made)
    (ap before_last back ∙ front_more (drop begun h) x)
    (subst (λ (k : List PodTick). Over k (before_last (drop begun (h ++ x ∷ []))) made) front earlier) in
    let now = made_more pod max_restart_delay evicted (take begun h) (drop begun h) x made events here
    (subst (λ (k : List PodTick). AreEventsOf pod max_restart_delay (evicted_before evicted (length k)) k x events)
    (sym (take-append-drop begun h)) (events_last pod max_restart_delay evicted h x events last)) in
    subst (λ (k : List PodTick). Over k (drop begun (h ++ x ∷ [])) (made ++ made_at x.moment events)) (sym front)
    (subst (λ (k : List PodTick). Over (take begun h) k (made ++ made_at x.moment events)) (sym back) now)

-- a round without ticks has no events
pub no_round : (pod : PodSpec) (max_restart_delay : ℕ) (evicted : Option ℕ) (begun : ℕ) (h : List PodTick)
    (made : List MadeEvent) → length h ≤ begun
    → AreMadeOver pod max_restart_delay evicted (take begun h) (before_last (drop begun h)) made → made ≡ []
no_round pod max_restart_delay evicted begun h made past earlier =
    subst (λ (k : List PodTick). AreMadeOver pod max_restart_delay evicted (take begun h) (before_last k) made)
    (drop_all begun h past) earlier

pub none_made : (pod : PodSpec) (max_restart_delay : ℕ) (evicted : Option ℕ) (begun : ℕ) (h : List PodTick)
    (made : List MadeEvent) → length h ≤ begun → made ≡ []
    → AreMadeOver pod max_restart_delay evicted (take begun h) (drop begun h) made
none_made pod max_restart_delay evicted begun h made past none =
    subst (λ (k : List PodTick). AreMadeOver pod max_restart_delay evicted (take begun h) k made)
    (sym (drop_all begun h past)) none

-- the earlier events of a round, as another tick comes
pub earlier_more : (pod : PodSpec) (max_restart_delay : ℕ) (evicted : Option ℕ) (begun : ℕ) (h : List PodTick)
    (x : PodTick) (made : List MadeEvent) → begun ≤ length h
    → AreMadeOver pod max_restart_delay evicted (take begun h) (drop begun h) made
    → AreMadeOver pod max_restart_delay evicted (take begun (h ++ x ∷ [])) (before_last (drop begun (h ++ x ∷ []))) made
earlier_more pod max_restart_delay evicted begun h x made within over =
    subst (λ (k : List PodTick). AreMadeOver pod max_restart_delay evicted k
    (before_last (drop begun (h ++ x ∷ []))) made) (sym (take-append-le begun h (x ∷ []) within))
    (subst (λ (k : List PodTick). AreMadeOver pod max_restart_delay evicted (take begun h) k made)
    (sym (ap before_last (drop-append-le begun h (x ∷ []) within) ∙ front_more (drop begun h) x)) over)

-- ticks up to an eviction make the same without it
not_later : (place n : ℕ) → n ≤ place → evicted_before (Some place) n ≡ None
not_later place n le = by (nat_lt place n) refl
  where
    by : (b : Bool) → nat_lt place n ≡ b → (if b then Some place else None) ≡ None
    by false e = refl
    by true e = let lt : place < n = ltb-true place n e in absurd (omega (arith, lt, le))

made_evicted : (pod : PodSpec) (max_restart_delay place : ℕ) (before h : List PodTick) (made : List MadeEvent)
    → length before + length h ≤ place → AreMadeOver pod max_restart_delay None before h made
    → AreMadeOver pod max_restart_delay (Some place) before h made
made_evicted pod max_restart_delay place before [] made le none = none
made_evicted pod max_restart_delay place before (x ∷ h) made le over = (
  over.0,
  over.1,
  subst (λ (o : Option ℕ). AreEventsOf pod max_restart_delay o before x over.0)
      (sym (not_later place (length before) (omega (arith, le)))) over.2,
  made_evicted pod max_restart_delay place (before ++ x ∷ []) h over.1 (omega (arith, le, length-more before x)) over.3,
  over.4,
)

-- so do the earlier ticks of a round whose last one evicts the pod
pub earlier_evicted : (pod : PodSpec) (max_restart_delay begun : ℕ) (h : List PodTick) (x : PodTick)
    (made : List MadeEvent) → begun ≤ length (h ++ x ∷ [])
    → AreMadeOver pod max_restart_delay None (take begun (h ++ x ∷ [])) (before_last (drop begun (h ++ x ∷ []))) made
    → AreMadeOver pod max_restart_delay (Some (length h)) (take begun (h ++ x ∷ []))
    (before_last (drop begun (h ++ x ∷ []))) made
earlier_evicted pod max_restart_delay begun h x made within earlier = elim (cases_lt begun (length (h ++ x ∷ []))) [
  | inl lt ↦
      let le : begun ≤ length h = omega (arith, lt, length-more h x) in
      let back : before_last (drop begun (h ++ x ∷ [])) ≡ drop begun h =
      ap before_last (drop-append-le begun h (x ∷ []) le) ∙ front_more (drop begun h) x in
      made_evicted pod max_restart_delay (length h) (take begun (h ++ x ∷ [])) (before_last (drop begun (h ++ x ∷ [])))
      made
      (omega (arith, length-take-le begun (h ++ x ∷ []) within, ap length back, length-drop begun h, le)) earlier
  | inr past ↦
      let none = drop_all begun (h ++ x ∷ []) past in
      subst (λ (k : List PodTick). AreMadeOver pod max_restart_delay (Some (length h)) (take begun (h ++ x ∷ []))
      (before_last k) made) (sym none)
      (subst (λ (k : List PodTick). AreMadeOver pod max_restart_delay None (take begun (h ++ x ∷ [])) (before_last k)
      made) none earlier)
]
