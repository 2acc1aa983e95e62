-- A tick makes events of a pod, or the pod had ended before it.
use Rattle.std.proofs.Common.{◌≡◌, ◌∙◌, inl, inr, ℕ, ◌<◌, List, [], ◌∷◌, ◌++◌, length, Option, Some, None}
use Rattle.std.proofs.Common.{refl, sym, ap, subst}
use Rattle.std.specs.Prelude.{All, slice_get, unwrap_or}
use Rattle.std.proofs.lemmas.Option.{get_or_from_slice_get}
use Rattle.histories.specs.rule.TheOne.{IsTheOne}
use Rattle.histories.specs.rule.Histories.{recorded}
use Rattle.histories.proofs.Decide.{OrNot}
use Rattle.histories.proofs.Found.{list_of}
use Rattle.histories.proofs.Places.{length-project}
use Rattle.histories.proofs.Lists.{given_at}
use Rattle.histories.proofs.TheOne.{IsTheOne-exists}
use Rattle.manifest.specs.declared.pod.ContainerSpec.{ContainerSpec}
use Rattle.manifest.specs.declared.pod.PodSpec.{PodSpec}
use Rattle.phase.specs.declared.phase.Phase.{Phase}
use Rattle.phase.specs.declared.phase.Phase.TheVariants.{Pending, Running, Succeeded, Failed}
use Rattle.probes.specs.state.Container.{AreInRange}
use Rattle.containers.specs.declared.pod_event_kind.PodEventKind.{PodEventKind}
use Rattle.containers.specs.declared.pod_event_kind.PodEventKind.TheVariants as kinds
use Rattle.containers.specs.declared.events.ContainerEvents.{ContainerEvents}
use Rattle.containers.specs.rule.Ticks.{ContainerTick}
use Rattle.containers.specs.rule.Events.{AreEvents}
use Rattle.containers.proofs.EventFoundLemmas.{some_list_of_events as some_of_container}
use Rattle.pod_state.specs.declared.events.PodEvent.{PodEvent}
use Rattle.pod_state.specs.rule.Pods.{PodEntry, PodTick, ticks_of, unseen, HasEnded, IsEnd, IsPhase}
use Rattle.pod_state.specs.rule.Events.{IsMadeOf, ChangesPhase, AreEventsOfLivePod, events_from, events_at}
use Rattle.pod_state.specs.rule.Events.{is_leaving}
use Rattle.pod_state.specs.state.Laws.{SomeListOfEvents}
use Rattle.pod_state.proofs.TickLemmas.{of_spec, ticks_more}
use Rattle.pod_state.proofs.EndLemmas.{IsPhase-unique}
use Rattle.pod_state.proofs.FoundLemmas.{some_end, some_phase}
use Rattle.pod_state.proofs.Left.{left_unique, some_left}

-- what the tick makes of a container
made_of : (pod : PodSpec) (max_restart_delay : ℕ) (before : List PodTick) (tick : PodTick) (number : ℕ)
    (spec : ContainerSpec)
    → AreInRange spec.probes
    → (made : ContainerEvents)
    × AreEvents pod.policy max_restart_delay spec (ticks_of (before ++ tick ∷ []) number) (length before) made
made_of pod max_restart_delay before tick number spec range =
    let x : ContainerTick = recorded tick.moment (unwrap_or (slice_get tick.entry.containers number) unseen) in
    let w = some_of_container pod.policy max_restart_delay spec (ticks_of before number) x range in
    let long : length (ticks_of before number) ≡ length before =
    length-project (λ (entry : PodEntry). unwrap_or (slice_get entry.containers number) unseen) before in
    let P : List ContainerTick → Type 0 =
    λ h. AreEvents pod.policy max_restart_delay spec h (length (ticks_of before number)) w.0 in
    let Q : ℕ
    → Type 0 = λ t. AreEvents pod.policy max_restart_delay spec (ticks_of (before ++ tick ∷ []) number) t w.0 in
    (w.0, subst Q long (subst P (sym (ticks_more before tick number)) w.1))

in_range_at : (containers : List ContainerSpec) (number : ℕ) (spec : ContainerSpec)
    → All (λ spec. AreInRange spec.probes) containers
    → number < length containers → slice_get containers number ≡ Some spec → AreInRange spec.probes
in_range_at containers number spec range lt is =
    let same = get_or_from_slice_get containers number spec spec is in
    subst (λ (s : ContainerSpec). AreInRange s.probes) same (range number spec lt)

made_at : (pod : PodSpec) (max_restart_delay : ℕ) (before : List PodTick) (tick : PodTick)
    → All (λ spec. AreInRange spec.probes) pod.containers
    → (number : ℕ) → number < length pod.containers
    → (made : ContainerEvents) × IsMadeOf pod max_restart_delay before tick number made
made_at pod max_restart_delay before tick range number lt =
    let spec = given_at pod.containers number lt in
    let w = made_of pod max_restart_delay before tick number spec.0
    (in_range_at pod.containers number spec.0 range lt spec.1) in
    let P : ContainerSpec → Type 0 =
    λ s. AreEvents pod.policy max_restart_delay s (ticks_of (before ++ tick ∷ []) number) (length before) w.0 in
    (w.0, of_spec pod number P spec.0 spec.1 w.1)

-- the change of the phase
same_phase_or_not : (p q : Phase) → OrNot (p ≡ q)
same_phase_or_not Pending Pending = inl refl
same_phase_or_not Running Running = inl refl
same_phase_or_not Succeeded Succeeded = inl refl
same_phase_or_not Failed Failed = inl refl
same_phase_or_not p q = inr (λ e. cc)

was_phase_or_not : (pod : PodSpec) (evicted : Option ℕ) (h : List PodTick) (p : Phase) → OrNot (IsPhase pod evicted h p)
was_phase_or_not pod evicted h p =
    let q = some_phase pod evicted h in
    elim (same_phase_or_not q.0 p) [
      | inl e ↦ inl (subst (λ (r : Phase). IsPhase pod evicted h r) e q.1)
      | inr not ↦ inr (λ is. not (IsPhase-unique pod evicted h q.0 p q.1 is))
    ]

change_one : (pod : PodSpec) (evicted : Option ℕ) (before : List PodTick) (tick : PodTick) (v w : PodEventKind)
    → ChangesPhase pod evicted before tick v → ChangesPhase pod evicted before tick w → v ≡ w
change_one pod evicted before tick v w (p, e, left, not) (q, f, left', not') =
    e ∙ ap (λ r. kinds.Phase r) (left_unique pod before tick p q left left') ∙ sym f

change_event : (pod : PodSpec) (evicted : Option ℕ) (before : List PodTick) (tick : PodTick)
    → (event : Option PodEventKind) × IsTheOne (ChangesPhase pod evicted before tick) event
change_event pod evicted before tick =
    IsTheOne-exists (ChangesPhase pod evicted before tick) some (change_one pod evicted before tick)
  where
    some : OrNot ((kind : PodEventKind) × ChangesPhase pod evicted before tick kind)
    some =
        let left = some_left pod before tick in
        elim (was_phase_or_not pod evicted before left.0) [
          | inr not ↦ inl (kinds.Phase left.0, (left.0, refl, left.1, not))
          | inl was ↦ inr (λ (kind, (p, e, is, not)).
              let same = left_unique pod before tick left.0 p left.1 is in
              not (subst (λ (r : Phase). IsPhase pod evicted before r) same was))
        ]

-- the events of a tick of a pod that lives
some_events_of_live_pod : (pod : PodSpec) (max_restart_delay : ℕ) (evicted : Option ℕ) (before : List PodTick)
    (tick : PodTick)
    → All (λ spec. AreInRange spec.probes) pod.containers
    → (events : List PodEvent) × AreEventsOfLivePod pod max_restart_delay evicted before tick events
some_events_of_live_pod pod max_restart_delay evicted before tick range =
    let made =
    list_of (IsMadeOf pod max_restart_delay before tick) (length pod.containers)
    (made_at pod max_restart_delay before tick range) in
    let left = some_left pod before tick in
    let change = change_event pod evicted before tick in (
      events_from left.0 (is_leaving before tick) 0 made.0 ++ events_at None (change.0 ∷ []),
      record {
        made = made.0;
        are_made = record { as_many = made.1; each = made.2 };
        phase = left.0;
        is_phase = left.1;
        change = change.0;
        changes = change.1;
        in_order = refl;
      },
    )

ended_or_not : (pod : PodSpec) (evicted : Option ℕ) (h : List PodTick) (o : Option ℕ) → IsEnd pod evicted h o
    → OrNot (HasEnded pod evicted h)
ended_or_not pod evicted h (Some t) end = inl (t, end)
ended_or_not pod evicted h None lives = inr (λ (t, end). lives t end.holds)

pub some_list_of_events : SomeListOfEvents
some_list_of_events pod max_restart_delay evicted before tick range =
    let end = some_end pod evicted before in
    elim (ended_or_not pod evicted before end.0 end.1) [
      | inl ended ↦ ([], inl (ended, refl))
      | inr lives ↦ let those =
          some_events_of_live_pod pod max_restart_delay evicted before tick range in (those.0, inr (lives, those.1))
    ]
