-- The events of a pod, one place and one container more.
use Rattle.std.proofs.Common.{◌≡◌, ◌∙◌, inl, inr, ℕ, suc, ◌+◌, ◌<◌, List, [], ◌∷◌, ◌++◌, length, take, get_or}
use Rattle.std.proofs.Common.{Bool, Option, Some, None, ap, sym, arith}
use Rattle.std.specs.Prelude.{option_map}
use Rattle.std.proofs.Math.Seq.{take-suc}
use Rattle.std.proofs.lemmas.List.{append_assoc, append-nil, length-take-le}
use Rattle.std.proofs.lemmas.List.Elements.{filter_map-append}
use Rattle.histories.proofs.Lists.{same_items}
use Rattle.histories.proofs.TheOne.{IsTheOne-unique}
use Rattle.phase.specs.declared.phase.Phase.{Phase}
use Rattle.containers.specs.declared.pod_event_kind.PodEventKind.{PodEventKind}
use Rattle.containers.specs.declared.events.ContainerEvents.{ContainerEvents}
use Rattle.pod_state.specs.declared.events.PodEvent.{PodEvent}
use Rattle.containers.specs.rule.Events.{AreEvents}
use Rattle.containers.proofs.LawLemmas.{one_list_of_events}
use Rattle.manifest.specs.declared.pod.ContainerSpec.{ContainerSpec}
use Rattle.manifest.specs.declared.pod.PodSpec.{PodSpec}
use Rattle.pod_state.specs.rule.Pods.{PodTick, ticks_of}
use Rattle.pod_state.specs.rule.Events.{IsMadeOf, ChangesPhase, AreEventsOfLivePod, coming_in, places, events_at}
use Rattle.pod_state.specs.rule.Events.{events_from, is_leaving}
use Rattle.pod_state.specs.state.Laws.{NoEventsAfterTheEnd, OneListOfEvents}
use Rattle.pod_state.proofs.TickLemmas.{whatever, together}
use Rattle.pod_state.proofs.Left.{left_unique}

-- the items up to a place, and the item there
taken_more : {A : Type 0} (xs : List A) (i : ℕ) (d : A) → i < length xs → take (i + 1) xs ≡ take i xs
    ++ get_or xs i d ∷ []
taken_more xs i d lt = ap (λ n. take n xs) {x = i + 1} {y = suc i} (omega arith) ∙ take-suc xs i d lt

-- the events of one place more
pub place_more : (container : Option ℕ) (places : List (Option PodEventKind)) (place : Option PodEventKind)
    (old new after : List PodEvent) → new ≡ old ++ events_at container places
    → after ≡ new ++ events_at container (place ∷ []) → after ≡ old ++ events_at container (places ++ place ∷ [])
place_more container places place old new after so_far here =
    here ∙ ap (λ es. es ++ events_at container (place ∷ [])) so_far
    ∙ append_assoc old (events_at container places) (events_at container (place ∷ []))
    ∙ ap (λ es. old ++ es)
    (sym (filter_map-append (option_map (λ kind. record { container = container; kind = kind })) places (place ∷ [])))

from_more : (phase : Phase) (leaving : Bool) (n : ℕ) (made : List ContainerEvents) (next : ContainerEvents)
    → events_from phase leaving n (made ++ next ∷ [])
    ≡ events_from phase leaving n made ++ events_at (Some (n + length made)) (places (coming_in phase leaving next))
from_more phase leaving n [] next =
    append-nil _
    ∙ ap (λ k. events_at (Some k) (places (coming_in phase leaving next))) {x = n} {y = n + 0} (omega arith)
from_more phase leaving n (x ∷ xs) next =
    let first = events_at (Some n) (places (coming_in phase leaving x)) in
    let last = λ (k : ℕ). events_at (Some k) (places (coming_in phase leaving next)) in
    ap (λ es. first ++ es) (from_more phase leaving (n + 1) xs next)
    ∙ sym (append_assoc first (events_from phase leaving (n + 1) xs) (last (n + 1 + length xs)))
    ∙ ap (λ k. (first ++ events_from phase leaving (n + 1) xs) ++ last k) {x = n + 1 + length xs}
    {y = n + suc (length xs)} (omega arith)

pub containers_more : (phase : Phase) (leaving : Bool) (made : List ContainerEvents) (i : ℕ) (d : ContainerEvents)
    (old new : List PodEvent) → i < length made
    → old ≡ events_from phase leaving 0 (take i made)
    → new ≡ old ++ events_at (Some i) (places (coming_in phase leaving (get_or made i d)))
    → new ≡ events_from phase leaving 0 (take (i + 1) made)
containers_more phase leaving made i d old new lt so_far here =
    let next = get_or made i d in
    let last = λ (k : ℕ). events_at (Some k) (places (coming_in phase leaving next)) in
    here ∙ ap (λ es. es ++ last i) so_far
    ∙ ap (λ k. events_from phase leaving 0 (take i made) ++ last k) {x = i} {y = 0 + length (take i made)}
    (omega (arith, length-take-le i made (omega (arith, lt))))
    ∙ sym (from_more phase leaving 0 (take i made) next)
    ∙ ap (λ xs. events_from phase leaving 0 xs) (sym (taken_more made i d lt))

-- a pod that has ended makes none
pub no_events_after_the_end : NoEventsAfterTheEnd
no_events_after_the_end pod max_restart_delay evicted before tick events ended is = elim is [
  | inl none ↦ none.1
  | inr w ↦ absurd (w.0 ended)
]

-- there is one list of them
made_one : (pod : PodSpec) (max_restart_delay : ℕ) (before : List PodTick) (tick : PodTick) (number : ℕ)
    (made other : ContainerEvents) → IsMadeOf pod max_restart_delay before tick number made
    → IsMadeOf pod max_restart_delay before tick number other → made ≡ other
made_one pod max_restart_delay before tick number made other is was =
    let h = ticks_of (before ++ tick ∷ []) number in
    let A : ContainerEvents → ContainerSpec
    → Type 0 = λ es spec. AreEvents pod.policy max_restart_delay spec h (length before)
    es in
    whatever pod number (λ spec. made ≡ other) (made ≡ other) (λ spec e. e)
    (together pod number (A made) (A other) (λ spec. made ≡ other)
    (λ spec one two. one_list_of_events pod.policy max_restart_delay spec h (length before) made other one two) is was)

one_list_of_live_pod : (pod : PodSpec) (max_restart_delay : ℕ) (evicted : Option ℕ) (before : List PodTick)
    (tick : PodTick)
    (events others : List PodEvent) → AreEventsOfLivePod pod max_restart_delay evicted before tick events
    → AreEventsOfLivePod pod max_restart_delay evicted before tick others → events ≡ others
one_list_of_live_pod pod max_restart_delay evicted before tick events others one two =
    let made : one.made ≡ two.made = same_items one.made two.made (one.are_made.as_many ∙ sym two.are_made.as_many)
    (λ n d lt. made_one pod max_restart_delay before tick n _ _
    (one.are_made.each n d (omega (arith, one.are_made.as_many)))
    (two.are_made.each n d (omega (arith, one.are_made.as_many)))) in
    let phase : one.phase ≡ two.phase = left_unique pod before tick one.phase two.phase one.is_phase two.is_phase in
    let change : one.change ≡ two.change = IsTheOne-unique (ChangesPhase pod evicted before tick) one.change two.change
    one.changes two.changes in
    let leaving = is_leaving before tick in
    one.in_order ∙ ap (λ (p : Phase). events_from p leaving 0 one.made ++ events_at None (one.change ∷ [])) phase
    ∙ ap (λ (ms : List ContainerEvents). events_from two.phase leaving 0 ms ++ events_at None (one.change ∷ [])) made
    ∙ ap (λ (c : Option PodEventKind). events_from two.phase leaving 0 two.made ++ events_at None (c ∷ [])) change
    ∙ sym two.in_order

pub one_list_of_pod_events : OneListOfEvents
one_list_of_pod_events pod max_restart_delay evicted before tick events others is was = elim is [
  | inl none ↦ elim was [
    | inl never ↦ none.1 ∙ sym never.1
    | inr w ↦ absurd (w.0 none.0)
  ]
  | inr v ↦ elim was [
    | inl never ↦ absurd (v.0 never.0)
    | inr w ↦ one_list_of_live_pod pod max_restart_delay evicted before tick events others v.1 w.1
  ]
]
