-- The event `evicted` of a tick is the eviction that the list has at the tick.
use Rattle.std.proofs.Common.{◌≡◌, ◌∙◌, ℕ, ◌+◌, Bool, true, false, List, [], ◌∷◌, ◌++◌, take, Option, Some, None}
use Rattle.std.proofs.Common.{refl, ap, sym, subst}
use Rattle.std.proofs.Common.{◌⊎◌, inl, inr}
use Rattle.std.specs.Prelude.{All, Contains, map}
use Rattle.std.proofs.lemmas.List.Elements.{All-nil, All-append, All-map, All-push, All-contains}
use Rattle.std.proofs.lemmas.List.Elements.{Contains-append_right, Contains-append_cases, Contains-push}
use Rattle.std.proofs.lemmas.List.Elements.{Contains-push_cases}
use Rattle.std.proofs.lemmas.Option.{none-some, same_Some}
use Rattle.node_signals.specs.declared.event.NodeEvent.{NodeEvent}
use Rattle.pod_state.specs.declared.events.PodEvent.{PodEvent}
use Rattle.eviction.specs.declared.eviction.Eviction.{Eviction}
use Rattle.eviction.specs.rule.Replay.{unless_recorded}
use Rattle.eviction.proofs.Unique.{one_choice}
use Rattle.event_list.specs.declared.event.Event.{Event}
use Rattle.event_list.specs.declared.event.EventKind.{EventKind}
use Rattle.event_list.specs.declared.event.EventKind.TheVariants.{Pod, Node, Evicted, Named}
use Rattle.event_list.specs.rule.Events.{event, of_pods, of_node, of_choice}
use Rattle.event_list.specs.state.Laws.{EvictedAsListed}

abbrev evicted_by_kind : EventKind → Option Eviction
evicted_by_kind (Pod number e) = None
evicted_by_kind (Node e) = None
evicted_by_kind (Evicted e) = Some e
evicted_by_kind (Named e) = None

-- the eviction that an event is of, if it is `evicted`
abbrev evicted_by : Event → Option Eviction
evicted_by e = evicted_by_kind e.kind

abbrev IsOther : Event → Type 0
IsOther e = evicted_by e ≡ None

-- the events of pods are others
of_pods_other : (at n : ℕ) (made : List (List PodEvent)) → All IsOther (of_pods at n made)
of_pods_other at n [] = All-nil IsOther
of_pods_other at n (events ∷ made) =
    All-append IsOther (map (λ (e : PodEvent). event at (Pod n e)) events) (of_pods at (n + 1) made)
    (All-map IsOther (λ (e : PodEvent). event at (Pod n e)) events (λ i d lt. refl)) (of_pods_other at (n + 1) made)

-- and so are those of the node
of_node_other : (at : ℕ) (events : List NodeEvent) → All IsOther (of_node at events)
of_node_other at events = All-map IsOther (λ (e : NodeEvent). event at (Node e)) events (λ i d lt. refl)

-- other events hold no `evicted`
not_among : (events : List Event) → All IsOther events → (at : ℕ) (e : Eviction)
    → Contains events (event at (Evicted e)) → ⊥
not_among events other at e among =
    none-some e (sym (All-contains IsOther events (event at (Evicted e)) other among))

-- a choice makes the event `evicted` just when it is carried out
by_choice : (recorded : Bool) (at : ℕ) (choice : Option Eviction) (e : Eviction)
    → (Contains (of_choice recorded at choice) (event at (Evicted e)) → unless_recorded recorded choice ≡ Some e)
    × (unless_recorded recorded choice ≡ Some e → Contains (of_choice recorded at choice) (event at (Evicted e)))
by_choice true at None e =
    ((λ among. absurd (not_among [] (All-nil IsOther) at e among)), (λ is. absurd (none-some e is)))
by_choice false at None e =
    ((λ among. absurd (not_among [] (All-nil IsOther) at e among)), (λ is. absurd (none-some e is)))
by_choice true at (Some c) e = (
  (λ among. absurd (not_among (event at (Named c) ∷ [])
      (All-push IsOther [] (event at (Named c)) (All-nil IsOther) refl) at e among)),
  (λ is. absurd (none-some e is)),
)
by_choice false at (Some c) e = (
  (λ among. by (Contains-push_cases [] (event at (Evicted c)) (event at (Evicted e)) among)),
  (λ is. subst (λ (x : Eviction). Contains (event at (Evicted c) ∷ []) (event at (Evicted x))) (same_Some c e is)
      (Contains-push [] (event at (Evicted c)))),
)
  where
    by : Contains [] (event at (Evicted e)) ⊎ (event at (Evicted c) ≡ event at (Evicted e)) → Some c ≡ Some e
    by (inl among) = absurd (not_among [] (All-nil IsOther) at e among)
    by (inr same) = ap evicted_by same

-- of all events of a tick
pub evicted_as_listed : EvictedAsListed
evicted_as_listed config pods ticks evictions t tick listed events e replay at here are =
    let round = replay.each t tick listed at here in
    let chosen : round.choice ≡ are.choice =
    one_choice config pods (take t ticks) tick (take t evictions) round.choice are.choice round.is_choice
    are.is_choice in
    let carried : listed ≡ unless_recorded config.evictions_recorded are.choice =
    round.is_carried ∙ ap (unless_recorded config.evictions_recorded) chosen in
    let pair = by_choice config.evictions_recorded tick.at are.choice e in
    let pod_events = of_pods tick.at 0 are.made in
    let node_events = of_node tick.at are.node_events in
    let last = of_choice config.evictions_recorded tick.at are.choice in
    let evicted = event tick.at (Evicted e) in (
      (λ among. carried ∙ pair.0 (late pod_events node_events last e tick.at
          (of_pods_other tick.at 0 are.made) (of_node_other tick.at are.node_events)
          (subst (λ (es : List Event). Contains es evicted) are.in_order among))),
      (λ is. subst (λ (es : List Event). Contains es evicted) (sym are.in_order)
          (Contains-append_right pod_events (node_events ++ last) evicted
          (Contains-append_right node_events last evicted (pair.1 (sym carried ∙ is))))),
    )
  where
    late : (first second last : List Event) (e : Eviction) (at : ℕ) → All IsOther first → All IsOther second
        → Contains (first ++ (second ++ last)) (event at (Evicted e)) → Contains last (event at (Evicted e))
    late first second last e at other others among =
        by (Contains-append_cases first (second ++ last) (event at (Evicted e)) among)
      where
        again : Contains second (event at (Evicted e)) ⊎ Contains last (event at (Evicted e))
            → Contains last (event at (Evicted e))
        again (inl among) = absurd (not_among second others at e among)
        again (inr among) = among

        by : Contains first (event at (Evicted e)) ⊎ Contains (second ++ last) (event at (Evicted e))
            → Contains last (event at (Evicted e))
        by (inl among) = absurd (not_among first other at e among)
        by (inr among) = again (Contains-append_cases second last (event at (Evicted e)) among)
