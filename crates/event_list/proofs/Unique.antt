-- There is one list of events.
use Rattle.std.proofs.Common.{◌≡◌, ◌∙◌, ℕ, ◌<◌, ◌≤◌, List, ◌++◌, length, take, Option, Some, None, refl}
use Rattle.std.specs.Prelude.{slice_get}
use Rattle.std.proofs.Common.{ap, sym, arith}
use Rattle.std.specs.List.{flat_map}
use Rattle.std.proofs.lemmas.Option.{slice_get_within}
use Rattle.histories.proofs.Lists.{same_places, given_at}
use Rattle.manifest.specs.declared.pod.PodSpec.{PodSpec}
use Rattle.node_config.specs.declared.node.NodeConfig.{NodeConfig}
use Rattle.observations.specs.rule.Pods.{PodObs}
use Rattle.observations.specs.declared.tick.TickObs.{TickObs}
use Rattle.observations.specs.rule.Observations.{shown_of}
use Rattle.node_signals.specs.declared.event.NodeEvent.{NodeEvent}
use Rattle.node_signals.proofs.LawLemmas.{one_list_of_node_events}
use Rattle.pod_state.specs.declared.events.PodEvent.{PodEvent}
use Rattle.pod_state.specs.rule.Pods.{pod_tick}
use Rattle.pod_state.proofs.PodEventLemmas.{one_list_of_pod_events}
use Rattle.pod_piece.specs.rule.Piece.{place_of}
use Rattle.eviction.specs.declared.eviction.Eviction.{Eviction}
use Rattle.eviction.specs.rule.Replay.{pod_ticks, own_eviction}
use Rattle.eviction.proofs.Unique.{one_choice}
use Rattle.event_list.specs.declared.event.Event.{Event}
use Rattle.event_list.specs.rule.Events.{ArePodEvents, of_pods, of_node, of_choice, AreTickEvents}
use Rattle.event_list.specs.state.Laws.{OneListOfEvents}

-- of the pods
pods_one : (config : NodeConfig) (pods : List PodSpec) (before : List TickObs) (tick : TickObs)
    (es : List (Option Eviction)) (made others : List (List PodEvent))
    → ArePodEvents config pods before tick es made → ArePodEvents config pods before tick es others → made ≡ others
pods_one config pods before tick es made others are were =
    same_places made others (are.as_many ∙ sym were.as_many) (λ n x y here there.
    let lt : n < length made = slice_get_within made n x here in
    let many : length made ≡ length tick.pods = are.as_many in
    let few : length tick.pods ≤ length pods = are.known in
    let pod = given_at pods n (omega arith) in
    by n pod.0 pod.1 x y here there (shown_of tick n) refl)
  where
    by : (n : ℕ) (pod : PodSpec) → slice_get pods n ≡ Some pod → (x y : List PodEvent)
        → slice_get made n ≡ Some x → slice_get others n ≡ Some y → (o : Option PodObs) → shown_of tick n ≡ o → x ≡ y
    by n pod at x y here there None is = are.absent n x is here ∙ sym (were.absent n y is there)
    by n pod at x y here there (Some shown) is =
        one_list_of_pod_events pod config.max_restart_delay (place_of (own_eviction n before es)) (pod_ticks before n)
        (pod_tick shown) x y (are.each n pod shown x at is here) (were.each n pod shown y at is there)

-- of a tick
tick_one : (config : NodeConfig) (pods : List PodSpec) (before : List TickObs) (tick : TickObs)
    (es : List (Option Eviction)) (events others : List Event)
    → AreTickEvents config pods before tick es events → AreTickEvents config pods before tick es others
    → events ≡ others
tick_one config pods before tick es events others are were =
    let made : are.made ≡ were.made =
    pods_one config pods before tick es are.made were.made are.are_made were.are_made in
    let node_events : are.node_events ≡ were.node_events =
    one_list_of_node_events config.eviction config.eviction_pressure_transition_period before tick
    are.node_events were.node_events are.are_node_events were.are_node_events in
    let choice : are.choice ≡ were.choice =
    one_choice config pods before tick es are.choice were.choice are.is_choice were.is_choice in
    let chosen = of_choice config.evictions_recorded tick.at in
    are.in_order
    ∙ (ap (λ (m : List (List PodEvent)). of_pods tick.at 0 m ++ (of_node tick.at are.node_events ++ chosen are.choice))
    made
    ∙ (ap (λ (n : List NodeEvent). of_pods tick.at 0 were.made ++ (of_node tick.at n ++ chosen are.choice)) node_events
    ∙ (ap (λ (o : Option Eviction). of_pods tick.at 0 were.made ++ (of_node tick.at were.node_events ++ chosen o))
    choice
    ∙ sym were.in_order)))

-- of all ticks
pub one_list_of_events : OneListOfEvents
one_list_of_events config pods ticks es events others are were =
    let parts : are.parts ≡ were.parts =
    same_places are.parts were.parts (are.as_many ∙ sym were.as_many) (λ t x y here there.
    let lt : t < length are.parts = slice_get_within are.parts t x here in
    let count : length are.parts ≡ length ticks = are.as_many in
    let tick = given_at ticks t (omega arith) in
    tick_one config pods (take t ticks) tick.0 (take t es) x y (are.each t tick.0 x tick.1 here)
    (were.each t tick.0 y tick.1 there)) in
    are.whole ∙ (ap (λ (ps : List (List Event)). flat_map (λ (p : List Event). p) ps) parts ∙ sym were.whole)
