-- Ticks have a list of events, whatever the evictions are.
use Rattle.std.proofs.Common.{◌≡◌, ◌∙◌, ℕ, ◌<◌, List, [], ◌++◌, length, Option, Some, None, refl, sym, subst}
use Rattle.std.proofs.Common.{arith, take}
use Rattle.std.specs.Prelude.{All, slice_get}
use Rattle.std.specs.List.{flat_map}
use Rattle.std.proofs.lemmas.Option.{get_or_from_slice_get, same_Some, slice_get_within}
use Rattle.histories.proofs.Found.{list_of}
use Rattle.histories.proofs.Lists.{given_at}
use Rattle.manifest.specs.declared.pod.PodSpec.{PodSpec}
use Rattle.node_config.specs.declared.node.NodeConfig.{NodeConfig}
use Rattle.observations.specs.rule.Pods.{PodObs}
use Rattle.observations.specs.declared.tick.TickObs.{TickObs}
use Rattle.observations.specs.rule.Observations.{shown_of}
use Rattle.node_signals.proofs.Exists.{some_list_of_node_events}
use Rattle.pod_state.specs.declared.events.PodEvent.{PodEvent}
use Rattle.pod_state.specs.rule.Pods.{pod_tick}
use Rattle.pod_state.specs.rule.Events.{AreEventsOf}
use Rattle.pod_state.proofs.EventFoundLemmas.{some_list_of_events as some_of_pod}
use Rattle.pod_piece.specs.rule.Piece.{place_of}
use Rattle.eviction.specs.declared.eviction.Eviction.{Eviction}
use Rattle.eviction.specs.rule.Replay.{pod_ticks, own_eviction}
use Rattle.eviction.proofs.Exists.{some_choice}
use Rattle.event_list.specs.declared.event.Event.{Event}
use Rattle.event_list.specs.rule.Events.{ArePodEvents, of_pods, of_node, of_choice, AreTickEvents}
use Rattle.event_list.specs.state.Laws.{ShowsKnownPods, HaveProbesInRange, HasProbesInRange, SomeListOfEvents}

-- what holds of all items holds of the one at a place
all_at : {A : Type 0} (P : A → Type 0) (xs : List A) (n : ℕ) (x : A) → All P xs → slice_get xs n ≡ Some x → P x
all_at P xs n x all here =
    subst P (get_or_from_slice_get xs n x x here) (all n x (slice_get_within xs n x here))

-- of a pod that has arrived: those of what the tick shows, or none
pub record AreOfPod (config : NodeConfig) (pods : List PodSpec) (before : List TickObs) (tick : TickObs)
    (es : List (Option Eviction)) (n : ℕ) (events : List PodEvent) : Type 0 where
  pub present : (pod : PodSpec) (shown : PodObs) → slice_get pods n ≡ Some pod → shown_of tick n ≡ Some shown
      → AreEventsOf pod config.max_restart_delay (place_of (own_eviction n before es)) (pod_ticks before n)
      (pod_tick shown) events
  pub absent : shown_of tick n ≡ None → events ≡ []

of_pod : (config : NodeConfig) (pods : List PodSpec) (before : List TickObs) (tick : TickObs)
    (es : List (Option Eviction))
    → HaveProbesInRange pods → ShowsKnownPods pods tick → (n : ℕ) → n < length tick.pods
    → (events : List PodEvent) × AreOfPod config pods before tick es n events
of_pod config pods before tick es range known n lt = by (shown_of tick n) refl
  where
    by : (o : Option PodObs) → shown_of tick n ≡ o
        → (events : List PodEvent) × AreOfPod config pods before tick es n events
    by None is = (
      [],
      record {
        present = λ p s here there. absurd (let w : None ≡ Some s = sym is ∙ there in cc);
        absent = λ none. refl;
      },
    )
    by (Some shown) is =
        let pod = given_at pods n (omega arith) in
        let evicted = place_of (own_eviction n before es) in
        let h = pod_ticks before n in
        let events = some_of_pod pod.0 config.max_restart_delay evicted h (pod_tick shown)
        (all_at HasProbesInRange pods n pod.0 range pod.1) in
        let Of : PodSpec → PodObs → Type 0 =
        λ p s. AreEventsOf p config.max_restart_delay evicted h (pod_tick s) events.0 in (
          events.0,
          record {
            present = λ p s here there.
                subst (Of p) (same_Some shown s (sym is ∙ there))
                (subst (λ q. Of q shown) (same_Some pod.0 p (sym pod.1 ∙ here)) events.1);
            absent = λ none. absurd (let w : Some shown ≡ None = sym is ∙ none in cc);
          },
        )

some_pod_events : (config : NodeConfig) (pods : List PodSpec) (before : List TickObs) (tick : TickObs)
    (es : List (Option Eviction))
    → HaveProbesInRange pods → ShowsKnownPods pods tick
    → (made : List (List PodEvent)) × ArePodEvents config pods before tick es made
some_pod_events config pods before tick es range known =
    let Of : ℕ → List PodEvent → Type 0 = AreOfPod config pods before tick es in
    let made = list_of Of (length tick.pods) (of_pod config pods before tick es range known) in
    let at : (n : ℕ) (events : List PodEvent) → slice_get made.0 n ≡ Some events → Of n events = λ n events is.
    let lt : n < length made.0 = slice_get_within made.0 n events is in
    let many : length made.0 ≡ length tick.pods = made.1 in
    subst (Of n) (get_or_from_slice_get made.0 n events events is) (made.2 n events (omega (arith, lt, many))) in (
      made.0,
      record {
        known = known;
        as_many = made.1;
        each = λ n pod shown events here there is. (at n events is).present pod shown here there;
        absent = λ n events none is. (at n events is).absent none;
      },
    )

-- of a tick
some_tick_events : (config : NodeConfig) (pods : List PodSpec) (before : List TickObs) (tick : TickObs)
    (es : List (Option Eviction))
    → HaveProbesInRange pods → ShowsKnownPods pods tick
    → (events : List Event) × AreTickEvents config pods before tick es events
some_tick_events config pods before tick es range known =
    let made = some_pod_events config pods before tick es range known in
    let node_events =
    some_list_of_node_events config.eviction config.eviction_pressure_transition_period before tick in
    let choice = some_choice config pods before tick es in
    let named = of_choice config.evictions_recorded tick.at choice.0 in (
      of_pods tick.at 0 made.0 ++ (of_node tick.at node_events.0 ++ named),
      record {
        made = made.0;
        are_made = made.1;
        node_events = node_events.0;
        are_node_events = node_events.1;
        choice = choice.0;
        is_choice = choice.1;
        in_order = refl;
      },
    )

pub some_list_of_events : SomeListOfEvents
some_list_of_events config pods ticks es known range =
    let parts = list_of Of (length ticks) each in
    let many : length parts.0 ≡ length ticks = parts.1 in (
      flat_map (λ (part : List Event). part) parts.0,
      record {
        parts = parts.0;
        as_many = parts.1;
        each = λ t tick part at here.
            let lt : t < length parts.0 = slice_get_within parts.0 t part here in
            subst (Of t) (get_or_from_slice_get parts.0 t part part here) (parts.2 t part (omega (arith, lt, many)))
            tick at;
        whole = refl;
      },
    )
  where
    -- of the tick at the place
    Of : ℕ → List Event → Type 0
    Of t part =
        (tick : TickObs) → slice_get ticks t ≡ Some tick
        → AreTickEvents config pods (take t ticks) tick (take t es) part

    each : (t : ℕ) → t < length ticks → (part : List Event) × Of t part
    each t lt =
        let tick = given_at ticks t lt in
        let part = some_tick_events config pods (take t ticks) tick.0 (take t es) range
        (all_at (ShowsKnownPods pods) ticks t tick.0 known tick.1) in (
          part.0,
          λ other at.
              subst (λ (x : TickObs). AreTickEvents config pods (take t ticks) x (take t es) part.0)
              (same_Some tick.0 other (sym tick.1 ∙ at)) part.1,
        )
