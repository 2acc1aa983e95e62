-- Events and totals after one more tick, and one more pod.
use Rattle.std.proofs.Common.{◌≡◌, ◌∙◌, inl, inr, ℕ, zero, suc, ◌+◌, ◌<◌, ◌≤◌, List, [], ◌∷◌, ◌++◌, length, map, take}
use Rattle.std.proofs.Common.{Bool, true, false, Option, Some, None, refl, ap, sym, subst, arith, append-nil}
use Rattle.std.specs.Prelude.{slice_get}
use Rattle.std.specs.Option.{option_flatten}
use Rattle.std.specs.List.{filter, filter_map, flat_map, sum_by}
use Rattle.std.proofs.lemmas.List.{take-append-le, length-append}
use Rattle.std.proofs.lemmas.Grind.{flat_map-append}
use Rattle.std.proofs.lemmas.List.Elements.{filter-append, filter_map-append}
use Rattle.std.proofs.lemmas.List.Sums.{sum_by-cons, sum_by-append}
use Rattle.std.proofs.lemmas.Option.{slice_get_within}
use Rattle.histories.proofs.Places.{length-more}
use Rattle.histories.proofs.Lists.{place_split, take_old}
use Rattle.manifest.specs.declared.pod.PodSpec.{PodSpec}
use Rattle.node_config.specs.declared.node.NodeConfig.{NodeConfig}
use Rattle.observations.specs.rule.Pods.{PodObs}
use Rattle.observations.specs.declared.tick.TickObs.{TickObs}
use Rattle.observations.specs.rule.Observations.{all_shown}
use Rattle.node_signals.specs.declared.event.NodeEvent.{NodeEvent}
use Rattle.pod_state.specs.declared.events.PodEvent.{PodEvent}
use Rattle.eviction.specs.declared.eviction.Eviction.{Eviction}
use Rattle.eviction.proofs.Arrived.{choice_arrived}
use Rattle.totals.specs.declared.totals.Totals.{Totals}
use Rattle.totals.specs.declared.totals.Entry.{Entry}
use Rattle.totals.specs.rule.Totals.{is_order}
use Rattle.totals.specs.state.Totals.{entry_of, sums_of, plus}
use Rattle.event_list.specs.declared.event.Event.{Event}
use Rattle.event_list.specs.declared.event.EventKind.TheVariants.{Pod}
use Rattle.event_list.specs.rule.Events.{event, of_pods, of_node, of_choice, AreTickEvents, AreEvents}
use Rattle.event_list.specs.rule.Totals.{pod_events, totals_of}

-- no ticks
pub no_events : (config : NodeConfig) (pods : List PodSpec) → AreEvents config pods [] [] []
no_events config pods = record {
  parts = [];
  as_many = refl;
  each = λ t tick part at here. absurd (cc);
  whole = refl;
}

flat_more : (parts : List (List Event)) (part : List Event)
    → flat_map (λ (p : List Event). p) (parts ++ part ∷ []) ≡ flat_map (λ (p : List Event). p) parts ++ part
flat_more parts part =
    flat_map-append (λ (p : List Event). p) parts (part ∷ [])
    ∙ ap (λ (xs : List Event). flat_map (λ (p : List Event). p) parts ++ xs) (append-nil part)

-- one tick more
pub events_more : (config : NodeConfig) (pods : List PodSpec) (ticks : List TickObs) (es : List (Option Eviction))
    (evs part : List Event) (x : TickObs) (e : Option Eviction)
    → length es ≡ length ticks → AreEvents config pods ticks es evs → AreTickEvents config pods ticks x es part
    → AreEvents config pods (ticks ++ x ∷ []) (es ++ e ∷ []) (evs ++ part)
events_more config pods ticks es evs part x e many are now = record {
  parts = are.parts ++ part ∷ [];
  as_many =
      let count : length are.parts ≡ length ticks = are.as_many in
      omega (arith, length-more are.parts part, length-more ticks x);
  each = λ t tick p at here. elim (place_split ticks x tick t at) [
    | inl old ↦
        let lt : t < length ticks = slice_get_within ticks t tick old in
        let count : length are.parts ≡ length ticks = are.as_many in
        elim (place_split are.parts part p t here) [
          | inl oldest ↦
              let P : List TickObs → Type 0 = λ h. AreTickEvents config pods h tick (take t (es ++ e ∷ [])) p in
              let Q : List (Option Eviction) → Type 0 = λ g. AreTickEvents config pods (take t ticks) tick g p in
              subst P (sym (take-append-le t ticks (x ∷ []) (omega arith)))
              (subst Q (sym (take-append-le t es (e ∷ []) (omega arith))) (are.each t tick p old oldest))
          | inr w ↦ let same : t ≡ length are.parts = w.0 in absurd (omega arith)
        ]
    | inr v ↦
        let last : t ≡ length ticks = v.0 in
        let count : length are.parts ≡ length ticks = are.as_many in
        elim (place_split are.parts part p t here) [
          | inl oldest ↦ let lt : t < length are.parts = slice_get_within are.parts t p oldest in absurd (omega arith)
          | inr u ↦ this t tick p last (omega arith) v.1 u.1
        ]
  ];
  whole = ap (λ (xs : List Event). xs ++ part) are.whole ∙ sym (flat_more are.parts part);
}
  where
    this : (t : ℕ) (tick : TickObs) (p : List Event) → t ≡ length ticks → t ≡ length es → x ≡ tick → part ≡ p
        → AreTickEvents config pods (take t (ticks ++ x ∷ [])) tick (take t (es ++ e ∷ [])) p
    this t tick p last evicted same same' =
        let P : List TickObs → Type 0 = λ h. AreTickEvents config pods h tick (take t (es ++ e ∷ [])) p in
        let Q : List (Option Eviction) → Type 0 = λ g. AreTickEvents config pods ticks tick g p in
        let R : TickObs → Type 0 = λ y. AreTickEvents config pods ticks y es p in
        let S : List Event → Type 0 = λ q. AreTickEvents config pods ticks x es q in
        subst P (sym (take_old ticks x t last)) (subst Q (sym (take_old es e t evicted))
        (subst R same (subst S same' now)))

-- what is shown of a pod stands at its number
shown_within : (shown : List (Option PodObs)) (n : ℕ) (observed : PodObs)
    → option_flatten (slice_get shown n) ≡ Some observed → n < length shown
shown_within [] n observed is = absurd (cc)
shown_within (o ∷ os) zero observed is = omega arith
shown_within (o ∷ os) (suc n) observed is = let lt = shown_within os n observed is in omega (arith, lt)

-- one pod more, that no tick shows yet
pub events_arrived : (config : NodeConfig) (pods : List PodSpec) (pod : PodSpec) (ticks : List TickObs)
    (es : List (Option Eviction)) (evs : List Event)
    → AreEvents config pods ticks es evs → AreEvents config (pods ++ pod ∷ []) ticks es evs
events_arrived config pods pod ticks es evs are = record {
  parts = are.parts;
  as_many = are.as_many;
  each = λ t tick part at here.
      let now = are.each t tick part at here in
      let few : length tick.pods ≤ length pods = now.are_made.known in record {
        made = now.made;
        are_made = record {
          known =
              let few : length tick.pods ≤ length pods = now.are_made.known in
              omega (arith, length-more pods pod);
          as_many = now.are_made.as_many;
          absent = now.are_made.absent;
          each = λ n p o events found seen made.
              let few : length tick.pods ≤ length pods = now.are_made.known in
              let lt : n < length tick.pods = shown_within tick.pods n o seen in
              elim (place_split pods pod p n found) [
                | inl old ↦ now.are_made.each n p o events old seen made
                | inr v ↦ let same : n ≡ length pods = v.0 in absurd (omega arith)
              ];
        };
        node_events = now.node_events;
        are_node_events = now.are_node_events;
        choice = now.choice;
        is_choice = choice_arrived config pods pod (take t ticks) tick (take t es) now.choice few now.is_choice;
        in_order = now.in_order;
      };
  whole = are.whole;
}

pod_events-append : (xs ys : List Event) → pod_events (xs ++ ys) ≡ pod_events xs ++ pod_events ys
pod_events-append xs ys = filter_map-append _ xs ys

-- the events of one pod
of_one : (at n : ℕ) (events : List PodEvent) → pod_events (map (λ (e : PodEvent). event at (Pod n e)) events) ≡ events
of_one at n [] = refl
of_one at n (e ∷ events) = ap (λ (es : List PodEvent). e ∷ es) (of_one at n events)

-- of all pods
of_all : (at n : ℕ) (made : List (List PodEvent))
    → pod_events (of_pods at n made) ≡ flat_map (λ (events : List PodEvent). events) made
of_all at n [] = refl
of_all at n (events ∷ made) =
    pod_events-append (map (λ (e : PodEvent). event at (Pod n e)) events) (of_pods at (n + 1) made)
    ∙ (ap (λ (es : List PodEvent). es ++ pod_events (of_pods at (n + 1) made)) (of_one at n events)
    ∙ ap (λ (es : List PodEvent). events ++ es) (of_all at (n + 1) made))

-- those of the node are not of pods
none_of_node : (at : ℕ) (node_events : List NodeEvent) → pod_events (of_node at node_events) ≡ []
none_of_node at [] = refl
none_of_node at (e ∷ node_events) = none_of_node at node_events

pub none_of_choice : (recorded : Bool) (at : ℕ) (e : Option Eviction) → pod_events (of_choice recorded at e) ≡ []
none_of_choice recorded at None = refl
none_of_choice true at (Some e) = refl
none_of_choice false at (Some e) = refl

-- the events of pods in a tick
pub pods_alone : (at : ℕ) (made : List (List PodEvent)) (node_events : List NodeEvent) (recorded : Bool)
    (e : Option Eviction)
    → pod_events (of_pods at 0 made ++ (of_node at node_events ++ of_choice recorded at e))
    ≡ flat_map (λ (events : List PodEvent). events) made
pods_alone at made node_events recorded e =
    let rest : pod_events (of_node at node_events ++ of_choice recorded at e) ≡ [] =
    pod_events-append (of_node at node_events) (of_choice recorded at e)
    ∙ (ap (λ (es : List PodEvent). es ++ pod_events (of_choice recorded at e)) (none_of_node at node_events)
    ∙ none_of_choice recorded at
    e) in
    pod_events-append (of_pods at 0 made) (of_node at node_events ++ of_choice recorded at e)
    ∙ (ap (λ (es : List PodEvent). pod_events (of_pods at 0 made) ++ es) rest
    ∙ (append-nil (pod_events (of_pods at 0 made)) ∙ of_all at 0 made))

-- the pods that are shown are entered by their events, and the others have none
abbrev pub AreEnteredFor : List (Option PodObs) → List (List PodEvent) → List Entry → Type 0
AreEnteredFor [] [] [] = Unit {0}
AreEnteredFor (None ∷ shown) (events ∷ made) entries = (events ≡ []) × AreEnteredFor shown made entries
AreEnteredFor (Some observed ∷ shown) (events ∷ made) (entry ∷ entries) =
    (entry ≡ entry_of events) × AreEnteredFor shown made entries
AreEnteredFor shown made entries = ⊥

abbrev shown_in : List (Option PodObs) → List PodObs
shown_in shown = filter_map (λ (o : Option PodObs). o) shown

-- their numbers
pub record AreCounted (shown : List (Option PodObs)) (made : List (List PodEvent)) (entries : List Entry) : Type 0 where
  pub updates : length entries ≡ length (shown_in shown)
  pub events : length (flat_map (λ (events : List PodEvent). events) made)
      ≡ sum_by (λ (e : Entry). e.events) entries
  pub orders : length (filter is_order (flat_map (λ (events : List PodEvent). events) made))
      ≡ sum_by (λ (e : Entry). e.orders) entries

counted_more : (observed : PodObs) (shown : List (Option PodObs)) (events : List PodEvent)
    (made : List (List PodEvent)) (entry : Entry) (entries : List Entry) → entry ≡ entry_of events
    → AreCounted shown made entries → AreCounted (Some observed ∷ shown) (events ∷ made) (entry ∷ entries)
counted_more observed shown events made entry entries first rest =
    let flat = flat_map (λ (es : List PodEvent). es) made in
    record {
      updates = ap suc rest.updates;
      events = length-append events flat ∙ (ap (λ (n : ℕ). length events + n) rest.events
          ∙ (ap (λ (e : Entry). e.events + sum_by (λ (f : Entry). f.events) entries) (sym first)
          ∙ sym (sum_by-cons (λ (f : Entry). f.events) entry entries)));
      orders = ap length (filter-append is_order events flat)
          ∙ (length-append (filter is_order events) (filter is_order flat)
          ∙ (ap (λ (n : ℕ). length (filter is_order events) + n) rest.orders
          ∙ (ap (λ (e : Entry). e.orders + sum_by (λ (f : Entry). f.orders) entries) (sym first)
          ∙ sym (sum_by-cons (λ (f : Entry). f.orders) entry entries))));
    }

counts : (shown : List (Option PodObs)) (made : List (List PodEvent)) (entries : List Entry)
    → AreEnteredFor shown made entries → AreCounted shown made entries
counts [] [] [] are = record { updates = refl; events = refl; orders = refl }
counts [] [] (entry ∷ entries) are = absurd are
counts [] (events ∷ made) entries are = absurd are
counts (None ∷ shown) [] entries are = absurd are
counts (None ∷ shown) (events ∷ made) entries are =
    let rest = counts shown made entries are.1 in
    let flat = λ (es : List PodEvent). es ++ flat_map (λ (fs : List PodEvent). fs) made in
    record {
      updates = rest.updates;
      events = ap (λ (es : List PodEvent). length (flat es)) are.0 ∙ rest.events;
      orders = ap (λ (es : List PodEvent). length (filter is_order (flat es))) are.0 ∙ rest.orders;
    }
counts (Some observed ∷ shown) [] entries are = absurd are
counts (Some observed ∷ shown) (events ∷ made) [] are = absurd are
counts (Some observed ∷ shown) (events ∷ made) (entry ∷ entries) are =
    counted_more observed shown events made entry entries are.0 (counts shown made entries are.1)

abbrev made_of : ℕ → ℕ → ℕ → Totals
made_of updates events orders = record { updates = updates; events = events; orders = orders }

same_totals : (a b c d e f : ℕ) → a ≡ d → b ≡ e → c ≡ f → made_of a b c ≡ made_of d e f
same_totals a b c d e f ab be cf = cc

-- the totals after one more tick, whose pods made these events
pub totals_more : (ticks : List TickObs) (x : TickObs) (evs : List Event) (at : ℕ) (made : List (List PodEvent))
    (node_events : List NodeEvent) (recorded : Bool) (e : Option Eviction) (entries : List Entry)
    → AreEnteredFor x.pods made entries
    → totals_of (ticks ++ x ∷ []) (evs ++ (of_pods at 0 made ++ (of_node at node_events ++ of_choice recorded at e)))
    ≡ plus (totals_of ticks evs) (sums_of entries)
totals_more ticks x evs at made node_events recorded e entries are =
    let f : TickObs → ℕ = λ (tick : TickObs). length (all_shown tick) in
    let part = of_pods at 0 made ++ (of_node at node_events ++ of_choice recorded at e) in
    let flat = flat_map (λ (es : List PodEvent). es) made in
    let split : pod_events (evs ++ part) ≡ pod_events evs ++ flat =
    pod_events-append evs part
    ∙ ap (λ (es : List PodEvent). pod_events evs ++ es) (pods_alone at made node_events recorded e) in
    let count = counts x.pods made entries are in
    let one : sum_by f (x ∷ []) ≡ f x + 0 = sum_by-cons f x [] in
    let many : length entries ≡ f x = count.updates in
    let sums : sum_by f (ticks ++ x ∷ []) ≡ sum_by f ticks + sum_by f (x ∷ []) = sum_by-append f ticks (x ∷ []) in
    same_totals (sum_by f (ticks ++ x ∷ [])) (length (pod_events (evs ++ part)))
    (length (filter is_order (pod_events (evs ++ part))))
    (sum_by f ticks + length entries) (length (pod_events evs) + sum_by (λ (n : Entry). n.events) entries)
    (length (filter is_order (pod_events evs)) + sum_by (λ (n : Entry). n.orders) entries)
    (omega (arith, sums, one, many))
    (ap length split ∙ (length-append (pod_events evs) flat ∙ ap (λ (n : ℕ). length (pod_events evs) + n) count.events))
    (ap (λ (es : List PodEvent). length (filter is_order es)) split
    ∙ (ap length (filter-append is_order (pod_events evs) flat)
    ∙ (length-append (filter is_order (pod_events evs)) (filter is_order flat)
    ∙ ap (λ (n : ℕ). length (filter is_order (pod_events evs)) + n) count.orders)))
