-- The events of ticks, put in the order of their moments.
use Rattle.std.proofs.Common.{◌≡◌, ◌∙◌, inl, inr, ℕ, zero, suc, ◌+◌, ◌<◌, ◌≤◌, Bool, List, [], ◌∷◌}
use Rattle.std.proofs.Common.{◌++◌, length, map, take, drop, get_or, nat_cmp, All, Option, Some, None, eqb, refl}
use Rattle.std.proofs.Common.{sym, ap, subst, arith}
use Rattle.std.proofs.Common.{append-nil, append_assoc}
use Rattle.std.specs.Prelude.{slice_get, filter, if◌then◌else◌}
use Rattle.std.specs.List.{flat_map, cons_option}
use Rattle.std.specs.List.Sorted.{IsPermutation, IsSortedByKey, IsStableByKey}
use Rattle.std.proofs.lemmas.Bool.{cases_Bool, eqb-true, eqb-false}
use Rattle.std.proofs.lemmas.List.Elements.{All-append, All-nil, All-cons, All-map, filter-append}
use Rattle.std.proofs.lemmas.List.Sorted.{All-permutation, IsPermutation-refl, IsNonDecreasingBy-from_sort}
use Rattle.std.proofs.lemmas.Option.{slice_get_within}
use lib.Seq.{take-append_seam, drop-append_seam}
use Rattle.histories.proofs.Lists.{given_at}
use Rattle.node_signals.specs.declared.event.NodeEvent.{NodeEvent}
use Rattle.manifest.specs.declared.pod.PodSpec.{PodSpec}
use Rattle.containers.specs.declared.pod_event_kind.PodEventKind.TheVariants as kinds
use Rattle.pod_state.specs.declared.events.PodEvent.{PodEvent}
use Rattle.pod_state.specs.rule.Pods.{PodTick}
use Rattle.pod_piece.specs.rule.Piece.{Piece, ticks}
use Rattle.pod_piece.specs.state.Piece.{evicted_at}
use Rattle.pod_piece.specs.state.Made.{MadeEvent, made_at, AreMadeOver, round_of}
use Rattle.event_list.specs.declared.event.Event.{Event}
use Rattle.event_list.specs.declared.event.EventKind.TheVariants.{Pod, Node}
use Rattle.event_list.specs.declared.tick.TickEvents.{TickEvents}
use Rattle.event_list.specs.rule.Events.{event, of_pods, of_node}
use Rattle.event_list.specs.state.Tick.{AreMadeBy, events_at, of_ticks, AreOfTicks, MomentsRise, IsMomentOf}
use Rattle.event_list.specs.state.Tick.{events_of, events_by_pod, events_of_node, is_at, IsInOrder, AddsEvents}
use Rattle.event_list.proofs.Merged.{IsOneOf, rise_rest, rise_above, filter_in, filter_out, none_has, all_have, merged}
use Rattle.event_list.proofs.Merged.{stable_at}

abbrev moment : Event → ℕ
moment e = e.at

abbrev tick_moment : TickEvents → ℕ
tick_moment tick = tick.at

abbrev IsOfTicks : List TickEvents → Event → Type 0
IsOfTicks ticks e = IsOneOf tick_moment ticks e.at

-- Those of a moment

-- of one pod
of_pod_at : (m n : ℕ) (made : List MadeEvent)
    → filter (is_at m) (events_of n made) ≡ map (λ (e : PodEvent). event m (Pod n e)) (events_at m made)
of_pod_at m n [] = refl
of_pod_at m n (x ∷ made) = elim (cases_Bool (eqb x.at m)) [
  | inl equal ↦
      let is = eqb-true x.at m equal in
      let mine = event x.at (Pod n x.event) in
      let here : events_at m (x ∷ made) ≡ x.event ∷ events_at m made =
      ap (λ (b : Bool). cons_option (if b then Some x.event else None) (events_at m made)) equal in
      filter_in moment m mine (events_of n made) is
      ∙ (ap (λ (k : ℕ). event k (Pod n x.event) ∷ filter (is_at m) (events_of n made)) is
      ∙ (ap (λ (es : List Event). event m (Pod n x.event) ∷ es) (of_pod_at m n made)
      ∙ ap (map (λ (e : PodEvent). event m (Pod n e))) (sym here)))
  | inr other ↦
      let mine = event x.at (Pod n x.event) in
      let here : events_at m (x ∷ made) ≡ events_at m made =
      ap (λ (b : Bool). cons_option (if b then Some x.event else None) (events_at m made)) other in
      filter_out moment m mine (events_of n made) (eqb-false x.at m other)
      ∙ (of_pod_at m n made ∙ ap (map (λ (e : PodEvent). event m (Pod n e))) (sym here))
]

-- of all pods
of_pods_at : (m n : ℕ) (made : List (List MadeEvent))
    → filter (is_at m) (events_by_pod n made) ≡ of_pods m n (map (events_at m) made)
of_pods_at m n [] = refl
of_pods_at m n (x ∷ made) =
    filter-append (is_at m) (events_of n x) (events_by_pod (n + 1) made)
    ∙ (ap (λ (es : List Event). es ++ filter (is_at m) (events_by_pod (n + 1) made)) (of_pod_at m n x)
    ∙ ap (λ (es : List Event). map (λ (e : PodEvent). event m (Pod n e)) (events_at m x) ++ es)
    (of_pods_at m (n + 1) made))

-- those of the node in one tick are of its moment
of_node_moment : (at : ℕ) (events : List NodeEvent) → All (λ (e : Event). e.at ≡ at) (of_node at events)
of_node_moment at [] = All-nil (λ (e : Event). e.at ≡ at)
of_node_moment at (x ∷ events) =
    All-cons (λ (e : Event). e.at ≡ at) (event at (Node x)) (of_node at events) refl (of_node_moment at events)

-- in no later tick is one of this moment
none_later : (m : ℕ) (ticks : List TickEvents)
    → ((k : ℕ) (tick : TickEvents) → slice_get ticks k ≡ Some tick → m < tick.at)
    → filter (is_at m) (events_of_node ticks) ≡ []
none_later m [] later = refl
none_later m (t ∷ ticks) later =
    let mine = of_node t.at t.node_events.items in
    let none : filter (is_at m) mine ≡ [] =
    none_has moment m mine (λ k d lt e.
    let at : (get_or mine k d).at ≡ t.at = of_node_moment t.at t.node_events.items k d lt in
    let above = later 0 t refl in
    omega (arith, at, above, e)) in
    filter-append (is_at m) mine (events_of_node ticks)
    ∙ (ap (λ (es : List Event). es ++ filter (is_at m) (events_of_node ticks)) none
    ∙ none_later m ticks (λ k u here. later (suc k) u here))

-- of the node, at the moment of one of the ticks
of_node_at : (ticks : List TickEvents) (k : ℕ) (tick : TickEvents) → MomentsRise ticks → slice_get ticks k ≡ Some tick
    → filter (is_at tick.at) (events_of_node ticks) ≡ of_node tick.at tick.node_events.items
of_node_at [] k tick rise here = absurd (cc)
of_node_at (t ∷ ticks) zero tick rise here =
    let same : t ≡ tick = cc in
    subst (λ (u : TickEvents). filter (is_at u.at) (events_of_node (t ∷ ticks)) ≡ of_node u.at u.node_events.items) same
    (let mine = of_node t.at t.node_events.items in
    filter-append (is_at t.at) mine (events_of_node ticks)
    ∙ (ap (λ (es : List Event). es ++ filter (is_at t.at) (events_of_node ticks))
    (all_have moment t.at mine (of_node_moment t.at t.node_events.items))
    ∙ (ap (λ (es : List Event). mine ++ es)
    (none_later t.at ticks (λ k u there. rise_above tick_moment t ticks k u rise there))
    ∙ append-nil mine)))
of_node_at (t ∷ ticks) (suc k) tick rise here =
    let mine = of_node t.at t.node_events.items in
    let below : t.at < tick.at = rise_above tick_moment t ticks k tick rise here in
    let none : filter (is_at tick.at) mine ≡ [] =
    none_has moment tick.at mine (λ j d lt e.
    let at : (get_or mine j d).at ≡ t.at = of_node_moment t.at t.node_events.items j d lt in
    omega (arith, at, below, e)) in
    filter-append (is_at tick.at) mine (events_of_node ticks)
    ∙ (ap (λ (es : List Event). es ++ filter (is_at tick.at) (events_of_node ticks)) none
    ∙ of_node_at ticks k tick (rise_rest tick_moment t ticks rise) here)

-- Each event is of one of the ticks

one_of : (ticks : List TickEvents) (m : ℕ) → IsMomentOf ticks m → IsOneOf tick_moment ticks m
one_of ticks m (t, tick, here, is) = record { place = t; item = tick; stands = here; is = is }

-- of one pod
made_within : (ts : List TickEvents) (pod : PodSpec) (delay : ℕ) (evicted : Option ℕ) (before h : List PodTick)
    (made : List MadeEvent) → ((k : ℕ) (x : PodTick) → slice_get h k ≡ Some x → IsMomentOf ts x.moment)
    → AreMadeOver pod delay evicted before h made → All (λ (e : MadeEvent). IsMomentOf ts e.at) made
made_within ts pod delay evicted before [] made within none =
    subst (All (λ (e : MadeEvent). IsMomentOf ts e.at)) (sym none) (All-nil (λ (e : MadeEvent). IsMomentOf ts e.at))
made_within ts pod delay evicted before (x ∷ h) made within (events, rest, are, over, is) =
    let P : MadeEvent → Type 0 = λ (e : MadeEvent). IsMomentOf ts e.at in
    let first : All P (made_at x.moment events) =
    All-map P (λ (e : PodEvent). record { at = x.moment; event = e }) events (λ k d lt. within 0 x refl) in
    let later : All P rest =
    made_within ts pod delay evicted (before ++ x ∷ []) h rest (λ k y here. within (suc k) y here) over in
    subst (All P) (sym is) (All-append P (made_at x.moment events) rest first later)

-- of all pods
pods_within : (ts : List TickEvents) (n : ℕ) (made : List (List MadeEvent))
    → ((k : ℕ) (events : List MadeEvent) → slice_get made k ≡ Some events
    → All (λ (e : MadeEvent). IsMomentOf ts e.at) events)
    → All (IsOfTicks ts) (events_by_pod n made)
pods_within ts n [] within = All-nil (IsOfTicks ts)
pods_within ts n (x ∷ made) within =
    All-append (IsOfTicks ts) (events_of n x) (events_by_pod (n + 1) made)
    (All-map (IsOfTicks ts) (λ (e : MadeEvent). event e.at (Pod n e.event)) x
    (λ k d lt. one_of ts (get_or x k d).at (within 0 x refl k d lt)))
    (pods_within ts (n + 1) made (λ k events here. within (suc k) events here))

-- of the node
node_within : (ts : List TickEvents) (ticks : List TickEvents)
    → ((k : ℕ) (tick : TickEvents) → slice_get ticks k ≡ Some tick → IsOneOf tick_moment ts tick.at)
    → All (IsOfTicks ts) (events_of_node ticks)
node_within ts [] within = All-nil (IsOfTicks ts)
node_within ts (t ∷ ticks) within =
    All-append (IsOfTicks ts) (of_node t.at t.node_events.items) (events_of_node ticks)
    (All-map (IsOfTicks ts) (λ (e : NodeEvent). event t.at (Node e)) t.node_events.items (λ k d lt. within 0 t refl))
    (node_within ts ticks (λ k u here. within (suc k) u here))

-- Together

abbrev pushed : List TickEvents → List (List MadeEvent) → List Event
pushed ticks made = events_by_pod 0 made ++ events_of_node ticks

all_within : (ticks : List TickEvents) (pieces : List Piece) (made : List (List MadeEvent)) → AreOfTicks ticks pieces
    → AreMadeBy pieces made → All (IsOfTicks ticks) (pushed ticks made)
all_within ts pieces made within are =
    All-append (IsOfTicks ts) (events_by_pod 0 made) (events_of_node ts)
    (pods_within ts 0 made (λ n events here.
    let lt = slice_get_within made n events here in
    let piece = given_at pieces n (omega (arith, lt, are.as_many)) in
    let p = piece.0 in
    made_within ts p.pod p.max_restart_delay (evicted_at p) (take p.begun (ticks p)) (round_of p) events
    (λ k x there. within n p k x piece.1 there) (are.each n p events piece.1 here)))
    (node_within ts ts (λ k tick here. record { place = k; item = tick; stands = here; is = refl }))

-- one tick after the other
abbrev part : List (List MadeEvent) → TickEvents → List Event
part made tick = of_pods tick.at 0 (map (events_at tick.at) made) ++ of_node tick.at tick.node_events.items

tick_by_tick : (ticks : List TickEvents) (made : List (List MadeEvent))
    → flat_map (part made) ticks ≡ of_ticks ticks made
tick_by_tick [] made = refl
tick_by_tick (t ∷ ticks) made =
    let pods = of_pods t.at 0 (map (events_at t.at) made) in
    let node = of_node t.at t.node_events.items in
    append_assoc pods node (flat_map (part made) ticks)
    ∙ ap (λ (es : List Event). pods ++ (node ++ es)) (tick_by_tick ticks made)

-- the events of the pods, and of the node, by their moments are those of the ticks, tick after tick
pub in_order : (ticks : List TickEvents) (pieces : List Piece) (made : List (List MadeEvent)) (sorted : List Event)
    → MomentsRise ticks → AreOfTicks ticks pieces → AreMadeBy pieces made → IsInOrder (pushed ticks made) sorted
    → sorted ≡ of_ticks ticks made
in_order ticks pieces made sorted rise within are order =
    merged moment tick_moment (part made) ticks sorted rise order.rising
    (All-permutation (IsOfTicks ticks) (pushed ticks made) sorted order.same (all_within ticks pieces made within are))
    (λ k tick here.
    order.stable tick.at
    ∙ (filter-append (is_at tick.at) (events_by_pod 0 made) (events_of_node ticks)
    ∙ (ap (λ (es : List Event). es ++ filter (is_at tick.at) (events_of_node ticks)) (of_pods_at tick.at 0 made)
    ∙ ap (λ (es : List Event). of_pods tick.at 0 (map (events_at tick.at) made) ++ es)
    (of_node_at ticks k tick rise here))))
    ∙ tick_by_tick ticks made

-- of one tick no order is wrong
same_moment : (ticks : List TickEvents) (a b : ℕ) → length ticks ≤ 1 → IsOneOf tick_moment ticks a
    → IsOneOf tick_moment ticks b → a ≡ b
same_moment ticks a b few one other =
    let p = slice_get_within ticks one.place one.item one.stands in
    let q = slice_get_within ticks other.place other.item other.stands in
    let place : one.place ≡ other.place = omega (arith, p, q, few) in
    let here : Some one.item ≡ Some other.item =
    sym one.stands ∙ (ap (slice_get ticks) place ∙ other.stands) in
    let same : one.item ≡ other.item = cc in
    sym one.is ∙ (ap tick_moment same ∙ other.is)

alone : (ticks : List TickEvents) (pieces : List Piece) (made : List (List MadeEvent)) → length ticks ≤ 1
    → AreOfTicks ticks pieces → AreMadeBy pieces made → IsInOrder (pushed ticks made) (pushed ticks made)
alone ticks pieces made few within are =
    let all = all_within ticks pieces made within are in
    record {
      rising = λ i j d le lt.
          let same = same_moment ticks _ _ few (all i d (omega (arith, le, lt))) (all j d lt) in omega (arith, same);
      same = IsPermutation-refl (pushed ticks made);
      stable = λ at. refl;
    }

pub added_alone : (ticks : List TickEvents) (pieces : List Piece) (made : List (List MadeEvent))
    (old now new : List Event) → length ticks ≤ 1 → MomentsRise ticks → AreOfTicks ticks pieces → AreMadeBy pieces made
    → now ≡ old ++ events_by_pod 0 made → new ≡ now ++ events_of_node ticks → AddsEvents ticks pieces old new
added_alone ticks pieces made old now new few rise within are is more = record {
  made = made;
  are_made = are;
  added =
      more ∙ (ap (λ (es : List Event). es ++ events_of_node ticks) is
      ∙ (append_assoc old (events_by_pod 0 made) (events_of_node ticks)
      ∙ ap (λ (es : List Event). old ++ es)
      (in_order ticks pieces made (pushed ticks made) rise within are (alone ticks pieces made few within are))));
}

pub added_sorted : (ticks : List TickEvents) (pieces : List Piece) (made : List (List MadeEvent))
    (old now unsorted sorted new : List Event) (place : ℕ) → MomentsRise ticks → AreOfTicks ticks pieces
    → AreMadeBy pieces made → place ≡ length old → now ≡ old ++ events_by_pod 0 made
    → unsorted ≡ now ++ events_of_node ticks → IsInOrder (drop place unsorted) sorted
    → new ≡ take place unsorted ++ sorted → AddsEvents ticks pieces old new
added_sorted ticks pieces made old now unsorted sorted new place rise within are here is more order whole =
    let all : unsorted ≡ old ++ pushed ticks made =
    more ∙ (ap (λ (es : List Event). es ++ events_of_node ticks) is
    ∙ append_assoc old (events_by_pod 0 made) (events_of_node ticks)) in
    let front : take place unsorted ≡ old =
    (λ k. take (here k) (all k)) ∙ take-append_seam old (pushed ticks made) in
    let back : drop place unsorted ≡ pushed ticks made =
    (λ k. drop (here k) (all k)) ∙ drop-append_seam old (pushed ticks made) in
    record {
      made = made;
      are_made = are;
      added =
          whole ∙ (ap (λ (es : List Event). es ++ sorted) front
          ∙ ap (λ (es : List Event). old ++ es)
          (in_order ticks pieces made sorted rise within are
          (subst (λ (es : List Event). IsInOrder es sorted) back order)));
    }

-- what a stable sort by the moments leaves
pub sorted_by : (old new : List Event) → IsSortedByKey moment nat_cmp new → IsPermutation old new
    → IsStableByKey moment nat_cmp old new → IsInOrder old new
sorted_by old new sorted same stable = record {
  rising = IsNonDecreasingBy-from_sort moment new sorted;
  same = same;
  stable = λ at. stable_at moment (some_event at) old new stable;
}
  where
    some_event : ℕ → Event
    some_event at = event at (Pod 0 (record { container = None; kind = kinds.Ready }))
