-- The events of pieces and of the node, one after the other.
use Rattle.std.proofs.Common.{◌≡◌, ◌∙◌, inl, inr, ℕ, zero, suc, ◌+◌, ◌-◌, ◌<◌, List, [], ◌∷◌, ◌++◌, length, map, take}
use Rattle.std.proofs.Common.{append-nil, append_assoc, Some, None, refl, sym, ap, subst, arith}
use Rattle.std.specs.Prelude.{slice_get}
use Rattle.std.proofs.lemmas.Grind.{flat_map-append}
use Rattle.std.proofs.lemmas.List.{map-append}
use Rattle.histories.specs.rule.Histories.{recorded, last_moment, moment_at}
use Rattle.histories.proofs.Places.{length-more}
use Rattle.histories.proofs.Lists.{place_split}
use Rattle.pod_state.specs.declared.events.PodEvent.{PodEvent}
use Rattle.pod_piece.specs.declared.made.MadeTick.{MadeTick}
use Rattle.pod_state.specs.rule.Pods.{PodTick}
use Rattle.pod_piece.specs.rule.Piece.{Piece, ticks}
use Rattle.pod_piece.specs.state.Made.{MadeEvent, made_at, made_of, round_length, AreRoundEvents, AreEarlierEvents}
use Rattle.pod_piece.specs.state.Status.{AreLastEvents}
use Rattle.pod_piece.proofs.LastTicks.{tick_at}
use Rattle.totals.proofs.Made.{made_of-more, round_events, empty_round}
use Rattle.event_list.specs.declared.event.Event.{Event}
use Rattle.event_list.specs.declared.event.EventKind.TheVariants.{Pod}
use Rattle.event_list.specs.declared.tick.TickEvents.{TickEvents}
use Rattle.event_list.specs.rule.Events.{event, of_node}
use Rattle.event_list.specs.state.Tick.{events_of, events_by_pod, events_of_node}

-- the events of a pod at a moment
pub of_moment : (n at : ℕ) (events : List PodEvent)
    → events_of n (made_at at events) ≡ map (λ (e : PodEvent). event at (Pod n e)) events
of_moment n at [] = refl
of_moment n at (e ∷ events) = ap (λ (es : List Event). event at (Pod n e) ∷ es) (of_moment n at events)

-- those of one tick more behind those before it
pub of_last : (n at : ℕ) (before : List MadeEvent) (events : List PodEvent) (old now new : List Event)
    → now ≡ old ++ events_of n before → new ≡ now ++ map (λ (e : PodEvent). event at (Pod n e)) events
    → new ≡ old ++ events_of n (before ++ made_at at events)
of_last n at before events old now new is more =
    more ∙ ap (λ (es : List Event). es ++ map (λ (e : PodEvent). event at (Pod n e)) events) is
    ∙ append_assoc old (events_of n before) (map (λ (e : PodEvent). event at (Pod n e)) events)
    ∙ ap (λ (es : List Event). old ++ (events_of n before ++ es)) (sym (of_moment n at events))
    ∙ ap (λ (es : List Event). old ++ es)
    (sym (map-append (λ (e : MadeEvent). event e.at (Pod n e.event)) before (made_at at events)))

-- those of one of these ticks more
pub earlier_more : (n : ℕ) (rows : List MadeTick) (i : ℕ) (row : MadeTick) (old now new : List Event)
    → take (i + 1) rows ≡ take i rows ++ row ∷ [] → now ≡ old ++ events_of n (made_of (take i rows))
    → new ≡ now ++ map (λ (e : PodEvent). event row.at (Pod n e)) row.events.items
    → new ≡ old ++ events_of n (made_of (take (i + 1) rows))
earlier_more n rows i row old now new more is added =
    of_last n row.at (made_of (take i rows)) row.events.items old now new is added
    ∙ ap (λ (m : List MadeEvent). old ++ events_of n m) (sym (made_of-more rows i row more))

-- the node's in one of these ticks more
pub node_more : (ticks : List TickEvents) (i : ℕ) (tick : TickEvents) (old now new : List Event)
    → take (i + 1) ticks ≡ take i ticks ++ tick ∷ [] → now ≡ old ++ events_of_node (take i ticks)
    → new ≡ now ++ of_node tick.at tick.node_events.items → new ≡ old ++ events_of_node (take (i + 1) ticks)
node_more ticks i tick old now new more is added =
    let f : TickEvents → List Event = λ (t : TickEvents). of_node t.at t.node_events.items in
    added ∙ ap (λ (es : List Event). es ++ f tick) is
    ∙ append_assoc old (events_of_node (take i ticks)) (f tick)
    ∙ ap (λ (es : List Event). old ++ (events_of_node (take i ticks) ++ es)) (sym (append-nil (f tick)))
    ∙ ap (λ (es : List Event). old ++ es)
    (sym (ap events_of_node more ∙ flat_map-append f (take i ticks) (tick ∷ [])))

events_by_pod-more : (n : ℕ) (made : List (List MadeEvent)) (x : List MadeEvent)
    → events_by_pod n (made ++ x ∷ []) ≡ events_by_pod n made ++ events_of (n + length made) x
events_by_pod-more n [] x =
    let same : n ≡ n + 0 = omega arith in append-nil (events_of n x) ∙ ap (λ (k : ℕ). events_of k x) same
events_by_pod-more n (m ∷ made) x =
    let same : n + 1 + length made ≡ n + suc (length made) = omega arith in
    ap (λ (es : List Event). events_of n m ++ es) (events_by_pod-more (n + 1) made x)
    ∙ sym (append_assoc (events_of n m) (events_by_pod (n + 1) made) (events_of (n + 1 + length made) x))
    ∙ ap (λ (k : ℕ). (events_of n m ++ events_by_pod (n + 1) made) ++ events_of k x) same

-- the events of the pods below a number are added
pub record AreAddedBelow (pieces : List Piece) (i : ℕ) (old now : List Event) : Type 0 where
  pub made : List (List MadeEvent)
  pub as_many : length made ≡ i
  pub each : (n : ℕ) (piece : Piece) (events : List MadeEvent) → slice_get pieces n ≡ Some piece
      → slice_get made n ≡ Some events → AreRoundEvents piece events
  pub added : now ≡ old ++ events_by_pod 0 made

pub one_added : (pieces : List Piece) (i : ℕ) (old now new : List Event) (piece : Piece) (events : List MadeEvent)
    → AreAddedBelow pieces i old now → slice_get pieces i ≡ Some piece → AreRoundEvents piece events
    → new ≡ now ++ events_of i events → AreAddedBelow pieces (i + 1) old new
one_added pieces i old now new piece events so_far there are more = record {
  made = so_far.made ++ events ∷ [];
  as_many =
      let many : length so_far.made ≡ i = so_far.as_many in
      omega (arith, many, length-more so_far.made events);
  each = λ n p es is found. elim (place_split so_far.made events es n found) [
    | inl older ↦ so_far.each n p es is older
    | inr w ↦
        let here : n ≡ i = w.0 ∙ so_far.as_many in
        let both : Some piece ≡ Some p = sym there ∙ subst (λ (k : ℕ). slice_get pieces k ≡ Some p) here is in
        let same : piece ≡ p = cc in
        subst (λ (q : Piece). AreRoundEvents q es) same (subst (λ (l : List MadeEvent). AreRoundEvents piece l) w.1 are)
  ];
  added =
      let number : i ≡ 0 + length so_far.made = omega (arith, so_far.as_many) in
      more ∙ ap (λ (es : List Event). es ++ events_of i events) so_far.added
      ∙ append_assoc old (events_by_pod 0 so_far.made) (events_of i events)
      ∙ ap (λ (k : ℕ). old ++ (events_by_pod 0 so_far.made ++ events_of k events)) number
      ∙ ap (λ (es : List Event). old ++ es) (sym (events_by_pod-more 0 so_far.made events));
}

none_last : (h : List PodTick) → last_moment h ≡ None → length h ≡ 0
none_last [] none = refl
none_last (x ∷ h) none = absurd (at (x ∷ h) (length (x ∷ h) - 1) (omega arith) none)
  where
    at : (h : List PodTick) (i : ℕ) → i < length h → moment_at h i ≡ None → ⊥
    at [] i lt none = absurd (omega (arith, lt))
    at (y ∷ ys) zero lt none = absurd (cc)
    at (y ∷ ys) (suc i) lt none = at ys i (omega (arith, lt)) none

-- a piece without a last tick has an empty round
pub no_last : (p : Piece) (n : ℕ) (old : List Event) → last_moment (ticks p) ≡ None
    → (made : List MadeEvent) × AreRoundEvents p made × (old ≡ old ++ events_of n made)
no_last p n old none =
    let short = none_last (ticks p) none in ([], empty_round p (omega (arith, short)), sym (append-nil old))

-- the events of a round are those of its earlier ticks, and those of its last
pub round_added : (p : Piece) (rows : List MadeTick) (events : List PodEvent) (n m : ℕ) (old now new : List Event)
    → last_moment (ticks p) ≡ Some m → 0 < round_length p → AreEarlierEvents p rows → AreLastEvents p events
    → now ≡ old ++ events_of n (made_of rows) → new ≡ now ++ map (λ (e : PodEvent). event m (Pod n e)) events
    → (made : List MadeEvent) × AreRoundEvents p made × (new ≡ old ++ events_of n made)
round_added p rows events n m old now new last some earlier are is more =
    let x = tick_at (ticks p) m last in (
      made_of rows ++ made_at m events,
      round_events p rows events (recorded m x.0) some x.1 earlier are,
      of_last n m (made_of rows) events old now new is more,
    )
