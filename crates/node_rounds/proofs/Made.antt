-- What a tick's updates make of events and totals, by the pods' histories.
use Rattle.std.proofs.Common.{◌≡◌, ◌∙◌, inl, inr, ℕ, zero, suc, ◌+◌, ◌<◌, ◌≤◌, Bool, List, [], ◌∷◌, ◌++◌, length, map}
use Rattle.std.proofs.Common.{take, drop, cond, Option, Some, None, refl, sym, ap, subst, arith}
use Rattle.std.specs.Prelude.{slice_get, IfSome, option_map}
use Rattle.std.specs.Option.{option_flatten}
use Rattle.std.proofs.lemmas.List.{length-map, length-take-le, take-append-drop}
use Rattle.std.proofs.lemmas.Option.{slice_get_within, slice_get_past, slice_get-map}
use Rattle.std.proofs.lemmas.Bool.Decides.{eqb_tells}
use Rattle.histories.proofs.Places.{length-more}
use Rattle.histories.proofs.Lists.{take_more, given_at, some_given, slice_get-kept}
use Rattle.manifest.specs.declared.pod.PodSpec.{PodSpec}
use Rattle.node_config.specs.declared.node.NodeConfig.{NodeConfig}
use Rattle.observations.specs.rule.Pods.{PodObs}
use Rattle.observations.specs.declared.tick.TickObs.{TickObs}
use Rattle.observations.specs.rule.Observations.{shown_of}
use Rattle.pod_state.specs.declared.events.PodEvent.{PodEvent}
use Rattle.pod_state.specs.rule.Pods.{pod_tick}
use Rattle.pod_state.specs.rule.Events.{AreEventsOf}
use Rattle.pod_piece.specs.rule.Piece.{Piece, place_of}
use Rattle.pod_piece.specs.state.Piece.{evicted_at as evicted_piece_at, evicted_before}
use Rattle.pod_piece.specs.state.Made.{MadeEvent}
use Rattle.pod_piece.proofs.PieceLemmas.{before_is}
use Rattle.eviction.specs.declared.eviction.Eviction.{Eviction}
use Rattle.eviction.specs.rule.Replay.{EvictedAt, pod_ticks, evicted_at, own_eviction, later, IsReplay}
use Rattle.eviction.proofs.Evicted.{evicted_pod_lived}
use Rattle.eviction.proofs.Own.{pod_ticks-more, of_pod}
use Rattle.event_list.specs.declared.event.Event.{Event}
use Rattle.event_list.specs.declared.event.EventKind.TheVariants.{Pod}
use Rattle.event_list.specs.rule.Events.{ArePodEvents, event, of_pods}
use Rattle.event_list.specs.state.Tick.{events_at}
use Rattle.node_rounds.specs.state.Node.{piece_after, ArePieces}
use Rattle.node_rounds.proofs.Pieces.{fewer}
use Rattle.node_rounds.proofs.Told.{TellsTick}

-- what was found is an eviction of the pod
found_is : (n : ℕ) (es : List (Option Eviction)) (f : EvictedAt) → evicted_at n es ≡ Some f
    → (e : Eviction) × (slice_get es f.tick ≡ Some (Some e)) × (e.pod ≡ n)
found_is n [] f is = absurd (cc)
found_is n (None ∷ es) f is = by (evicted_at n es) (found_is n es) is
  where
    by : (o : Option EvictedAt)
        → ((g : EvictedAt) → o ≡ Some g → (e : Eviction) × (slice_get es g.tick ≡ Some (Some e)) × (e.pod ≡ n))
        → option_map later o ≡ Some f
        → (e : Eviction) × (slice_get (None ∷ es) f.tick ≡ Some (Some e)) × (e.pod ≡ n)
    by None rest e = absurd (cc)
    by (Some g) rest e =
        let same : later g ≡ f = cc in
        let there = rest g refl in
        (there.0, subst (λ (h : EvictedAt). slice_get (None ∷ es) h.tick ≡ Some (Some there.0)) same there.1, there.2)
found_is n (Some d ∷ es) f is = elim (eqb_tells d.pod n) [
  | inl w ↦
      let first = λ (t : Bool). cond t (Some (now d)) (option_map later (evicted_at n es)) in
      let here : Some (now d) ≡ Some f = sym (ap first w.0) ∙ is in
      let same : now d ≡ f = cc in
      (d, subst (λ (h : EvictedAt). slice_get (Some d ∷ es) h.tick ≡ Some (Some d)) same refl, w.1)
  | inr w ↦
      let first = λ (t : Bool). cond t (Some (now d)) (option_map later (evicted_at n es)) in
      by (evicted_at n es) (found_is n es) (sym (ap first w.0) ∙ is)
]
  where
    now : Eviction → EvictedAt
    now e = record { tick = 0; order = e.order }

    by : (o : Option EvictedAt)
        → ((g : EvictedAt) → o ≡ Some g → (e : Eviction) × (slice_get es g.tick ≡ Some (Some e)) × (e.pod ≡ n))
        → option_map later o ≡ Some f
        → (e : Eviction) × (slice_get (Some d ∷ es) f.tick ≡ Some (Some e)) × (e.pod ≡ n)
    by None rest e = absurd (cc)
    by (Some g) rest e =
        let same : later g ≡ f = cc in
        let there = rest g refl in
        (there.0, subst (λ (h : EvictedAt). slice_get (Some d ∷ es) h.tick ≡ Some (Some there.0)) same there.1, there.2)

-- a pod was evicted by one of its own ticks
evicted_by_own : (config : NodeConfig) (pods : List PodSpec) (ticks : List TickObs) (es : List (Option Eviction))
    (n : ℕ) → IsReplay config pods ticks es
    → IfSome (place_of (own_eviction n ticks es)) (λ place. place < length (pod_ticks ticks n))
evicted_by_own config pods ticks es n replay = by (evicted_at n es) (found_is n es)
  where
    by : (o : Option EvictedAt)
        → ((f : EvictedAt) → o ≡ Some f → (e : Eviction) × (slice_get es f.tick ≡ Some (Some e)) × (e.pod ≡ n))
        → IfSome (place_of (option_map (of_pod ticks n) o)) (λ place. place < length (pod_ticks ticks n))
    by None found = tt
    by (Some f) found =
        let e = found f refl in
        let lt : f.tick < length es = slice_get_within es f.tick (Some e.0) e.1 in
        let many : length es ≡ length ticks = replay.as_many in
        let tick = given_at ticks f.tick (omega (arith, lt, many)) in
        let lived = evicted_pod_lived config pods ticks es f.tick tick.0 e.0 replay tick.1 e.1 in
        let shown = some_given (shown_of tick.0 e.0.pod) lived.present in
        let is : shown_of tick.0 n ≡ Some shown.0 = subst (λ (k : ℕ). shown_of tick.0 k ≡ Some shown.0) e.2 shown.1 in
        let before = take f.tick ticks in
        let grown : length (pod_ticks (take (suc f.tick) ticks) n) ≡ suc (length (pod_ticks before n)) =
        ap (λ (h : List TickObs). length (pod_ticks h n)) (take_more ticks f.tick tick.0 tick.1)
        ∙ ap length (pod_ticks-more before tick.0 n shown.0 is)
        ∙ length-more (pod_ticks before n) (pod_tick shown.0) in
        let le : length (pod_ticks (take (suc f.tick) ticks) n) ≤ length (pod_ticks ticks n) =
        fewer ticks (suc f.tick) n in
        omega (arith, grown, le)

-- of the events of these pods' rounds those of a tick, as far as it tells of pods
abbrev pub made_in : TickObs → List (List MadeEvent) → List (List PodEvent)
made_in x owns = take (length x.pods) (map (events_at x.at) owns)

-- what of the events of a pod's round is the tick's
made_of_pod : (x : TickObs) (owns : List (List MadeEvent)) (n : ℕ) (events : List PodEvent)
    → slice_get (map (events_at x.at) owns) n ≡ Some events
    → (own : List MadeEvent) × (slice_get owns n ≡ Some own) × (events_at x.at own ≡ events)
made_of_pod x owns n events at = by (slice_get owns n) (sym (slice_get-map (events_at x.at) owns n) ∙ at)
  where
    by : (o : Option (List MadeEvent)) → option_map (events_at x.at) o ≡ Some events
        → (own : List MadeEvent) × (o ≡ Some own) × (events_at x.at own ≡ events)
    by None e = absurd (let w : None ≡ Some events = e in cc)
    by (Some own) e = (own, refl, (let w : Some (events_at x.at own) ≡ Some events = e in cc))

taken_within : {A : Type 0} (xs : List A) (k n : ℕ) (x : A) → slice_get (take k xs) n ≡ Some x → slice_get xs n ≡ Some x
taken_within xs k n x at =
    subst (λ (ys : List _). slice_get ys n ≡ Some x) (take-append-drop k xs)
    (slice_get-kept (take k xs) (drop k xs) n x at)

-- the events of each pod's round tell of the tick
abbrev pub TellAllOf : List Piece → TickObs → List (List MadeEvent) → Type 0
TellAllOf pieces x owns =
    (n : ℕ) (p : Piece) (own : List MadeEvent) → slice_get pieces n ≡ Some p → slice_get owns n ≡ Some own
    → TellsTick p.pod p.max_restart_delay (evicted_piece_at p) p.handed (shown_of x n) (events_at x.at own)

-- so they are the events of the tick's pods
pub made_told : (config : NodeConfig) (pods : List PodSpec) (ticks : List TickObs) (es : List (Option Eviction))
    (x : TickObs) (pieces : List Piece) (owns : List (List MadeEvent)) → IsReplay config pods ticks es
    → length x.pods ≤ length pieces → length owns ≡ length pieces → ArePieces config pods ticks es pieces
    → TellAllOf pieces x owns → ArePodEvents config pods ticks x es (made_in x owns)
made_told config pods ticks es x pieces owns replay few many are tell = record {
  known = omega (arith, few, are.as_many);
  as_many = length-take-le (length x.pods) (map (events_at x.at) owns)
      (omega (arith, few, many, length-map owns (events_at x.at)));
  each = λ n pod observed events at is found.
      let piece = piece_after config ticks es n pod in
      let own = made_of_pod x owns n events
      (taken_within (map (events_at x.at) owns) (length x.pods) n events found) in
      let told = subst (λ (o : Option PodObs). TellsTick pod config.max_restart_delay
      (place_of (own_eviction n ticks es)) (pod_ticks ticks n) o (events_at x.at own.0)) is
      (tell n piece own.0 (are.each n pod at) own.1) in
      subst (λ (e : Option ℕ). AreEventsOf pod config.max_restart_delay e (pod_ticks ticks n)
      (pod_tick observed) events)
      (before_is (place_of (own_eviction n ticks es)) (length (pod_ticks ticks n))
      (evicted_by_own config pods ticks es n replay))
      (subst (λ (l : List PodEvent). AreEventsOf pod config.max_restart_delay
      (evicted_before (place_of (own_eviction n ticks es)) (length (pod_ticks ticks n))) (pod_ticks ticks n)
      (pod_tick observed) l) own.2 told);
  absent = λ n events none found.
      let own = made_of_pod x owns n events
      (taken_within (map (events_at x.at) owns) (length x.pods) n events found) in
      let lt : n < length owns = slice_get_within owns n own.0 own.1 in
      let piece = given_at pieces n (omega (arith, lt, many)) in
      sym own.2 ∙ subst (λ (o : Option PodObs). TellsTick (piece.0).pod (piece.0).max_restart_delay
      (evicted_piece_at piece.0) (piece.0).handed o (events_at x.at own.0)) none (tell n piece.0 own.0 piece.1 own.1);
}

-- of pods behind those that the tick tells of there are none
behind_none : (at n k : ℕ) (made : List (List PodEvent))
    → ((i : ℕ) (events : List PodEvent) → k ≤ i → slice_get made i ≡ Some events → events ≡ [])
    → of_pods at n (take k made) ≡ of_pods at n made
behind_none at n zero [] none = refl
behind_none at n zero (events ∷ made) none =
    behind_none at (n + 1) zero made (λ i es le is. none (suc i) es (omega arith) is)
    ∙ ap (λ (es : List PodEvent). map (λ (e : PodEvent). event at (Pod n e)) es ++ of_pods at (n + 1) made)
    (sym (none 0 events (omega arith) refl))
behind_none at n (suc k) [] none = refl
behind_none at n (suc k) (events ∷ made) none =
    ap (λ (es : List Event). map (λ (e : PodEvent). event at (Pod n e)) events ++ es)
    (behind_none at (n + 1) k made (λ i es le is. none (suc i) es (omega (arith, le)) is))

pub all_told : (x : TickObs) (pieces : List Piece) (owns : List (List MadeEvent)) → length owns ≡ length pieces
    → TellAllOf pieces x owns
    → of_pods x.at 0 (made_in x owns) ≡ of_pods x.at 0 (map (events_at x.at) owns)
all_told x pieces owns many tell =
    behind_none x.at 0 (length x.pods) (map (events_at x.at) owns) (λ i events le at.
    let own = made_of_pod x owns i events at in
    let lt : i < length owns = slice_get_within owns i own.0 own.1 in
    let piece = given_at pieces i (omega (arith, lt, many)) in
    let none : shown_of x i ≡ None = ap option_flatten (slice_get_past x.pods i le) in
    sym own.2 ∙ subst (λ (o : Option PodObs). TellsTick (piece.0).pod (piece.0).max_restart_delay
    (evicted_piece_at piece.0) (piece.0).handed o (events_at x.at own.0)) none (tell i piece.0 own.0 piece.1 own.1))
