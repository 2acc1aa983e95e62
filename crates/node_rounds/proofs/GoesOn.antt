-- A node after one more tick.
use Rattle.std.proofs.Common.{◌≡◌, inl, inr, ℕ, suc, ◌+◌, ◌<◌, ◌≤◌, List, [], ◌∷◌, ◌++◌, length}
use Rattle.std.proofs.Common.{Bool, Option, Some, None, refl, sym, ap, subst, ◌∙◌, arith}
use Rattle.std.specs.Prelude.{true, false, IfSome}
use Rattle.std.specs.Option.{option_or}
use Rattle.std.proofs.lemmas.List.{length-append}
use Rattle.histories.proofs.Places.{length-more}
use Rattle.histories.proofs.Lists.{place_split, some_given}
use Rattle.manifest.specs.declared.pod.PodSpec.{PodSpec}
use Rattle.node_config.specs.declared.node.NodeConfig.{NodeConfig}
use Rattle.observations.specs.declared.tick.TickObs.{TickObs}
use Rattle.observations.specs.rule.Observations.{shown_of}
use Rattle.observations.specs.rule.Limits.{most_ticks, most_pods}
use Rattle.node_signals.specs.declared.node.NodeSignals.{NodeSignals}
use Rattle.node_signals.specs.declared.event.NodeEvent.{NodeEvent}
use Rattle.node_signals.specs.declared.key.ThresholdKey.{ThresholdKey}
use Rattle.node_signals.specs.rule.Thresholds.{IsServed}
use Rattle.node_signals.specs.state.Node.{IsStateOf}
use Rattle.pod_state.specs.declared.events.PodEvent.{PodEvent}
use Rattle.pod_piece.specs.rule.Piece.{Piece}
use Rattle.pod_piece.specs.state.Piece.{pods_in}
use Rattle.eviction.specs.declared.eviction.Eviction.{Eviction}
use Rattle.eviction.specs.state.Pausing.{Kept, kept, still}
use Rattle.eviction.specs.rule.Replay.{is_paused, pauses, unless_paused, unless_recorded, IsChoiceOfTick}
use Rattle.eviction.proofs.More.{no_replay, replay_more}
use Rattle.eviction.proofs.Pausing.{none_pausing, paused_now, pausing_more}
use Rattle.totals.specs.declared.totals.Totals.{Totals}
use Rattle.totals.specs.state.Totals.{nothing}
use Rattle.node_pods.specs.state.Pods.{Pods, pods_of, IsCandidate, MayBeHanded, AreAfter}
use Rattle.event_list.specs.declared.event.Event.{Event}
use Rattle.event_list.specs.rule.Events.{of_pods, of_node, of_choice, ArePodEvents}
use Rattle.event_list.specs.rule.Totals.{totals_of}
use Rattle.event_list.proofs.More.{no_events, events_more}
use Rattle.node_rounds.specs.state.Evict.{IsChoiceAt, AreWithout}
use Rattle.node_rounds.specs.state.Node.{State, state, ArePieces, HasTaken, last_of}
use Rattle.node_rounds.specs.state.Round.{AreFew, AreFewEvents, IsKept}
use Rattle.node_rounds.specs.state.Stretch.{IsSampled}
use Rattle.node_rounds.proofs.Pieces.{pieces_updated, pieces_evicted, pieces_spared}
use Rattle.node_rounds.proofs.Candidates.{ArePresent, are_present, round_of, IsChosenAt, is_chosen, may_be_carried_out}
use Rattle.node_rounds.proofs.Candidates.{evicts_now, pods_are}

pub last_more : (ticks : List TickObs) (x : TickObs) → last_of (ticks ++ x ∷ []) ≡ Some x.at
last_more [] x = refl
last_more (y ∷ []) x = refl
last_more (y ∷ z ∷ ticks) x = last_more (z ∷ ticks) x

-- no pods and no ticks
starts : (config : NodeConfig) (signals : NodeSignals)
    → IsStateOf config.eviction config.eviction_pressure_transition_period [] signals
    → HasTaken [] []
    (state config signals (pods_of [] config.max_restart_delay config.has_dedicated_imagefs) (kept [] None) []
    nothing None)
starts config signals s = record {
  replay = no_replay config [];
  pieces = record { as_many = refl; each = λ n pod at. absurd (cc) };
  events = no_events config [];
  totals = refl;
  signals = s;
  pausing = none_pausing config;
  max_restart_delay = refl;
  dedicated = refl;
  shown = λ t tick at. absurd (cc);
  last_is = refl;
  few_ticks = omega arith;
  few_pods = omega arith;
}

pub starts_as : (config : NodeConfig) (signals : NodeSignals) (pods : Pods) (es : Kept)
    (evs : List Event) (totals : Totals)
    → pods ≡ pods_of [] config.max_restart_delay config.has_dedicated_imagefs → es ≡ kept [] None → evs ≡ []
    → totals ≡ nothing
    → IsStateOf config.eviction config.eviction_pressure_transition_period [] signals
    → HasTaken [] [] (state config signals pods es evs totals None)
starts_as config signals pods es evs totals no_pods no_es no_evs none is =
    subst (λ (p : Pods). HasTaken [] [] (state config signals p es evs totals None)) (sym no_pods)
    (subst (λ (l : Kept). HasTaken [] [] (state config signals empty l evs totals None)) (sym no_es)
    (subst (λ (l : List Event). HasTaken [] [] (state config signals empty (kept [] None) l totals None)) (sym no_evs)
    (subst (λ (t : Totals). HasTaken [] [] (state config signals empty (kept [] None) [] t None)) (sym none)
    (starts config signals is))))
  where
    empty : Pods
    empty = pods_of [] config.max_restart_delay config.has_dedicated_imagefs

-- what a node keeps, by its own pods
pub kept_by : (all : List PodSpec) (ticks : List TickObs) (s : State) → HasTaken all ticks s → AreFew all
    → AreFewEvents s.totals → IsKept s
kept_by all ticks s taken few events =
    let same : all ≡ pods_in s.pods.pieces =
    sym (pods_are s.config all ticks s.evictions s.pods.pieces taken.pieces) in
    record {
      ticks = ticks;
      taken = subst (λ (ps : List PodSpec). HasTaken ps ticks s) same taken;
      few = subst (λ (ps : List PodSpec). AreFew ps) same few;
      events = events;
    }

none_few : AreFew []
none_few n pod at = absurd (cc)

pub starts_kept : (s : State) → HasTaken [] [] s → s.totals ≡ nothing → IsKept s
starts_kept s taken none =
    kept_by [] [] s taken none_few
    (subst (λ (t : Totals). AreFewEvents t) (sym none) (record { events = omega arith; orders = omega arith }))

-- the pieces once the eviction was carried out
without : (config : NodeConfig) (pods : List PodSpec) (ticks : List TickObs) (es : List (Option Eviction))
    (x : TickObs) (served : Option ThresholdKey) (eviction : Option Eviction) (old new : List Piece)
    → length es ≡ length ticks → ArePresent old x → ArePieces config pods (ticks ++ x ∷ []) es old
    → IsChosenAt config old x.at served eviction → AreWithout old eviction new
    → ArePieces config pods (ticks ++ x ∷ []) (es ++ eviction ∷ []) new
without config pods ticks es x served None old new len present are by same =
    subst (λ (pieces : List Piece). ArePieces config pods (ticks ++ x ∷ []) (es ++ None ∷ []) pieces) (sym same)
    (pieces_spared config pods (ticks ++ x ∷ []) es old are)
without config pods ticks es x served (Some e) old new len present are by evicted =
    let may = may_be_carried_out config old x.at served (Some e) by in
    let candidate = subst (λ (m : ℕ). IsCandidate old m e.pod may.0) (evicts_now config old x.at served e by) may.1 in
    let shown = some_given (shown_of x e.pod) ((present e.pod candidate.piece candidate.at).0 candidate.present) in
    pieces_evicted config pods ticks es x e old new may.0 shown.0 len shown.1 are candidate evicted

-- while evictions pause nobody is evicted
evicts_unpaused : (config : NodeConfig) (pieces : List Piece) (at : ℕ) (paused : Bool) (served : Option ThresholdKey)
    (eviction : Option Eviction) → IsChosenAt config pieces at (unless_paused paused served) eviction
    → IfSome eviction (λ e. paused ≡ false)
evicts_unpaused config pieces at paused served None by = tt
evicts_unpaused config pieces at true served (Some e) by = absurd (let none : Some e ≡ None = by in cc)
evicts_unpaused config pieces at false served (Some e) by = refl

-- what a tick adds to the events
abbrev pub part_of : NodeConfig → TickObs → List (List PodEvent) → List NodeEvent → Option Eviction → List Event
part_of config x made node_events choice =
    of_pods x.at 0 made ++ (of_node x.at node_events ++ of_choice config.evictions_recorded x.at choice)

-- the pieces at hand are those that some tick leads to, with these events
pub goes_on : (pods : List PodSpec) (ticks : List TickObs) (s : State) (x : TickObs) (signals : NodeSignals)
    (node_events : List NodeEvent) (served : Option ThresholdKey) (made : List (List PodEvent)) (totals : Totals)
    (mid : List Piece) (new : Pods) (choice eviction : Option Eviction) → HasTaken pods ticks s
    → length s.evictions < most_ticks → IfSome s.last (λ moment. moment < x.at) → MayBeHanded s.pods.pieces x
    → IsSampled s.config s.signals x signals node_events served → AreAfter s.pods.pieces x.pods mid
    → IsChoiceAt s.config mid x.at
    (unless_paused (is_paused s.config x.at (ticks ++ x ∷ []) s.evictions) served) choice
    → eviction ≡ unless_recorded s.config.evictions_recorded choice
    → ArePodEvents s.config pods ticks x s.evictions made
    → totals ≡ totals_of (ticks ++ x ∷ []) (s.events ++ part_of s.config x made node_events choice)
    → AreWithout mid eviction new.pieces
    → new.max_restart_delay ≡ s.pods.max_restart_delay → new.has_dedicated_imagefs ≡ s.pods.has_dedicated_imagefs
    → HasTaken pods (ticks ++ x ∷ [])
    (state s.config signals new
    (kept (s.evictions ++ eviction ∷ []) (option_or eviction (still s.config x s.pausing)))
    (s.events ++ part_of s.config x made node_events choice) totals (Some x.at))
goes_on pods ticks s x signals node_events served made totals mid new choice eviction taken few later may sampled
    after by carried are_made count gone max_restart_delay dedicated = record {
      replay = replay_more s.config pods ticks s.evictions x eviction taken.replay
          (record { choice = choice; is_choice = is_choice; is_carried = carried });
      pieces = without s.config pods ticks s.evictions x
          (unless_paused paused served) eviction mid new.pieces len present now_pieces chosen gone;
      events = events_more s.config pods ticks s.evictions s.events (part_of s.config x made node_events choice) x
          eviction len taken.events (record {
            made = made;
            are_made = are_made;
            node_events = node_events;
            are_node_events = sampled.node_events_are ticks taken.signals;
            choice = choice;
            is_choice = is_choice;
            in_order = refl;
          });
      totals = count;
      signals = now;
      pausing = pausing_more s.config ticks s.evictions s.last s.pausing x eviction len taken.pausing later
          (free eviction (evicts_unpaused s.config mid x.at paused served eviction chosen));
      max_restart_delay = max_restart_delay ∙ taken.max_restart_delay;
      dedicated = dedicated ∙ taken.dedicated;
      shown = λ t tick at. elim (place_split ticks x tick t at) [
        | inl old ↦ taken.shown t tick old
        | inr v ↦
            let same : length x.pods ≡ length tick.pods = ap (λ (y : TickObs). length y.pods) v.1 in
            omega (arith, same, may.next.within, taken.pieces.as_many)
      ];
      last_is = sym (last_more ticks x);
      few_ticks = omega (arith, few, len, length-more ticks x);
      few_pods = taken.few_pods;
    }
  where
    paused : Bool
    paused = is_paused s.config x.at (ticks ++ x ∷ []) s.evictions

    -- and the one that is kept pauses none
    free : (e : Option Eviction) → IfSome e (λ eviction. paused ≡ false)
        → IfSome e (λ eviction. pauses s.config x.at (still s.config x s.pausing) [] ≡ false)
    free None none = none
    free (Some e) none =
        sym (paused_now s.config ticks s.evictions s.last s.pausing x taken.pausing later) ∙ none

    len : length s.evictions ≡ length ticks
    len = taken.replay.as_many

    present : ArePresent mid x
    present = are_present s.pods.pieces x mid may after

    now : IsStateOf s.config.eviction s.config.eviction_pressure_transition_period (ticks ++ x ∷ []) signals
    now = sampled.signals ticks taken.signals

    is_served : IsServed s.config.eviction ticks x served
    is_served = sampled.serves ticks now

    now_pieces : ArePieces s.config pods (ticks ++ x ∷ []) s.evictions mid
    now_pieces = pieces_updated s.config pods ticks s.evictions x s.pods.pieces mid len taken.pieces after

    is_choice : IsChoiceOfTick s.config pods ticks x s.evictions choice
    is_choice = round_of s.config pods ticks x s.evictions mid served choice present now_pieces is_served by

    chosen : IsChosenAt s.config mid x.at (unless_paused paused served) eviction
    chosen = is_chosen s.config mid x.at (unless_paused paused served) s.config.evictions_recorded choice eviction by
        carried

pub rest_next : {A : Type 0} (all front : List A) (rest : List A) (x : A) (behind : List A) → all ≡ front ++ rest
    → rest ≡ x ∷ behind → all ≡ front ++ x ∷ behind
rest_next all front rest x behind is next = is ∙ ap (λ xs. front ++ xs) next

-- one more of the pods may arrive
pub room_left : (pods front : List PodSpec) (pod : PodSpec) (rest : List PodSpec) (s : State)
    → HasTaken front [] s → pods ≡ front ++ pod ∷ rest → length pods ≤ most_pods
    → length s.pods.pieces < most_pods
room_left pods front pod rest s taken is few =
    let many : length s.pods.pieces ≡ length front = taken.pieces.as_many in
    let all : length pods ≡ length front + suc (length rest) = ap length is ∙ length-append front (pod ∷ rest) in
    let most : length pods ≤ most_pods = few in
    omega (arith, many, all, most)
