-- A node after ticks in which no threshold is heeded, one after the other: states that no code makes.
use Rattle.std.proofs.Common.{◌≡◌, ◌∙◌, ℕ, ◌+◌, ◌<◌, ◌≤◌, List, [], ◌∷◌, ◌++◌, length, map, Option, Some, None}
use Rattle.std.proofs.Common.{Bool, true, false, refl, ap, sym, subst, arith, append_assoc, append-nil}
use Rattle.std.specs.Prelude.{slice_get, IfSome}
use Rattle.std.proofs.lemmas.Option.{slice_get_within}
use Rattle.histories.proofs.Places.{length-more}
use Rattle.histories.proofs.Lists.{given_at}
use Rattle.manifest.specs.declared.pod.PodSpec.{PodSpec}
use Rattle.node_config.specs.declared.node.NodeConfig.{NodeConfig}
use Rattle.observations.specs.rule.Pods.{PodObs}
use Rattle.observations.specs.declared.tick.TickObs.{TickObs}
use Rattle.observations.specs.rule.Observations.{shown_of}
use Rattle.observations.specs.rule.Limits.{most_ticks}
use Rattle.node_signals.specs.declared.node.NodeSignals.{NodeSignals}
use Rattle.node_signals.specs.declared.key.ThresholdKey.{ThresholdKey}
use Rattle.pod_piece.specs.state.Made.{MadeEvent}
use Rattle.pod_piece.specs.rule.Piece.{Piece}
use Rattle.pod_piece.specs.state.Piece.{evicted_at}
use Rattle.eviction.specs.declared.eviction.Eviction.{Eviction}
use Rattle.eviction.specs.state.Pausing.{kept, still}
use Rattle.eviction.specs.rule.Replay.{is_paused, unless_paused, unless_recorded}
use Rattle.eviction.proofs.Pausing.{paused_now}
use Rattle.totals.specs.declared.totals.Totals.{Totals}
use Rattle.event_list.specs.declared.event.Event.{Event}
use Rattle.event_list.specs.declared.tick.TickEvents.{TickEvents}
use Rattle.event_list.specs.rule.Events.{of_pods, of_node}
use Rattle.event_list.specs.state.Tick.{events_at, of_ticks}
use Rattle.event_list.specs.rule.Totals.{totals_of}
use Rattle.node_pods.specs.state.Pods.{pods_of, after_one, after_each}
use Rattle.node_pods.proofs.Steps.{after_is, with_shown_at, with_shown_length}
use Rattle.node_pods.proofs.Candidates.{same_piece}
use Rattle.node_rounds.specs.state.Evict.{IsChoiceAt}
use Rattle.node_rounds.specs.state.Node.{State, state, HasTaken, MayBeHandedAll}
use Rattle.node_rounds.specs.state.Stretch.{heeded_in, AreCalm, no_evictions}
use Rattle.node_rounds.proofs.GoesOn.{goes_on, part_of}
use Rattle.node_rounds.proofs.Handing.{after_all, last_with}
use Rattle.node_rounds.proofs.Made.{made_in, made_told, all_told, TellAllOf}
use Rattle.node_rounds.proofs.Told.{Tells, with_own}

-- the events of each pod's round tell of each of these ticks
abbrev pub TellAll : List Piece → List TickObs → List (List MadeEvent) → Type 0
TellAll pieces ticks owns =
    (n : ℕ) (p : Piece) (own : List MadeEvent) → slice_get pieces n ≡ Some p → slice_get owns n ≡ Some own
    → Tells p.pod p.max_restart_delay (evicted_at p) p.handed n ticks own

-- of the first of them, and of the others
pub tell_first : (pieces : List Piece) (x : TickObs) (ticks : List TickObs) (owns : List (List MadeEvent))
    → TellAll pieces (x ∷ ticks) owns → TellAllOf pieces x owns
tell_first pieces x ticks owns tell n p own at there = (tell n p own at there).0

pub tell_others : (pieces : List Piece) (x : TickObs) (ticks : List TickObs) (owns : List (List MadeEvent))
    → TellAll pieces (x ∷ ticks) owns → TellAll (after_each pieces x.pods) ticks owns
tell_others pieces x ticks owns tell n q own at there =
    let lt = slice_get_within (after_each pieces x.pods) n q at in
    let p = given_at pieces n (let long = with_shown_length after_one pieces x.pods in omega (arith, lt, long)) in
    let is = with_shown_at after_one (λ r. refl) pieces x.pods n p.0 p.1 in
    subst (λ (r : Piece). Tells r.pod r.max_restart_delay (evicted_at r) r.handed n ticks own)
    (same_piece (after_each pieces x.pods) n (after_one p.0 (shown_of x n)) q is at)
    (by p.0 (shown_of x n) (tell n p.0 own p.1 there).1)
  where
    by : (p : Piece) (o : Option PodObs)
        → Tells p.pod p.max_restart_delay (evicted_at p) (with_own p.handed o) n ticks own
        → Tells (after_one p o).pod (after_one p o).max_restart_delay (evicted_at (after_one p o))
        (after_one p o).handed n ticks own
    by p None tells = subst (λ h. Tells p.pod p.max_restart_delay (evicted_at p) h n ticks own)
        (append-nil p.handed) tells
    by p (Some o) tells = tells

-- the threshold that is heeded in a tick, over all ticks
pub heeded_now : (pods : List PodSpec) (ticks : List TickObs) (s : State) (x : TickObs)
    (served : Option ThresholdKey) → HasTaken pods ticks s → IfSome s.last (λ moment. moment < x.at)
    → heeded_in s.config x s.pausing served
    ≡ unless_paused (is_paused s.config x.at (ticks ++ x ∷ []) s.evictions) served
heeded_now pods ticks s x served taken later =
    ap (λ p. unless_paused p served)
    (sym (paused_now s.config ticks s.evictions s.last s.pausing x taken.pausing later))

-- what the ticks make of the node
abbrev pub folded : State → List TickObs → NodeSignals → Option Eviction → List TickEvents → List (List MadeEvent)
    → Totals → State
folded s ticks now paused rows owns totals =
    state s.config now
    (pods_of (after_all s.pods.pieces ticks) s.pods.max_restart_delay s.pods.has_dedicated_imagefs)
    (kept (s.evictions ++ no_evictions ticks) paused) (s.events ++ of_ticks rows owns) totals (last_with s.last ticks)

-- where nobody is chosen nobody is evicted
none_evicted : (recorded : Bool) → None ≡ unless_recorded recorded None
none_evicted true = refl
none_evicted false = refl

-- what one of them adds to the events
pub part_first : (config : NodeConfig) (x : TickObs) (row : TickEvents) (rest : List TickEvents) (pieces : List Piece)
    (owns : List (List MadeEvent)) → row.at ≡ x.at → length owns ≡ length pieces → TellAllOf pieces x owns
    → part_of config x (made_in x owns) row.node_events.items None ++ of_ticks rest owns ≡ of_ticks (row ∷ rest) owns
part_first config x row rest pieces owns at many tell =
    let A = of_pods x.at 0 (made_in x owns) in
    let B = of_node x.at row.node_events.items in
    let C = of_ticks rest owns in
    append_assoc A (B ++ []) C
    ∙ ap (λ (k : List Event). A ++ k) (append_assoc B [] C)
    ∙ ap (λ (k : List Event). k ++ (B ++ C)) (all_told x pieces owns many tell)
    ∙ ap (λ (m : ℕ). of_pods m 0 (map (events_at m) owns) ++ (of_node m row.node_events.items ++ C)) (sym at)

-- without ticks it is as it was
none_folded : (pods : List PodSpec) (before : List TickObs) (s : State) (rows : List TickEvents) (now : NodeSignals)
    (paused : Option Eviction) (owns : List (List MadeEvent)) → HasTaken pods before s → rows ≡ [] → now ≡ s.signals
    → paused ≡ s.pausing → HasTaken pods (before ++ []) (folded s [] now paused rows owns s.totals)
none_folded pods before s rows now paused owns taken no_rows same_signals same_pausing =
    subst (λ (h : List TickObs). HasTaken pods h (folded s [] now paused rows owns s.totals)) (sym (append-nil before))
    (subst (λ (rs : List TickEvents). HasTaken pods before (folded s [] now paused rs owns s.totals)) (sym no_rows)
    (subst (λ (n : NodeSignals). HasTaken pods before (folded s [] n paused [] owns s.totals)) (sym same_signals)
    (subst (λ (p : Option Eviction). HasTaken pods before (folded s [] s.signals p [] owns s.totals))
    (sym same_pausing)
    (subst (λ (es : List (Option Eviction)). HasTaken pods before
    (state s.config s.signals s.pods (kept es s.pausing) (s.events ++ []) s.totals s.last))
    (sym (append-nil s.evictions))
    (subst (λ (evs : List Event). HasTaken pods before
    (state s.config s.signals s.pods (kept s.evictions s.pausing) evs s.totals s.last)) (sym (append-nil s.events))
    taken)))))

pub folds : (ticks : List TickObs) (pods : List PodSpec) (before : List TickObs) (s : State) (rows : List TickEvents)
    (now : NodeSignals) (paused : Option Eviction) (owns : List (List MadeEvent)) → HasTaken pods before s
    → length owns ≡ length s.pods.pieces → length s.evictions + length ticks ≤ most_ticks
    → MayBeHandedAll s.pods.pieces s.last ticks → AreCalm s.config ticks s.signals s.pausing rows now paused
    → TellAll s.pods.pieces ticks owns
    → (totals : Totals) × HasTaken pods (before ++ ticks) (folded s ticks now paused rows owns totals)
folds [] pods before s rows now paused owns taken many few may calm tell =
    (s.totals, none_folded pods before s rows now paused owns taken calm.0 calm.1 calm.2)
folds (x ∷ ticks) pods before s rows now paused owns taken many few may calm tell =
    let row = calm.0 in
    let here = calm.3 in
    let made = made_in x owns in
    let ne = row.node_events.items in
    let mid = after_each s.pods.pieces x.pods in
    let p = pods_of mid s.pods.max_restart_delay s.pods.has_dedicated_imagefs in
    let total = totals_of (before ++ x ∷ []) (s.events ++ part_of s.config x made ne None) in
    let one = state s.config calm.2 p (kept (s.evictions ++ None ∷ []) (still s.config x s.pausing))
    (s.events ++ part_of s.config x made ne None) total (Some x.at) in
    let first = tell_first s.pods.pieces x ticks owns tell in
    let none : unless_paused (is_paused s.config x.at (before ++ x ∷ []) s.evictions) here.served ≡ None =
    sym (heeded_now pods before s x here.served taken may.1) ∙ here.calm in
    let next : HasTaken pods (before ++ x ∷ []) one =
    goes_on pods before s x calm.2 ne here.served made total mid p None None taken (omega (arith, few)) may.1 may.0
    here.sampled (after_is s.pods.pieces x.pods)
    (subst (λ (k : Option ThresholdKey). IsChoiceAt s.config mid x.at k None) (sym none) refl)
    (none_evicted s.config.evictions_recorded)
    (made_told s.config pods before s.evictions x s.pods.pieces owns taken.replay may.0.next.within many taken.pieces
    first)
    refl refl refl refl in
    let rest = folds ticks pods (before ++ x ∷ []) one calm.1 now paused owns next
    (many ∙ sym (with_shown_length after_one s.pods.pieces x.pods))
    (omega (arith, few, length-more s.evictions None)) may.2 calm.4
    (tell_others s.pods.pieces x ticks owns tell) in
    let after = pods_of (after_all mid ticks) s.pods.max_restart_delay s.pods.has_dedicated_imagefs in
    let moment = last_with (Some x.at) ticks in
    let evs : (s.events ++ part_of s.config x made ne None) ++ of_ticks calm.1 owns ≡ s.events ++ of_ticks rows owns =
    append_assoc s.events (part_of s.config x made ne None) (of_ticks calm.1 owns)
    ∙ ap (λ (k : List Event). s.events ++ k) (part_first s.config x row calm.1 s.pods.pieces owns here.at many first)
    ∙ ap (λ (rs : List TickEvents). s.events ++ of_ticks rs owns) (sym calm.5) in (
      rest.0,
      subst (λ (l : List Event). HasTaken pods (before ++ x ∷ ticks)
          (state s.config now after (kept (s.evictions ++ None ∷ no_evictions ticks) paused) l rest.0 moment)) evs
          (subst (λ (es : List (Option Eviction)). HasTaken pods (before ++ x ∷ ticks)
          (state s.config now after (kept es paused)
          ((s.events ++ part_of s.config x made ne None) ++ of_ticks calm.1 owns)
          rest.0 moment)) (append_assoc s.evictions (None ∷ []) (no_evictions ticks))
          (subst (λ (h : List TickObs). HasTaken pods h
          (folded one ticks now paused calm.1 owns rest.0)) (append_assoc before (x ∷ []) ticks) rest.1)),
    )
