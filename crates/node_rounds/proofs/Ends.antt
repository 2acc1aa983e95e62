-- A node at the end of a round.
use Rattle.std.proofs.Common.{◌≡◌, ◌∙◌, ℕ, ◌+◌, List, [], ◌∷◌, ◌++◌, length, map}
use Rattle.std.proofs.Common.{Option, Some, refl, ap, sym, subst, arith, append_assoc, append-nil}
use Rattle.std.specs.Option.{option_or}
use Rattle.std.proofs.lemmas.List.{length-append, length-map}
use Rattle.histories.proofs.Places.{length-more}
use Rattle.manifest.specs.declared.pod.PodSpec.{PodSpec}
use Rattle.node_config.specs.declared.node.NodeConfig.{NodeConfig}
use Rattle.observations.specs.declared.tick.TickObs.{TickObs}
use Rattle.observations.specs.rule.Observations.{shown_of}
use Rattle.node_signals.specs.declared.key.ThresholdKey.{ThresholdKey}
use Rattle.pod_state.specs.rule.Pods.{PodTick}
use Rattle.pod_piece.specs.rule.Piece.{Piece}
use Rattle.pod_piece.specs.state.Piece.{evicted_at}
use Rattle.pod_piece.specs.state.Made.{MadeEvent}
use Rattle.eviction.specs.declared.eviction.Eviction.{Eviction}
use Rattle.eviction.specs.state.Pausing.{Kept, kept, still}
use Rattle.eviction.specs.rule.Replay.{is_paused, unless_paused, unless_recorded}
use Rattle.totals.specs.declared.totals.Totals.{Totals}
use Rattle.event_list.specs.declared.event.Event.{Event}
use Rattle.event_list.specs.declared.tick.TickEvents.{TickEvents}
use Rattle.event_list.specs.rule.Events.{of_pods, of_node, of_choice}
use Rattle.event_list.specs.state.Tick.{events_at, of_ticks}
use Rattle.event_list.specs.rule.Totals.{totals_of}
use Rattle.node_pods.specs.state.Pods.{Pods, after_each}
use Rattle.node_pods.proofs.Steps.{after_is}
use Rattle.node_rounds.specs.state.Evict.{IsChoiceAt, AreWithout}
use Rattle.node_rounds.specs.declared.stretch.Begun.{Begun}
use Rattle.node_rounds.specs.state.Node.{State, state, HasTaken, FitAll}
use Rattle.node_rounds.specs.state.Stretch.{no_evictions, HasBegun}
use Rattle.node_rounds.proofs.Folds.{TellAll, tell_others, folded, folds, heeded_now}
use Rattle.node_rounds.proofs.GoesOn.{goes_on, part_of}
use Rattle.node_rounds.proofs.Handing.{after_all, after_all-more, front_handed, rest_handed}
use Rattle.node_rounds.proofs.Made.{made_in, made_told, all_told, TellAllOf}
use Rattle.node_rounds.proofs.Told.{Tells, with_own}

-- of the first ticks, and of the last one
tells_front : (pod : PodSpec) (max_restart_delay : ℕ) (evicted : Option ℕ) (before : List PodTick) (n : ℕ)
    (ticks more : List TickObs) (own : List MadeEvent) → Tells pod max_restart_delay evicted before n
    (ticks ++ more) own
    → Tells pod max_restart_delay evicted before n ticks own
tells_front pod max_restart_delay evicted before n [] more own tells = tt
tells_front pod max_restart_delay evicted before n (x ∷ ticks) more own tells = (
  tells.0,
  tells_front pod max_restart_delay evicted (with_own before (shown_of x n)) n ticks more own tells.1,
)

tell_front : (pieces : List Piece) (ticks more : List TickObs) (owns : List (List MadeEvent))
    → TellAll pieces (ticks ++ more) owns → TellAll pieces ticks owns
tell_front pieces ticks more owns tell n p own at there =
    tells_front p.pod p.max_restart_delay (evicted_at p) p.handed n ticks more own (tell n p own at there)

tell_last : (pieces : List Piece) (ticks : List TickObs) (x : TickObs) (owns : List (List MadeEvent))
    → TellAll pieces (ticks ++ x ∷ []) owns → TellAllOf (after_all pieces ticks) x owns
tell_last pieces [] x owns tell n p own at there = (tell n p own at there).0
tell_last pieces (y ∷ ticks) x owns tell n p own at there =
    tell_last (after_each pieces y.pods) ticks x owns (tell_others pieces y
    (ticks ++ x ∷ []) owns tell) n p own at there

pub after_all-length : (pieces : List Piece) (ticks : List TickObs) → length (after_all pieces ticks) ≡ length pieces
after_all-length pieces [] = refl
after_all-length pieces (x ∷ ticks) =
    after_all-length (after_each pieces x.pods) ticks ∙ (after_is pieces x.pods).as_many

-- the events of one tick more
of_ticks-more : (rows : List TickEvents) (row : TickEvents) (owns : List (List MadeEvent))
    → of_ticks (rows ++ row ∷ []) owns
    ≡ of_ticks rows owns ++ (of_pods row.at 0 (map (events_at row.at) owns) ++
    (of_node row.at row.node_events.items ++ []))
of_ticks-more [] row owns = refl
of_ticks-more (r ∷ rows) row owns =
    let A = of_pods r.at 0 (map (events_at r.at) owns) in
    let B = of_node r.at r.node_events.items in
    let C = of_ticks rows owns in
    let D = of_pods row.at 0 (map (events_at row.at) owns) ++ (of_node row.at row.node_events.items ++ []) in
    ap (λ (k : List Event). A ++ (B ++ k)) (of_ticks-more rows row owns)
    ∙ ap (λ (k : List Event). A ++ k) (sym (append_assoc B C D))
    ∙ sym (append_assoc A (B ++ C) D)

-- with those of the last tick, and its choice
last_part : (config : NodeConfig) (old : List Event) (rows : List TickEvents) (row : TickEvents) (x : TickObs)
    (pieces : List Piece) (owns : List (List MadeEvent)) (choice : Option Eviction) → row.at ≡ x.at
    → length owns ≡ length pieces → TellAllOf pieces x owns
    → (old ++ of_ticks rows owns) ++ part_of config x (made_in x owns) row.node_events.items choice
    ≡ (old ++ of_ticks (rows ++ row ∷ []) owns) ++ of_choice config.evictions_recorded x.at choice
last_part config old rows row x pieces owns choice at many tell =
    let T = of_ticks rows owns in
    let A = of_pods x.at 0 (map (events_at x.at) owns) in
    let B = of_node x.at row.node_events.items in
    let E = of_choice config.evictions_recorded x.at choice in
    ap (λ (k : List Event). (old ++ T) ++ (k ++ (B ++ E))) (all_told x pieces owns many tell)
    ∙ append_assoc old T (A ++ (B ++ E))
    ∙ ap (λ (k : List Event). old ++ (T ++ (A ++ k))) (ap (λ (k : List Event). k ++ E) (sym (append-nil B)))
    ∙ ap (λ (k : List Event). old ++ (T ++ k)) (sym (append_assoc A (B ++ []) E))
    ∙ ap (λ (k : List Event). old ++ k) (sym (append_assoc T (A ++ (B ++ [])) E))
    ∙ sym (append_assoc old (T ++ (A ++ (B ++ []))) E)
    ∙ ap (λ (m : ℕ). (old ++ (T ++ (of_pods m 0 (map (events_at m) owns) ++ (of_node m row.node_events.items ++ []))))
    ++ E) (sym at)
    ∙ ap (λ (k : List Event). (old ++ k) ++ E) (sym (of_ticks-more rows row owns))

-- the node that has ended the round
pub closes : (pods : List PodSpec) (before : List TickObs) (s : State) (calm : List TickObs) (x : TickObs)
    (begun : Begun) (owns : List (List MadeEvent)) (choice eviction : Option Eviction) (new : Pods) (totals : Totals)
    (evs : List Event) (es : Kept) → HasTaken pods before s → FitAll s (calm ++ x ∷ []) → HasBegun s calm x begun
    → length owns ≡ length s.pods.pieces → TellAll s.pods.pieces (calm ++ x ∷ []) owns
    → IsChoiceAt begun.config (after_all s.pods.pieces (calm ++ x ∷ [])) begun.at begun.heeded choice
    → eviction ≡ unless_recorded begun.config.evictions_recorded choice
    → AreWithout (after_all s.pods.pieces (calm ++ x ∷ [])) eviction new.pieces
    → new.max_restart_delay ≡ s.pods.max_restart_delay → new.has_dedicated_imagefs ≡ s.pods.has_dedicated_imagefs
    → evs ≡ (begun.events.items ++ of_ticks begun.ticks.items owns)
    ++ of_choice begun.config.evictions_recorded begun.at choice
    → es ≡ kept (begun.evictions.each ++ eviction ∷ []) (option_or eviction begun.evictions.pausing)
    → totals ≡ totals_of (before ++ (calm ++ x ∷ [])) ((s.events ++ of_ticks begun.ticks.items owns)
    ++ of_choice s.config.evictions_recorded x.at choice)
    → HasTaken pods (before ++ (calm ++ x ∷ []))
    (state begun.config begun.signals new es evs totals (Some begun.at))
closes pods before s calm x begun owns choice eviction new totals evs es taken fits has many tell by carried gone
    delay dedicated events evictions count =
    let recorded = s.config.evictions_recorded in
    let pieces = s.pods.pieces in
    let front = tell_front pieces calm (x ∷ []) owns tell in
    let last = tell_last pieces calm x owns tell in
    let long : length (calm ++ x ∷ []) ≡ length calm + 1 = omega (arith, length-more calm x) in
    let fold = folds calm pods before s has.rows has.before has.pausing owns taken many (omega (arith, fits.few, long))
    (front_handed pieces s.last calm (x ∷ []) fits.handed) has.are_calm front in
    let one = folded s calm has.before has.pausing has.rows owns fold.0 in
    let may = rest_handed pieces s.last calm (x ∷ []) fits.handed in
    let made = made_in x owns in
    let ne = has.row.node_events.items in
    let all = (before ++ calm) ++ x ∷ [] in
    let same_pieces : after_all pieces (calm ++ x ∷ []) ≡ after_each (after_all pieces calm) x.pods =
    after_all-more pieces calm x in
    let mid = after_each (after_all pieces calm) x.pods in
    let length_of : length (s.evictions ++ no_evictions calm) ≡ length s.evictions + length calm =
    length-append s.evictions (no_evictions calm) ∙ ap (λ n. length s.evictions + n) (length-map calm _) in
    let owned : length owns ≡ length (after_all pieces calm) = many ∙ sym (after_all-length pieces calm) in
    let heeds : begun.heeded ≡ unless_paused (is_paused s.config x.at all one.evictions) has.served =
    has.heeded ∙ heeded_now pods (before ++ calm) one x has.served fold.1 may.1 in
    let by_now : IsChoiceAt s.config mid x.at (unless_paused (is_paused s.config x.at all one.evictions) has.served)
    choice = subst (λ (k : Option ThresholdKey). IsChoiceAt s.config mid x.at k choice) heeds
    (subst (λ (m : ℕ). IsChoiceAt s.config mid m begun.heeded choice) has.at
    (subst (λ (c : NodeConfig). IsChoiceAt c mid begun.at begun.heeded choice) has.config
    (subst (λ (ps : List Piece). IsChoiceAt begun.config ps begun.at begun.heeded choice) same_pieces by))) in
    let carried_now : eviction ≡ unless_recorded recorded choice =
    carried ∙ ap (λ (c : NodeConfig). unless_recorded c.evictions_recorded choice) has.config in
    let shape : (s.events ++ of_ticks has.rows owns) ++ part_of s.config x made ne choice
    ≡ (s.events ++ of_ticks begun.ticks.items owns) ++ of_choice recorded x.at choice =
    last_part s.config s.events has.rows has.row x (after_all pieces calm) owns choice has.row_at owned last
    ∙ ap (λ (rs : List TickEvents). (s.events ++ of_ticks rs owns) ++ of_choice recorded x.at choice)
    (sym has.ticks) in
    let shape_evs : evs ≡ (s.events ++ of_ticks has.rows owns) ++ part_of s.config x made ne choice = events
    ∙ ap (λ (c : NodeConfig). (begun.events.items ++ of_ticks begun.ticks.items owns)
    ++ of_choice c.evictions_recorded begun.at choice) has.config
    ∙ ap (λ (l : List Event). (l ++ of_ticks begun.ticks.items owns) ++ of_choice recorded begun.at choice) has.events
    ∙ ap (λ (m : ℕ). (s.events ++ of_ticks begun.ticks.items owns) ++ of_choice recorded m choice) has.at
    ∙ sym shape in
    let shape_es : es ≡ kept ((s.evictions ++ no_evictions calm) ++ eviction ∷ [])
    (option_or eviction (still s.config x has.pausing)) = evictions
    ∙ ap (λ (k : Kept). kept (k.each ++ eviction ∷ []) (option_or eviction k.pausing)) has.evictions in
    let assoc : all ≡ before ++ (calm ++ x ∷ []) = append_assoc before calm (x ∷ []) in
    let now : HasTaken pods all (state s.config begun.signals new
    (kept ((s.evictions ++ no_evictions calm) ++ eviction ∷ []) (option_or eviction (still s.config x has.pausing)))
    ((s.events ++ of_ticks has.rows owns) ++ part_of s.config x made ne choice) totals (Some x.at)) =
    goes_on pods (before ++ calm) one x begun.signals ne has.served made totals mid new choice eviction fold.1
    (omega (arith, fits.few, long, length_of)) may.1 may.0 has.sampled (after_is (after_all pieces calm) x.pods) by_now
    carried_now
    (made_told s.config pods (before ++ calm) one.evictions x (after_all pieces calm) owns fold.1.replay
    may.0.next.within owned fold.1.pieces last)
    (count ∙ ap (λ (h : List TickObs). totals_of h ((s.events ++ of_ticks begun.ticks.items owns)
    ++ of_choice recorded x.at choice)) (sym assoc) ∙ ap (λ (l : List Event). totals_of all l) (sym shape))
    (subst (λ (ps : List Piece). AreWithout ps eviction new.pieces) same_pieces gone) delay dedicated in
    subst (λ (h : List TickObs). HasTaken pods h (state begun.config begun.signals new es evs totals (Some begun.at)))
    assoc
    (subst (λ (c : NodeConfig). HasTaken pods all (state c begun.signals new es evs totals (Some begun.at)))
    (sym has.config)
    (subst (λ (m : ℕ). HasTaken pods all (state s.config begun.signals new es evs totals (Some m))) (sym has.at)
    (subst (λ (k : Kept). HasTaken pods all (state s.config begun.signals new k evs totals (Some x.at))) (sym shape_es)
    (subst (λ (l : List Event). HasTaken pods all (state s.config begun.signals new
    (kept ((s.evictions ++ no_evictions calm) ++ eviction ∷ []) (option_or eviction (still s.config x has.pausing)))
    l totals (Some x.at))) (sym shape_evs) now))))
