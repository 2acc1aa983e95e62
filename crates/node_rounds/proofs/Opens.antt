-- A node that begins a round, takes ticks into it and ends it.
use Rattle.std.proofs.Common.{◌≡◌, ◌∙◌, ℕ, zero, suc, ◌≤◌, List, [], ◌∷◌, ◌++◌, length, map}
use Rattle.std.proofs.Common.{Option, Some, None, refl, ap, sym, subst, arith, append_assoc, append-nil}
use Rattle.std.specs.Prelude.{slice_get, option_map, Result, Ok, Err, OnErr}
use Rattle.std.specs.Option.{option_or}
use Rattle.std.proofs.lemmas.List.{length-map, length-append}
use Rattle.std.proofs.lemmas.Option.{slice_get_within, slice_get-map}
use Rattle.histories.proofs.Lists.{given_at, map_more}
use Rattle.manifest.specs.declared.pod.PodSpec.{PodSpec}
use Rattle.node_config.specs.declared.node.NodeConfig.{NodeConfig}
use Rattle.observations.specs.declared.tick.TickObs.{TickObs}
use Rattle.node_signals.specs.declared.node.NodeSignals.{NodeSignals}
use Rattle.pod_piece.specs.rule.Piece.{Piece}
use Rattle.pod_piece.specs.state.Piece.{all_updated, at_rest, pods_in}
use Rattle.pod_piece.specs.state.Made.{MadeEvent, round_length}
use Rattle.eviction.specs.declared.eviction.Eviction.{Eviction}
use Rattle.eviction.specs.state.Pausing.{Kept, kept, still}
use Rattle.eviction.specs.rule.Replay.{pod_ticks, unless_recorded}
use Rattle.totals.specs.declared.totals.Totals.{Totals}
use Rattle.totals.specs.state.Totals.{plus}
use Rattle.totals.specs.state.Rounds.{AreAdditionsOf, sums_of_additions, AreAdded}
use Rattle.event_list.specs.declared.event.Event.{Event}
use Rattle.event_list.specs.declared.tick.TickEvents.{TickEvents}
use Rattle.event_list.specs.rule.Events.{of_choice}
use Rattle.event_list.specs.state.Tick.{of_ticks, AddsEvents, AreMadeBy, AreOfTicks, MomentsRise}
use Rattle.event_list.specs.rule.Totals.{totals_of}
use Rattle.node_pods.specs.state.Pods.{Pods, pods_of, AreNumbered, AreNext, handed_each, after_each, closed}
use Rattle.node_pods.specs.state.Pods.{sent_from, staying, Awaited, awaited, joined}
use Rattle.node_pods.specs.state.Steps.{AreFree}
use Rattle.node_pods.proofs.Steps.{is_closed, are_closed, joined_updated, after_is}
use Rattle.node_pods.proofs.Candidates.{same_piece}
use Rattle.node_rounds.specs.state.Evict.{IsChoiceAt, AreWithout}
use Rattle.node_rounds.specs.declared.stretch.Begun.{Begun}
use Rattle.node_rounds.specs.declared.stretch.Stretch.{Stretch}
use Rattle.node_rounds.specs.declared.stretch.Round.{Round}
use Rattle.node_rounds.specs.state.Node.{State, state, ArePieces, HasTaken, Fits, FitAll, MayBeHandedAll}
use Rattle.node_rounds.specs.state.Round.{IsKept}
use Rattle.node_rounds.specs.state.Stretch.{IsSampled, heeded_in, IsCalm, AreCalm, no_evictions, handed_all, HasBegun}
use Rattle.node_rounds.specs.state.Stretch.{IsOpen}
use Rattle.node_rounds.specs.state.Stretch.{MayGoOn, GoesOnWith, Takes, IsStretchOf, IsPassed, MayClose, MayEnd}
use Rattle.node_rounds.specs.state.Stretch.{CanEnd, IsOut, HasRoom, IsRefusedIn}
use Rattle.node_rounds.proofs.Counts.{AreRows, totals_added}
use Rattle.node_rounds.proofs.Ends.{closes}
use Rattle.node_rounds.proofs.Evicts.{get_pod}
use Rattle.node_rounds.proofs.GoesOn.{kept_by}
use Rattle.node_rounds.proofs.Handing.{after_all, handed_all-more, closed_all, front_handed, rest_handed, next_open}
use Rattle.node_rounds.proofs.Handing.{IsGrown, not_grown, handed_at, handed_all-length}
use Rattle.node_rounds.proofs.Owns.{AreAtRest, behind_each_other, rows_of, rows_more, rows_rise, of_rows, told_by}
use Rattle.node_rounds.proofs.Owns.{additions_for, add_all, few_added, few_more_events, low_rounds}
use Rattle.node_rounds.proofs.Pieces.{pod_at}

-- between two rounds nothing waits
pub rest_of : (config : NodeConfig) (pods : List PodSpec) (ticks : List TickObs) (es : List (Option Eviction))
    (pieces : List Piece) → ArePieces config pods ticks es pieces → AreAtRest pieces
rest_of config pods ticks es pieces are n p at =
    let is = pod_at config pods ticks es pieces n p are at in (
      ap (λ (q : Piece). q.waiting) is.2,
      ap (λ (q : Piece). q.begun) is.2 ∙ sym (ap (λ (q : Piece). length q.handed) is.2),
    )

pub closed_at_rest : (pieces : List Piece) → AreAtRest pieces → map closed pieces ≡ pieces
closed_at_rest pieces rest = are_closed pieces (λ n p at. is_closed p (rest n p at).0 (rest n p at).1)

-- a stretch with its first tick
pub first_open : (s : State) (tick : TickObs) (a b : Stretch) → IsStretchOf s a → Takes tick a b → IsOpen s [] tick b
first_open s tick a b is takes = record {
  has_begun = record {
    before = s.signals;
    pausing = s.pausing;
    rows = [];
    row = takes.row;
    served = takes.served;
    are_calm = (refl, refl, refl);
    sampled = subst (λ (n : NodeSignals). IsSampled s.config n tick b.begun.signals takes.row.node_events.items
        takes.served) is.signals
        (subst (λ (c : NodeConfig). IsSampled c a.begun.signals tick b.begun.signals takes.row.node_events.items
        takes.served) is.config takes.sampled);
    row_at = takes.row_at;
    config = takes.config ∙ is.config;
    ticks = takes.ticks ∙ ap (λ (rs : List TickEvents). rs ++ takes.row ∷ []) is.ticks;
    heeded = takes.heeded
        ∙ ap (λ (c : NodeConfig). heeded_in c tick a.begun.evictions.pausing takes.served) is.config
        ∙ ap (λ (k : Kept). heeded_in s.config tick k.pausing takes.served) is.evictions;
    evictions = takes.evictions
        ∙ ap (λ (c : NodeConfig). kept a.begun.evictions.each (still c tick a.begun.evictions.pausing)) is.config
        ∙ ap (λ (k : Kept). kept k.each (still s.config tick k.pausing)) is.evictions
        ∙ ap (λ (es : List (Option Eviction)). kept es (still s.config tick s.pausing)) (sym (append-nil s.evictions));
    events = takes.events ∙ is.events;
    at = takes.at;
  };
  pods = takes.pods
      ∙ ap (λ (p : Pods). pods_of (handed_each p.pieces tick.pods) p.max_restart_delay p.has_dedicated_imagefs) is.pods;
}

calm_more : (config : NodeConfig) (ticks : List TickObs) (old : NodeSignals) (pausing : Option Eviction)
    (rows : List TickEvents) (mid : NodeSignals) (paused : Option Eviction) (x : TickObs) (row : TickEvents)
    (new : NodeSignals) → AreCalm config ticks old pausing rows mid paused → IsCalm config mid paused x new row
    → AreCalm config (ticks ++ x ∷ []) old pausing (rows ++ row ∷ []) new (still config x paused)
calm_more config [] old pausing rows mid paused x row new calm one = (
  row,
  [],
  new,
  subst (λ (n : NodeSignals). IsCalm config n pausing x new row) calm.1
      (subst (λ (p : Option Eviction). IsCalm config mid p x new row) calm.2 one),
  (refl, refl, ap (λ (p : Option Eviction). still config x p) calm.2),
  ap (λ (rs : List TickEvents). rs ++ row ∷ []) calm.0,
)
calm_more config (y ∷ ticks) old pausing rows mid paused x row new calm one = (
  calm.0,
  calm.1 ++ row ∷ [],
  calm.2,
  calm.3,
  calm_more config ticks calm.2 (still config y pausing) calm.1 mid paused x row new calm.4 one,
  ap (λ (rs : List TickEvents). rs ++ row ∷ []) calm.5,
)

-- and with one more, where no threshold is heeded in the last
pub next_is_open : (s : State) (calm : List TickObs) (x y : TickObs) (a b c : Stretch) → IsOpen s calm x a
    → a.begun.heeded ≡ None → IsPassed a b → Takes y b c → IsOpen s (calm ++ x ∷ []) y c
next_is_open s calm x y a b c was none passed takes =
    let has = was.has_begun in
    let config : b.begun.config ≡ s.config = passed.config ∙ has.config in
    let evictions : b.begun.evictions ≡ kept ((s.evictions ++ no_evictions calm) ++ None ∷ [])
    (still s.config x has.pausing) = passed.evictions
    ∙ ap (λ (k : Kept). kept (k.each ++ None ∷ []) k.pausing) has.evictions in
    record {
      has_begun = record {
        before = a.begun.signals;
        pausing = still s.config x has.pausing;
        rows = has.rows ++ has.row ∷ [];
        row = takes.row;
        served = takes.served;
        are_calm = calm_more s.config calm s.signals s.pausing has.rows has.before has.pausing x has.row a.begun.signals
            has.are_calm (record {
              served = has.served;
              sampled = has.sampled;
              at = has.row_at;
              calm = sym has.heeded ∙ none;
            });
        sampled = subst (λ (n : NodeSignals). IsSampled s.config n y c.begun.signals takes.row.node_events.items
            takes.served) passed.signals
            (subst (λ (d : NodeConfig). IsSampled d b.begun.signals y c.begun.signals takes.row.node_events.items
            takes.served) config takes.sampled);
        row_at = takes.row_at;
        config = takes.config ∙ config;
        ticks = takes.ticks ∙ ap (λ (rs : List TickEvents). rs ++ takes.row ∷ []) (passed.ticks ∙ has.ticks);
        heeded = takes.heeded
            ∙ ap (λ (d : NodeConfig). heeded_in d y b.begun.evictions.pausing takes.served) config
            ∙ ap (λ (k : Kept). heeded_in s.config y k.pausing takes.served) evictions;
        evictions = takes.evictions
            ∙ ap (λ (d : NodeConfig). kept b.begun.evictions.each (still d y b.begun.evictions.pausing)) config
            ∙ ap (λ (k : Kept). kept k.each (still s.config y k.pausing)) evictions
            ∙ ap (λ (es : List (Option Eviction)). kept es (still s.config y (still s.config x has.pausing)))
            (append_assoc s.evictions (no_evictions calm) (None ∷ [])
            ∙ ap (λ (es : List (Option Eviction)). s.evictions ++ es) (sym (map_more (λ (t : TickObs). None) calm x)));
        events = takes.events ∙ passed.events ∙ has.events;
        at = takes.at;
      };
      pods = takes.pods
          ∙ ap (λ (p : Pods). pods_of (handed_each p.pieces y.pods) p.max_restart_delay p.has_dedicated_imagefs)
          (passed.pods ∙ was.pods)
          ∙ ap (λ (ps : List Piece). pods_of ps s.pods.max_restart_delay s.pods.has_dedicated_imagefs)
          (sym (handed_all-more s.pods.pieces (calm ++ x ∷ []) y));
    }

-- the next tick may be handed to its pods
pub may_hand : (s : State) (xs : List TickObs) (y : TickObs) (rest : List TickObs) (pods : Pods) → IsKept s
    → FitAll s (xs ++ y ∷ rest)
    → pods ≡ pods_of (handed_all s.pods.pieces xs) s.pods.max_restart_delay s.pods.has_dedicated_imagefs
    → AreNext pods.pieces y.pods
may_hand s xs y rest pods kept fits is =
    let pieces = s.pods.pieces in
    let at_rest = rest_of s.config (pods_in pieces) kept.ticks s.evictions pieces kept.taken.pieces in
    let same : map closed (handed_all pieces xs) ≡ after_all pieces xs =
    closed_all pieces xs ∙ ap (λ (ps : List Piece). after_all ps xs) (closed_at_rest pieces at_rest) in
    subst (λ (p : Pods). AreNext p.pieces y.pods) (sym is)
    (next_open (handed_all pieces xs) (after_all pieces xs) y.pods same
    (rest_handed pieces s.last xs (y ∷ rest) fits.handed).0.next)

pub first_next : (s : State) (tick : TickObs) (rest : List TickObs) → FitAll s (tick ∷ rest)
    → AreNext s.pods.pieces tick.pods
first_next s tick rest fits = fits.handed.0.next

-- a tick that may come next, by itself
pub fit_one : (s : State) (tick : TickObs) → Fits s tick → FitAll s (tick ∷ [])
fit_one s tick fits = record { few = omega (arith, fits.few); handed = (fits.pods.handed, fits.later, tt) }

-- the first of the ticks fit
pub fit_front : (s : State) (xs more : List TickObs) → FitAll s (xs ++ more) → FitAll s xs
fit_front s xs more fits = record {
  few = omega (arith, fits.few, length-append xs more);
  handed = front_handed s.pods.pieces s.last xs more fits.handed;
}

-- the node may end the round once the pieces that went out are back
pub may_end : (s : State) (calm : List TickObs) (tick : TickObs) (pieces back : List Piece) (book totals : Totals)
    (round : Round) → IsOut s calm tick pieces book round → FitAll s (calm ++ tick ∷ []) → back ≡ map all_updated pieces
    → AreAdded back book totals → MayEnd s calm tick round back totals
may_end s calm tick pieces back book totals round out fits is added = record {
  kept = out.kept;
  fits = fits;
  has_begun = out.has_begun;
  pods = out.pods;
  back_are = is ∙ ap (map all_updated) out.sent;
  added = subst (λ (t : Totals). AreAdded back t totals) out.book added;
}

pub can_end : (s : State) (calm : List TickObs) (tick : TickObs) (pieces back : List Piece) (book totals : Totals)
    (round : Round) → IsOut s calm tick pieces book round → FitAll s (calm ++ tick ∷ []) → back ≡ map all_updated pieces
    → AreAdded back book totals → CanEnd round back totals
can_end s calm tick pieces back book totals round out fits is added = record {
  node = s;
  calm = calm;
  tick = tick;
  may = may_end s calm tick pieces back book totals round out fits is added;
  numbered = subst (λ (ps : List Piece). AreNumbered (joined round.pods ps)) (sym is) out.numbered;
}

-- the numbers of the pods once ticks were handed to them
numbers_of : (config : NodeConfig) (pods : List PodSpec) (before : List TickObs) (es : List (Option Eviction))
    (pieces : List Piece) (xs : List TickObs) → ArePieces config pods before es pieces → (n : ℕ) (q : Piece)
    → slice_get (handed_all pieces xs) n ≡ Some q → q.number ≡ n
numbers_of config pods before es pieces xs are n q at =
    let lt = slice_get_within (handed_all pieces xs) n q at in
    let p = given_at pieces n (omega (arith, lt, handed_all-length pieces xs)) in
    let rest = rest_of config pods before es pieces are n p.0 p.1 in
    let g = handed_at p.0 [] pieces xs n p.0 p.1 (not_grown p.0 rest.0 rest.1) in
    ap (λ (r : Piece). r.number) (same_piece (handed_all pieces xs) n q g.0 at g.1) ∙ g.2.number
    ∙ ap (λ (r : Piece). r.number) (pod_at config pods before es pieces n p.0 are p.1).2

-- the pods that are back
back_pods : (s : State) (xs : List TickObs) (round : Round) (back : List Piece) → IsKept s
    → round.pods ≡ awaited (staying (handed_all s.pods.pieces xs)) s.pods.max_restart_delay s.pods.has_dedicated_imagefs
    → back ≡ map all_updated (sent_from 0 (handed_all s.pods.pieces xs))
    → joined round.pods back
    ≡ pods_of (map all_updated (handed_all s.pods.pieces xs)) s.pods.max_restart_delay s.pods.has_dedicated_imagefs
back_pods s xs round back kept pods is =
    let all = handed_all s.pods.pieces xs in
    let d = s.pods.max_restart_delay in
    let fs = s.pods.has_dedicated_imagefs in
    ap (λ (a : Awaited). joined a back) pods
    ∙ ap (λ (ps : List Piece). joined (awaited (staying all) d fs) ps) is
    ∙ ap (λ (ps : List Piece). pods_of ps d fs)
    (joined_updated all (numbers_of s.config (pods_in s.pods.pieces) kept.ticks s.evictions s.pods.pieces xs
    kept.taken.pieces))

none_waited : (pieces : List Piece) (xs : List TickObs) → AreAtRest pieces → (n : ℕ) (q : Piece)
    → slice_get (handed_all pieces xs) n ≡ Some q → q.waiting ≡ 0 → round_length (all_updated q) ≡ 0
none_waited pieces xs rest n q at none =
    let lt = slice_get_within (handed_all pieces xs) n q at in
    let p = given_at pieces n (omega (arith, lt, handed_all-length pieces xs)) in
    let r = rest n p.0 p.1 in
    let g = handed_at p.0 [] pieces xs n p.0 p.1 (not_grown p.0 r.0 r.1) in
    let is = subst (λ (x : Piece). IsGrown p.0 (pod_ticks xs n) x) (same_piece (handed_all pieces xs) n g.0 q g.1 at)
    g.2 in
    omega (arith, none, is.waiting, is.begun, ap length is.handed, length-append (p.0).handed (pod_ticks xs n))

-- so it may close it
pub may_close : (s : State) (calm : List TickObs) (tick : TickObs) (round : Round) (back : List Piece)
    (totals : Totals) (pods : Pods) → MayEnd s calm tick round back totals → pods ≡ joined round.pods back
    → MayClose s calm tick round.begun pods totals
may_close s calm tick round back totals pods may is =
    let kept = may.kept in
    let xs = calm ++ tick ∷ [] in
    let all = handed_all s.pods.pieces xs in
    let rest = rest_of s.config (pods_in s.pods.pieces) kept.ticks s.evictions s.pods.pieces kept.taken.pieces in
    let more = add_all all 0 may.added.additions (none_waited s.pods.pieces xs rest)
    (subst (λ (ps : List Piece). AreAdditionsOf ps may.added.additions) may.back_are may.added.are_additions) in
    record {
      fits = may.fits;
      has_begun = may.has_begun;
      pods_are = is ∙ back_pods s xs round back kept may.pods may.back_are;
      added = record {
        additions = more.all;
        are_additions = more.are;
        totals = may.added.totals ∙ ap (λ (t : Totals). plus s.totals t) (sym more.same);
      };
    }

-- what its pods are then
pub free_back : (s : State) (xs : List TickObs) (pods : Pods)
    → pods ≡ pods_of (map all_updated (handed_all s.pods.pieces xs)) s.pods.max_restart_delay
    s.pods.has_dedicated_imagefs → AreFree pods.pieces
free_back s xs pods is =
    subst (λ (p : Pods). AreFree p.pieces) (sym is) (λ n q at.
    let all = handed_all s.pods.pieces xs in
    let lt = slice_get_within (map all_updated all) n q at in
    let p = given_at all n (omega (arith, lt, length-map all all_updated)) in
    ap (λ (r : Piece). r.waiting) (same_piece (map all_updated all) n q (all_updated p.0) at
    (slice_get-map all_updated all n ∙ ap (option_map all_updated) p.1)))

map_twice : (pieces : List Piece) → map at_rest (map all_updated pieces) ≡ map closed pieces
map_twice [] = refl
map_twice (p ∷ pieces) = ap (λ (ps : List Piece). closed p ∷ ps) (map_twice pieces)

pub rested_back : (s : State) (xs : List TickObs) (pods : Pods) → AreAtRest s.pods.pieces
    → pods ≡ pods_of (map all_updated (handed_all s.pods.pieces xs)) s.pods.max_restart_delay
    s.pods.has_dedicated_imagefs → map at_rest pods.pieces ≡ after_all s.pods.pieces xs
rested_back s xs pods rest is =
    ap (λ (p : Pods). map at_rest p.pieces) is ∙ map_twice (handed_all s.pods.pieces xs)
    ∙ closed_all s.pods.pieces xs ∙ ap (λ (ps : List Piece). after_all ps xs) (closed_at_rest s.pods.pieces rest)

-- the rows of all its ticks
rows_all : (s : State) (calm : List TickObs) (x : TickObs) (begun : Begun) → HasBegun s calm x begun
    → AreRows begun.ticks.items (calm ++ x ∷ [])
rows_all s calm x begun has =
    subst (λ (rs : List TickEvents). AreRows rs (calm ++ x ∷ [])) (sym has.ticks)
    (rows_more has.rows calm has.row x
    (rows_of s.config calm s.signals s.pausing has.rows has.before has.pausing has.are_calm) has.row_at)

pub moments_rise : (s : State) (calm : List TickObs) (x : TickObs) (begun : Begun) → HasBegun s calm x begun
    → FitAll s (calm ++ x ∷ []) → MomentsRise begun.ticks.items
moments_rise s calm x begun has fits =
    rows_rise begun.ticks.items (calm ++ x ∷ []) 0 0 (rows_all s calm x begun has)
    (behind_each_other 0 s.pods.pieces s.last (calm ++ x ∷ []) 0 (λ y lt. omega arith) fits.handed)

pub are_of_ticks : (s : State) (calm : List TickObs) (x : TickObs) (begun : Begun) (pods : Pods) (totals : Totals)
    → IsKept s → MayClose s calm x begun pods totals → AreOfTicks begun.ticks.items pods.pieces
are_of_ticks s calm x begun pods totals kept may =
    let rest = rest_of s.config (pods_in s.pods.pieces) kept.ticks s.evictions s.pods.pieces kept.taken.pieces in
    subst (λ (p : Pods). AreOfTicks begun.ticks.items p.pieces) (sym may.pods_are)
    (of_rows s.pods.pieces s.last (calm ++ x ∷ []) begun.ticks.items rest may.fits.handed
    (rows_all s calm x begun may.has_begun))

shown_few : (pieces : List Piece) (last : Option ℕ) (xs : List TickObs) → MayBeHandedAll pieces last xs → (t : ℕ)
    (x : TickObs) → slice_get xs t ≡ Some x → length x.pods ≤ length pieces
shown_few pieces last [] may t x at = absurd (cc)
shown_few pieces last (y ∷ xs) may zero x at =
    let same : y ≡ x = cc in subst (λ (z : TickObs). length z.pods ≤ length pieces) same may.0.next.within
shown_few pieces last (y ∷ xs) may (suc t) x at =
    let le = shown_few (after_each pieces y.pods) (Some y.at) xs may.2 t x at in
    omega (arith, le, (after_is pieces y.pods).as_many)

-- the node that has closed its round
pub has_closed : (pods : List PodSpec) (before : List TickObs) (s : State) (calm : List TickObs) (x : TickObs)
    (begun : Begun) (back : Pods) (totals : Totals) (choice eviction : Option Eviction) (new : Pods)
    (added evs : List Event) (es : Kept) → HasTaken pods before s → MayClose s calm x begun back totals
    → AddsEvents begun.ticks.items back.pieces begun.events.items added
    → IsChoiceAt begun.config (map at_rest back.pieces) begun.at begun.heeded choice
    → eviction ≡ unless_recorded begun.config.evictions_recorded choice
    → AreWithout (map at_rest back.pieces) eviction new.pieces
    → new.max_restart_delay ≡ back.max_restart_delay → new.has_dedicated_imagefs ≡ back.has_dedicated_imagefs
    → evs ≡ added ++ of_choice begun.config.evictions_recorded begun.at choice
    → es ≡ kept (begun.evictions.each ++ eviction ∷ []) (option_or eviction begun.evictions.pausing)
    → HasTaken pods (before ++ (calm ++ x ∷ [])) (state begun.config begun.signals new es evs totals (Some begun.at))
has_closed pods before s calm x begun back totals choice eviction new added evs es taken may adds by carried gone
    delay dedicated events evictions =
    let recorded = s.config.evictions_recorded in
    let xs = calm ++ x ∷ [] in
    let all = map all_updated (handed_all s.pods.pieces xs) in
    let has = may.has_begun in
    let rest = rest_of s.config pods before s.evictions s.pods.pieces taken.pieces in
    let owns = adds.made in
    let made : AreMadeBy all owns = subst (λ (p : Pods). AreMadeBy p.pieces owns) may.pods_are adds.are_made in
    let many : length owns ≡ length s.pods.pieces =
    omega (
      arith,
      made.as_many,
      length-map (handed_all s.pods.pieces xs) all_updated,
      handed_all-length s.pods.pieces
          xs,
    )
    in
    let told = λ (n : ℕ) (p : Piece) (own : List MadeEvent) (at : slice_get s.pods.pieces n ≡ Some p)
    (there : slice_get owns n ≡ Some own).
    told_by s.pods.pieces s.last xs owns n p own rest may.fits.handed made at there in
    let same = rested_back s xs back rest may.pods_are in
    let count = totals_added before xs s.events begun.ticks.items owns recorded x.at choice may.added.additions
    (rows_all s calm x begun has)
    (λ t y at. let le = shown_few s.pods.pieces s.last xs may.fits.handed t y at in omega (arith, le, many))
    (λ f n own at.
    let lt = slice_get_within owns n own at in
    let p = given_at s.pods.pieces n (omega (arith, lt, many)) in
    (told n p.0 own p.1 at).weighs f)
    (additions_for s.pods.pieces xs owns may.added.additions rest made may.added.are_additions) in
    closes pods before s calm x begun owns choice eviction new totals evs es taken may.fits has many
    (λ n p own at there. (told n p own at there).tells)
    (subst (λ (ps : List Piece). IsChoiceAt begun.config ps begun.at begun.heeded choice) same by) carried
    (subst (λ (ps : List Piece). AreWithout ps eviction new.pieces) same gone)
    (delay ∙ ap (λ (p : Pods). p.max_restart_delay) may.pods_are)
    (dedicated ∙ ap (λ (p : Pods). p.has_dedicated_imagefs) may.pods_are)
    (events ∙ ap (λ (l : List Event). l ++ of_choice begun.config.evictions_recorded begun.at choice)
    adds.added)
    evictions
    (may.added.totals ∙ ap (λ (t : Totals). plus t (sums_of_additions may.added.additions)) taken.totals ∙ sym count
    ∙ ap (λ (l : List Event). totals_of (before ++ xs) l)
    (sym (append_assoc s.events (of_ticks begun.ticks.items owns) (of_choice recorded x.at choice))))

-- what it keeps then
pub closed_kept : (s : State) (calm : List TickObs) (x : TickObs) (begun : Begun) (back : Pods) (totals : Totals)
    (next : State) → (kept : IsKept s) → MayClose s calm x begun back totals
    → HasTaken (pods_in s.pods.pieces) (kept.ticks ++ (calm ++ x ∷ [])) next → next.totals ≡ totals → IsKept next
closed_kept s calm x begun back totals next kept may taken same =
    let xs = calm ++ x ∷ [] in
    let rest = rest_of s.config (pods_in s.pods.pieces) kept.ticks s.evictions s.pods.pieces kept.taken.pieces in
    let low = low_rounds s.pods.pieces xs may.added.additions rest (omega (arith, may.fits.few))
    (λ n p at. kept.few n p.pod (get_pod s.pods.pieces n p at)) may.added.are_additions in
    kept_by (pods_in s.pods.pieces) (kept.ticks ++ xs) next taken kept.few
    (few_more_events s.totals next.totals may.added.additions kept.events (few_added may.added.additions low)
    (same ∙ may.added.totals))

-- as the code has it
pub closes_as : (pods : List PodSpec) (before : List TickObs) (s : State) (calm : List TickObs) (x : TickObs)
    (begun : Begun) (back shut new : Pods) (totals : Totals) (rows : List TickEvents) (pieces : List Piece)
    (choice eviction : Option Eviction) (added evs : List Event) (es : Kept) → HasTaken pods before s
    → MayClose s calm x begun back totals → rows ≡ begun.ticks.items → pieces ≡ back.pieces
    → AddsEvents rows pieces begun.events.items added
    → shut ≡ pods_of (map at_rest back.pieces) back.max_restart_delay back.has_dedicated_imagefs
    → IsChoiceAt begun.config shut.pieces begun.at begun.heeded choice
    → eviction ≡ unless_recorded begun.config.evictions_recorded choice
    → AreWithout shut.pieces eviction new.pieces
    → new.max_restart_delay ≡ shut.max_restart_delay → new.has_dedicated_imagefs ≡ shut.has_dedicated_imagefs
    → evs ≡ added ++ of_choice begun.config.evictions_recorded begun.at choice
    → es ≡ kept (begun.evictions.each ++ eviction ∷ []) (option_or eviction begun.evictions.pausing)
    → HasTaken pods (before ++ (calm ++ x ∷ [])) (state begun.config begun.signals new es evs totals (Some begun.at))
closes_as pods before s calm x begun back shut new totals rows pieces choice eviction added evs es taken may rows_are
    pieces_are adds is by carried gone delay dedicated events evictions =
    let ps : shut.pieces ≡ map at_rest back.pieces = ap (λ (p : Pods). p.pieces) is in
    has_closed pods before s calm x begun back totals choice eviction new added evs es taken may
    (subst (λ (rs : List TickEvents). AddsEvents rs back.pieces begun.events.items added) rows_are
    (subst (λ (qs : List Piece). AddsEvents rows qs begun.events.items added) pieces_are adds))
    (subst (λ (qs : List Piece). IsChoiceAt begun.config qs begun.at begun.heeded choice) ps by) carried
    (subst (λ (qs : List Piece). AreWithout qs eviction new.pieces) ps gone)
    (delay ∙ ap (λ (p : Pods). p.max_restart_delay) is) (dedicated ∙ ap (λ (p : Pods). p.has_dedicated_imagefs) is)
    events evictions

-- one tick more is taken
pub may_more : (a b c : Stretch) (y : TickObs) (rest : List TickObs) → MayGoOn a (y ∷ rest) → a.begun.heeded ≡ None
    → IsPassed a b → Takes y b c → MayGoOn c rest
may_more a b c y rest may none passed takes = record {
  node = may.node;
  kept = may.kept;
  calm = may.calm ++ may.tick ∷ [];
  tick = y;
  is_open = next_is_open may.node may.calm may.tick y a b c may.is_open none passed takes;
  fits = subst (λ (xs : List TickObs). FitAll may.node xs)
      (sym (append_assoc (may.calm ++ may.tick ∷ []) (y ∷ []) rest)) may.fits;
}

pub goes_more : (s : State) (calm : List TickObs) (x : TickObs) (more : List TickObs) (a b c : Stretch) (y : TickObs)
    (rest : List TickObs) → GoesOnWith s calm x more a (y ∷ rest) → a.begun.heeded ≡ None → IsPassed a b → Takes y b c
    → GoesOnWith s calm x more c rest
goes_more s calm x more a b c y rest goes none passed takes = record {
  calm_now = goes.calm_now ++ goes.last ∷ [];
  last = y;
  is_open = next_is_open s goes.calm_now goes.last y a b c goes.is_open none passed takes;
  taken = goes.taken ∙ sym (append_assoc (goes.calm_now ++ goes.last ∷ []) (y ∷ []) rest);
}

-- it may be handed to the pods
pub may_hand_more : (a b : Stretch) (y : TickObs) (rest : List TickObs) → MayGoOn a (y ∷ rest) → IsPassed a b
    → AreNext b.pods.pieces y.pods
may_hand_more a b y rest may passed =
    may_hand may.node (may.calm ++ may.tick ∷ []) y rest b.pods may.kept may.fits (passed.pods ∙ may.is_open.pods)

-- the pieces of an open round go out
pub is_out : (s : State) (calm : List TickObs) (x : TickObs) (stretch : Stretch) (pieces : List Piece) (book : Totals)
    (round : Round) → IsKept s → IsOpen s calm x stretch → book ≡ s.totals → round.begun ≡ stretch.begun
    → pieces ≡ sent_from 0 stretch.pods.pieces
    → round.pods
    ≡ awaited (staying stretch.pods.pieces) stretch.pods.max_restart_delay stretch.pods.has_dedicated_imagefs
    → AreNumbered (joined round.pods (map all_updated pieces)) → IsOut s calm x pieces book round
is_out s calm x stretch pieces book round kept is same begun sent stay numbered = record {
  kept = kept;
  has_begun = subst (λ (b : Begun). HasBegun s calm x b) (sym begun) is.has_begun;
  sent = sent ∙ ap (λ (p : Pods). sent_from 0 p.pieces) is.pods;
  pods = stay
      ∙ ap (λ (p : Pods). awaited (staying p.pieces) p.max_restart_delay p.has_dedicated_imagefs) is.pods;
  numbered = numbered;
  book = same;
}

-- the first of these ticks fit, of which some are left
pub fit_taken : (s : State) (ticks taken rest : List TickObs) → FitAll s ticks → ticks ≡ taken ++ rest → FitAll s taken
fit_taken s ticks taken rest fits is =
    fit_front s taken rest (subst (λ (xs : List TickObs). FitAll s xs) is fits)

-- where memory is refused to a tick for which there was room
pub refused_in : {A E : Type 0} (r : Result A E) (s : State) (calm : List TickObs) (tick : TickObs)
    (more : List TickObs) (stretch : Stretch) (refused : TickObs) (rest : List TickObs)
    → GoesOnWith s calm tick more stretch (refused ∷ rest) → HasRoom stretch
    → OnErr r (IsRefusedIn s calm tick more rest)
refused_in (Ok x) s calm tick more stretch refused rest goes room = tt
refused_in (Err e) s calm tick more stretch refused rest goes room =
    record { stretch = stretch; refused = refused; goes_on = goes; room = room }
