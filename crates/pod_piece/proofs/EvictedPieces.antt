-- What an evicted piece keeps.
use Rattle.std.proofs.Common.{◌≡◌, ◌∙◌, inl, inr, ℕ, zero, suc, ◌+◌, ◌-◌, ◌<◌, ◌≤◌, Bool, true, false, List, []}
use Rattle.std.proofs.Common.{◌∷◌, ◌++◌}
use Rattle.std.proofs.Common.{length, map, take, drop, get_or, Option, Some, None, refl, ap, sym, subst, arith}
use Rattle.std.specs.Prelude.{◌↔◌, IsTrue, IsSome, is_some, IfSome, MatchOption, nat_lt, slice_get}
use Rattle.std.specs.Prelude.{if◌then◌else◌, option_map, option_and_then}
use Rattle.std.proofs.lemmas.Bool.{lt-ltb, ltb-true, cases_lt}
use Rattle.std.proofs.lemmas.List.{map-append, length-map, drop_all}
use Rattle.histories.specs.rule.Histories.{recorded, moment_at, last_moment, up_to}
use Rattle.histories.specs.state.Histories.{IsRising}
use Rattle.histories.proofs.Places.{length-more, up_to-new}
use Rattle.histories.proofs.Lists.{given_at}
use Rattle.manifest.specs.declared.pod.PodSpec.{PodSpec}
use Rattle.observations.specs.rule.Pods.{PodObs}
use Rattle.state_diff.specs.declared.differ.Differ.{Differ}
use Rattle.phase.specs.rule.RawPhase.{IsTerminal}
use Rattle.pod_state.specs.declared.events.PodEvent.{PodEvent}
use Rattle.pod_state.specs.declared.state.PodState.{PodState}
use Rattle.pod_state.specs.rule.Pods.{PodEntry, PodTick, pod_tick, IsEnd, HasEnded}
use Rattle.pod_state.specs.rule.Events.{AreEventsOf}
use Rattle.pod_state.specs.rule.Lifecycles.{IsLifecycleOf}
use Rattle.pod_state.specs.state.Lifecycles.{IsProgressOf}
use Rattle.pod_state.specs.state.States.{before_of, HasContainers, IsStateOf}
use Rattle.pod_state.proofs.EndLemmas.{end_old, ended_is, IsEnd-unique}
use Rattle.pod_piece.specs.declared.order.EvictOrder.{EvictOrder}
use Rattle.pod_piece.specs.declared.piece.EvictionRecord.{EvictionRecord}
use Rattle.pod_piece.specs.declared.made.MadeTick.{MadeTick}
use Rattle.pod_piece.specs.declared.piece.Parts.{Parts}
use Rattle.pod_piece.specs.declared.status.PodStatus.{PodStatus}
use Rattle.pod_state.specs.state.Listings.{AreListed}
use Rattle.pod_piece.specs.state.Listings.{IsNextTick, AreListedOnceEnded}
use Rattle.pod_piece.specs.rule.Piece.{Piece, place_of, ticks, updated}
use Rattle.pod_piece.specs.state.Piece.{piece, before_last, last_of, evicted_at}
use Rattle.pod_piece.specs.state.Piece.{with_number, at_rest, begun_with}
use Rattle.pod_piece.specs.state.Piece.{evicted_before, new_piece, with_tick, with_eviction}
use Rattle.pod_piece.specs.declared.status.PodFailure.{PodFailure}
use Rattle.pod_piece.specs.rule.Status.{IsStatusAfter, failure_in, failure_at, IsFailure, MayBeEvicted}
use Rattle.pod_piece.specs.state.Status.{IsStatusOf, IsEvictableAt, AreEventsAfter}
use Rattle.pod_piece.specs.state.Made.{MadeEvent, made_at, made_of, AreMadeOver, round_of}
use Rattle.pod_piece.specs.state.Kept.{MayBe, EndsAt, IsStateAfter, IsKept, AreKept, piece_of}
use Rattle.pod_piece.proofs.LastTicks.{front_more, last_more, split_last, tick_at, moment_here}
use Rattle.pod_piece.proofs.Waiting.{taken_is, taken_length, taken_next, taken_handed, ticks_free, next_is}
use Rattle.pod_piece.proofs.Waiting.{none_spread, spread_more, wait_more, wait_less, observed_at}
use Rattle.pod_piece.proofs.Rounds.{events_last, earlier_more, earlier_evicted, made_round, no_round, none_made}
use Rattle.pod_piece.proofs.PieceLemmas.{events_evicted}

-- the pod had not ended before its last tick
abbrev LivedBefore : Piece → Type 0
LivedBefore p = HasEnded p.pod (evicted_at p) (before_last (ticks p)) → ⊥

-- a pod that may be evicted was not evicted before
not_evicted : (p : Piece) (at : ℕ) (status : PodStatus) → IfSome (evicted_at p) (EndsAt p.pod (ticks p))
    → IsStatusOf p status → MayBeEvicted at status → (o : Option EvictionRecord) → p.eviction ≡ o → p.eviction ≡ None
not_evicted p at status ends is may None none = none
not_evicted p at status ends is may (Some e) there =
    let ended : EndsAt p.pod (ticks p) e.place =
    subst (λ (o : Option EvictionRecord). IfSome (place_of o) (EndsAt p.pod (ticks p))) there ends in
    let over : HasEnded p.pod (evicted_at p) (ticks p) =
    subst (λ (o : Option EvictionRecord). HasEnded p.pod (place_of o) (ticks p)) (sym there) (e.place, ended.is_end) in
    let says = may.lives ((ended_is p.pod (evicted_at p) (ticks p) status.phase is.lifecycle.phase).1 over) in
    let none : status.failure ≡ None =
    subst (λ (o : Option EvictionRecord). IsFailure p.pod o (ticks p) status.failure) there is.failure in
    absurd (let w : None ≡ Some at =
    sym (ap (option_map (λ (f : PodFailure). f.at)) none) ∙ says in cc)

-- nor had it ended before the last tick
said_at : (h : List PodTick) (t at : ℕ) → option_map (λ (f : PodFailure). f.at) (failure_at h t) ≡ Some at
    → moment_at h t ≡ Some at
said_at h t at says = moment_here h t ∙ by (slice_get h t) says
  where
    by : (o : Option PodTick) → option_map (λ (f : PodFailure). f.at) (option_and_then failure_in o) ≡ Some at
        → option_map (λ (x : PodTick). x.moment) o ≡ Some at
    by None e = absurd (let w : None ≡ Some at = e in cc)
    by (Some x) e = of x.entry.words.failed e
      where
        of : (reason : Option (List ℕ)) → option_map (λ (f : PodFailure). f.at)
            (option_map (λ r. record { at = x.moment; reason = r }) reason) ≡ Some at
            → Some x.moment ≡ Some at
        of None e = absurd (let w : None ≡ Some at = e in cc)
        of (Some r) e = e

lived_so_far : (p : Piece) (x : PodTick) (status : PodStatus) → IsRising p.handed → p.waiting ≡ 0 → p.eviction ≡ None
    → last_of p.handed ≡ Some x → IsStatusOf p status → MayBeEvicted x.moment status → LivedBefore p
lived_so_far p x status rising free none last is may (t, ended) =
    let h = before_last p.handed in
    let no_place : evicted_at p ≡ None = ap place_of none in
    let whole : ticks p ≡ h ++ x ∷ [] = ticks_free p free ∙ split_last p.handed x last in
    let front : before_last (ticks p) ≡ h = ap before_last whole ∙ front_more h x in
    let before : IsEnd p.pod None h (Some t) = subst (λ (o : Option ℕ). IsEnd p.pod o h (Some t)) no_place
    (subst (λ (k : List PodTick). IsEnd p.pod (evicted_at p) k (Some t)) front ended) in
    let lt : t < length h = before.holds.within in
    let after : IsEnd p.pod None (ticks p) (Some t) = subst (λ (k : List PodTick). IsEnd p.pod None k (Some t))
    (sym whole) (end_old p.pod None h x t before) in
    let over : HasEnded p.pod (evicted_at p) (ticks p) =
    subst (λ (o : Option ℕ). HasEnded p.pod o (ticks p)) (sym no_place) (t, after) in
    let says = may.lives ((ended_is p.pod (evicted_at p) (ticks p) status.phase is.lifecycle.phase).1 over) in
    let fails : IsFailure p.pod None (ticks p) status.failure =
    subst (λ (o : Option EvictionRecord). IsFailure p.pod o (ticks p) status.failure) none is.failure in
    let failure : status.failure ≡ failure_at (ticks p) t = fails.2
    ∙ ap (option_and_then (failure_at (ticks p))) (IsEnd-unique p.pod None (ticks p) fails.0 (Some t) fails.1 after) in
    let here : moment_at p.handed t ≡ Some x.moment =
    subst (λ (k : List PodTick). moment_at k t ≡ Some x.moment) (ticks_free p free)
    (said_at (ticks p) t x.moment (ap (option_map (λ (f : PodFailure). f.at)) (sym failure) ∙ says)) in
    let long : length p.handed ≡ suc (length h) =
    ap length (split_last p.handed x last) ∙ length-more h x in
    let there : moment_at p.handed (length p.handed - 1) ≡ Some x.moment =
    moment_here p.handed (length p.handed - 1) ∙ ap (option_map (λ (y : PodTick). y.moment)) last in
    let less : x.moment < x.moment =
    rising t (length p.handed - 1) x.moment x.moment (omega (arith, lt, long)) here there in
    absurd (omega (arith, less))

-- what an eviction by the last tick starts from: the ticks with the last one, the pod not evicted so far, nor ended
-- before that tick
record IsEvictable (p : Piece) (x : PodTick) (old : PodState) : Type 0 where
  pub same : ticks p ≡ before_last p.handed ++ x ∷ []
  pub lifecycle : IsLifecycleOf p.pod None (before_last p.handed) (before_of old)
  pub progress : IsProgressOf p.pod (Some (length (before_last p.handed))) (before_last p.handed) (before_of old)
  pub now : IsStateOf p.pod p.max_restart_delay None (before_last p.handed ++ x ∷ []) old
  pub lived : IsEnd p.pod None (before_last p.handed) None

-- the pod has not ended
not_ended : (pod : PodSpec) (h : List PodTick) (o : Option ℕ) → (HasEnded pod None h → ⊥) → IsEnd pod None h o
    → IsEnd pod None h None
not_ended pod h None lives is = is
not_ended pod h (Some t) lives is = absurd (lives (t, is))

evictable : (p : Piece) (x : PodTick) (differs : List Differ) (old : PodState) (status : PodStatus)
    (earlier : List MadeTick) (events : List PodEvent) → p.waiting ≡ 0 → p.eviction ≡ None → LivedBefore p
    → last_of p.handed ≡ Some x → IsKept p differs old status earlier events → IsEvictable p x old
evictable p x differs old status earlier events free none lived last kept =
    let h = before_last p.handed in
    let k = h ++ x ∷ [] in
    let same : ticks p ≡ k = ticks_free p free ∙ split_last p.handed x last in
    let front : before_last k ≡ h = front_more h x in
    let no_place : evicted_at p ≡ None = ap place_of none in
    let state_k : IsStateAfter p.pod p.max_restart_delay None k old =
    subst (λ (o : Option ℕ). IsStateAfter p.pod p.max_restart_delay o k old) no_place
    (subst (λ (t : List PodTick). IsStateAfter p.pod p.max_restart_delay (evicted_at p) t old) same kept.after) in
    let was = λ (e : Option ℕ) (may : MayBe None (length h) e). subst
    (λ (t : List PodTick). IsProgressOf p.pod e t (before_of old)) front
    (state_k.before refl e (subst (λ (t : List PodTick). MayBe None (length t) e) (sym front) may)) in
    let before = was None tt in
    record {
      same = same;
      lifecycle = before.so_far;
      progress = was (Some (length h)) (omega arith);
      now = state_k.now None tt;
      lived = not_ended p.pod h before.so_far.phase.0
          (λ ended. lived (subst (λ (o : Option ℕ). HasEnded p.pod o (before_last (ticks p))) (sym no_place)
          (subst (λ (t : List PodTick). HasEnded p.pod None t) (sym (ap before_last same ∙ front)) ended)))
          before.so_far.phase.1;
    }

-- the phase before the last tick is none of an end
pub lived_before : (p : Piece) (x : PodTick) (differs : List Differ) (old : PodState) (status : PodStatus)
    (earlier : List MadeTick) (events : List PodEvent) → p.waiting ≡ 0 → p.eviction ≡ None → LivedBefore p
    → last_of p.handed ≡ Some x → IsKept p differs old status earlier events
    → IsTerminal (before_of old).phase → ⊥
lived_before p x differs old status earlier events free none lived last kept ended =
    let from = evictable p x differs old status earlier events free none lived last kept in
    let h = before_last p.handed in
    let end = (ended_is p.pod None h (before_of old).phase from.lifecycle.phase).0 ended in
    from.lived end.0 end.1.holds

pub evicted_state : (p : Piece) (x : PodTick) (differs : List Differ) (old new : PodState) (status : PodStatus)
    (earlier : List MadeTick) (events : List PodEvent) → p.waiting ≡ 0 → p.eviction ≡ None → LivedBefore p
    → last_of p.handed ≡ Some x → IsKept p differs old status earlier events
    → (IsLifecycleOf p.pod None (before_last p.handed) (before_of old)
    → IsProgressOf p.pod (Some (length (before_last p.handed))) (before_last p.handed) (before_of old)
    → IsStateOf p.pod p.max_restart_delay None (before_last p.handed ++ x ∷ []) old
    → IsStateOf p.pod p.max_restart_delay (Some (length (before_last p.handed))) (before_last p.handed ++ x ∷ []) new)
    → IsStateOf p.pod p.max_restart_delay (Some (length (before_last p.handed))) (before_last p.handed ++ x ∷ []) new
evicted_state p x differs old new status earlier events free none lived last kept evict =
    let from = evictable p x differs old status earlier events free none lived last kept in
    evict from.lifecycle from.progress from.now

-- one that its last tick evicts
pub kept_evicted : (p : Piece) (x : PodTick) (order : EvictOrder) (were differs : List Differ) (old new : PodState)
    (before after : PodStatus) (earlier : List MadeTick) (events : List PodEvent) → p.waiting ≡ 0 → p.eviction ≡ None
    → LivedBefore p → last_of p.handed ≡ Some x → IsKept p were old before earlier events
    → (IsLifecycleOf p.pod None (before_last p.handed) (before_of old)
    → IsProgressOf p.pod (Some (length (before_last p.handed))) (before_last p.handed) (before_of old)
    → IsStateOf p.pod p.max_restart_delay None (before_last p.handed ++ x ∷ []) old
    → IsStateOf p.pod p.max_restart_delay (Some (length (before_last p.handed))) (before_last p.handed ++ x ∷ []) new
    × IsEnd p.pod (Some (length (before_last p.handed))) (before_last p.handed ++ x ∷ [])
    (Some (length (before_last p.handed))))
    → (IsStatusAfter p.number p.pod None (before_last p.handed ++ x ∷ []) before
    → IsEnd p.pod None (before_last p.handed) None
    → IsStateOf p.pod p.max_restart_delay (Some (length (before_last p.handed))) (before_last p.handed ++ x ∷ []) new
    → IsEnd p.pod (Some (length (before_last p.handed))) (before_last p.handed ++ x ∷ [])
    (Some (length (before_last p.handed)))
    → IsStatusAfter p.number p.pod (Some (record { place = length (before_last p.handed); order = order }))
    (before_last p.handed ++ x ∷ []) after)
    → (IsStateOf p.pod p.max_restart_delay (Some (length (before_last p.handed))) (before_last p.handed ++ x ∷ []) new
    → IsEnd p.pod (Some (length (before_last p.handed))) (before_last p.handed ++ x ∷ [])
    (Some (length (before_last p.handed)))
    → AreListed p.pod (up_to (before_last p.handed ++ x ∷ []) (length (before_last p.handed))) differs)
    → IsKept (with_eviction p order) differs new after earlier events
kept_evicted p x order were differs old new before after earlier events free none lived last kept evict shown lists =
    let h = before_last p.handed in
    let k = h ++ x ∷ [] in
    let from = evictable p x were old before earlier events free none lived last kept in
    let no_place : evicted_at p ≡ None = ap place_of none in
    let is_place : length p.handed - 1 ≡ length h =
    omega (arith, ap length (split_last p.handed x last), length-more h x) in
    let both = evict from.lifecycle from.progress from.now in
    let status_k : IsStatusAfter p.number p.pod None k before =
    subst (λ (o : Option EvictionRecord). IsStatusAfter p.number p.pod o k before) none
    (subst (λ (t : List PodTick). IsStatusAfter p.number p.pod p.eviction t before) from.same kept.shown) in
    let made_k : AreEventsAfter p.pod p.max_restart_delay None k events =
    subst (λ (o : Option ℕ). AreEventsAfter p.pod p.max_restart_delay o k events) no_place
    (subst (λ (t : List PodTick). AreEventsAfter p.pod p.max_restart_delay (evicted_at p) t events) from.same
    kept.made) in
    let state' : IsStateAfter p.pod p.max_restart_delay (Some (length h)) k new = record {
      ended = record { within = omega (arith, length-more h x); is_end = both.1 };
      now = λ e may. subst (λ (o : Option ℕ). IsStateOf p.pod p.max_restart_delay o k new) (sym may) both.0;
      before = λ never. absurd (let w : Some (length h) ≡ None = never in cc);
    } in
    let listed_k : AreListed p.pod k differs =
    subst (λ (t : List PodTick). AreListed p.pod t differs) (up_to-new h x) (lists both.0 both.1) in
    let Made : Option ℕ → List PodTick → Type 0 = λ o t. AreMadeOver p.pod p.max_restart_delay o (take p.begun t)
    (before_last (drop p.begun t)) (made_of earlier) in
    let earlier_k : Made None k = subst (λ (o : Option ℕ). Made o k) no_place
    (subst (λ (t : List PodTick). Made (evicted_at p) t) from.same kept.made_earlier) in
    record {
      within = kept.within;
      begun = kept.begun;
      spread = kept.spread;
      listed = record {
        as_many = listed_k.as_many;
        ended = λ over. subst (λ (t : List PodTick). AreListed p.pod t differs)
            (sym from.same) listed_k;
      };
      next = kept.next;
      after = subst (λ (t : List PodTick). IsStateAfter p.pod p.max_restart_delay (Some (length p.handed - 1)) t new)
          (sym from.same)
          (subst (λ (n : ℕ). IsStateAfter p.pod p.max_restart_delay (Some n) k new) (sym is_place) state');
      shown = subst (λ (t : List PodTick). IsStatusAfter p.number p.pod
          (Some (record { place = length p.handed - 1; order = order })) t after) (sym from.same)
          (subst (λ (n : ℕ). IsStatusAfter p.number p.pod (Some (record { place = n; order = order })) k after)
          (sym is_place)
          (shown status_k from.lived both.0 both.1));
      made_earlier = subst (λ (t : List PodTick). Made (Some (length p.handed - 1)) t) (sym from.same)
          (subst (λ (n : ℕ). Made (Some n) k) (sym is_place)
          (earlier_evicted p.pod p.max_restart_delay p.begun h x (made_of earlier)
          (omega (arith, kept.begun, ap length from.same)) earlier_k));
      made = subst
          (λ (t : List PodTick). AreEventsAfter p.pod p.max_restart_delay (Some (length p.handed - 1)) t events)
          (sym from.same)
          (subst (λ (n : ℕ). AreEventsAfter p.pod p.max_restart_delay (Some n) k events) (sym is_place)
          (events_evicted p.pod p.max_restart_delay h x events made_k));
    }

-- what is known of those of one that is to be evicted at this moment
pub record MayEvict (parts : Parts) (at : ℕ) : Type 0 where
  pub held : AreKept parts
  pub free : parts.waiting ≡ 0
  pub none : parts.eviction ≡ None
  pub lived : LivedBefore (piece_of parts)
  pub last : (entry : PodEntry) × (last_of (map pod_tick parts.history) ≡ Some (recorded at entry))

pub may_evict : (parts owned : Parts) (seen : Piece) (at : ℕ) → parts ≡ owned → piece_of owned ≡ seen → AreKept owned
    → seen.waiting ≡ 0 → IsEvictableAt at seen → last_moment seen.handed ≡ Some at → MayEvict parts at
may_evict parts owned seen at same is kept free evictable last =
    let view : piece_of parts ≡ seen = ap piece_of same ∙ is in
    let held : AreKept parts = subst AreKept (sym same) kept in
    let p = piece_of parts in
    let idle : p.waiting ≡ 0 = ap (λ (q : Piece). q.waiting) view ∙ free in
    let may : IsEvictableAt at p = subst (IsEvictableAt at) (sym view) evictable in
    let tick = tick_at (map pod_tick parts.history) at (ap (λ (q : Piece). last_moment q.handed) view ∙ last) in
    let none = not_evicted p at may.0 held.after.ended may.1 may.2 p.eviction refl in
    record {
      held = held;
      free = idle;
      none = none;
      lived = lived_so_far p (recorded at tick.0) may.0 held.spread.rising idle none tick.1 may.1 may.2;
      last = tick;
    }
