-- What a piece keeps, from call to call.
use Rattle.std.proofs.Common.{◌≡◌, ◌∙◌, inl, inr, ℕ, zero, suc, ◌+◌, ◌-◌, ◌<◌, ◌≤◌, Bool, true, false, List, []}
use Rattle.std.proofs.Common.{◌∷◌, ◌++◌}
use Rattle.std.proofs.Common.{length, map, take, drop, get_or, Option, Some, None, refl, ap, sym, subst, arith}
use Rattle.std.specs.Prelude.{◌↔◌, IsTrue, IsSome, is_some, IfSome, MatchOption, nat_lt, slice_get}
use Rattle.std.specs.Prelude.{if◌then◌else◌}
use Rattle.std.proofs.lemmas.Bool.{lt-ltb, ltb-true, cases_lt}
use Rattle.std.proofs.lemmas.List.{map-append, length-map, drop_all}
use Rattle.histories.specs.rule.Histories.{recorded, last_moment, up_to}
use Rattle.histories.proofs.Places.{length-more, up_to-new}
use Rattle.histories.proofs.Lists.{given_at}
use Rattle.manifest.specs.declared.pod.PodSpec.{PodSpec}
use Rattle.observations.specs.rule.Pods.{PodObs}
use Rattle.state_diff.specs.declared.differ.Differ.{Differ}
use Rattle.phase.specs.rule.RawPhase.{IsTerminal}
use Rattle.pod_state.specs.declared.events.PodEvent.{PodEvent}
use Rattle.pod_state.specs.declared.state.PodState.{PodState}
use Rattle.pod_state.specs.rule.Pods.{PodTick, pod_tick, IsEnd, HasEnded}
use Rattle.pod_state.specs.rule.Events.{AreEventsOf}
use Rattle.pod_state.specs.rule.Lifecycles.{IsLifecycleOf}
use Rattle.pod_state.specs.state.Lifecycles.{IsProgressOf}
use Rattle.pod_state.specs.state.States.{before_of, HasContainers, IsStateOf}
use Rattle.pod_state.proofs.EndLemmas.{end_old, ended_is, IsEnd-unique}
use Rattle.pod_piece.specs.declared.order.EvictOrder.{EvictOrder}
use Rattle.pod_piece.specs.declared.piece.EvictionRecord.{EvictionRecord}
use Rattle.pod_piece.specs.declared.made.MadeTick.{MadeTick}
use Rattle.pod_piece.specs.declared.piece.Parts.{Parts}
use Rattle.pod_piece.specs.declared.status.PodStatus.{PodStatus}
use Rattle.pod_state.specs.state.Listings.{AreListed}
use Rattle.pod_piece.specs.state.Listings.{IsNextTick, AreListedOnceEnded}
use Rattle.pod_piece.specs.rule.Piece.{Piece, place_of, ticks, updated}
use Rattle.pod_piece.specs.state.Piece.{piece, before_last, last_of, evicted_at}
use Rattle.pod_piece.specs.state.Piece.{with_number, at_rest, begun_with}
use Rattle.pod_piece.specs.state.Piece.{evicted_before, new_piece, with_tick, with_eviction}
use Rattle.pod_piece.specs.rule.Status.{IsStatusAfter}
use Rattle.pod_piece.specs.state.Status.{IsStatusOf, AreEventsAfter}
use Rattle.pod_piece.specs.state.Made.{MadeEvent, made_at, made_of, AreMadeOver, round_of}
use Rattle.pod_piece.specs.state.Kept.{MayBe, EndsAt, IsStateAfter, IsKept, AreKept, piece_of}
use Rattle.pod_piece.proofs.LastTicks.{front_more, last_more, split_last, tick_at}
use Rattle.pod_piece.proofs.Waiting.{taken_is, taken_length, taken_next, taken_handed, ticks_free, next_is}
use Rattle.pod_piece.proofs.Waiting.{none_spread, spread_more, wait_more, wait_less, observed_at}
use Rattle.pod_piece.proofs.Rounds.{events_last, earlier_more, earlier_evicted, made_round, no_round, none_made}

-- the eviction that is still to come, or was
pub may_self : (o : Option ℕ) (n : ℕ) → MayBe o n o
may_self None n = tt
may_self (Some place) n = refl

may_more : (o : Option ℕ) (n m : ℕ) (e : Option ℕ) → n ≤ m → MayBe o m e → MayBe o n e
may_more None n m None le may = tt
may_more None n m (Some t) le may = omega (arith, le, may)
may_more (Some place) n m e le may = may

not_now : (o : Option ℕ) (n m : ℕ) (e : Option ℕ) → n < m → IfSome o (λ place. place < n) → MayBe o m e → e ≡ Some n → ⊥
not_now None n m None lt within may is = absurd (let w : None ≡ Some n = is in cc)
not_now None n m (Some t) lt within may is = let same : t ≡ n = (let w : Some t ≡ Some n = is in cc) in
    absurd (omega (arith, lt, may))
not_now (Some place) n m e lt within may is = let same : place ≡ n =
    (let w : Some place ≡ Some n = sym may ∙ is in cc) in absurd (omega (arith, within))

-- the counters after one more tick
ends_within : (pod : PodSpec) (h : List PodTick) (o : Option ℕ) → IfSome o (EndsAt pod h)
    → IfSome o (λ place. place < length h)
ends_within pod h None ends = tt
ends_within pod h (Some place) ends = ends.within

ends_more : (pod : PodSpec) (h : List PodTick) (x : PodTick) (o : Option ℕ) → IfSome o (EndsAt pod h)
    → IfSome o (EndsAt pod (h ++ x ∷ []))
ends_more pod h x None ends = tt
ends_more pod h x (Some place) ends = record {
  within = let lt : place < length h = ends.within in omega (arith, length-more h x);
  is_end = end_old pod (Some place) h x place ends.is_end;
}

pub state_more : (pod : PodSpec) (max_restart_delay : ℕ) (evicted : Option ℕ) (h : List PodTick) (x : PodTick)
    (old new : PodState) → IsStateAfter pod max_restart_delay evicted h old
    → ((e : Option ℕ) → (e ≡ Some (length h) → ⊥) → IsStateOf pod max_restart_delay e h old
    → IsStateOf pod max_restart_delay e (h ++ x ∷ []) new)
    → ((e : Option ℕ) → IsStateOf pod max_restart_delay e h old → IsProgressOf pod e h (before_of new))
    → IsStateAfter pod max_restart_delay evicted (h ++ x ∷ []) new
state_more pod max_restart_delay evicted h x old new after step was = record {
  ended = ends_more pod h x evicted after.ended;
  now = λ e may.
      let long = length-more h x in
      step e (not_now evicted (length h) (length (h ++ x ∷ [])) e (omega (arith, long))
      (ends_within pod h evicted after.ended) may)
      (after.now e (may_more evicted (length h) (length (h ++ x ∷ [])) e (omega (arith, long)) may));
  before = λ none e may.
      let front = front_more h x in
      let may_be : MayBe evicted (length h) e = subst (λ (o : Option ℕ). MayBe o (length h) e) (sym none)
      (subst (λ (k : List PodTick). MayBe None (length k) e) front may) in
      subst (λ (k : List PodTick). IsProgressOf pod e k (before_of new)) (sym front) (was e (after.now e may_be));
}

-- the events of the tick
pub before_is : (o : Option ℕ) (n : ℕ) → IfSome o (λ place. place < n) → evicted_before o n ≡ o
before_is None n within = refl
before_is (Some place) n within = ap (λ (b : Bool). if b then Some place else None) (lt-ltb place n within)

not_before : (n : ℕ) (b : Bool) → nat_lt n n ≡ b → (if b then Some n else None) ≡ None
not_before n false e = refl
not_before n true e = let lt : n < n = ltb-true n n e in absurd (omega (arith, lt))

pub events_after : (pod : PodSpec) (max_restart_delay : ℕ) (evicted : Option ℕ) (h : List PodTick) (x : PodTick)
    (events : List PodEvent)
    → AreEventsOf pod max_restart_delay (evicted_before evicted (length h)) h x events
    → AreEventsAfter pod max_restart_delay evicted
    (h ++ x ∷ []) events
events_after pod max_restart_delay evicted h x events are =
    let P : List PodTick → Option PodTick → Type 0 = λ k o. MatchOption o (events ≡ [])
    (λ tick. AreEventsOf pod max_restart_delay (evicted_before evicted (length k)) k tick events) in
    subst (λ (k : List PodTick). P k (last_of (h ++ x ∷ []))) (sym (front_more h x))
    (subst (λ (o : Option PodTick). P h o) (sym (last_more h x)) are)

-- they stay where the tick evicts the pod
pub events_evicted : (pod : PodSpec) (max_restart_delay : ℕ) (h : List PodTick) (x : PodTick) (events : List PodEvent)
    → AreEventsAfter pod max_restart_delay None (h ++ x ∷ []) events
    → AreEventsAfter pod max_restart_delay (Some (length h)) (h ++ x ∷ []) events
events_evicted pod max_restart_delay h x events are =
    let made : AreEventsOf pod max_restart_delay None h x events =
    events_last pod max_restart_delay None h x events are in
    events_after pod max_restart_delay (Some (length h)) h x events
    (subst (λ (o : Option ℕ). AreEventsOf pod max_restart_delay o h x events)
    (sym (not_before (length h) (nat_lt (length h) (length h)) refl)) made)

-- a piece that nothing was handed to
pub kept_new : (number : ℕ) (pod : PodSpec) (max_restart_delay : ℕ) (differs : List Differ) (state : PodState)
    (status : PodStatus) → AreListed pod [] differs
    → ((e : Option ℕ) → IsStateOf pod max_restart_delay e [] state)
    → ((e : Option ℕ) → IsProgressOf pod e [] (before_of state))
    → IsStatusOf (new_piece number pod max_restart_delay) status
    → IsKept (new_piece number pod max_restart_delay) differs state status [] []
kept_new number pod max_restart_delay differs state status listed is was shown = record {
  within = omega arith;
  begun = omega arith;
  spread = none_spread;
  listed = record { as_many = listed.as_many; ended = λ over. listed };
  next = λ place tick above at. absurd (cc);
  after = record { ended = tt; now = λ e may. is e; before = λ none e may. was e };
  shown = shown;
  made_earlier = refl;
  made = refl;
}

-- where the round begins of a piece that is handed one more
begun_within : (waiting handed begun most : ℕ) → (waiting ≡ 0 → handed ≤ most) → begun ≤ most
    → begun_with waiting handed begun ≤ most
begun_within zero handed begun most all le = all refl
begun_within (suc waiting) handed begun most all le = le

earlier_with : (waiting handed begun : ℕ) (pod : PodSpec) (max_restart_delay : ℕ) (evicted : Option ℕ)
    (h : List PodTick) (old new : List MadeTick) → (waiting ≡ 0 → length h ≤ handed) → (waiting ≡ 0 → new ≡ [])
    → ((waiting ≡ 0 → ⊥) → new ≡ old)
    → AreMadeOver pod max_restart_delay evicted (take begun h) (before_last (drop begun h)) (made_of old)
    → AreMadeOver pod max_restart_delay evicted (take (begun_with waiting handed begun) h)
    (before_last (drop (begun_with waiting handed begun) h)) (made_of new)
earlier_with zero handed begun pod max_restart_delay evicted h old new past fresh same earlier =
    subst (λ (k : List PodTick). AreMadeOver pod max_restart_delay evicted (take handed h) (before_last k)
    (made_of new)) (sym (drop_all handed h (past refl))) (ap made_of (fresh refl))
earlier_with (suc waiting) handed begun pod max_restart_delay evicted h old new past fresh same earlier =
    subst (λ (rows : List MadeTick). AreMadeOver pod max_restart_delay evicted (take begun h)
    (before_last (drop begun h)) (made_of rows)) (sym (same (λ e. absurd (omega (arith, e))))) earlier

-- one that a tick is handed to
pub kept_handed : (p : Piece) (tick : PodTick) (differs : List Differ) (state : PodState) (status : PodStatus)
    (old new : List MadeTick) (events : List PodEvent) → IsNextTick p.pod p.handed tick
    → (p.waiting ≡ 0 → new ≡ []) → ((p.waiting ≡ 0 → ⊥) → new ≡ old) → IsKept p differs state status old events
    → IsKept (with_tick p tick) differs state status new events
kept_handed p tick differs state status old new events next fresh unchanged kept =
    let same : ticks p ≡ ticks (with_tick p tick) = sym (taken_handed p.waiting p.handed tick) in
    let long = taken_length p.waiting p.handed in
    let here : begun_with p.waiting (length p.handed) p.begun ≤ length (ticks p) =
    begun_within p.waiting (length p.handed) p.begun (length (ticks p)) (λ none. omega
    (arith, long, none)) kept.begun in
    let earlier = earlier_with p.waiting (length p.handed) p.begun p.pod p.max_restart_delay (evicted_at p) (ticks p)
    old new (λ none. omega (arith, long, none)) fresh unchanged kept.made_earlier in
    let begun = begun_with p.waiting (length p.handed) p.begun in
    record {
      within = omega (arith, kept.within, length-more p.handed tick);
      begun = omega (arith, here, ap length same);
      spread = spread_more p.handed tick kept.spread next.later next.bounded;
      listed = subst (λ (h : List PodTick). AreListedOnceEnded p.pod (evicted_at p) h differs) same kept.listed;
      next = wait_more p tick kept.next next;
      after = subst
          (λ (h : List PodTick). IsStateAfter p.pod p.max_restart_delay (evicted_at p) h state) same kept.after;
      shown = subst (λ (h : List PodTick). IsStatusAfter p.number p.pod p.eviction h status) same kept.shown;
      made_earlier = subst (λ (h : List PodTick). AreMadeOver p.pod p.max_restart_delay (evicted_at p) (take begun h)
          (before_last (drop begun h)) (made_of new)) same earlier;
      made = subst
          (λ (h : List PodTick). AreEventsAfter p.pod p.max_restart_delay (evicted_at p) h events) same kept.made;
    }

-- one whose round is over
pub kept_at_rest : (p : Piece) (differs : List Differ) (state : PodState) (status : PodStatus)
    (earlier : List MadeTick) (events : List PodEvent) → IsKept p differs state status earlier events
    → IsKept (at_rest p) differs state status [] events
kept_at_rest p differs state status earlier events kept = record {
  within = kept.within;
  begun = omega arith;
  spread = kept.spread;
  listed = kept.listed;
  next = kept.next;
  after = kept.after;
  shown = kept.shown;
  made_earlier = subst (λ (k : List PodTick). AreMadeOver p.pod p.max_restart_delay (evicted_at p)
      (take (length (ticks p)) (ticks p)) (before_last k) []) (sym (drop_all (length (ticks p)) (ticks p)
      (omega arith)))
      refl;
  made = kept.made;
}

abbrev numbered : PodStatus → ℕ → PodStatus
numbered status n = record status { number = n }

-- one that has another number
pub kept_numbered : (p : Piece) (n : ℕ) (differs : List Differ) (state : PodState) (status : PodStatus)
    (earlier : List MadeTick) (events : List PodEvent) → IsKept p differs state status earlier events
    → IsKept (with_number p n) differs state (numbered status n) earlier events
kept_numbered p n differs state status earlier events kept = record {
  within = kept.within;
  begun = kept.begun;
  spread = kept.spread;
  listed = kept.listed;
  next = kept.next;
  after = kept.after;
  shown = record {
    number_is = refl;
    lifecycle = kept.shown.lifecycle;
    containers = kept.shown.containers;
    class = kept.shown.class;
    resources = kept.shown.resources;
    requests = kept.shown.requests;
    usage = kept.shown.usage;
    priority = kept.shown.priority;
    spared = kept.shown.spared;
    order = kept.shown.order;
    failure = kept.shown.failure;
  };
  made_earlier = kept.made_earlier;
  made = kept.made;
}

-- it has as many containers as its specification
pub has_containers : (pod : PodSpec) (max_restart_delay : ℕ) (e : Option ℕ) (h : List PodTick) (state : PodState)
    → IsStateOf pod max_restart_delay e h state → HasContainers (length pod.containers) state
has_containers pod max_restart_delay e h state is = sym is.containers.kept.as_many

-- one whose next tick has come into its status
pub kept_updated : (p : Piece) (x : PodTick) (listed differs : List Differ) (old new : PodState)
    (before after : PodStatus) (rows nows : List MadeTick) (olds news : List PodEvent) → 0 < p.waiting
    → slice_get p.handed (length p.handed - p.waiting) ≡ Some x
    → IsKept p listed old before rows olds
    → AreListedOnceEnded p.pod (evicted_at p) (ticks p ++ x ∷ []) differs
    → ((e : Option ℕ) → (e ≡ Some (length (ticks p)) → ⊥) → IsStateOf p.pod p.max_restart_delay e (ticks p) old
    → IsStateOf p.pod p.max_restart_delay e (ticks p ++ x ∷ []) new)
    → ((e : Option ℕ) → IsStateOf p.pod p.max_restart_delay e (ticks p) old
    → IsProgressOf p.pod e (ticks p) (before_of new))
    → ((e : Option ℕ) → (e ≡ Some (length (ticks p)) → ⊥) → IsStateOf p.pod p.max_restart_delay e (ticks p) old
    → AreEventsOf p.pod p.max_restart_delay e (ticks p) x news)
    → (IsStatusAfter p.number p.pod p.eviction (ticks p) before
    → IsStateAfter p.pod p.max_restart_delay (evicted_at p) (ticks p) old
    → IsStateAfter p.pod p.max_restart_delay (evicted_at p) (ticks p ++ x ∷ []) new
    → IsStatusAfter p.number p.pod p.eviction (ticks p ++ x ∷ []) after)
    → AreMadeOver p.pod p.max_restart_delay (evicted_at p) (take p.begun (ticks p)) (round_of p) (made_of nows)
    → IsKept (updated p) differs new after nows news
kept_updated p x listed differs old new before after rows nows olds news pending next kept lists step was made shown
    over =
    let h = ticks p in
    let whole : ticks (updated p) ≡ h ++ x ∷ [] = taken_next p.waiting p.handed x pending kept.within next in
    let state = state_more p.pod p.max_restart_delay (evicted_at p) h x old new kept.after step was in
    let within = ends_within p.pod h (evicted_at p) kept.after.ended in
    let here = made (evicted_at p) (not_now (evicted_at p) (length h) (suc (length h)) (evicted_at p) (omega arith)
    within (may_self (evicted_at p) (suc (length h))))
    (kept.after.now (evicted_at p) (may_self (evicted_at p) (length h))) in
    record {
      within = omega (arith, kept.within);
      begun = omega (arith, kept.begun, ap length whole, length-more h x);
      spread = kept.spread;
      listed = subst (λ (k : List PodTick). AreListedOnceEnded p.pod (evicted_at p) k differs) (sym whole) lists;
      next = wait_less p kept.next;
      after = subst (λ (k : List PodTick). IsStateAfter p.pod p.max_restart_delay (evicted_at p) k new)
          (sym whole) state;
      shown = subst (λ (k : List PodTick). IsStatusAfter p.number p.pod p.eviction k after) (sym whole)
          (shown kept.shown kept.after state);
      made_earlier = subst (λ (k : List PodTick). AreMadeOver p.pod p.max_restart_delay (evicted_at p) (take p.begun k)
          (before_last (drop p.begun k)) (made_of nows)) (sym whole)
          (earlier_more p.pod p.max_restart_delay (evicted_at p) p.begun h x (made_of nows) kept.begun over);
      made = subst (λ (k : List PodTick). AreEventsAfter p.pod p.max_restart_delay (evicted_at p) k news) (sym whole)
          (events_after p.pod p.max_restart_delay (evicted_at p) h x news
          (subst (λ (o : Option ℕ). AreEventsOf p.pod p.max_restart_delay o h x news)
          (sym (before_is (evicted_at p) (length h) within)) here));
    }

-- the events of a round that goes on, or begins
pub moved_on : (parts : Parts) (place : ℕ) (nows : List MadeTick) → AreKept parts
    → length (ticks (piece_of parts)) ≡ place
    → (nat_lt parts.begun place ≡ true → (last : PodObs) → slice_get parts.history (place - 1) ≡ Some last
    → made_of nows ≡ made_of parts.earlier.items ++ made_at last.at parts.events.items)
    → (nat_lt parts.begun place ≡ false → nows ≡ parts.earlier.items)
    → AreMadeOver parts.pod parts.max_restart_delay (place_of parts.eviction)
    (take parts.begun (ticks (piece_of parts))) (round_of (piece_of parts)) (made_of nows)
moved_on parts place nows kept long moved same = by (nat_lt parts.begun place) refl
  where
    h : List PodTick
    h = ticks (piece_of parts)

    goal : List MadeTick → Type 0
    goal rows = AreMadeOver parts.pod parts.max_restart_delay (place_of parts.eviction) (take parts.begun h)
        (drop parts.begun h) (made_of rows)

    by : (b : Bool) → nat_lt parts.begun place ≡ b → goal nows
    by false e =
        let past : length h ≤ parts.begun = elim (cases_lt parts.begun place) [
          | inl lt ↦ absurd (let w : true ≡ false = sym (lt-ltb parts.begun place lt) ∙ e in cc)
          | inr le ↦ omega (arith, long, le)
        ] in
        let none = no_round parts.pod parts.max_restart_delay (place_of parts.eviction) parts.begun h
        (made_of parts.earlier.items) past kept.made_earlier in
        none_made parts.pod parts.max_restart_delay (place_of parts.eviction) parts.begun h (made_of nows) past
        (ap made_of (same e) ∙ none)
    by true e =
        let lt : parts.begun < place = ltb-true parts.begun place e in
        let y = given_at h (length h - 1) (omega (arith, long, lt)) in
        let whole : h ≡ before_last h ++ y.0 ∷ [] = split_last h y.0 y.1 in
        let last = observed_at parts.history parts.waiting (place - 1) y.0
        (subst (λ n. slice_get h n ≡ Some y.0) (omega (arith, long)) y.1) in
        let joined = made_round parts.pod parts.max_restart_delay (place_of parts.eviction) parts.begun (before_last h)
        y.0 (made_of parts.earlier.items) parts.events.items
        (omega (arith, long, lt, ap length whole, length-more (before_last h) y.0))
        (subst (λ (k : List PodTick). AreMadeOver parts.pod parts.max_restart_delay (place_of parts.eviction)
        (take parts.begun k) (before_last (drop parts.begun k)) (made_of parts.earlier.items)) whole kept.made_earlier)
        (subst (λ (k : List PodTick). AreEventsAfter parts.pod parts.max_restart_delay (place_of parts.eviction) k
        parts.events.items) whole kept.made) in
        let back = subst (λ (k : List PodTick). AreMadeOver parts.pod parts.max_restart_delay (place_of parts.eviction)
        (take parts.begun k) (drop parts.begun k)
        (made_of parts.earlier.items ++ made_at (y.0).moment parts.events.items)) (sym whole) joined in
        subst (λ (m : List MadeEvent). AreMadeOver parts.pod parts.max_restart_delay (place_of parts.eviction)
        (take parts.begun h) (drop parts.begun h) m)
        (ap (λ (x : PodTick). made_of parts.earlier.items ++ made_at x.moment parts.events.items) (sym last.2)
        ∙ sym (moved e last.0 last.1)) back

-- the end of a pod that was evicted
pub end_is : (pod : PodSpec) (h : List PodTick) (o end : Option ℕ) → IfSome o (EndsAt pod h) → IsEnd pod o h end
    → IfSome o (λ place. end ≡ Some place)
end_is pod h None end ends is = tt
end_is pod h (Some place) end ends is = IsEnd-unique pod (Some place) h end (Some place) is ends.is_end

-- a pod that was evicted has ended
pub evicted_over : (pod : PodSpec) (h : List PodTick) (o : Option ℕ) → IfSome o (EndsAt pod h)
    → IfSome o (λ place. HasEnded pod (Some place) h)
evicted_over pod h None ends = tt
evicted_over pod h (Some place) ends = (place, ends.is_end)

-- the counters of a piece with none that waits
pub state_free : (p : Piece) (differs : List Differ) (state : PodState) (status : PodStatus) (earlier : List MadeTick)
    (events : List PodEvent) → p.waiting ≡ 0 → IsKept p differs state status earlier events
    → IsStateAfter p.pod p.max_restart_delay (evicted_at p) p.handed state
state_free p differs state status earlier events free kept =
    subst (λ (k : List PodTick). IsStateAfter p.pod p.max_restart_delay (evicted_at p) k state)
    (ticks_free p free) kept.after

-- a piece that one more observation is handed to
pub piece_handed : (number : ℕ) (pod : PodSpec) (max_restart_delay : ℕ) (items : List PodObs) (waiting begun now : ℕ)
    (eviction : Option EvictionRecord) (observed : PodObs) → now ≡ begun_with waiting (length items) begun
    → piece number pod max_restart_delay (items ++ observed ∷ []) (waiting + 1) now eviction
    ≡ with_tick (piece number pod max_restart_delay items waiting begun eviction) (pod_tick observed)
piece_handed number pod max_restart_delay items waiting begun now eviction observed is =
    let old = piece number pod max_restart_delay items waiting begun eviction in
    let h = map pod_tick items ++ pod_tick observed ∷ [] in
    let count : waiting + 1 ≡ suc waiting = omega arith in
    ap (λ (k : List PodTick). record old { handed = k; waiting = waiting + 1; begun = now })
    (map-append pod_tick items (observed ∷ []))
    ∙ ap (λ (w : ℕ). record old { handed = h; waiting = w; begun = now }) count
    ∙ ap (λ (n : ℕ). record old { handed = h; waiting = suc waiting; begun = n })
    (is ∙ ap (λ n. begun_with waiting n begun) (sym (length-map items pod_tick)))

-- so many ticks have come
pub come : (parts : Parts) (n : ℕ) → n ≡ length parts.history → length (ticks (piece_of parts)) ≡ n - parts.waiting
come parts n is =
    omega (arith, taken_length parts.waiting (map pod_tick parts.history), length-map parts.history pod_tick, is)

-- what is known of the parts of a piece with a tick that waits, as its owner sees it
pub record IsAtNext (parts : Parts) (place : ℕ) (observed : PodObs) : Type 0 where
  pub held : AreKept parts
  pub pending : 0 < parts.waiting
  pub long : length (ticks (piece_of parts)) ≡ place
  pub is : slice_get (map pod_tick parts.history) (length (map pod_tick parts.history) - parts.waiting)
      ≡ Some (pod_tick observed)
  pub next : IsNextTick parts.pod (ticks (piece_of parts)) (pod_tick observed)
  pub now : IsStateOf parts.pod parts.max_restart_delay (place_of parts.eviction) (ticks (piece_of parts)) parts.state
  pub not_now : place_of parts.eviction ≡ Some (length (ticks (piece_of parts))) → ⊥

pub at_next : (parts owned : Parts) (seen : Piece) (place : ℕ) (observed : PodObs) → parts ≡ owned
    → piece_of owned ≡ seen → AreKept owned → 0 < seen.waiting → place ≡ length parts.history - parts.waiting
    → observed ≡ get_or parts.history place observed → IsAtNext parts place observed
at_next parts owned seen place observed same view kept some placed is =
    let held : AreKept parts = subst AreKept (sym same) kept in
    let pending : 0 < parts.waiting = subst (λ w. 0 < w) (sym (ap (λ (q : Piece). q.waiting) (ap piece_of same ∙ view)))
    some in
    let handed = map pod_tick parts.history in
    let many : length handed ≡ length parts.history = length-map parts.history pod_tick in
    let within : parts.waiting ≤ length parts.history = omega (arith, held.within, many) in
    let here = next_is parts.history parts.waiting place observed placed pending within is in
    let h = ticks (piece_of parts) in
    record {
      held = held;
      pending = pending;
      long = omega (arith, taken_length parts.waiting handed, many, placed);
      is = here;
      next = subst (λ (k : List PodTick). IsNextTick parts.pod k (pod_tick observed)) (sym
          (taken_is parts.waiting handed))
          (held.next (length handed - parts.waiting) (pod_tick observed) (omega (arith, within, many)) here);
      now = held.after.now (place_of parts.eviction) (may_self (place_of parts.eviction) (length h));
      not_now = not_now (place_of parts.eviction) (length h) (suc (length h)) (place_of parts.eviction) (omega arith)
          (ends_within parts.pod h (place_of parts.eviction) held.after.ended)
          (may_self (place_of parts.eviction) (suc (length h)));
    }
