-- What is true of a tick that evicts a pod, and of that pod.
use Rattle.std.proofs.Common.{◌≡◌, inl, inr, ℕ, zero, suc, ◌+◌, ◌<◌, ◌≤◌, List, [], ◌∷◌, ◌++◌, length, map, take}
use Rattle.std.proofs.Common.{Bool, true, false, drop, Option, Some, None, refl, sym, ap, subst, ◌∙◌, arith}
use Rattle.std.specs.Prelude.{slice_get, IsSomeAnd, option_map, option_and_then}
use Rattle.std.proofs.lemmas.Bool.{cases_order}
use Rattle.std.proofs.lemmas.List.{length-append, length-take-le, map-append, take-append-drop}
use Rattle.std.proofs.lemmas.List.Elements.{filter_map-append}
use Rattle.std.proofs.lemmas.Option.{slice_get_within}
use Rattle.histories.proofs.Places.{length-more}
use Rattle.histories.proofs.Lists.{given_at, some_given}
use Rattle.manifest.specs.declared.pod.PodSpec.{PodSpec}
use Rattle.observations.specs.declared.tick.TickObs.{TickObs}
use Rattle.observations.specs.rule.Observations.{shown_of, own_ticks}
use Rattle.node_config.specs.declared.node.NodeConfig.{NodeConfig}
use Rattle.node_signals.specs.declared.key.ThresholdKey.{ThresholdKey}
use Rattle.node_signals.specs.rule.Thresholds.{Asks, IsServed}
use Rattle.pod_state.specs.rule.Pods.{PodTick, pod_tick, IsEnd, HasEnded}
use Rattle.pod_state.proofs.EndLemmas.{ended_is, IsEnd-unique}
use Rattle.pod_state.proofs.FoundLemmas.{some_end}
use Rattle.pod_piece.specs.declared.order.EvictOrder.{EvictOrder}
use Rattle.pod_piece.specs.declared.piece.EvictionRecord.{EvictionRecord}
use Rattle.pod_piece.specs.declared.status.PodFailure.{PodFailure}
use Rattle.pod_piece.specs.declared.status.PodStatus.{PodStatus}
use Rattle.pod_piece.specs.rule.Status.{failure_at, IsFailure}
use Rattle.pod_piece.specs.rule.Piece.{place_of}
use Rattle.ranking.specs.rule.Order.{IsVictim}
use Rattle.eviction.specs.declared.eviction.Eviction.{Eviction}
use Rattle.eviction.specs.rule.Replay.{pod_ticks, EvictedAt, evicted_at, own_eviction, IsCandidate, order_of}
use Rattle.eviction.specs.rule.Replay.{IsOfVictim}
use Rattle.eviction.specs.rule.Replay.{IsEvictionFor, is_paused, unless_paused, IsChoiceOfTick}
use Rattle.eviction.specs.rule.Replay.{unless_recorded, IsEvictionOfTick, IsReplay}
use Rattle.eviction.specs.state.Laws.{EvictedOnce, EvictedPodLived, ServedAlone}
use Rattle.eviction.proofs.Own.{pod_ticks-more, of_pod, evicted_unless, own_eviction-longer}

-- who is evicted was chosen
pub chosen : (config : NodeConfig) (pods : List PodSpec) (before : List TickObs) (tick : TickObs)
    (evictions : List (Option Eviction)) (eviction : Eviction)
    → IsEvictionOfTick config pods before tick evictions (Some eviction)
    → IsChoiceOfTick config pods before tick evictions (Some eviction)
chosen config pods before tick evictions eviction round =
    by config.evictions_recorded round.choice round.is_choice round.is_carried
  where
    by : (recorded : Bool) (choice : Option Eviction) → IsChoiceOfTick config pods before tick evictions choice
        → Some eviction ≡ unless_recorded recorded choice
        → IsChoiceOfTick config pods before tick evictions (Some eviction)
    by true choice is carried = absurd (cc)
    by false choice is carried =
        subst (λ (o : Option Eviction). IsChoiceOfTick config pods before tick evictions o) (sym carried) is

-- the threshold for which a tick evicts a pod, and the pod's status
record Reason (config : NodeConfig) (pods : List PodSpec) (before : List TickObs) (tick : TickObs)
    (evictions : List (Option Eviction)) (eviction : Eviction) : Type 0 where
  key : ThresholdKey
  is_served : IsServed config.eviction before tick (Some key)
  status : PodStatus
  candidate : IsCandidate pods before tick evictions eviction.pod status
  pod : PodSpec
  order : eviction.order ≡ order_of config pod tick.at key

reason_of : (config : NodeConfig) (pods : List PodSpec) (before : List TickObs) (tick : TickObs)
    (evictions : List (Option Eviction)) (eviction : Eviction)
    → IsEvictionOfTick config pods before tick evictions (Some eviction)
    → Reason config pods before tick evictions eviction
reason_of config pods before tick evictions eviction round =
    let choice = chosen config pods before tick evictions eviction round in
    unpaused (is_paused config tick.at (before ++ tick ∷ []) evictions) choice.served choice.is_served choice.is_for
  where
    of : (key : ThresholdKey) → IsServed config.eviction before tick (Some key) → (victim : Option ℕ)
        → IsVictim key.signal config.has_dedicated_imagefs (IsCandidate pods before tick evictions) victim
        → IsOfVictim config pods tick.at key victim (Some eviction) → Reason config pods before tick evictions eviction
    of key is None none e = absurd (let none : Some eviction ≡ None = e in cc)
    of key is (Some n) (p, c, first) e = record {
      key = key;
      is_served = is;
      status = p;
      candidate = let C : ℕ → Type 0 = λ k. IsCandidate pods before tick evictions k p in subst C (sym e.number) c;
      pod = e.pod;
      order = e.order;
    }

    by : (served : Option ThresholdKey) → IsServed config.eviction before tick served
        → IsEvictionFor config pods before tick evictions served (Some eviction)
        → Reason config pods before tick evictions eviction
    by None is e = absurd (let none : Some eviction ≡ None = e in cc)
    by (Some key) is (victim, is_victim, e) = of key is victim is_victim e

    unpaused : (paused : Bool) (served : Option ThresholdKey) → IsServed config.eviction before tick served
        → IsEvictionFor config pods before tick evictions (unless_paused paused served) (Some eviction)
        → Reason config pods before tick evictions eviction
    unpaused true served is e = absurd (let none : Some eviction ≡ None = e in cc)
    unpaused false served is e = by served is e

-- the moment of an eviction is that of its tick
pub moment_of : (config : NodeConfig) (pods : List PodSpec) (before : List TickObs) (tick : TickObs)
    (evictions : List (Option Eviction)) (eviction : Eviction)
    → IsEvictionOfTick config pods before tick evictions (Some eviction) → eviction.order.at ≡ tick.at
moment_of config pods before tick evictions eviction round =
    ap (λ (o : EvictOrder). o.at) (reason_of config pods before tick evictions eviction round).order

reason_at : (config : NodeConfig) (pods : List PodSpec) (ticks : List TickObs) (evictions : List (Option Eviction))
    (t : ℕ) (tick : TickObs) (eviction : Eviction)
    → IsReplay config pods ticks evictions → slice_get ticks t ≡ Some tick
    → slice_get evictions t ≡ Some (Some eviction)
    → Reason config pods (take t ticks) tick (take t evictions) eviction
reason_at config pods ticks evictions t tick eviction replay at is =
    reason_of config pods (take t ticks) tick (take t evictions) eviction (replay.each t tick (Some eviction) at is)

-- the threshold that is served asks for an eviction
served_asks : (config : NodeConfig) (before : List TickObs) (tick : TickObs) (key : ThresholdKey)
    → IsServed config.eviction before tick (Some key) → Asks config.eviction before tick key
served_asks config before tick key (None, none, is) = absurd (let e : Some key ≡ None = is in cc)
served_asks config before tick key (Some place, first, is) =
    let P : Option ThresholdKey → Type 0 = λ o. IsSomeAnd o (Asks config.eviction before tick) in
    subst P (sym is) first.holds

pub served_alone : ServedAlone
served_alone config pods ticks evictions t tick eviction replay at is =
    let reason = reason_at config pods ticks evictions t tick eviction replay at is in
    record {
      key = reason.key;
      is_served = reason.is_served;
      asks = served_asks config (take t ticks) tick reason.key reason.is_served;
      signal = ap (λ (o : EvictOrder). o.signal) reason.order;
      kind = ap (λ (o : EvictOrder). o.kind) reason.order;
      moment = ap (λ (o : EvictOrder). o.at) reason.order;
    }

-- a candidate has not ended, unless with the tick, as it says
candidate_ends : (pods : List PodSpec) (before : List TickObs) (tick : TickObs)
    (evictions : List (Option Eviction)) (n : ℕ) (status : PodStatus)
    → (c : IsCandidate pods before tick evictions n status) → (end : ℕ)
    → IsEnd c.pod (place_of (own_eviction n (before ++ tick ∷ []) evictions)) (pod_ticks (before ++ tick ∷ []) n)
    (Some end)
    → (own_eviction n (before ++ tick ∷ []) evictions ≡ None)
    × (option_map (λ (f : PodFailure). f.at) (failure_at (pod_ticks (before ++ tick ∷ []) n) end) ≡ Some tick.at)
candidate_ends pods before tick evictions n status c end is =
    by (own_eviction n (before ++ tick ∷ []) evictions) refl is c.is_status.failure
  where
    h : List PodTick
    h = pod_ticks (before ++ tick ∷ []) n

    evicted : Option ℕ
    evicted = place_of (own_eviction n (before ++ tick ∷ []) evictions)

    says : option_map (λ (f : PodFailure). f.at) status.failure ≡ Some tick.at
    says = c.may.lives ((ended_is c.pod evicted h status.phase c.is_status.lifecycle.phase).1 (end, is))

    by : (o : Option EvictionRecord) → own_eviction n (before ++ tick ∷ []) evictions ≡ o
        → IsEnd c.pod (place_of (own_eviction n (before ++ tick ∷ []) evictions)) h (Some end)
        → IsFailure c.pod (own_eviction n (before ++ tick ∷ []) evictions) h status.failure
        → (own_eviction n (before ++ tick ∷ []) evictions ≡ None)
        × (option_map (λ (f : PodFailure). f.at) (failure_at h end) ≡ Some tick.at)
    by None own ends failure =
        let fails : IsFailure c.pod None h status.failure =
        subst (λ (o : Option EvictionRecord). IsFailure c.pod o h status.failure) own failure in
        let here : IsEnd c.pod None h (Some end) =
        subst (λ (o : Option EvictionRecord). IsEnd c.pod (place_of o) h (Some end)) own ends in
        let same : status.failure ≡ failure_at h end = fails.2
        ∙ ap (option_and_then (failure_at h)) (IsEnd-unique c.pod None h fails.0 (Some end) fails.1 here) in
        (own, ap (option_map (λ (f : PodFailure). f.at)) (sym same) ∙ says)
    by (Some r) own ends failure =
        let none : status.failure ≡ None =
        subst (λ (o : Option EvictionRecord). IsFailure c.pod o h status.failure) own failure in
        absurd (let w : None ≡ Some tick.at =
        sym (ap (option_map (λ (f : PodFailure). f.at)) none) ∙ says in cc)

pub evicted_pod_lived : EvictedPodLived
evicted_pod_lived config pods ticks evictions t tick eviction replay at is =
    let reason = reason_at config pods ticks evictions t tick eviction replay at is in
    let c = reason.candidate in
    record {
      pod = c.pod;
      is_pod = c.at;
      present = c.present;
      lived = candidate_ends pods (take t ticks) tick (take t evictions) eviction.pod reason.status c;
    }

-- a pod that is evicted in one of its ticks has ended
has_ended : (pod : PodSpec) (place : ℕ) (h : List PodTick) → place < length h → HasEnded pod (Some place) h
has_ended pod place h lt = by (some_end pod (Some place) h)
  where
    by : (o : Option ℕ) × IsEnd pod (Some place) h o → HasEnded pod (Some place) h
    by (Some t, end) = (t, end)
    by (None, none) =
        let cut = length-take-le (suc place) h (omega arith) in
        absurd (none place (record { within = lt; so = inr (place, cut, inl refl) }))

-- no more ticks are its own among the first ones than among all
few_ticks : (ticks : List TickObs) (n k : ℕ) → length (pod_ticks (take k ticks) n) ≤ length (pod_ticks ticks n)
few_ticks ticks n k =
    let a = own_ticks (take k ticks) n in
    let b = own_ticks (drop k ticks) n in
    let own : own_ticks ticks n ≡ a ++ b =
    sym (ap (λ (h : List TickObs). own_ticks h n) (take-append-drop k ticks))
    ∙ filter_map-append (λ (tick : TickObs). shown_of tick n) (take k ticks) (drop k ticks) in
    let all : length (pod_ticks ticks n) ≡ length (map pod_tick a) + length (map pod_tick b) =
    ap length (ap (map pod_tick) own ∙ map-append pod_tick a b) ∙ length-append (map pod_tick a) (map pod_tick b) in
    omega arith

-- a candidate has no eviction yet
never_before : (pods : List PodSpec) (before : List TickObs) (tick : TickObs) (evictions : List (Option Eviction))
    (n : ℕ) (status : PodStatus)
    → length evictions ≡ length before → IsCandidate pods before tick evictions n status
    → evicted_at n evictions ≡ None
never_before pods before tick evictions n status many c = by (evicted_at n evictions) refl
  where
    by : (o : Option EvictedAt) → evicted_at n evictions ≡ o → o ≡ None
    by None e = refl
    by (Some found) e =
        let place : ℕ = length (pod_ticks (take found.tick before) n) in
        let shown = some_given (shown_of tick n) c.present in
        let h = pod_ticks (before ++ tick ∷ []) n in
        let more : length h ≡ suc (length (pod_ticks before n)) =
        ap length (pod_ticks-more before tick n shown.0 shown.1)
        ∙ length-more (pod_ticks before n) (pod_tick shown.0) in
        let few : place ≤ length (pod_ticks before n) = few_ticks before n found.tick in
        let is : own_eviction n (before ++ tick ∷ []) evictions ≡ Some (of_pod before n found) =
        own_eviction-longer n before tick evictions many
        ∙ ap (option_map (of_pod before n)) e in
        let Ended : Option ℕ → Type 0 = λ o. HasEnded c.pod o h in
        let over = subst Ended (sym (ap place_of is)) (has_ended c.pod place h (omega arith)) in
        let none = (candidate_ends pods before tick evictions n status c over.0 over.1).0 in
        absurd (let w : None ≡ Some (of_pod before n found) = sym none ∙ is in cc)

pub taken : {A : Type 0} (xs : List A) (t u : ℕ) (x : A) → t < u → slice_get xs t ≡ Some x
    → slice_get (take u xs) t ≡ Some x
taken xs t zero x lt e = absurd (omega arith)
taken [] t (suc u) x lt e = e
taken (y ∷ xs) zero (suc u) x lt e = e
taken (y ∷ xs) (suc t) (suc u) x lt e = taken xs t u x (omega arith) e

not_twice : (config : NodeConfig) (pods : List PodSpec) (ticks : List TickObs) (evictions : List (Option Eviction))
    (t u : ℕ) (one other : Eviction)
    → IsReplay config pods ticks evictions → slice_get evictions t ≡ Some (Some one)
    → slice_get evictions u ≡ Some (Some other)
    → one.pod ≡ other.pod → t < u → ⊥
not_twice config pods ticks evictions t u one other replay e f same lt =
    let below : u < length evictions = slice_get_within evictions u (Some other) f in
    let many : length evictions ≡ length ticks = replay.as_many in
    let tick = given_at ticks u (omega arith) in
    let reason = reason_at config pods ticks evictions u tick.0 other replay tick.1 f in
    let as_many : length (take u evictions) ≡ length (take u ticks) =
    length-take-le u evictions (omega arith) ∙ sym (length-take-le u ticks (omega arith)) in
    let c = reason.candidate in
    let none = never_before pods (take u ticks) tick.0 (take u evictions) other.pod reason.status as_many c in
    evicted_unless other.pod (take u evictions) none t one (taken evictions t u (Some one) lt e) same

pub evicted_once : EvictedOnce
evicted_once config pods ticks evictions t u one other replay e f same = elim (cases_order t u) [
  | inl here ↦ here
  | inr w ↦ elim w [
    | inl lt ↦ absurd (not_twice config pods ticks evictions t u one other replay e f same lt)
    | inr gt ↦ absurd (not_twice config pods ticks evictions u t other one replay f e (sym same) gt)
  ]
]
