-- Every list of ticks has its evictions.
use Rattle.std.proofs.Common.{◌≡◌, ◌⊎◌, inl, inr, ℕ, ◌<◌, ◌≤◌, List, [], ◌∷◌, ◌++◌, length, Option, Some}
use Rattle.std.proofs.Common.{None, Bool}
use Rattle.std.proofs.Common.{refl, sym, ap, subst, ◌∙◌, arith, append_assoc, append-nil}
use Rattle.std.specs.Prelude.{◌^◌, slice_get, is_some, IsSome, option_and_then}
use Rattle.std.proofs.lemmas.Option.{slice_get_within}
use Rattle.histories.proofs.Decide.{OrNot, negated, both, true_or_not, less_or_not, given_or_not}
use Rattle.histories.proofs.Found.{first_place}
use Rattle.histories.proofs.Lists.{within_and, given_at}
use Rattle.manifest.specs.declared.pod.PodSpec.{PodSpec}
use Rattle.manifest.specs.rule.Resources.{Resources}
use Rattle.qos.specs.rule.Resized.{resized}
use Rattle.observations.specs.declared.tick.TickObs.{TickObs}
use Rattle.observations.specs.rule.Observations.{shown_of}
use Rattle.node_config.specs.declared.node.NodeConfig.{NodeConfig}
use Rattle.node_config.specs.rule.EvictionConfig.{EvictionConfig}
use Rattle.node_signals.specs.declared.key.ThresholdKey.{ThresholdKey}
use Rattle.node_signals.specs.rule.Keys.{serving_order}
use Rattle.node_signals.specs.rule.Thresholds.{Asks, AsksAt, IsServed}
use Rattle.node_signals.proofs.Decide.{due_or_not, reclaimed_or_not}
use Rattle.pod_state.specs.rule.Pods.{PodTick}
use Rattle.pod_piece.specs.declared.piece.EvictionRecord.{EvictionRecord}
use Rattle.pod_piece.specs.declared.status.PodStatus.{PodStatus}
use Rattle.pod_piece.specs.rule.Piece.{place_of}
use Rattle.pod_piece.specs.rule.Status.{IsStatusAfter, requests_of}
use Rattle.pod_piece.proofs.Failures.{may_or_not, may_by}
use Rattle.pod_piece.proofs.ResourceLemmas.{one_resources}
use Rattle.pod_piece.proofs.UsageLemmas.{one_usage}
use Rattle.ranking.specs.rule.Order.{IsVictim}
use Rattle.ranking.proofs.LawLemmas.{RankAlike}
use Rattle.ranking.proofs.Victims.{AreCandidates, victim_among}
use Rattle.eviction.specs.declared.eviction.Eviction.{Eviction}
use Rattle.eviction.specs.rule.Replay.{pod_ticks, own_eviction, IsCandidate, order_of, IsEvictionFor, is_paused}
use Rattle.eviction.specs.rule.Replay.{unless_paused, unless_recorded, IsEvictionOfTick, IsReplay}
use Rattle.eviction.specs.state.Laws.{SomeChoice, SomeReplay, RecordedAlone}
use Rattle.eviction.proofs.More.{no_replay, replay_more}
use Rattle.eviction.proofs.Statuses.{some_status}

-- a threshold asks for an eviction, or it doesn't
asks_or_not : (eviction : EvictionConfig) (before : List TickObs) (tick : TickObs) (key : ThresholdKey)
    → OrNot (Asks eviction before tick key)
asks_or_not eviction before tick key =
    elim (both (due_or_not eviction before tick key) (negated (reclaimed_or_not eviction tick key))) [
      | inl w ↦ inl (record { judged = w.0.0; due = w.0.1; not_reclaimed = w.1 })
      | inr not ↦ inr (λ asks. not ((asks.judged, asks.due), asks.not_reclaimed))
    ]

-- so one threshold is served, or none
some_served : (eviction : EvictionConfig) (before : List TickObs) (tick : TickObs)
    → (served : Option ThresholdKey) × IsServed eviction before tick served
some_served eviction before tick =
    let each = asks_or_not eviction before tick in
    let asks = λ (place : ℕ). given_or_not (Asks eviction before tick) each (slice_get serving_order place) in
    let below = λ (place : ℕ). within_and (Asks eviction before tick) serving_order place in
    let first = first_place (AsksAt eviction before tick) asks (length serving_order) below in
    (option_and_then (slice_get serving_order) first.0, (first.0, first.1, refl))

-- the number of a pod's containers, where it has a status
few_containers : (number : ℕ) (pod : PodSpec) (eviction : Option EvictionRecord) (h : List PodTick) (status : PodStatus)
    → IsStatusAfter number pod eviction h status → length pod.containers < 2 ^ 63
few_containers number pod eviction h status is =
    let many : length status.containers.items ≡ length pod.containers = is.containers.as_many in
    let held : status.containers.len ≡ length status.containers.items = status.containers.ok.0 in
    let room : status.containers.len ≤ status.containers.cap = status.containers.ok.1 in
    let small : status.containers.cap < 2 ^ 63 = status.containers.small in
    omega arith

-- two statuses of a pod rank it alike, and show one phase
status_alike : (number : ℕ) (pod : PodSpec) (eviction : Option EvictionRecord) (h : List PodTick) (p q : PodStatus)
    → IsStatusAfter number pod eviction h p → IsStatusAfter number pod eviction h q → RankAlike p q
status_alike number pod eviction h p q v w = record {
  usage = one_usage pod (place_of eviction) h p.usage q.usage v.usage w.usage;
  requests = v.requests
      ∙ ap (λ (rs : List Resources). requests_of (resized pod rs))
      (one_resources pod (place_of eviction) h p.resources.items q.resources.items v.resources w.resources)
      ∙ sym w.requests;
  priority = v.priority ∙ sym w.priority;
  number = v.number_is ∙ sym w.number_is;
}

one_pod : (o : Option PodSpec) (pod other : PodSpec) → o ≡ Some pod → o ≡ Some other → pod ≡ other
one_pod o pod other e f = let both : Some pod ≡ Some other = sym e ∙ f in cc

no_pod : {A : Type 0} (o : Option A) (x : A) → o ≡ None → o ≡ Some x → ⊥
no_pod o x e f = let both : None ≡ Some x = sym e ∙ f in cc

-- some status has it, or none has
abbrev Known : (PodStatus → Type 0) → Type 0
Known Candidate = ((p : PodStatus) × Candidate p) ⊎ ((p : PodStatus) → Candidate p → ⊥)

-- a pod may be evicted, or it may not
candidate_or_not : (pods : List PodSpec) (before : List TickObs) (tick : TickObs)
    (evictions : List (Option Eviction)) (n : ℕ)
    → Known (IsCandidate pods before tick evictions n)
candidate_or_not pods before tick evictions n = by (slice_get pods n) refl
  where
    eviction : Option EvictionRecord
    eviction = own_eviction n (before ++ tick ∷ []) evictions

    h : List PodTick
    h = pod_ticks (before ++ tick ∷ []) n

    Candidate : PodStatus → Type 0
    Candidate p = IsCandidate pods before tick evictions n p

    with_status : (pod : PodSpec) → slice_get pods n ≡ Some pod → IsSome (shown_of tick n)
        → (p : PodStatus) × IsStatusAfter n pod eviction h p
        → Known Candidate
    with_status pod at present (p, is) = elim (may_or_not tick.at p) [
      | inr out ↦ inr (λ q c.
          let Of : PodSpec → Type 0 = λ k. IsStatusAfter n k eviction h q in
          let other = subst Of (one_pod (slice_get pods n) c.pod pod c.at at) c.is_status in
          out (may_by n pod eviction h q p tick.at other is c.may))
      | inl may ↦ inl (p, record { pod = pod; at = at; present = present; is_status = is; may = may })
    ]

    of_pod : (pod : PodSpec) → slice_get pods n ≡ Some pod
        → Known Candidate
    of_pod pod at = elim (true_or_not (is_some (shown_of tick n))) [
      | inr absent ↦ inr (λ p c. absent c.present)
      | inl present ↦ elim (less_or_not (length pod.containers) (2 ^ 63)) [
        | inl few ↦ with_status pod at present (some_status n pod eviction h few)
        | inr many ↦ inr (λ p c.
            let Few : PodSpec → Type 0 = λ k. length k.containers < 2 ^ 63 in
            let few = few_containers n c.pod eviction h p c.is_status in
            many (subst Few (one_pod (slice_get pods n) c.pod pod c.at at) few))
      ]
    ]

    by : (o : Option PodSpec) → slice_get pods n ≡ o
        → Known Candidate
    by None e = inr (λ p c. no_pod (slice_get pods n) c.pod e c.at)
    by (Some pod) e = of_pod pod e

candidates : (pods : List PodSpec) (before : List TickObs) (tick : TickObs) (evictions : List (Option Eviction))
    → AreCandidates (IsCandidate pods before tick evictions) (length pods)
candidates pods before tick evictions = record {
  known = candidate_or_not pods before tick evictions;
  below = λ n p c. slice_get_within pods n c.pod c.at;
  numbered = λ n p c. c.is_status.number_is;
  alike = λ n p q c d.
      let eviction = own_eviction n (before ++ tick ∷ []) evictions in
      let h = pod_ticks (before ++ tick ∷ []) n in
      let Of : PodSpec → Type 0 = λ k. IsStatusAfter n k eviction h q in
      let other = subst Of (one_pod (slice_get pods n) d.pod c.pod d.at c.at) d.is_status in
      status_alike n c.pod eviction h p q c.is_status other;
}

pub some_choice : SomeChoice
some_choice config pods before tick evictions =
    let served = some_served config.eviction before tick in
    let found = some_eviction (unless_paused (is_paused config tick.at (before ++ tick ∷ []) evictions) served.0) in
    (found.0, record { served = served.0; is_served = served.1; is_for = found.1 })
  where
    Candidate : ℕ → PodStatus → Type 0
    Candidate = IsCandidate pods before tick evictions

    for_key : (key : ThresholdKey)
        → (victim : Option ℕ) × IsVictim key.signal config.has_dedicated_imagefs Candidate victim
        → (e : Option Eviction) × IsEvictionFor config pods before tick evictions (Some key) e
    for_key key (None, none) = (None, (None, none, refl))
    for_key key (Some n, victim) =
        let pod = victim.1.pod in
        let e : Eviction = record { pod = n; order = order_of config pod tick.at key } in (
          Some e,
          (Some n, victim, record { pod = pod; is_pod = victim.1.at; number = refl; order = refl }),
        )

    some_eviction : (key : Option ThresholdKey)
        → (e : Option Eviction) × IsEvictionFor config pods before tick evictions key e
    some_eviction None = (None, refl)
    some_eviction (Some key) =
        let all = candidates pods before tick evictions in
        for_key key (victim_among key.signal config.has_dedicated_imagefs Candidate (length pods) all)

-- a tick has its eviction, or none
some_round : (config : NodeConfig) (pods : List PodSpec) (before : List TickObs) (tick : TickObs)
    (evictions : List (Option Eviction))
    → (e : Option Eviction) × IsEvictionOfTick config pods before tick evictions e
some_round config pods before tick evictions =
    let choice = some_choice config pods before tick evictions in (
      unless_recorded config.evictions_recorded choice.0,
      record { choice = choice.0; is_choice = choice.1; is_carried = refl },
    )

replay_from : (config : NodeConfig) (pods : List PodSpec) (later before : List TickObs)
    (evictions : List (Option Eviction))
    → IsReplay config pods before evictions
    → (all : List (Option Eviction)) × IsReplay config pods (before ++ later) all
replay_from config pods [] before evictions replay =
    let P : List TickObs → Type 0 = λ h. IsReplay config pods h evictions in
    (evictions, subst P (sym (append-nil before)) replay)
replay_from config pods (tick ∷ later) before evictions replay =
    let round = some_round config pods before tick evictions in
    let P : List TickObs → Type 0 = λ h. (all : List (Option Eviction)) × IsReplay config pods h all in
    let next = replay_more config pods before evictions tick round.0 replay round.1 in
    subst P (append_assoc before (tick ∷ []) later)
    (replay_from config pods later (before ++ tick ∷ []) (evictions ++ round.0 ∷ []) next)

pub some_replay : SomeReplay
some_replay config pods ticks = replay_from config pods ticks [] [] (no_replay config pods)

pub recorded_alone : RecordedAlone
recorded_alone config pods ticks evictions t eviction recorded replay is =
    let lt : t < length evictions = slice_get_within evictions t eviction is in
    let many : length evictions ≡ length ticks = replay.as_many in
    let tick = given_at ticks t (omega arith) in
    let round = replay.each t tick.0 eviction tick.1 is in
    round.is_carried ∙ ap (λ (b : Bool). unless_recorded b round.choice) recorded
