-- An update of a pod makes few events, and has one entry.
use Rattle.std.proofs.Common.{◌≡◌, ℕ, ◌+◌, ◌*◌, ◌≤◌, Bool, List, [], ◌∷◌, ◌++◌, length, Option, Some, None, ap}
use Rattle.std.proofs.Common.{inl, inr}
use Rattle.std.proofs.Common.{◌∙◌, sym, length-append, arith}
use Rattle.std.specs.Prelude.{MatchOption}
use Rattle.std.proofs.lemmas.List.Sums.{length-filter, count_by-le-length}
use Rattle.manifest.specs.declared.pod.PodSpec.{PodSpec}
use Rattle.manifest.specs.rule.Containers.{most_containers}
use Rattle.phase.specs.declared.phase.Phase.{Phase}
use Rattle.containers.specs.declared.pod_event_kind.PodEventKind.{PodEventKind}
use Rattle.containers.specs.declared.events.ContainerEvents.{ContainerEvents}
use Rattle.pod_state.specs.declared.events.PodEvent.{PodEvent}
use Rattle.pod_state.specs.rule.Pods.{PodTick}
use Rattle.pod_state.specs.rule.Events.{places, coming_in, events_at, events_from, AreEventsOfLivePod, AreEventsOf}
use Rattle.pod_state.specs.rule.Events.{is_leaving}
use Rattle.pod_state.proofs.PodEventLemmas.{one_list_of_pod_events}
use Rattle.pod_piece.specs.rule.Piece.{Piece, ticks}
use Rattle.pod_piece.specs.state.Piece.{before_last, last_of, evicted_at, evicted_before}
use Rattle.pod_piece.specs.state.Status.{AreLastEvents}
use Rattle.totals.specs.declared.totals.Entry.{Entry}
use Rattle.totals.specs.rule.Totals.{is_order}
use Rattle.totals.specs.state.Totals.{entry_of, IsEntryOf}
use Rattle.totals.specs.state.Limits.{IsLow, most_events}

few_at : (container : Option ℕ) (places : List (Option PodEventKind))
    → length (events_at container places) ≤ length places
few_at container [] = omega arith
few_at container (None ∷ places) = let rest = few_at container places in omega arith
few_at container (Some kind ∷ places) = let rest = few_at container places in omega arith

few_from : (phase : Phase) (leaving : Bool) (n : ℕ) (made : List ContainerEvents)
    → length (events_from phase leaving n made) ≤ 8 * length made
few_from phase leaving n [] = omega arith
few_from phase leaving n (made ∷ rest) =
    let here = events_at (Some n) (places (coming_in phase leaving made)) in
    let first = few_at (Some n) (places (coming_in phase leaving made)) in
    let others = few_from phase leaving (n + 1) rest in
    let both = length-append here (events_from phase leaving (n + 1) rest) in
    omega arith

few_of_live_pod : (pod : PodSpec) (max_restart_delay : ℕ) (evicted : Option ℕ) (before : List PodTick) (tick : PodTick)
    (events : List PodEvent) → length pod.containers ≤ most_containers
    → AreEventsOfLivePod pod max_restart_delay evicted before tick events
    → length events ≤ most_events
few_of_live_pod pod max_restart_delay evicted before tick events few live =
    let leaving = is_leaving before tick in
    let all = ap length live.in_order in
    let both = length-append (events_from live.phase leaving 0 live.made) (events_at None (live.change ∷ [])) in
    let of_containers = few_from live.phase leaving 0 live.made in
    let of_pod = few_at None (live.change ∷ []) in
    let as_many = live.are_made.as_many in
    omega arith

pub few_events : (pod : PodSpec) (max_restart_delay : ℕ) (evicted : Option ℕ) (before : List PodTick) (tick : PodTick)
    (events : List PodEvent) → length pod.containers ≤ most_containers
    → AreEventsOf pod max_restart_delay evicted before tick events
    → length events ≤ most_events
few_events pod max_restart_delay evicted before tick events few (inl ended) = let none =
    ap length ended.1 in omega arith
few_events pod max_restart_delay evicted before tick events few (inr lives) =
    few_of_live_pod pod max_restart_delay evicted before tick events few lives.1

few_last : (p : Piece) (events : List PodEvent) (last : Option PodTick) → length p.pod.containers ≤ most_containers
    → MatchOption last (events ≡ [])
    (λ tick. AreEventsOf p.pod p.max_restart_delay (evicted_before (evicted_at p) (length (before_last (ticks p))))
    (before_last (ticks p)) tick events)
    → length events ≤ most_events
few_last p events None few none = let nothing = ap length none in omega arith
few_last p events (Some tick) few are =
    few_events p.pod p.max_restart_delay (evicted_before (evicted_at p) (length (before_last (ticks p))))
    (before_last (ticks p)) tick events few are

-- the entry of a pod's last update is low
pub low : (p : Piece) (entry : Entry) → length p.pod.containers ≤ most_containers → IsEntryOf p entry → IsLow entry
low p entry few (events, are, is) =
    let some = few_last p events (last_of (ticks p)) few are in
    let orders = count_by-le-length is_order events in
    let counted = length-filter is_order events in
    let events_is = ap (λ (e : Entry). e.events) is in
    let orders_is = ap (λ (e : Entry). e.orders) is in
    record { events = omega arith; orders = omega arith }

-- the events of its last update are determined
pub one_last : (p : Piece) (events others : List PodEvent) → AreLastEvents p events → AreLastEvents p others
    → events ≡ others
one_last p events others is is' = by (last_of (ticks p)) is is'
  where
    by : (o : Option PodTick)
        → MatchOption o (events ≡ []) (λ tick.
        AreEventsOf p.pod p.max_restart_delay (evicted_before (evicted_at p) (length (before_last (ticks p))))
        (before_last (ticks p)) tick events)
        → MatchOption o (others ≡ []) (λ tick.
        AreEventsOf p.pod p.max_restart_delay (evicted_before (evicted_at p) (length (before_last (ticks p))))
        (before_last (ticks p)) tick others)
        → events ≡ others
    by None none none' = none ∙ sym none'
    by (Some tick) some some' =
        one_list_of_pod_events p.pod p.max_restart_delay
        (evicted_before (evicted_at p) (length (before_last (ticks p))))
        (before_last (ticks p)) tick events others some some'

-- and its entry
pub one_entry : (p : Piece) (entry other : Entry) → IsEntryOf p entry → IsEntryOf p other → entry ≡ other
one_entry p entry other (events, are, is) (others, were, was) =
    is ∙ (ap entry_of (one_last p events others are were) ∙ sym was)
