-- There is one report.
use Rattle.std.proofs.Common.{◌≡◌, ◌∙◌, ℕ, Bool, ◌<◌, List, length, Option, slice_index_or}
use Rattle.std.proofs.Common.{ap, sym, subst, arith}
use Rattle.std.specs.List.{concat}
use Rattle.std.proofs.lemmas.Option.{slice_get_within}
use Rattle.histories.proofs.Decide.{same_bool}
use Rattle.histories.proofs.Lists.{same_places, given_at, some_item, same_items}
use Rattle.manifest.specs.declared.pod.PodSpec.{PodSpec}
use Rattle.node_config.specs.declared.node.NodeConfig.{NodeConfig}
use Rattle.observations.specs.declared.tick.TickObs.{TickObs}
use Rattle.qos.specs.declared.class.Qos.{Qos}
use Rattle.qos.proofs.ClassLemmas.{one_pod_class}
use Rattle.pressure.specs.rule.Pressures.{Observation, IsSince}
use Rattle.pressure.proofs.LawLemmas.{one_since}
use Rattle.observations.specs.rule.Observations.{judged_of}
use Rattle.node_signals.specs.declared.condition.NodeCondition.{NodeCondition}
use Rattle.node_signals.specs.rule.Conditions.{conditions}
use Rattle.node_signals.proofs.ConditionLemmas.{one_list}
use Rattle.containers.specs.declared.status.ContainerStatus.{ContainerStatus}
use Rattle.pod_state.specs.declared.lifecycle.Lifecycle.{Lifecycle}
use Rattle.pod_state.proofs.UniqueLemmas.{status_one, container_one}
use Rattle.eviction.specs.declared.eviction.Eviction.{Eviction}
use Rattle.pod_piece.specs.declared.status.PodFailure.{PodFailure}
use Rattle.pod_piece.specs.rule.Status.{reason_in, disrupted_at}
use Rattle.pod_piece.proofs.Failures.{one_failure}
use Rattle.eviction.specs.rule.Replay.{pod_ticks, own_eviction}
use Rattle.eviction.proofs.Unique.{one_replay}
use Rattle.event_list.specs.declared.event.Event.{Event}
use Rattle.event_list.specs.rule.Events.{AreEvents}
use Rattle.event_list.specs.rule.Totals.{totals_of}
use Rattle.event_list.proofs.Unique.{one_list_of_events}
use Rattle.node_rounds.specs.declared.summary.ConditionStatus.{ConditionStatus}
use Rattle.node_rounds.specs.rule.Summary.{IsConditionAfter, AreConditionsAfter}
use Rattle.node_report.specs.rule.Lines.{pod_text, report_lines}
use Rattle.node_report.specs.rule.Report.{evicting_tick, evicting_order, ArePodLines, AreLines}
use Rattle.node_report.specs.state.Laws.{OneReport}

lines_one : (ticks : List TickObs) (evictions : List (Option Eviction)) (n : ℕ) (pod : PodSpec) (a b : List ℕ)
    → ArePodLines ticks evictions n pod a → ArePodLines ticks evictions n pod b → a ≡ b
lines_one ticks evictions n pod a b x y =
    let h = pod_ticks ticks n in
    let evicted = evicting_tick n ticks evictions in
    let order = evicting_order n ticks evictions in
    let lifecycles : x.lifecycle ≡ y.lifecycle = status_one pod evicted h x.lifecycle y.lifecycle x.is_lifecycle
    y.is_lifecycle in
    let containers : x.containers ≡ y.containers = same_items x.containers y.containers
    (x.are_statuses.as_many ∙ sym y.are_statuses.as_many)
    (λ c d lt. container_one pod evicted h c (slice_index_or x.containers c d) (slice_index_or y.containers c d)
    (x.are_statuses.each c d (omega (arith, x.are_statuses.as_many)))
    (y.are_statuses.each c d (omega (arith, x.are_statuses.as_many)))) in
    let classes : x.qos ≡ y.qos = one_pod_class pod x.qos y.qos x.is_qos y.is_qos in
    let failures : x.failure ≡ y.failure = one_failure pod (own_eviction n ticks evictions) h x.failure y.failure
    x.is_failure y.is_failure in
    let Text : Qos → Lifecycle → Option PodFailure → List ContainerStatus → List ℕ =
    λ q s f cs. pod_text n pod q s.phase s.conditions (reason_in order f) (disrupted_at order f) cs in
    x.text ∙ ap (λ (q : Qos). Text q x.lifecycle x.failure x.containers) classes
    ∙ ap (λ (s : Lifecycle). Text y.qos s x.failure x.containers) lifecycles
    ∙ ap (λ (f : Option PodFailure). Text y.qos y.lifecycle f x.containers) failures
    ∙ ap (λ (cs : List ContainerStatus). Text y.qos y.lifecycle y.failure cs) containers ∙ sym y.text

all_lines_one : (ticks : List TickObs) (evictions : List (Option Eviction)) (pods : List PodSpec) (a b : List ℕ)
    → AreLines ticks evictions pods a → AreLines ticks evictions pods b → a ≡ b
all_lines_one ticks evictions pods a b x y =
    let parts : x.parts ≡ y.parts = same_items x.parts y.parts (x.as_many ∙ sym y.as_many)
    (λ n e lt.
    let within : n < length pods = omega (arith, x.as_many) in
    let d = some_item pods n within in
    lines_one ticks evictions n (slice_index_or pods n d) (slice_index_or x.parts n e) (slice_index_or y.parts n e)
    (x.each n d e within) (y.each n d e within)) in
    x.whole ∙ ap concat parts ∙ sym y.whole

abbrev status : NodeCondition → Bool → ℕ → ConditionStatus
status condition value since = record { condition = condition; value = value; since = since }

same_status : (c d : NodeCondition) (v w : Bool) (m n : ℕ) → c ≡ d → v ≡ w → m ≡ n
    → status c v m ≡ status d w n
same_status c d v w m n cd vw mn = cc

-- a condition's value and moment
condition_one : (config : NodeConfig) (ticks : List TickObs) (condition : NodeCondition) (a b : ConditionStatus)
    → IsConditionAfter config ticks condition a → IsConditionAfter config ticks condition b → a ≡ b
condition_one config ticks condition a b x y =
    let period = config.eviction_pressure_transition_period in
    let named : a.condition ≡ b.condition = x.named ∙ sym y.named in
    let value : a.value ≡ b.value =
    same_bool a.value b.value ((λ m. y.value.1 (x.value.0 m)), (λ m. x.value.1 (y.value.0 m))) in
    let same : y.since.0 ≡ x.since.0 =
    one_list config.eviction condition (judged_of ticks) y.since.0 x.since.0 y.since.1 x.since.1 in
    let since : a.since ≡ b.since =
    one_since.unique period x.since.0 a.since b.since x.since.2
    (subst (λ (h : List Observation). IsSince period h b.since) same y.since.2) in
    same_status a.condition b.condition a.value b.value a.since b.since named value since

conditions_one : (config : NodeConfig) (ticks : List TickObs) (a b : List ConditionStatus)
    → AreConditionsAfter config ticks a → AreConditionsAfter config ticks b → a ≡ b
conditions_one config ticks a b x y =
    same_places a b (x.as_many ∙ sym y.as_many) (λ n one other here there.
    let lt : n < length a = slice_get_within a n one here in
    let many : length a ≡ length conditions = x.as_many in
    let condition = given_at conditions n (omega arith) in
    condition_one config ticks condition.0 one other (x.each n condition.0 one condition.1 here)
    (y.each n condition.0 other condition.1 there))

pub one_report : OneReport
one_report config ticks pods a b x y =
    let same : y.evictions ≡ x.evictions =
    one_replay config pods ticks y.evictions x.evictions y.are_evictions x.are_evictions in
    let events : x.events ≡ y.events =
    one_list_of_events config pods ticks x.evictions x.events y.events x.are_events
    (subst (λ (es : List (Option Eviction)). AreEvents config pods ticks es y.events) same y.are_events) in
    let lines : x.pod_lines ≡ y.pod_lines =
    all_lines_one ticks x.evictions pods x.pod_lines y.pod_lines x.are_pod_lines
    (subst (λ (es : List (Option Eviction)). AreLines ticks es pods y.pod_lines) same y.are_pod_lines) in
    let statuses : x.conditions ≡ y.conditions =
    conditions_one config ticks x.conditions y.conditions x.are_conditions y.are_conditions in
    x.text
    ∙ (ap (λ (e : List Event). text_of e x.pod_lines x.conditions x.evictions) events
    ∙ (ap (λ (l : List ℕ). text_of y.events l x.conditions x.evictions) lines
    ∙ (ap (λ (c : List ConditionStatus). text_of y.events y.pod_lines c x.evictions) statuses
    ∙ (ap (λ (es : List (Option Eviction)). text_of y.events y.pod_lines y.conditions es) (sym same) ∙ sym y.text))))
  where
    text_of : List Event → List ℕ → List ConditionStatus → List (Option Eviction) → List ℕ
    text_of events lines statuses evictions =
        report_lines config.name pods (length ticks) events lines statuses evictions (totals_of ticks events)
