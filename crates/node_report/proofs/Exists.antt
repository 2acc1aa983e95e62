-- A node's ticks have a report.
use Rattle.std.proofs.Common.{◌≡◌, ◌∙◌, ℕ, ◌<◌, List, length, map, get_or, Option, Some, refl, ap, sym, subst}
use Rattle.std.specs.Prelude.{slice_get, option_map}
use Rattle.std.specs.List.{concat}
use Rattle.std.proofs.lemmas.List.{length-map}
use Rattle.std.proofs.lemmas.Option.{same_Some, slice_get-get_or, slice_get-map}
use Rattle.histories.proofs.Found.{list_of}
use Rattle.histories.proofs.Lists.{given_at}
use Rattle.manifest.specs.declared.pod.PodSpec.{PodSpec}
use Rattle.node_config.specs.declared.node.NodeConfig.{NodeConfig}
use Rattle.observations.specs.declared.tick.TickObs.{TickObs}
use Rattle.qos.proofs.ClassLemmas.{some_pod_class}
use Rattle.node_signals.specs.declared.condition.NodeCondition.{NodeCondition}
use Rattle.node_signals.specs.rule.Conditions.{conditions}
use Rattle.node_signals.proofs.Exists.{some_condition}
use Rattle.pod_state.proofs.FoundLemmas.{some_status}
use Rattle.eviction.specs.declared.eviction.Eviction.{Eviction}
use Rattle.pod_piece.specs.rule.Status.{reason_in, disrupted_at}
use Rattle.pod_piece.proofs.Failures.{some_failure}
use Rattle.eviction.specs.rule.Replay.{pod_ticks, own_eviction}
use Rattle.eviction.proofs.Exists.{some_replay}
use Rattle.event_list.specs.rule.Totals.{totals_of}
use Rattle.event_list.proofs.Exists.{some_list_of_events}
use Rattle.node_rounds.specs.declared.summary.ConditionStatus.{ConditionStatus}
use Rattle.node_rounds.specs.rule.Summary.{IsConditionAfter, AreConditionsAfter}
use Rattle.node_report.specs.state.Laws.{SomeReport}
use Rattle.node_report.specs.rule.Lines.{pod_text, report_lines}
use Rattle.node_report.specs.rule.Report.{evicting_tick, evicting_order, ArePodLines, AreLines}

-- the lines of a pod
some_pod_lines : (ticks : List TickObs) (evictions : List (Option Eviction)) (n : ℕ) (pod : PodSpec)
    → (bytes : List ℕ) × ArePodLines ticks evictions n pod bytes
some_pod_lines ticks evictions n pod =
    let evicted = evicting_tick n ticks evictions in
    let order = evicting_order n ticks evictions in
    let (l, l') = some_status.of_pod pod evicted (pod_ticks ticks n) in
    let (c, c') = some_status.of_containers pod evicted (pod_ticks ticks n) in
    let (q, q') = some_pod_class pod in
    let (f, f') = some_failure pod (own_eviction n ticks evictions) (pod_ticks ticks n) in (
      pod_text n pod q l.phase l.conditions (reason_in order f) (disrupted_at order f) c,
      record {
        lifecycle = l;
        is_lifecycle = l';
        containers = c;
        are_statuses = c';
        qos = q;
        is_qos = q';
        failure = f;
        is_failure = f';
        text = refl;
      },
    )

-- of the pod with the number among these
abbrev AreLinesAt : List TickObs → List (Option Eviction) → List PodSpec → ℕ → List ℕ → Type 0
AreLinesAt ticks evictions pods n bytes =
    (pod : PodSpec) → slice_get pods n ≡ Some pod → ArePodLines ticks evictions n pod bytes

some_lines_at : (ticks : List TickObs) (evictions : List (Option Eviction)) (pods : List PodSpec) (n : ℕ)
    → n < length pods → (bytes : List ℕ) × AreLinesAt ticks evictions pods n bytes
some_lines_at ticks evictions pods n lt =
    let pod = given_at pods n lt in
    let lines = some_pod_lines ticks evictions n pod.0 in (
      lines.0,
      (λ other here.
          subst (λ (p : PodSpec). ArePodLines ticks evictions n p lines.0)
          (same_Some pod.0 other (sym pod.1 ∙ here)) lines.1),
    )

some_lines : (ticks : List TickObs) (evictions : List (Option Eviction)) (pods : List PodSpec)
    → (bytes : List ℕ) × AreLines ticks evictions pods bytes
some_lines ticks evictions pods =
    let parts =
    list_of (AreLinesAt ticks evictions pods) (length pods) (some_lines_at ticks evictions pods) in (
      concat parts.0,
      record {
        parts = parts.0;
        as_many = parts.1;
        each = λ n d e lt. parts.2 n e lt (get_or pods n d) (slice_get-get_or pods n d lt);
        whole = refl;
      },
    )

-- the node's conditions
status_of : (config : NodeConfig) (ticks : List TickObs) (condition : NodeCondition)
    → (status : ConditionStatus) × IsConditionAfter config ticks condition status
status_of config ticks condition =
    let period = config.eviction_pressure_transition_period in
    let value = some_condition.value config.eviction period condition ticks in
    let since = some_condition.since config.eviction period condition ticks in (
      record { condition = condition; value = value.0; since = since.0 },
      record { named = refl; value = value.1; since = since.1 },
    )

some_conditions : (config : NodeConfig) (ticks : List TickObs)
    → (statuses : List ConditionStatus) × AreConditionsAfter config ticks statuses
some_conditions config ticks =
    let status : NodeCondition → ConditionStatus = λ condition. (status_of config ticks condition).0 in (
      map status conditions,
      record {
        as_many = length-map conditions status;
        each = λ n condition other here there.
            let same = sym (slice_get-map status conditions n ∙ ap (option_map status) here) ∙ there in
            subst (IsConditionAfter config ticks condition) (same_Some (status condition) other same)
            (status_of config ticks condition).1;
      },
    )

pub some_report : SomeReport
some_report config ticks pods known range =
    let evictions = some_replay config pods ticks in
    let events = some_list_of_events config pods ticks evictions.0 known range in
    let pod_lines = some_lines ticks evictions.0 pods in
    let statuses = some_conditions config ticks in (
      report_lines config.name pods (length ticks) events.0 pod_lines.0 statuses.0 evictions.0
          (totals_of ticks events.0),
      record {
        evictions = evictions.0;
        are_evictions = evictions.1;
        events = events.0;
        are_events = events.1;
        pod_lines = pod_lines.0;
        are_pod_lines = pod_lines.1;
        conditions = statuses.0;
        are_conditions = statuses.1;
        text = refl;
      },
    )
