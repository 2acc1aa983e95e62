-- Every list of ticks has its conditions, and every tick its events.
use Rattle.std.proofs.Common.{inl, inr, ℕ, List, [], ◌∷◌, ◌++◌, Bool, Option, Some, None, refl, sym}
use Rattle.std.proofs.Common.{subst, append_assoc, append-nil}
use mathlib.Core.Bool.{beq, not}
use Rattle.std.specs.Prelude.{◌↔◌, IsTrue}
use Rattle.std.specs.Bool.{then_some}
use Rattle.histories.specs.rule.TheOne.{IsTheOne}
use Rattle.histories.specs.rule.Histories.{recorded}
use Rattle.histories.proofs.Decide.{both, test_of}
use Rattle.histories.proofs.TheOne.{IsTheOne-none, IsTheOne-some}
use Rattle.pressure.specs.rule.Pressures.{Observation}
use Rattle.pressure.proofs.LawLemmas.{one_since}
use Rattle.node_config.specs.rule.EvictionConfig.{EvictionConfig}
use Rattle.observations.specs.declared.tick.TickObs.{TickObs}
use Rattle.observations.specs.rule.Observations.{judged_of}
use Rattle.node_signals.specs.declared.key.ThresholdKey.{ThresholdKey}
use Rattle.node_signals.specs.declared.condition.NodeCondition.{NodeCondition}
use Rattle.node_signals.specs.declared.event.NodeEvent.{NodeEvent}
use Rattle.node_signals.specs.declared.event.NodeEvent.TheVariants.{Threshold, Pressure, Reclaim}
use Rattle.node_signals.specs.rule.Keys.{serving_order}
use Rattle.node_signals.specs.rule.Thresholds.{IsActiveOnNode}
use Rattle.node_signals.specs.rule.Conditions.{conditions, AreObservations, IsTrueAfter, IsSinceMoment}
use Rattle.node_signals.specs.rule.Events.{Changes, ChangesThreshold, ChangesCondition, Reclaims, as_list, AreGiven}
use Rattle.node_signals.specs.state.Laws.{SomeCondition, SomeListOfNodeEvents}
use Rattle.node_signals.proofs.ConditionLemmas.{none_observed, observed_more, true_after}
use Rattle.node_signals.proofs.Decide.{active_or_not, due_or_not, reclaimed_or_not, met_or_not, pressure_or_not}
use Rattle.node_signals.proofs.EventLemmas.{change_given, all_events}

-- what the ticks say of a condition
observed_after : (eviction : EvictionConfig) (condition : NodeCondition) (later before : List TickObs)
    (h : List Observation)
    → AreObservations eviction condition before h
    → (all : List Observation) × AreObservations eviction condition (before ++ later) all
observed_after eviction condition [] before h are =
    (h, subst (λ ticks. AreObservations eviction condition ticks h) (sym (append-nil before)) are)
observed_after eviction condition (tick ∷ later) before h are =
    let met = test_of (met_or_not eviction condition (before ++ tick ∷ [])) in
    let next = observed_more eviction condition before tick h met.0 met.1 are in
    let All : List TickObs → Type 0 =
    λ ticks. (all : List Observation) × AreObservations eviction condition ticks all in
    subst All (append_assoc before (tick ∷ []) later)
    (observed_after eviction condition later (before ++ tick ∷ []) (h ++ recorded tick.at met.0 ∷ []) next)

some_observations : (eviction : EvictionConfig) (condition : NodeCondition) (ticks : List TickObs)
    → (h : List Observation) × AreObservations eviction condition ticks h
some_observations eviction condition ticks =
    observed_after eviction condition ticks [] [] (none_observed eviction condition)

some_value : (eviction : EvictionConfig) (period : ℕ) (condition : NodeCondition) (ticks : List TickObs)
    → (value : Bool) × (IsTrue value ↔ IsTrueAfter eviction period condition ticks)
some_value eviction period condition ticks =
    let observed = some_observations eviction condition (judged_of ticks) in
    let value = test_of (pressure_or_not period observed.0) in
    (value.0, true_after eviction period condition ticks observed.0 value.0 observed.1 value.1)

some_moment : (eviction : EvictionConfig) (period : ℕ) (condition : NodeCondition) (ticks : List TickObs)
    → (since : ℕ) × IsSinceMoment eviction period condition ticks since
some_moment eviction period condition ticks =
    let observed = some_observations eviction condition (judged_of ticks) in
    let since = one_since.exists period observed.0 in
    (since.0, (observed.0, observed.1, since.1))

pub some_condition : SomeCondition
some_condition = record { value = some_value; since = some_moment }

-- what a value has become, if it changed
change_of : (event_of : Bool → NodeEvent) (N O : Type 0) → (now : Bool) × (IsTrue now ↔ N)
    → (old : Bool) × (IsTrue old ↔ O)
    → (event : Option NodeEvent) × IsTheOne (Changes event_of N O) event
change_of event_of N O (now, is) (old, was) =
    (then_some (not (beq now old)) (event_of now), change_given event_of N O now old _ is was refl)

threshold_event : (eviction : EvictionConfig) (before : List TickObs) (tick : TickObs) (key : ThresholdKey)
    → (event : Option NodeEvent) × IsTheOne (ChangesThreshold eviction before tick key) event
threshold_event eviction before tick key =
    let now = judged_of (before ++ tick ∷ []) in
    let was = judged_of before in
    change_of (Threshold key) (IsActiveOnNode eviction now key) (IsActiveOnNode eviction was key)
    (test_of (active_or_not eviction now key)) (test_of (active_or_not eviction was key))

condition_event : (eviction : EvictionConfig) (period : ℕ) (before : List TickObs) (tick : TickObs)
    (condition : NodeCondition)
    → (event : Option NodeEvent) × IsTheOne (ChangesCondition eviction period before tick condition) event
condition_event eviction period before tick condition =
    change_of (Pressure condition) (IsTrueAfter eviction period condition (before ++ tick ∷ []))
    (IsTrueAfter eviction period condition before)
    (some_value eviction period condition (before ++ tick ∷ [])) (some_value eviction period condition before)

reclaim_event : (eviction : EvictionConfig) (before : List TickObs) (tick : TickObs) (key : ThresholdKey)
    → (event : Option NodeEvent) × IsTheOne (Reclaims eviction before tick key) event
reclaim_event eviction before tick key =
    elim (both (due_or_not eviction before tick key) (reclaimed_or_not eviction tick key)) [
      | inl w ↦ (
        Some (Reclaim key),
        IsTheOne-some (Reclaims eviction before tick key) (Reclaim key) (refl, w.0.0, w.0.1, w.1)
            (λ e reclaims. sym reclaims.0),
      )
      | inr not ↦ (
        None,
        IsTheOne-none (Reclaims eviction before tick key) (λ e reclaims. not ((reclaims.1, reclaims.2), reclaims.3)),
      )
    ]

-- those of some items, where each gives one or none
given_list : {A : Type 0} (P : A → NodeEvent → Type 0) → ((x : A) → (event : Option NodeEvent) × IsTheOne (P x) event)
    → (xs : List A) → (events : List NodeEvent) × AreGiven P xs events
given_list P each [] = ([], refl)
given_list P each (x ∷ xs) =
    let event = each x in
    let rest = given_list P each xs in
    (as_list event.0 ++ rest.0, (event.0, rest.0, event.1, rest.1, refl))

pub some_list_of_node_events : SomeListOfNodeEvents
some_list_of_node_events eviction period before tick =
    let thresholds =
    given_list (ChangesThreshold eviction before tick) (threshold_event eviction before tick) serving_order in
    let pressures =
    given_list (ChangesCondition eviction period before tick) (condition_event eviction period before tick)
    conditions in
    let reclaims = given_list (Reclaims eviction before tick) (reclaim_event eviction before tick) serving_order in (
      thresholds.0 ++ pressures.0 ++ reclaims.0,
      all_events eviction period before tick thresholds.0 (thresholds.0 ++ pressures.0) _
          (thresholds.0, thresholds.1, refl) (pressures.0, pressures.1, refl) (reclaims.0, reclaims.1, refl),
    )
