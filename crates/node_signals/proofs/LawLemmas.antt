-- The laws.
use Rattle.std.proofs.Common.{ap, sym, ◌∙◌, ◌++◌}
use Rattle.std.specs.Prelude.{option_and_then, slice_get}
use Rattle.histories.proofs.First.{IsFirstPlace-unique}
use Rattle.node_signals.specs.rule.Keys.{serving_order}
use Rattle.node_signals.specs.rule.Thresholds.{AsksAt}
use Rattle.node_signals.specs.state.Laws.{OneServed, OneListOfNodeEvents}
use Rattle.node_signals.specs.rule.Conditions.{conditions}
use Rattle.node_signals.specs.rule.Events.{ChangesThreshold, ChangesCondition, Reclaims}
use Rattle.node_signals.proofs.EventLemmas.{given_unique}

pub one_served : OneServed
one_served eviction before tick one other (place, first, is) (place', first', is') =
    is ∙ ap (λ k. option_and_then (slice_get serving_order) k)
    (IsFirstPlace-unique (AsksAt eviction before tick) place place' first first') ∙ sym is'

pub one_list_of_node_events : OneListOfNodeEvents
one_list_of_node_events eviction period before tick events others a b =
    let t = given_unique (ChangesThreshold eviction before tick) serving_order a.thresholds b.thresholds
    a.of_thresholds b.of_thresholds in
    let p = given_unique (ChangesCondition eviction period before tick) conditions a.pressures b.pressures
    a.of_conditions b.of_conditions in
    let r = given_unique (Reclaims eviction before tick) serving_order a.reclaims b.reclaims a.of_reclaims
    b.of_reclaims in
    a.in_order ∙ ap (λ k. k ++ a.pressures ++ a.reclaims) t ∙ ap (λ k. b.thresholds ++ k ++ a.reclaims) p
    ∙ ap (λ k. b.thresholds ++ b.pressures ++ k) r ∙ sym b.in_order
