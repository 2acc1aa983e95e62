use Rattle.std.proofs.Common.{◌++◌, ◌∷◌, []}
use Rattle.observations.specs.rule.Observations.{judged_of}
use Rattle.node_signals.specs.declared.event.NodeEvent.TheVariants.{Pressure}
use Rattle.node_signals.specs.rule.Conditions.{IsTrueAfter}
use Rattle.node_signals.proofs.ConditionLemmas.{is_true_of}
use Rattle.node_signals.proofs.EventLemmas.{change_given}
use Rattle.node_signals.proofs.events.condition_event.Goals as goal

pub returns : goal.returns
returns c = λ eviction period before tick old new.
    let now = is_true_of eviction period c.args.condition (before ++ tick ∷ []) c.of.result c.is_true-value.result
    (c.of.ensures eviction period (judged_of (before ++ tick ∷ [])) new) c.is_true-value.ensures in
    let was = is_true_of eviction period c.args.condition before c.of-2.result c.is_true.result
    (c.of-2.ensures eviction period (judged_of before) old) c.is_true.ensures in
    change_given (Pressure c.args.condition) (IsTrueAfter eviction period c.args.condition (before ++ tick ∷ []))
    (IsTrueAfter eviction period c.args.condition before) c.is_true-value.result c.is_true.result c.then_some.result
    now was c.then_some.ensures
