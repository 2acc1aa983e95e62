use Rattle.observations.specs.rule.Observations.{judged_of}
use Rattle.node_signals.proofs.ConditionLemmas.{is_true_of}
use Rattle.node_signals.proofs.node.NodeSignals.is_true.Goals as goal

pub returns : goal.returns
returns c = λ eviction period ticks s.
    is_true_of eviction period c.args.condition ticks c.of.result c.is_true.result
    (c.of.ensures eviction period (judged_of ticks) s.pressures) c.is_true.ensures
