use Rattle.observations.specs.rule.Observations.{judged_of}
use Rattle.node_signals.proofs.ConditionLemmas.{since_of}
use Rattle.node_signals.proofs.node.NodeSignals.since.Goals as goal

pub returns : goal.returns
returns c = λ eviction period ticks s.
    since_of eviction period c.args.condition ticks c.of.result c.since.result
    (c.of.ensures eviction period (judged_of ticks) s.pressures) c.since.ensures
