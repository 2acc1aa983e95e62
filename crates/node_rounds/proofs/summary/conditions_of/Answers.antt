use Rattle.node_rounds.proofs.Conditions.{all_conditions}
use Rattle.node_rounds.proofs.summary.conditions_of.Goals as goal

pub returns : goal.returns
returns c = λ config ticks is.
    all_conditions config ticks c.of.result c.of-2.result c.of-3.result (c.of.ensures config ticks is)
    (c.of-2.ensures config ticks is) (c.of-3.ensures config ticks is)
