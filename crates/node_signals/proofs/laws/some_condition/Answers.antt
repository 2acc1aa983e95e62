use Rattle.node_signals.proofs.Exists.{some_condition}
use Rattle.node_signals.proofs.laws.some_condition.Goals as goal

pub returns : goal.returns
returns c = some_condition
