use Rattle.node_signals.proofs.LawLemmas.{one_served}
use Rattle.node_signals.proofs.laws.one_served.Goals as goal

pub returns : goal.returns
returns c = one_served
