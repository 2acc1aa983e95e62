use Rattle.node_lines.proofs.FaultLemmas as laws
use Rattle.node_lines.proofs.laws.missing_grace_comes_last.Goals as goal

pub returns : goal.returns
returns c = laws.missing_grace_comes_last
