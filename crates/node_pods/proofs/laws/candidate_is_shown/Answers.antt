use Rattle.node_pods.proofs.Kept as kept
use Rattle.node_pods.proofs.laws.candidate_is_shown.Goals as goal

pub returns : goal.returns
returns c = kept.candidate_is_shown
