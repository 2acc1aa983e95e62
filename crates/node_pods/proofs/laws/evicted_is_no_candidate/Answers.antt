use Rattle.node_pods.proofs.Candidates as candidates
use Rattle.node_pods.proofs.laws.evicted_is_no_candidate.Goals as goal

pub returns : goal.returns
returns c = candidates.evicted_is_no_candidate
