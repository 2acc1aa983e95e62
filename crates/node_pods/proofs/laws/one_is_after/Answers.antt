use Rattle.node_pods.proofs.Steps as steps
use Rattle.node_pods.proofs.laws.one_is_after.Goals as goal

pub returns-clause-tick : goal.returns-clause-tick
returns-clause-tick c = steps.one_is_after

pub returns-clause-eviction : goal.returns-clause-eviction
returns-clause-eviction c = steps.one_is_evicted
