use Rattle.pod_state.proofs.LifecycleLemmas.{progress_new}
use Rattle.pod_state.proofs.lifecycle.Lifecycle.new.Goals as goal

pub returns : goal.returns
returns c = λ pod evicted are. progress_new pod evicted c.args.containers.now c.are_initialized_by.result c.new.result
    are c.are_initialized_by.ensures c.new.ensures
