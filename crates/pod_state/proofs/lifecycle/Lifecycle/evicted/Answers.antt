use Rattle.histories.specs.rule.Histories.{recorded}
use Rattle.pod_state.proofs.LifecycleLemmas.{progress_evicted}
use Rattle.pod_state.proofs.lifecycle.Lifecycle.evicted.Goals as goal

pub returns : goal.returns
returns c = λ pod h entry was updated progress.
    progress_evicted pod h (recorded c.args.at entry) c.args.self.now c.args.updated.now _ c.requires was updated
    progress c.advance.ensures
