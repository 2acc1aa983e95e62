use Rattle.std.proofs.Common.{refl}
use Rattle.histories.specs.rule.Histories.{recorded}
use Rattle.pod_state.proofs.StateLemmas.{when_evicted, ends_evicted}
use Rattle.pod_state.proofs.state.PodState.evict.Goals as goal

pub returns-clause-state : goal.returns-clause-state
returns-clause-state c = λ pod max_restart_delay h entry was before is.
    when_evicted pod max_restart_delay h (recorded c.args.at entry) c.args.self.now _ c.requires refl refl refl was is
    before
    (c.evicted-self.ensures pod h entry was is.progress.so_far before)

pub returns-clause-ends : goal.returns-clause-ends
returns-clause-ends c = λ pod max_restart_delay h entry was before is.
    ends_evicted pod h (recorded c.args.at entry) c.args.self.now c.requires before
