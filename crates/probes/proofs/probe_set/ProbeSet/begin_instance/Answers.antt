use Rattle.probes.proofs.States as states
use Rattle.probes.proofs.probe_set.ProbeSet.begin_instance.Goals as goal

pub returns-clause-state : goal.returns-clause-state
returns-clause-state c = λ probes follows.
    states.begins probes _ c.args.self.now _ _ _ follows c.new-self.ensures.probe (c.new-self.ensures.state _)
    c.new-self-2.ensures.probe (c.new-self-2.ensures.state _) c.new-self-3.ensures.probe (c.new-self-3.ensures.state _)
