use Rattle.node_signals.proofs.node.NodeSignals.take.Goals as goal

pub returns-clause-state : goal.returns-clause-state
returns-clause-state c = λ period before s. c.after-new.ensures c.args.eviction.now period before s

pub returns-clause-events : goal.returns-clause-events
returns-clause-events c = λ period before s. c.in_ok-events.ensures period before s
    (c.after-new.ensures c.args.eviction.now period before s)
