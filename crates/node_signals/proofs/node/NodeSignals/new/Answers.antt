use Rattle.node_signals.proofs.node.NodeSignals.new.Goals as goal

pub returns : goal.returns
returns c = record { watches = c.first_watches.ensures; pressures = c.new.ensures c.args.eviction.now }
