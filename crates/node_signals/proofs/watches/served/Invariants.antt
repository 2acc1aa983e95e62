use Rattle.std.proofs.Common.{List, [], ◌∷◌, ◌++◌}
use Rattle.observations.specs.declared.tick.TickObs.{TickObs}
use Rattle.observations.specs.rule.Observations.{judged_of}
use Rattle.node_signals.specs.rule.Thresholds.{Asks}
use Rattle.node_signals.specs.state.Node.{AreWatches}
use Rattle.node_signals.proofs.ServedLemmas.{NoneBelow}
use Rattle.node_signals.proofs.watches.served.Given as goal

abbrev pub invariant-loop-place : goal.invariant-loop-place
invariant-loop-place l = (before : List TickObs) → AreWatches l.eviction (judged_of (before ++ l.tick ∷ [])) l.watches
    → NoneBelow (Asks l.eviction before l.tick) l.place
