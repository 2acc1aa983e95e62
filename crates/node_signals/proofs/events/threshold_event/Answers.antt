use Rattle.std.proofs.Common.{◌++◌, ◌∷◌, []}
use Rattle.observations.specs.rule.Observations.{judged_of}
use Rattle.node_signals.specs.declared.event.NodeEvent.TheVariants.{Threshold}
use Rattle.node_signals.specs.rule.Thresholds.{IsActiveOnNode}
use Rattle.node_signals.proofs.ServedLemmas.{one_key}
use Rattle.node_signals.proofs.EventLemmas.{change_given}
use Rattle.node_signals.proofs.events.threshold_event.Goals as goal

pub returns : goal.returns
returns c = λ eviction before tick key at old new.
    change_given (Threshold key) (IsActiveOnNode eviction (judged_of (before ++ tick ∷ [])) key)
    (IsActiveOnNode eviction (judged_of before) key)
    c.is_active-active.result c.is_active.result c.then_some.result
    (c.is_active-active.ensures eviction (judged_of (before ++ tick ∷ [])) key at new)
    (c.is_active.ensures eviction (judged_of before) key at old)
    (rw (one_key c.args.place key c.key_at-key.result at c.key_at-key.ensures) c.then_some.ensures)
