use Rattle.node_signals.specs.declared.condition.NodeCondition.TheVariants.{MemoryPressure, DiskPressure, PidPressure}
use Rattle.node_signals.specs.rule.Events.{ChangesCondition}
use Rattle.node_signals.proofs.EventLemmas.{adds_three}
use Rattle.node_signals.proofs.events.add_condition_events.Goals as goal

pub returns : goal.returns
returns c = λ eviction period before tick old new.
    adds_three (ChangesCondition eviction period before tick) MemoryPressure DiskPressure PidPressure _ _ _ _ _ _ _
    (c.condition_event.ensures eviction period before tick old new)
    (c.condition_event-2.ensures eviction period before tick old new)
    (c.condition_event-3.ensures eviction period before tick old new)
    c.in_ok-add.ensures c.in_ok-add-2.ensures c.in_ok-add-3.ensures
