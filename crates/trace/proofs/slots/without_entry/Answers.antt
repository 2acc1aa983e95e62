use Rattle.trace.proofs.NotedItems.{are_unknown}
use Rattle.trace.proofs.slots.without_entry.Goals as goal

pub returns-clause-unknown : goal.returns-clause-unknown
returns-clause-unknown c =
    are_unknown c.keep_unknown.new.all.items c.as_slice.result.now c.in_ok-keep_unknown.ensures
