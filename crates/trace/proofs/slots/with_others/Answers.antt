use Rattle.trace.proofs.NotedPods.{all_shown}
use Rattle.trace.proofs.slots.with_others.Goals as goal

pub returns : goal.returns
returns c = λ es is present.
    all_shown c.args.at es c.args.roster.now.departures c.loop-number.number c.pods-pod-items.result.now
    c.args.roster.now.pods c.loop-number.slots.items c.args.slots.items c.loop-number.invariant.long
    c.loop-number-test.false c.pods-pod-items.ensures c.loop-number.invariant.shown is present
