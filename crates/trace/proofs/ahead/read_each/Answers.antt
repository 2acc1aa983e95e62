use Rattle.trace.proofs.TakenAhead.{one_more_read}
use Rattle.trace.proofs.ahead.read_each.Goals as goal

pub loop-line-preserved : goal.loop-line-preserved
loop-line-preserved c =
    one_more_read c.args.heeds c.args.roster.now c.args.lines.now c.loop-line.line-index _ c.loop-line.reads.items
    c.push.new.self.items c.in_ok-read.read c.loop-line-test.true c.loop-line.invariant
    c.in_ok-read.ensures c.in_ok-push.ensures.items
