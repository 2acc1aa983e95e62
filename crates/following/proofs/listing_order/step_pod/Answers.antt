use Rattle.std.proofs.Common.{◌≡◌, ◌<◌, length, arith}
use Rattle.following.proofs.Steps.{taken_more, all_taken}
use Rattle.following.proofs.listing_order.step_pod.Goals as goal

pub loop-container-preserved : goal.loop-container-preserved
loop-container-preserved c =
    let old = c.args.differs.now.items in
    let n = c.loop-container.container in
    let long : c.len-container-end.result ≡ length old =
    omega (arith, c.len-container-end.ensures, c.args.differs.now.ok)
    in
    let lt : n < length old = omega (arith, long, c.loop-container-test.true) in
    taken_more c.args.tick.now c.args.pod n old c.loop-container.differs.items c.index.result.now c.after.result
    c.seen_of-seen.result lt c.index.ensures c.seen_of-seen.ensures c.after.ensures c.loop-container.invariant

pub returns : goal.returns
returns c =
    let old = c.args.differs.now.items in
    let n = c.loop-container.container in
    let long : c.len-container-end.result ≡ length old =
    omega (arith, c.len-container-end.ensures, c.args.differs.now.ok)
    in
    all_taken c.args.tick.now c.args.pod n old c.loop-container.differs.items (omega (arith, long))
    c.loop-container.invariant
