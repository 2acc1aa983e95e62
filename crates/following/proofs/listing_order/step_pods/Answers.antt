use Rattle.std.proofs.Common.{◌≡◌, ◌<◌, length, arith}
use Rattle.following.proofs.Steps.{pods_taken_more}
use Rattle.following.proofs.listing_order.step_pods.Goals as goal

pub loop-pod-preserved : goal.loop-pod-preserved
loop-pod-preserved c =
    let old = c.args.differs.now.items in
    let n = c.loop-pod.pod in
    let long : c.len-pod-end.result ≡ length old = omega (arith, c.len-pod-end.ensures, c.args.differs.now.ok) in
    let lt : n < length old = omega (arith, long, c.loop-pod-test.true) in
    pods_taken_more c.args.tick.now n old c.loop-pod.differs.items c.index_mut.result.now c.step_shown.new.differs
    lt c.index_mut.ensures.value c.step_shown.ensures c.loop-pod.invariant
