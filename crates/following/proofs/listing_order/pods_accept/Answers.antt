use Rattle.std.proofs.Common.{◌≡◌, true, false, refl, arith}
use Rattle.following.proofs.Steps.{pod_accepted, pods_accepted_more}
use Rattle.following.proofs.listing_order.pods_accept.Goals as goal

pub returns-then-not-pod_accepts : goal.returns-then-not-pod_accepts
returns-then-not-pod_accepts c = (
  (λ t. absurd (let w : false ≡ true = t in cc)),
  (λ all.
      let is : c.pod_accepts.result ≡ true = c.pod_accepts.ensures.1
      (pod_accepted c.args.tick.now c.loop-pod.pod c.args.differs.now c.index-differs-pod.result
      c.as_slice.result.now c.loop-pod-test.true c.index-differs-pod.is c.as_slice.ensures.value all) in
      let not : c.pod_accepts.result ≡ false = c.if-not-pod_accepts.true in
      absurd (cc)),
)

pub loop-pod-preserved : goal.loop-pod-preserved
loop-pod-preserved c =
    pods_accepted_more c.args.tick.now c.loop-pod.pod c.args.differs.now c.index-differs-pod.result
    c.as_slice.result.now c.loop-pod-test.true c.index-differs-pod.is c.as_slice.ensures.value
    (c.pod_accepts.ensures.0 c.if-not-pod_accepts.false) c.loop-pod.invariant

pub returns : goal.returns
returns c = (
  (λ t p ds lt. c.loop-pod.invariant p ds (omega arith)),
  (λ all. refl),
)
