use Rattle.std.proofs.Common.{◌≡◌, true, false}
use Rattle.following.proofs.Steps.{accepts_read, accepted_more}
use Rattle.following.proofs.listing_order.pod_accepts.Goals as goal

pub returns-then-not-accepts : goal.returns-then-not-accepts
returns-then-not-accepts c = (
  (λ t. absurd (let w : false ≡ true = t in cc)),
  (λ all.
      let is : c.accepts.result ≡ true = c.accepts.ensures.value.1
      (accepts_read c.args.tick.now c.args.pod c.loop-container.container c.args.differs.now
      c.index-differs-container.result c.seen_of.result c.loop-container-test.true c.index-differs-container.is
      c.seen_of.ensures all) in
      let not : c.accepts.result ≡ false = c.if-not-accepts.true in
      absurd (cc)),
)

pub loop-container-preserved : goal.loop-container-preserved
loop-container-preserved c =
    accepted_more c.args.tick.now c.args.pod c.loop-container.container c.args.differs.now
    c.index-differs-container.result c.seen_of.result c.loop-container-test.true c.index-differs-container.is
    c.seen_of.ensures (c.accepts.ensures.value.0 c.if-not-accepts.false) c.loop-container.invariant
