use Rattle.std.proofs.Common.{refl, arith}
use Rattle.restart_causes.proofs.DelayLemmas.{far_doubled}
use Rattle.restart_causes.proofs.exit_count.exceeds.Goals as goal

pub returns-else-doublings-lt-MOST_DOUBLINGS : goal.returns-else-doublings-lt-MOST_DOUBLINGS
returns-else-doublings-lt-MOST_DOUBLINGS c = (
  (λ t. far_doubled c.args.max_restart_delay c.args.doublings
      (omega (arith, c.get-greatest.ensures.value, c.get-greatest.ensures.most))
      c.if-doublings-lt-MOST_DOUBLINGS.false),
  (λ lt. refl),
)
