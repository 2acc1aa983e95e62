use Rattle.trace.proofs.TakenAhead.{pods_kept}
use Rattle.trace.proofs.text.take_next.Goals as goal

pub returns-in-Ok-clause-fresh : goal.returns-in-Ok-clause-fresh
returns-in-Ok-clause-fresh c e =
    let stays = c.stays_fresh-stays_fresh.ensures e in (
      stays.0,
      pods_kept c.args.so_far c.in-Ok.next _ (stays.1 c.requires.0 c.requires.1 _ c.requires.2) c.in-Ok.ensures,
    )
