use Rattle.totals.proofs.Low.{low}
use Rattle.totals.proofs.totals.Entry.last_of.Goals as goal

pub returns-clause-low : goal.returns-clause-low
returns-clause-low c =
    let pod = c.pod.ensures in
    low c.args.piece.now c.of.result
    (rw (← pod) c.as_slice-containers.ensures.containers.few)
    (c.events.result.now, c.events.ensures, c.of.ensures)
