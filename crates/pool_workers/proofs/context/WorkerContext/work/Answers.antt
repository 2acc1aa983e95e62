use Rattle.std.proofs.Common.{rules}
use Rattle.pool_workers.proofs.Room.{found_but_own}
use Rattle.pool_workers.proofs.context.WorkerContext.work.Goals.{else-from-self-via-else-from-self}
use Rattle.pool_workers.proofs.context.WorkerContext.work.Goals.{else-from-self-via-then-from-self+else-not-empty_other}
use Rattle.pool_workers.proofs.context.WorkerContext.work.Goals as goal

pub others-preserved : goal.others-preserved
others-preserved g c = elim c.else-from-self.branch [
  | else-from-self-via-then-from-self+else-not-empty_other w ↦ record {
    same = search rules;
    none = search rules;
    count = search rules;
    found = search rules;
    others = search rules;
  }
  | else-from-self-via-else-from-self w ↦ record {
    same = search rules;
    none = search rules;
    count = search rules;
    found = search rules;
    others = search (rules, found_but_own);
  }
]
