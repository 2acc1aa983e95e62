use Rattle.std.proofs.Common.{◌++◌, ◌∷◌, []}
use Rattle.quantity.specs.rule.Limit.{amount_of}
use Rattle.thresholds.specs.rule.Samples.{sample}
use Rattle.thresholds.specs.rule.Thresholds.{IsThresholdDue}
use Rattle.signal_causes.proofs.Stretches.{active_more, since_more}
use Rattle.signal_causes.proofs.watched_threshold.WatchedThreshold.sample.Goals as goal

pub returns-clause-state : goal.returns-clause-state
returns-clause-state c = λ threshold capacity h is.
    let x = sample c.args.at c.args.value in
    let watch = c.sample.ensures threshold capacity h is.watch in
    record {
      watch = watch;
      active = active_more (amount_of capacity threshold.limit) (amount_of capacity threshold.reclaim) h x c.active.result
          _ _ (c.active.ensures threshold capacity (h ++ x ∷ []) watch) is.active c.since_after-self.ensures;
      due = since_more (IsThresholdDue threshold capacity) h x c.due.result _ _
          (c.due.ensures threshold capacity (h ++ x ∷ []) watch) is.due c.since_after-self-2.ensures;
    }
