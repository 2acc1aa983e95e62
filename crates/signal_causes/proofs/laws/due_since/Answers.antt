use Rattle.thresholds.specs.rule.Thresholds.{IsThresholdDue}
use Rattle.thresholds.proofs.Active.{none_active}
use Rattle.quantity.specs.rule.Limit.{amount_of}
use Rattle.signal_causes.proofs.Stretches.{since_unique, since_some}
use Rattle.signal_causes.proofs.laws.due_since.Goals as goal

pub returns-clause-one : goal.returns-clause-one
returns-clause-one c = λ threshold capacity h since other.
    since_unique (IsThresholdDue threshold capacity) h since other

pub returns-clause-some : goal.returns-clause-some
returns-clause-some c = λ threshold capacity h since.
    since_some (IsThresholdDue threshold capacity) h since
    (λ due. none_active (amount_of capacity threshold.limit) (amount_of capacity threshold.reclaim) due.active)
