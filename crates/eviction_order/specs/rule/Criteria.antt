-- By which criterion of the order one pod is evicted before another (Kubernetes, "Node-pressure Eviction", "Pod
-- selection for kubelet eviction"): the first that prefers one of the two.
use Rattle.std.specs.Prelude.{Bool}
use Rattle.signals.specs.declared.signal.Signal.{Signal}
use Rattle.pod_piece.specs.declared.status.PodStatus.{PodStatus}
use Rattle.ranking.specs.rule.Order.{UnsampledFirst, UnsampledAlone, ExceedsAlone, HasLowerPriority, UsesMore}
use Rattle.ranking.specs.rule.Order.{HasLowerNumber}
use Rattle.eviction_order.specs.declared.criterion.Criterion.{Criterion}
use Rattle.eviction_order.specs.declared.criterion.Criterion.TheVariants.{NoSample, AboveRequest, Priority}
use Rattle.eviction_order.specs.declared.criterion.Criterion.TheVariants.{NoSampleOfPriority, Usage, Number}

abbrev pub Prefers : Type 1
Prefers = PodStatus → PodStatus → Type 0

-- the criterion prefers neither, and the next one p
abbrev pub Next : Prefers → Prefers → Prefers
Next criterion next p q = (criterion p q → ⊥) × (criterion q p → ⊥) × next p q

-- p is evicted before q by this criterion: it prefers p, and those in front of it prefer neither
abbrev pub IsBeforeBy : Signal → Bool → Criterion → Prefers
IsBeforeBy signal dedicated NoSample = UnsampledFirst signal
IsBeforeBy signal dedicated AboveRequest = Next (UnsampledFirst signal) (ExceedsAlone signal dedicated)
IsBeforeBy signal dedicated Priority =
    Next (UnsampledFirst signal) (Next (ExceedsAlone signal dedicated) HasLowerPriority)
IsBeforeBy signal dedicated NoSampleOfPriority =
    Next (UnsampledFirst signal) (Next (ExceedsAlone signal dedicated) (Next HasLowerPriority UnsampledAlone))
IsBeforeBy signal dedicated Usage =
    Next (UnsampledFirst signal) (Next (ExceedsAlone signal dedicated) (Next HasLowerPriority
    (Next UnsampledAlone (UsesMore signal dedicated))))
IsBeforeBy signal dedicated Number =
    Next (UnsampledFirst signal) (Next (ExceedsAlone signal dedicated) (Next HasLowerPriority
    (Next UnsampledAlone (Next (UsesMore signal dedicated) HasLowerNumber))))
