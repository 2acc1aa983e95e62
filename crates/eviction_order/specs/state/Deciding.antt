-- The criterion that decides, by keys.
use Rattle.std.specs.Prelude.{Option, Some, None}
use Rattle.std.specs.Ordering.{nat_cmp, int_cmp, bool_cmp, ordering_then}
use Rattle.std.specs.declared.cmp.Ordering.{Ordering}
use Rattle.std.specs.declared.cmp.Ordering.TheVariants.{Less, Equal, Greater}
use Rattle.ranking.specs.declared.key.RankKey.{RankKey}
use Rattle.eviction_order.specs.declared.criterion.Criterion.{Criterion}
use Rattle.eviction_order.specs.declared.criterion.Criterion.TheVariants.{NoSample, AboveRequest, Priority}
use Rattle.eviction_order.specs.declared.criterion.Criterion.TheVariants.{NoSampleOfPriority, Usage, Number}

-- the criterion, if it prefers either; else what the next ones say
abbrev pub decided : Ordering → Criterion → Option Criterion → Option Criterion
decided Less criterion next = Some criterion
decided Greater criterion next = Some criterion
decided Equal criterion next = next

abbrev pub deciding : RankKey → RankKey → Option Criterion
deciding j k =
    decided (bool_cmp j.follows_unsampled k.follows_unsampled) NoSample
    (decided (bool_cmp j.within_request k.within_request) AboveRequest
    (decided (int_cmp j.priority k.priority) Priority
    (decided (bool_cmp j.is_sampled k.is_sampled) NoSampleOfPriority
    (decided (ordering_then (nat_cmp k.excess.0 j.excess.0) (nat_cmp j.shortfall k.shortfall)) Usage
    (decided (nat_cmp j.number k.number) Number None)))))
