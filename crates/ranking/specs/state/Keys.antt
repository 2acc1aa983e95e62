-- A pod's key, and the order of keys.
use Rattle.std.specs.Prelude.{◌-◌, Bool, ◌&&◌, not, leb}
use Rattle.std.specs.Ordering.{nat_cmp, int_cmp, bool_cmp, ordering_then}
use Rattle.std.specs.declared.cmp.Ordering.{Ordering}
use Rattle.signals.specs.declared.signal.Signal.{Signal}
use Rattle.pod_piece.specs.declared.status.PodStatus.{PodStatus}
use Rattle.ranking.specs.declared.key.RankKey.{RankKey}
use Rattle.ranking.specs.rule.Amounts.{used, has_requests, requested}
use Rattle.ranking.specs.rule.Order.{ranks_unsampled_first}

-- the key of the pod with this status
abbrev pub key_of : Signal → Bool → PodStatus → RankKey
key_of signal has_dedicated_imagefs p = record {
  follows_unsampled = ranks_unsampled_first signal && not p.usage.is_unsampled;
  within_request =
      has_requests signal && leb (used signal has_dedicated_imagefs p.usage.samples) (requested signal p.requests);
  priority = p.priority;
  is_sampled = not p.usage.is_unsampled;
  excess = record { 0 = used signal has_dedicated_imagefs p.usage.samples - requested signal p.requests };
  shortfall = requested signal p.requests - used signal has_dedicated_imagefs p.usage.samples;
  number = p.number;
}

-- field by field, in their order; of the excess the greater comes first
abbrev pub rank_cmp : RankKey → RankKey → Ordering
rank_cmp j k =
    ordering_then (bool_cmp j.follows_unsampled k.follows_unsampled)
    (ordering_then (bool_cmp j.within_request k.within_request)
    (ordering_then (int_cmp j.priority k.priority)
    (ordering_then (bool_cmp j.is_sampled k.is_sampled)
    (ordering_then (nat_cmp k.excess.0 j.excess.0)
    (ordering_then (nat_cmp j.shortfall k.shortfall)
    (nat_cmp j.number k.number))))))
