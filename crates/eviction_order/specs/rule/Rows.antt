-- What the order of eviction compares of a candidate (Kubernetes, "Node-pressure Eviction", "Pod selection for kubelet
-- eviction").
use Rattle.std.specs.Prelude.{ℕ, Bool, Option, Some, None, option_map, if◌then◌else◌, nat_lt}
use Rattle.signals.specs.declared.signal.Signal.{Signal}
use Rattle.pod_piece.specs.declared.status.PodStatus.{PodStatus}
use Rattle.ranking.specs.rule.Amounts.{used, has_requests, requested}
use Rattle.eviction_order.specs.declared.row.CandidateRow.{CandidateRow}

-- its request of what the signal measures, where pods request anything of it
abbrev pub request_of : Signal → PodStatus → Option ℕ
request_of signal p = if has_requests signal then Some (requested signal p.requests) else None

abbrev pub row_of : Signal → Bool → PodStatus → CandidateRow
row_of signal has_dedicated_imagefs p = record {
  number = p.number;
  is_unsampled = p.usage.is_unsampled;
  priority = p.priority;
  usage = used signal has_dedicated_imagefs p.usage.samples;
  request = request_of signal p;
}

-- its usage is above its request
abbrev pub exceeds : CandidateRow → Option Bool
exceeds row = option_map (λ request. nat_lt request row.usage) row.request
