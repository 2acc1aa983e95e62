use Rattle.std.proofs.Common.{◌≡◌, take}
use Rattle.trace.specs.state.ByPod.{AreFirst}
use Rattle.trace.specs.rule.Placing.{has_twice, are_of_one_pod}
use Rattle.trace.proofs.by_pod.entries_by_pod.Given as goal

abbrev pub invariant-loop-place : goal.invariant-loop-place
invariant-loop-place l = record {
  twice : l.has_pod_twice ≡ has_twice are_of_one_pod (take l.place l.entries);
  first : AreFirst (take l.place l.entries) l.fn.pods l.first.items;
}
