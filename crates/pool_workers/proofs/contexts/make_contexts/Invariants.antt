use Rattle.std.proofs.Common.{◌≡◌, ◌+◌, ◌<◌, ◌≤◌, ◌++◌, All, map, reverse, vec_len, vec_capacity}
use Rattle.std.specs.List.{sum_by}
use Rattle.piece_deques.specs.state.Ends.{pushed_weight}
use Rattle.pool_workers.specs.state.Permits.{owner_deque}
use Rattle.pool_workers.specs.state.Contexts.{context_deque, context_tag, IsLaid}
use Rattle.pool_workers.specs.state.Slots.{IsHost, IsDealtSlot}
use Rattle.pool_workers.proofs.contexts.make_contexts.Given as goal

abbrev pub invariant-loop-owner : goal.invariant-loop-owner
invariant-loop-owner g l = record {
  hosts : All (IsHost (vec_len l.fn.owners)) l.left.items;
  dealt_slots : All
      (IsDealtSlot (sum_by (pushed_weight (λ _. 1)) l.fn.owners.items) (map owner_deque l.fn.owners.items))
      l.dealt_slots.items;
  len : vec_len l.dealt_slots ≡ vec_len l.left;
  all : vec_len l.contexts + vec_len l.left ≡ vec_len l.fn.owners;
  room : vec_len l.fn.owners ≤ vec_capacity l.contexts;
  order : map context_deque l.contexts.items ++ reverse (map owner_deque l.left.items)
      ≡ map owner_deque l.fn.owners.items;
  laid : All (λ context. IsLaid (vec_len l.fn.owners) (map owner_deque l.fn.owners.items) (context_tag context))
      l.contexts.items;
  some : vec_len l.left < l.share.parts;
  parts : l.share.parts + vec_len l.contexts ≡ l.fn.share.parts;
  totals : l.share.totals ≡ l.fn.share.totals;
}

abbrev pub decreases-loop-owner : goal.decreases-loop-owner
decreases-loop-owner g l = vec_len l.left
