use Rattle.std.proofs.Common.{◌≡◌, ℕ, Option, None}
use Rattle.pod_piece.specs.declared.status.PodStatus.{PodStatus}
use Rattle.ranking.specs.state.Index.{IsIndexOf}
use Rattle.node_pods.specs.state.Ranked.{AreHeldBelow}
use Rattle.node_pods.proofs.each.rank_all.Given as goal

abbrev pub invariant-loop-number : goal.invariant-loop-number
invariant-loop-number l = record {
  signal : l.index.signal ≡ l.fn.index.signal;
  dedicated : l.index.has_dedicated_imagefs ≡ l.fn.index.has_dedicated_imagefs;
  held : IsIndexOf (λ n. None) l.fn.index
      → (held : ℕ → Option PodStatus) × IsIndexOf held l.index × AreHeldBelow l.pieces l.moment l.number held;
}
