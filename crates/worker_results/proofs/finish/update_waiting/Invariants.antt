use Rattle.std.proofs.Common.{◌≡◌, ◌≤◌}
use Rattle.worker_results.specs.state.Done.{with_waiting}
use Rattle.worker_results.specs.state.Gated.{WereGated}
use Rattle.worker_results.proofs.finish.update_waiting.Given as goal

abbrev pub invariant-waiting : goal.invariant-waiting
invariant-waiting g l = record {
  is : l.piece ≡ with_waiting l.piece.waiting l.initial.piece;
  fewer : l.piece.waiting ≤ l.initial.piece.waiting;
  gated : WereGated (g.G.Gate.left l.gate) l.initial.piece.waiting l.piece;
}

abbrev pub decreases-waiting : goal.decreases-waiting
decreases-waiting g l = l.piece.waiting
