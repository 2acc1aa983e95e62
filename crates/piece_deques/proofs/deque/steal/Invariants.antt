use Rattle.std.proofs.Common.{◌≡◌}
use Rattle.crossbeam_deque.specs.Handles.{view, IsPassOf, stealer_deque}
use Rattle.piece_deques.proofs.deque.steal.Given as goal

abbrev pub invariant-loop : goal.invariant-loop
invariant-loop g l = record {
  fits : IsPassOf (stealer_deque l.thief) l.permit;
  same : view l.permit ≡ view l.initial.permit;
}
