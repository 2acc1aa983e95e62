use Rattle.std.proofs.Common.{List, take}
use Rattle.totals.specs.declared.totals.Totals.{Totals}
use Rattle.totals.specs.state.Rounds.{AreAdditionsOf}
use Rattle.pool_workers.proofs.settle.look_over.Given as goal

abbrev pub invariant-loop-piece : goal.invariant-loop-piece
invariant-loop-piece l = (additions : List Totals) × AreAdditionsOf (take l.piece-index l.pieces) additions
