use Rattle.std.proofs.Common.{◌≡◌, length}
use Rattle.round_updates.proofs.GatedBelow.{AreGatedBelow}
use Rattle.round_updates.proofs.Updates.{AreUpdatedBelow}
use Rattle.round_updates.proofs.alone.update_alone.Given as goal

abbrev pub invariant-loop-number : goal.invariant-loop-number
invariant-loop-number g l = record {
  end : l.number-end ≡ length l.fn.pieces.items;
  updated : AreUpdatedBelow l.fn.pieces.items l.fn.book l.number l.pieces.items l.book;
  gated : AreGatedBelow (g.G.Gate.left l.gate) l.fn.pieces.items l.number;
}
