use Rattle.std.proofs.Common.{arith}
use Rattle.round_updates.proofs.GatedBelow.{one_gated, all_gated}
use Rattle.round_updates.proofs.Updates.{one_updated, all_taken, room_at}
use Rattle.round_updates.proofs.alone.update_alone.Goals as goal

pub update_at-requires-clause-room : goal.update_at-requires-clause-room
update_at-requires-clause-room g c = λ lifetimes outlived.
    room_at c.args.pieces.items c.args.book c.loop-number.number c.loop-number.pieces.items c.loop-number.book
    c.requires c.loop-number.invariant.updated (omega (arith, c.loop-number-test.true, c.loop-number.invariant.end))

pub loop-number-preserved : goal.loop-number-preserved
loop-number-preserved g c = record {
  end = c.loop-number.invariant.end;
  updated = one_updated c.args.pieces.items c.args.book c.loop-number.number c.loop-number.pieces.items
      c.loop-number.book c.update_at.new.pieces.items c.update_at.new.book c.loop-number.invariant.updated
      c.in_ok-update_at.ensures.updates;
  gated = one_gated (g.G.Gate.left c.args.gate.now) c.args.pieces.items c.args.book c.loop-number.number
      c.loop-number.pieces.items c.loop-number.book c.loop-number.invariant.updated c.loop-number.invariant.gated
      c.in_ok-update_at.ensures.gated;
}

pub returns-clause-pieces : goal.returns-clause-pieces
returns-clause-pieces g c =
    all_taken c.args.pieces.items c.args.book c.loop-number.number c.loop-number.pieces.items c.loop-number.book
    c.loop-number.invariant.updated (omega (arith, c.loop-number-test.false, c.loop-number.invariant.end))

pub returns-clause-gated : goal.returns-clause-gated
returns-clause-gated g c =
    all_gated (g.G.Gate.left c.args.gate.now) c.args.pieces.items c.loop-number.number c.loop-number.invariant.gated
    (omega (arith, c.loop-number-test.false, c.loop-number.invariant.end))
