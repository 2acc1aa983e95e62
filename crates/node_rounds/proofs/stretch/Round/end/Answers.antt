use Rattle.node_rounds.proofs.Opens.{may_close}
use Rattle.node_rounds.proofs.stretch.Round.end.Goals as goal

pub close-requires : goal.close-requires
close-requires g c =
    let by = c.requires in
    record {
      node = by.node;
      calm = by.calm;
      tick = by.tick;
      kept = by.may.kept;
      may = may_close by.node by.calm by.tick c.args.self c.args.back.items c.args.book c.in-Ok.pods by.may
          c.in-Ok.ensures;
    }

pub returns-in-Ok : goal.returns-in-Ok
returns-in-Ok g c s calm tick may =
    c.close.ensures s calm tick
    (may_close s calm tick c.args.self c.args.back.items c.args.book c.in-Ok.pods may c.in-Ok.ensures)
