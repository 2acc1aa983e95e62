use Rattle.std.proofs.Common.{[], ◌∷◌}
use Rattle.node_rounds.proofs.Opens.{can_end, may_end, fit_one}
use Rattle.tick_round.proofs.Out.{may_update}
use Rattle.tick_round.proofs.advance.advance_alone.Goals as goal

pub update_alone-requires-after_bounds : goal.update_alone-requires-after_bounds
update_alone-requires-after_bounds g c κs within =
    let out = c.in_ok-pieces.ensures in
    may_update c.args.node (c.args.tick ∷ []) c.in_ok-pieces.pieces.items c.in_ok-pieces.book out.kept out.sent out.book

pub end-requires : goal.end-requires
end-requires g c =
    let out = c.in_ok-pieces in
    can_end c.args.node [] c.args.tick out.pieces.items c.in-Ok.pieces.items out.book c.in-Ok.book out.round out.ensures
    (fit_one c.args.node c.args.tick c.requires) c.in-Ok.ensures.pieces c.in-Ok.ensures.book

pub returns-in-Ok : goal.returns-in-Ok
returns-in-Ok g c =
    let out = c.in_ok-pieces in
    c.end.ensures c.args.node [] c.args.tick
    (may_end c.args.node [] c.args.tick out.pieces.items c.in-Ok.pieces.items out.book c.in-Ok.book out.round
    out.ensures (fit_one c.args.node c.args.tick c.requires) c.in-Ok.ensures.pieces c.in-Ok.ensures.book)
