use Rattle.std.proofs.Common.{[], ◌∷◌}
use Rattle.std.proofs.lemmas.Result.{IfOk-weaker}
use Rattle.tick_round.proofs.Gated.{round_gated}
use Rattle.node_rounds.proofs.Opens.{can_end, may_end, fit_one}
use Rattle.tick_round.proofs.Out.{may_update}
use Rattle.tick_round.proofs.Rounds.{are_numbered}
use Rattle.node_rounds.specs.state.Stretch.{handed_all}
use Rattle.tick_round.proofs.advance.advance.Goals as goal

pub update_by_workers-requires-clause-may : goal.update_by_workers-requires-clause-may
update_by_workers-requires-clause-may g c κs within =
    let out = c.in_ok-pieces.ensures in
    may_update c.args.node (c.args.tick ∷ []) c.in_ok-pieces.pieces.items c.in_ok-pieces.book out.kept out.sent out.book

pub update_by_workers-requires-clause-numbered : goal.update_by_workers-requires-clause-numbered
update_by_workers-requires-clause-numbered g c κs within =
    are_numbered (handed_all c.args.node.pods.pieces (c.args.tick ∷ [])) c.in_ok-pieces.pieces.items
    c.in_ok-pieces.ensures.sent

pub end-requires : goal.end-requires
end-requires g c =
    let out = c.in_ok-pieces in
    can_end c.args.node [] c.args.tick out.pieces.items c.in-Ok.pieces.items out.book c.in-Ok.book out.round out.ensures
    (fit_one c.args.node c.args.tick c.requires.fits) c.in-Ok.ensures.pieces c.in-Ok.ensures.book

pub returns-in-Ok-clause-next : goal.returns-in-Ok-clause-next
returns-in-Ok-clause-next g c =
    let out = c.in_ok-pieces in
    c.end.ensures c.args.node [] c.args.tick
    (may_end c.args.node [] c.args.tick out.pieces.items c.in-Ok.pieces.items out.book c.in-Ok.book out.round
    out.ensures (fit_one c.args.node c.args.tick c.requires.fits) c.in-Ok.ensures.pieces c.in-Ok.ensures.book)

pub returns-in-Ok-clause-gated : goal.returns-in-Ok-clause-gated
returns-in-Ok-clause-gated g c =
    IfOk-weaker c.end.result _ _
    (λ next is. round_gated (g.G.Gate.left c.args.gate.now) c.args.node (c.args.tick ∷ []) c.in_ok-pieces.pieces.items
    c.in_ok-pieces.ensures.sent c.in-Ok.ensures.gated) (returns-in-Ok-clause-next g c)
