use Rattle.std.proofs.Common.{◌≡◌, ℕ, [], ◌∷◌, map, subst}
use Rattle.round_updates.specs.state.Played.{AreFinished}
use Rattle.node_rounds.proofs.Opens.{can_end, may_end, fit_one}
use Rattle.tick_round.proofs.Out.{may_update}
use Rattle.round_updates.proofs.Pieces.{all_by}
use Rattle.tick_round.proofs.Single.{one_waits, one_added, one_each}
use Rattle.pod_piece.specs.rule.Piece.{Piece}
use Rattle.tick_round.proofs.advance.advance_played.Goals as goal

pub update_by_steps-requires-clause-may : goal.update_by_steps-requires-clause-may
update_by_steps-requires-clause-may g c =
    let out = c.in_ok-pieces.ensures in
    may_update c.args.node (c.args.tick ∷ []) c.in_ok-pieces.pieces.items c.in_ok-pieces.book out.kept out.sent out.book

pub update_by_steps-requires-clause-one : goal.update_by_steps-requires-clause-one
update_by_steps-requires-clause-one g c =
    let out = c.in_ok-pieces.ensures in
    all_by (λ (piece : Piece). piece.waiting ≡ 1) c.in_ok-pieces.pieces.items
    (λ n q at. (one_waits c.args.node c.args.tick c.in_ok-pieces.pieces.items out.kept out.sent n q at).0)

pub end-requires : goal.end-requires
end-requires g c =
    let out = c.in_ok-pieces in
    let back = c.in-Ok.played in
    let added = one_added c.args.node c.args.tick out.pieces.items back.pieces.items out.book back.book out.ensures.kept
    out.ensures.sent c.in-Ok.ensures.pieces c.in-Ok.ensures.book in
    can_end c.args.node [] c.args.tick out.pieces.items back.pieces.items out.book back.book out.round out.ensures
    (fit_one c.args.node c.args.tick c.requires.fits) added.0 added.1

pub returns-in_ok-next-in-Ok-clause-next : goal.returns-in_ok-next-in-Ok-clause-next
returns-in_ok-next-in-Ok-clause-next g c =
    let out = c.in_ok-pieces in
    let back = c.in-Ok.played in
    let added = one_added c.args.node c.args.tick out.pieces.items back.pieces.items out.book back.book out.ensures.kept
    out.ensures.sent c.in-Ok.ensures.pieces c.in-Ok.ensures.book in
    c.in_ok-next-in-Ok.ensures c.args.node [] c.args.tick
    (may_end c.args.node [] c.args.tick out.pieces.items back.pieces.items out.book back.book out.round out.ensures
    (fit_one c.args.node c.args.tick c.requires.fits) added.0 added.1)

pub returns-in_ok-next-in-Ok-clause-finished : goal.returns-in_ok-next-in-Ok-clause-finished
returns-in_ok-next-in-Ok-clause-finished g c =
    let out = c.in_ok-pieces in
    subst (λ (n : ℕ). AreFinished n c.args.workers c.args.steps.now (map
    (λ list. list.items) c.in-Ok.played.finished.items))
    (one_each c.args.node c.args.tick out.pieces.items out.ensures.kept c.requires.fits.pods.handed out.ensures.sent)
    c.in-Ok.ensures.finished
