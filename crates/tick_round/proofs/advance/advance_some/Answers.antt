use Rattle.std.proofs.Common.{[], ◌∷◌, ◌++◌}
use Rattle.std.proofs.lemmas.Result.{IfOk-weaker}
use Rattle.tick_round.proofs.Gated.{round_gated}
use Rattle.node_rounds.proofs.Opens.{can_end, may_end, fit_taken}
use Rattle.tick_round.proofs.Out.{may_update}
use Rattle.tick_round.proofs.Rest.{has_taken_some, fewer}
use Rattle.tick_round.proofs.Rounds.{are_numbered}
use Rattle.node_rounds.specs.state.Stretch.{handed_all}
use Rattle.tick_round.proofs.advance.advance_some.Goals as goal

pub update_by_workers-requires-clause-may : goal.update_by_workers-requires-clause-may
update_by_workers-requires-clause-may g c κs within =
    let some = c.in_ok-pieces.ensures in
    let out = some.out in
    may_update c.args.node (some.calm ++ some.tick ∷ []) c.in_ok-pieces.pieces.items c.in_ok-pieces.book
    out.kept out.sent out.book

pub update_by_workers-requires-clause-numbered : goal.update_by_workers-requires-clause-numbered
update_by_workers-requires-clause-numbered g c κs within =
    let some = c.in_ok-pieces.ensures in
    are_numbered (handed_all c.args.node.pods.pieces (some.calm ++ some.tick ∷ [])) c.in_ok-pieces.pieces.items
    some.out.sent

pub end-requires : goal.end-requires
end-requires g c =
    let out = c.in_ok-pieces in
    let some = out.ensures in
    can_end c.args.node some.calm some.tick out.pieces.items c.in-Ok.pieces.items out.book c.in-Ok.book out.round
    some.out
    (fit_taken c.args.node (c.args.tick ∷ c.args.more.now.rest.items) (some.calm ++ some.tick ∷ [])
    c.begin_some.new.more.rest.items c.requires.fits some.all) c.in-Ok.ensures.pieces c.in-Ok.ensures.book

pub returns-in-Ok-clause-some : goal.returns-in-Ok-clause-some
returns-in-Ok-clause-some g c =
    let out = c.in_ok-pieces in
    let some = out.ensures in
    let all = c.args.tick ∷ c.args.more.now.rest.items in
    let rest = c.begin_some.new.more.rest.items in
    let front = some.calm ++ some.tick ∷ [] in
    let fits = fit_taken c.args.node all front rest c.requires.fits some.all in
    IfOk-weaker c.end.result _ _
    (λ next is. has_taken_some (g.G.Gate.left c.args.gate.now) all front rest c.args.node _ some.out.kept
    c.requires.fits some.all
    (round_gated (g.G.Gate.left c.args.gate.now) c.args.node front out.pieces.items some.out.sent c.in-Ok.ensures.gated)
    is)
    (c.end.ensures c.args.node some.calm some.tick
    (may_end c.args.node some.calm some.tick out.pieces.items c.in-Ok.pieces.items out.book c.in-Ok.book out.round
    some.out
    fits c.in-Ok.ensures.pieces c.in-Ok.ensures.book))

pub returns-in-Ok-clause-fewer : goal.returns-in-Ok-clause-fewer
returns-in-Ok-clause-fewer g c =
    let out = c.in_ok-pieces in
    let some = out.ensures in
    let all = c.args.tick ∷ c.args.more.now.rest.items in
    let rest = c.begin_some.new.more.rest.items in
    let fits = fit_taken c.args.node all (some.calm ++ some.tick ∷ []) rest c.requires.fits some.all in
    IfOk-weaker c.end.result _ _
    (λ next is. fewer c.args.tick c.args.more.now.rest.items some.calm some.tick rest some.all)
    (c.end.ensures c.args.node some.calm some.tick
    (may_end c.args.node some.calm some.tick out.pieces.items c.in-Ok.pieces.items out.book c.in-Ok.book out.round
    some.out
    fits c.in-Ok.ensures.pieces c.in-Ok.ensures.book))
