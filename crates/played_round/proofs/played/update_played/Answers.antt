use Rattle.std.proofs.Common.{List, sym, subst, ap, ◌∙◌, arith}
use Rattle.pod_piece.specs.rule.Piece.{Piece}
use Rattle.totals.specs.declared.totals.Totals.{Totals}
use Rattle.totals.specs.state.Totals.{plus, AreEntriesOf}
use Rattle.event_book.specs.state.Shares.{ShareState}
use Rattle.round_core.specs.state.Places.{sum_of_shares}
use Rattle.played_round.proofs.played.update_played.Goals as goal

pub close-requires-clause-parts : goal.close-requires-clause-parts
close-requires-clause-parts g c =
    let all = c.in_ok-round.ensures.as_many in
    let parts = ap (λ (share : ShareState). share.parts) c.into_parts-events.ensures.share in
    let left = c.in_ok-idle.ensures.parts in
    omega arith

pub returns-clause-book : goal.returns-clause-book
returns-clause-book g c =
    let whole = c.in_ok-round.ensures in
    let after = c.in_ok-round.round in
    let totals =
    c.in_ok-idle.ensures.totals ∙ ap (λ (share : ShareState). share.totals) c.into_parts-events.ensures.share in (
      after.table.entries,
      subst (λ (pieces : List Piece). AreEntriesOf pieces after.table.entries) (sym c.in_ok-played.ensures.pieces)
          whole.entries,
      c.in_ok-played.ensures.book
          ∙ ap (λ (had : Totals). plus had (sum_of_shares after.pool.workers)) totals
          ∙ ap (plus c.args.book) whole.shares,
    )
