use Rattle.std.proofs.Common.{Bool, List, All, map, length, sym, ap, subst, arith}
use Rattle.pod_piece.specs.rule.Piece.{Piece}
use Rattle.piece_deques.specs.state.Rule.{IsPieceDue, AreNumbered}
use Rattle.pool_workers.specs.state.Contexts.{context_tag}
use Rattle.worker_results.specs.state.Gated.{AreGated}
use Rattle.pod_pool.proofs.Due.{all_due}
use Rattle.pod_pool.proofs.Returned.{returned, still_laid}
use Rattle.pod_pool.proofs.pool.pool.Goals as goal

pub lay_out-contexts-requires-clause-due : goal.lay_out-contexts-requires-clause-due
lay_out-contexts-requires-clause-due g c =
    let pieces = c.args.pieces.items in
    subst (λ (all : List Piece). All (IsPieceDue all) pieces) (sym c.requires.all)
    (all_due pieces c.requires.numbered c.requires.pending)

pub gather-requires-clause-numbered : goal.gather-requires-clause-numbered
gather-requires-clause-numbered g c κs within = subst AreNumbered (sym c.requires.all) c.requires.numbered

pub gather-requires-clause-few : goal.gather-requires-clause-few
gather-requires-clause-few g c κs within =
    omega (arith, c.requires.few, ap (λ (l : List Piece). length l) c.requires.all)

pub gather-requires-clause-laid : goal.gather-requires-clause-laid
gather-requires-clause-laid g c κs within =
    let was = c.lay_out-contexts.result in
    let tags = returned context_tag was.items c.as_mut_slice.result.now c.run.new.contexts was.len
    c.as_mut_slice.ensures.value c.run.ensures.same (sym was.ok.0) in
    still_laid _ c.args.pieces.items _ (map context_tag was.items) c.requires.all tags c.lay_out-contexts.ensures.laid

pub returns-in-Ok-gather-clause-gated : goal.returns-in-Ok-gather-clause-gated
returns-in-Ok-gather-clause-gated g c =
    subst (λ (left : Piece → Bool → Bool). AreGated left c.args.pieces.items) c.requires.left
    (subst (λ (all : List Piece). AreGated g.D.Deal.left all) c.requires.all c.in-Ok-gather.ensures.done.gated)
