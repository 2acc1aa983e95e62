use Rattle.std.proofs.Common.{◌≡◌, ◌∙◌, Some, ap}
use Rattle.std.specs.Prelude.{slice_get}
use Rattle.histories.specs.rule.Histories.{last_moment}
use Rattle.pod_piece.specs.rule.Piece.{Piece}
use Rattle.node_pods.proofs.Candidates.{read_at, status_at, same_piece}
use Rattle.node_pods.proofs.Steps.{set_evicted}
use Rattle.node_pods.proofs.each.evict_at.Goals as goal

-- the piece that the index read
there : (c : goal.After-index_mut) → slice_get c.args.pieces.now.items c.args.number ≡ Some c.index_mut.result.now
there c =
    read_at c.args.pieces.now.items c.args.number c.requires.evictable.1.piece c.index_mut.result.now
    c.requires.evictable.1.at c.index_mut.ensures.value

pub evict-requires-clause-free : goal.evict-requires-clause-free
evict-requires-clause-free c = c.requires.free c.args.number c.index_mut.result.now (there c)

pub evict-requires-clause-evictable : goal.evict-requires-clause-evictable
evict-requires-clause-evictable c =
    let was = c.requires.evictable in
    let piece = c.index_mut.result.now in
    (was.0, status_at c.args.pieces.now.items c.args.order.at c.args.number piece was.0 (there c) was.1, was.1.may)

pub evict-requires-clause-last : goal.evict-requires-clause-last
evict-requires-clause-last c =
    let was = c.requires.evictable in
    ap (λ (q : Piece). last_moment q.handed)
    (same_piece c.args.pieces.now.items c.args.number c.index_mut.result.now was.1.piece (there c) was.1.at)
    ∙ was.1.present

pub returns : goal.returns
returns c =
    let items = c.args.pieces.now.items in
    let piece = c.index_mut.result.now in
    set_evicted items c.args.number c.args.order piece c.evict.new.self
    (read_at items c.args.number c.requires.evictable.1.piece piece c.requires.evictable.1.at c.index_mut.ensures.value)
    c.evict.ensures
