use Rattle.pod_piece.specs.state.Piece.{at_rest}
use Rattle.node_pods.proofs.Candidates.{read_by_place}
use Rattle.node_pods.proofs.Steps.{set_changed}
use Rattle.node_pods.proofs.each.rest_at.Goals as goal

pub returns : goal.returns
returns c =
    let items = c.args.pieces.now.items in
    let piece = c.index_mut.result.now in
    set_changed at_rest c.args.number items piece c.rest.new.self
    (read_by_place items c.args.number piece c.requires c.index_mut.ensures.value) c.rest.ensures
