use Rattle.std.proofs.Common.{ap, ◌∙◌, refl}
use Rattle.manifest.specs.declared.pod.PodSpec.{PodSpec}
use Rattle.eviction.specs.rule.Replay.{order_of}
use Rattle.node_rounds.proofs.Evicts.{evicts_first, get_here}
use Rattle.node_rounds.proofs.evict.choice_of.Goals as goal

pub returns : goal.returns
returns c =
    evicts_first c.args.config.now c.args.pieces.now c.args.at c.args.key c.args.victim c.in_ok-number.number
    c.in_ok-piece.piece.now c.order_for.result c.requires c.in_ok-number.was
    (get_here c.args.pieces.now c.args.pieces.now c.in_ok-number.number c.in_ok-piece.piece.now refl
    c.in_ok-piece.ensures.lookup.0 c.in_ok-piece.ensures.lookup.1)
    (c.order_for.ensures
    ∙ ap (λ (p : PodSpec). order_of c.args.config.now p c.args.at c.args.key) c.pod.ensures)
