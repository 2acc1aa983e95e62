use Rattle.std.proofs.Common.{◌∙◌, ◌-◌, map, take, ap, sym}
use Rattle.std.proofs.lemmas.List.{length-map, take-map}
use Rattle.histories.specs.rule.Histories.{last_moment}
use Rattle.pod_state.specs.rule.Pods.{pod_tick}
use Rattle.pod_piece.specs.state.Kept.{piece_of}
use Rattle.pod_piece.specs.rule.Piece.{Piece, ticks}
use Rattle.pod_piece.proofs.Waiting.{taken_is}
use Rattle.pod_piece.proofs.piece.PodPiece.last_at.Goals as goal

pub returns : goal.returns
returns c =
    let i = c.deref-parts.result.now in
    let h = i.history in
    c.moment_before.ensures
    ∙ ap (λ n. last_moment (map pod_tick (take (n - i.waiting) h))) (c.len.ensures ∙ sym (length-map h pod_tick))
    ∙ ap last_moment (sym (take-map pod_tick _ h) ∙ sym (taken_is i.waiting (map pod_tick h)))
    ∙ ap (λ (p : Piece). last_moment (ticks p)) (ap piece_of c.deref-parts.ensures ∙ c.self.view_is)
