use Rattle.std.proofs.Common.{◌≡◌, ◌∙◌, length, sym, arith}
use Rattle.pod_piece.specs.state.Resources.{resized_by}
use Rattle.pod_piece.proofs.ResourceLemmas.{length-resized, or_number, same_or}
use Rattle.pod_piece.proofs.resources.resize_each.Goals as goal

pub returns : goal.returns
returns c =
    let old = c.args.all.now.items in
    let resizes = c.args.resizes.now in
    let so_far = c.loop-number.invariant in
    let long = length-resized resizes 0 old in
    let all : c.len-number-end.result ≡ length old = omega (arith, c.len-number-end.ensures, c.args.all.now.ok) in
    same_or c.loop-number.all.items (resized_by resizes 0 old) (so_far.as_many ∙ sym long)
    (λ n d lt. so_far.each n d d (omega (arith, lt, long, all, c.loop-number-test.false))
    ∙ sym (or_number resizes old n d d (omega (arith, lt, long))))
