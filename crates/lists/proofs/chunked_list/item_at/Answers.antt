use Rattle.std.proofs.Common.{◌∙◌, ◌%◌, get_or, ap, sym, arith}
use Rattle.lists.proofs.Joined.{behind_full, item_in_full, item_in_last}
use Rattle.lists.proofs.chunked_list.item_at.Goals as goal

pub bounds-last-within : goal.bounds-last-within
bounds-last-within g c = (behind_full c.args.full.now c.args.last.now c.args.place c.requires.full c.requires.within
    c.requires.fits c.if-chunk-full.false).1

pub offset_bounds-last-within : goal.offset_bounds-last-within
offset_bounds-last-within g c = omega (arith, bounds-last-within g c)

pub returns-then-chunk-full : goal.returns-then-chunk-full
returns-then-chunk-full g c =
    let chunk = c.index-full-chunk.result in
    c.index.ensures ∙ ap (λ f. get_or f.items (c.args.place % 64) c.index.result.now) c.index-full-chunk.is
    ∙ sym (item_in_full c.args.full.now c.args.last.now c.args.place chunk c.index.result.now c.requires.full
    c.if-chunk-full.true)

pub returns-else-chunk-full : goal.returns-else-chunk-full
returns-else-chunk-full g c =
    let behind = behind_full c.args.full.now c.args.last.now c.args.place c.requires.full c.requires.within
    c.requires.fits c.if-chunk-full.false in
    c.index-last-within.is
    ∙ sym
    (item_in_last c.args.full.now c.args.last.now c.args.place c.index-last-within.result c.requires.full behind.0)
