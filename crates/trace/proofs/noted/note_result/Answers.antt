use Rattle.std.proofs.Common.{◌∙◌, sym}
use Rattle.trace.proofs.NotedContainers.{result_earlier, result_noted}
use Rattle.trace.proofs.noted.note_result.Goals as goal

pub returns-then-is_some : goal.returns-then-is_some
returns-then-is_some c =
    result_earlier c.args.written c.args.all.now c.index-all-written.result c.place-place.result c.requires
    c.index-all-written.is c.place-place.ensures (sym c.is_some.ensures ∙ c.if-is_some.true)

pub returns : goal.returns
returns c =
    result_noted c.args.written c.args.all.now c.index-all-written.result c.index-all-written-2.result
    c.place-place.result c.requires c.index-all-written.is c.index-all-written-2.is c.place-place.ensures
    (sym c.is_some.ensures ∙ c.if-is_some.false)
