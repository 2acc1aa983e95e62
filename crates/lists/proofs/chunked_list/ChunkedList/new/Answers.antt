use Rattle.std.proofs.Common.{◌∙◌, ap}
use Rattle.lists.specs.state.Chunks.{joined}
use Rattle.lists.proofs.Joined.{none_chunks}
use Rattle.lists.proofs.chunked_list.ChunkedList.new.Goals as goal

pub invariant_of-result : goal.invariant_of-result
invariant_of-result g c = none_chunks c.new.result.items c.new-2.result.items c.new.ensures.items c.new-2.ensures.items

pub returns : goal.returns
returns g c = ap (λ full. joined full c.new-2.result.items) c.new.ensures.items ∙ c.new-2.ensures.items
