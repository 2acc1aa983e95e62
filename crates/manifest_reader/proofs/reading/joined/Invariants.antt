use Rattle.std.proofs.Common.{◌≡◌, ◌++◌}
use Rattle.std.specs.Vec.Iter.{into_iter_items}
use Rattle.manifest_reader.proofs.reading.joined.Given as goal

abbrev pub invariant-loop-container : goal.invariant-loop-container
invariant-loop-container l = l.all.items ++ into_iter_items l.container-iterator ≡ l.fn.init.items ++ l.fn.apps.items
