use Rattle.std.proofs.Common.{sym}
use Rattle.trace.proofs.NotedItems.{unknown_resized}
use Rattle.trace.proofs.noted.keep_unknown.Goals as goal

pub returns : goal.returns
returns c =
    unknown_resized c.resize.result c.args.all.now.items c.resize.new.self.items c.args.containers.now
    c.args.all.now.len c.requires (sym c.args.all.now.ok.0) (rw c.unknown.ensures at c.resize.ensures.items)
