use Rattle.std.proofs.Common.{[]}
use Rattle.node_rounds.proofs.Opens.{is_out}
use Rattle.node_rounds.proofs.running.Running.begin_one.Goals as goal

pub returns-in-Ok : goal.returns-in-Ok
returns-in-Ok g c =
    let begun = c.in_ok-stretch in
    is_out c.args.self [] c.args.tick begun.stretch c.in-Ok.pieces.items begun.book c.in-Ok.round begun.ensures.kept
    begun.ensures.is_open begun.ensures.book c.in-Ok.ensures.begun c.in-Ok.ensures.sent c.in-Ok.ensures.awaited
    c.in-Ok.ensures.numbered
