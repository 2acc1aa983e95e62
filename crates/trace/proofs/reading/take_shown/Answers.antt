use Rattle.std.proofs.Common.{sym, subst}
use Rattle.json_fields.specs.state.Reading.{GivesUnless}
use Rattle.trace.specs.state.Memory.{is_memory}
use Rattle.trace.proofs.TakenAhead.{shown_stands, shown_refused}
use Rattle.trace.proofs.reading.take_shown.Goals as goal

pub returns-in-Ok : goal.returns-in-Ok
returns-in-Ok c said is =
    subst (GivesUnless is_memory (λ r. r) c.with_tick.result)
    (sym (shown_stands c.args.so_far said c.args.tick _ is c.in-Ok.ensures.gives)) c.with_tick.ensures

pub returns-in-Err : goal.returns-in-Err
returns-in-Err c said is = shown_refused c.args.so_far said c.args.tick c.in-Err.kind is c.in-Err.ensures.gives
