use Rattle.commands.proofs.Built.{with_last_arg}
use Rattle.commands.proofs.program.of_trace.Goals as goal

pub returns : goal.returns
returns c =
    with_last_arg c.new.result c.arg.result c.trace_arg.result _ _
    (record { described = c.new.ensures.app; local = c.new.ensures.local }) c.trace_arg.ensures.rule
    c.trace_arg.ensures.local c.arg.ensures
