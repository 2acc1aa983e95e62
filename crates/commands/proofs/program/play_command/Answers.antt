use Rattle.commands.proofs.Built.{about_told, with_arg}
use Rattle.commands.proofs.program.play_command.Goals as goal

pub returns-clause-command : goal.returns-clause-command
returns-clause-command c =
    let stepped = with_arg c.in_ok-of_trace.field-0 c.in_ok-arg.field-0 c.steps_arg.result _ _
    c.in_ok-of_trace.ensures c.steps_arg.ensures.rule c.steps_arg.ensures.local c.in_ok-arg.ensures in
    let shared = with_arg c.in_ok-arg.field-0 c.in_ok-arg-2.field-0 c.workers_arg.result _ _ stepped
    c.workers_arg.ensures.rule c.workers_arg.ensures.local c.in_ok-arg-2.ensures in
    let extended = with_arg c.in_ok-arg-2.field-0 c.in_ok-arg-3.field-0 c.extended_arg.result _ _ shared
    c.extended_arg.ensures.rule c.extended_arg.ensures.local c.in_ok-arg-3.ensures in
    about_told c.in_ok-arg-3.field-0 c.about.result _ extended c.about.ensures
