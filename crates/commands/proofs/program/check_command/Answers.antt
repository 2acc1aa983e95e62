use Rattle.commands.proofs.Built.{about_told, with_arg}
use Rattle.commands.proofs.program.check_command.Goals as goal

pub returns-clause-command : goal.returns-clause-command
returns-clause-command c =
    let extended = with_arg c.in_ok-of_trace.field-0 c.in_ok-arg.field-0 c.extended_arg.result _ _
    c.in_ok-of_trace.ensures c.extended_arg.ensures.rule c.extended_arg.ensures.local c.in_ok-arg.ensures in
    about_told c.in_ok-arg.field-0 c.about.result _ extended c.about.ensures
