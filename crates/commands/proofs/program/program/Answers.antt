use Rattle.std.proofs.Common.{refl}
use Rattle.commands.proofs.Built.{about_told, answers_version, needs_one_below, with_one_below}
use Rattle.commands.proofs.program.program.Goals as goal

pub returns-clause-command : goal.returns-clause-command
returns-clause-command c =
    let named = answers_version c.new.result c.version.result _
    (record { described = c.new.ensures.app; local = c.new.ensures.local }) c.version.ensures refl in
    let needing = needs_one_below c.version.result c.subcommand_required.result _ named c.subcommand_required.ensures in
    let one = with_one_below _ c.in_ok-run_command.field-0 c.in_ok-subcommand.field-0 _ _ needing
    c.in_ok-run_command.ensures.command c.in_ok-subcommand.ensures in
    let two = with_one_below _ c.in_ok-check_command.field-0 c.in_ok-subcommand-2.field-0 _ _ one
    c.in_ok-check_command.ensures.command c.in_ok-subcommand-2.ensures in
    let three = with_one_below _ c.in_ok-play_command.field-0 c.in_ok-subcommand-3.field-0 _ _ two
    c.in_ok-play_command.ensures.command c.in_ok-subcommand-3.ensures in
    about_told c.in_ok-subcommand-3.field-0 c.about.result _ three c.about.ensures
