use Rattle.std.proofs.Common.{◌∙◌, ap}
use Rattle.tick_lines.specs.state.Conditions.{given_members}
use Rattle.tick_lines.proofs.Statuses.{noted}
use Rattle.tick_lines.proofs.conditions.note_given.Goals as goal

pub returns : goal.returns
returns c =
    ap given_members c.in_ok-insert.ensures.entries
    ∙ noted c.args.noted.now.entries c.args.name c.args.given
