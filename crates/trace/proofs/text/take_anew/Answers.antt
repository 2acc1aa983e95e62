use Rattle.std.proofs.Common.{rules}
use Rattle.json_lines.specs.state.Lines.{line_data}
use Rattle.trace.proofs.text.take_anew.Goals as goal

pub take_shown-requires : goal.take_shown-requires
take_shown-requires c = (line_data c.args.line.now, search rules)
