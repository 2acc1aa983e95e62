-- A tick line, as it is written, but for its moment.
use Rattle.std.specs.Prelude.{Result, Ok, codes}
use Rattle.serde_json.specs.Data.{Data}
use Rattle.json_fields.specs.rule.Reading.{◌>>=◌}
use Rattle.json_fields.specs.rule.Fields.{field_at}
use Rattle.tick_lines.specs.declared.fault.TickLineFault.{TickLineFault}
use Rattle.tick_lines.specs.declared.line.TickLine.{TickLine}
use Rattle.json_fields.specs.declared.scope.Scope.TheVariants.{Node, FileSystems}
use Rattle.tick_lines.specs.rule.Entries.{entries_of}
use Rattle.tick_lines.specs.rule.Samples.{samples_of}
use Rattle.tick_lines.specs.rule.Truths.{denial_of}

unfoldable pub tick_line_of : Data → Result TickLine TickLineFault
tick_line_of d = do
  entries ← entries_of (field_at (codes "pods") d)
  signals ← samples_of Node (field_at (codes "signals") d)
  after_reclaim ← samples_of FileSystems (field_at (codes "afterReclaim") d)
  Ok (record {
    entries = entries;
    signals = signals;
    after_reclaim = after_reclaim;
    unjudged = denial_of (field_at (codes "judged") d);
  })
