-- The entries of pods in a tick line, as they are written.
use Rattle.std.specs.Prelude.{List, Option, Result, Ok, codes}
use Rattle.serde_json.specs.Data.{Data}
use Rattle.json_fields.specs.rule.Fields.{field_at, text_at}
use Rattle.json_fields.specs.rule.Reading.{◌>>=◌, some_or}
use Rattle.tick_lines.specs.declared.entry.TickEntry.{TickEntry}
use Rattle.tick_lines.specs.declared.fault.TickLineFault.{TickLineFault}
use Rattle.tick_lines.specs.declared.fault.TickLineFault.TheVariants.{Usage}
use Rattle.tick_lines.specs.rule.Conditions.{conditions_of}
use Rattle.tick_lines.specs.rule.Fields.{each_item}
use Rattle.tick_lines.specs.rule.Listings.{listings_of}
use Rattle.tick_lines.specs.rule.Results.{results_of}
use Rattle.tick_lines.specs.rule.Reasons.{reason_member_of}
use Rattle.tick_lines.specs.rule.Resizes.{resized_of}
use Rattle.tick_lines.specs.rule.Truths.{truth_of}
use Rattle.tick_lines.specs.rule.Usages.{usage_of}

unfoldable pub entry_of : Data → Result TickEntry TickLineFault
entry_of d = do
  key ← some_or Usage (text_at (codes "pod") d)
  listings ← listings_of (field_at (codes "containers") d)
  results ← results_of (field_at (codes "probes") d)
  usage ← usage_of (field_at (codes "usage") d)
  Ok (record {
    key = key;
    listings = listings;
    results = results;
    usage = usage;
    unsampled = truth_of (field_at (codes "unsampled") d);
    deleting = truth_of (field_at (codes "deleting") d);
    failed = reason_member_of (field_at (codes "failed") d);
    conditions = conditions_of (field_at (codes "conditions") d);
    resized = resized_of (field_at (codes "resized") d);
  })

-- the entries of a tick line, in order
abbrev pub entries_of : Option Data → Result (List TickEntry) TickLineFault
entries_of found = each_item entry_of found
