-- What is said depends on the fields that are read.
use Rattle.std.proofs.Common.{refl}
use Rattle.tick_lines.specs.rule.Listings.{instance_of, listing_of}
use Rattle.tick_lines.specs.rule.Results.{result_of}
use Rattle.tick_lines.specs.rule.Entries.{entry_of}
use Rattle.tick_lines.specs.rule.Line.{tick_line_of}
use Rattle.tick_lines.specs.state.Laws.{ReadsOnly, line_fields, entry_fields, listing_fields, result_fields}
use Rattle.tick_lines.specs.state.Laws.{OnlyTheirFields}

line_alike : ReadsOnly line_fields tick_line_of
unfolding tick_line_of
line_alike d e (pods, (signals, (after, (judged, none)))) = rw (pods, signals, after, judged) refl

entry_alike : ReadsOnly entry_fields entry_of
unfolding entry_of
entry_alike d e
    (pod, (containers, (probes, (usage, (unsampled, (deleting, (failed, (conditions, (resized, none))))))))) =
    rw (pod, containers, probes, usage, unsampled, deleting, failed, conditions, resized) refl

listing_alike : ReadsOnly listing_fields listing_of
unfolding listing_of instance_of
listing_alike d e (name, (attempt, (state, (code, none)))) = rw (name, attempt, state, code) refl

result_alike : ReadsOnly result_fields result_of
unfolding result_of
result_alike d e (container, (probe, (outcome, none))) = rw (container, probe, outcome) refl

pub only_their_fields : OnlyTheirFields
only_their_fields = record {
  line = line_alike;
  entry = entry_alike;
  listing = listing_alike;
  probe_result =
      result_alike;
}
