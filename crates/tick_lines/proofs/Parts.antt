-- What is known of the parts of what was read.
use Rattle.std.proofs.Common.{◌≡◌, ◌∙◌, Ok, ap}
use Rattle.std.specs.Prelude.{codes}
use Rattle.serde_json.specs.Data.{Data}
use Rattle.json_fields.specs.rule.Fields.{field_at, text_at}
use Rattle.json_fields.specs.rule.Reading.{some_or}
use Rattle.json_fields.proofs.Steps.{bind_ok}
use Rattle.json_fields.proofs.Only.{same_value}
use Rattle.observations.specs.declared.usage.Usage.{Usage}
use Rattle.tick_lines.specs.declared.entry.TickEntry.{TickEntry}
use Rattle.tick_lines.specs.declared.fault.TickLineFault.TheVariants as faults
use Rattle.tick_lines.specs.declared.line.TickLine.{TickLine}
use Rattle.json_fields.specs.declared.scope.Scope.TheVariants.{Node, FileSystems}
use Rattle.tick_lines.specs.rule.Conditions.{conditions_of}
use Rattle.tick_lines.specs.rule.Fields.{only_object, quantity_at}
use Rattle.tick_lines.specs.rule.Listings.{listings_of}
use Rattle.tick_lines.specs.rule.Results.{results_of}
use Rattle.tick_lines.specs.rule.Reasons.{reason_member_of}
use Rattle.tick_lines.specs.rule.Resizes.{resized_of}
use Rattle.tick_lines.specs.rule.Truths.{truth_of, denial_of}
use Rattle.tick_lines.specs.rule.Usages.{usage_in, usage_of}
use Rattle.tick_lines.specs.rule.Entries.{entry_of, entries_of}
use Rattle.tick_lines.specs.rule.Samples.{samples_of}
use Rattle.tick_lines.specs.rule.Line.{tick_line_of}

pub record IsLine (d : Data) (line : TickLine) : Type 0 where
  pub entries : entries_of (field_at (codes "pods") d) ≡ Ok line.entries
  pub signals : samples_of Node (field_at (codes "signals") d) ≡ Ok line.signals
  pub after_reclaim : samples_of FileSystems (field_at (codes "afterReclaim") d) ≡ Ok line.after_reclaim
  pub unjudged : denial_of (field_at (codes "judged") d) ≡ line.unjudged

pub line_parts : (d : Data) (line : TickLine) → tick_line_of d ≡ Ok line → IsLine d line
unfolding tick_line_of
line_parts d line e =
    let entries = bind_ok (entries_of (field_at (codes "pods") d)) _ line e in
    let signals = bind_ok (samples_of Node (field_at (codes "signals") d)) _ line entries.2 in
    let after = bind_ok (samples_of FileSystems (field_at (codes "afterReclaim") d)) _ line signals.2 in
    let same = same_value _ line after.2 in
    record {
      entries = entries.1 ∙ ap (λ (l : TickLine). Ok l.entries) same;
      signals = signals.1 ∙ ap (λ (l : TickLine). Ok l.signals) same;
      after_reclaim = after.1 ∙ ap (λ (l : TickLine). Ok l.after_reclaim) same;
      unjudged = ap (λ (l : TickLine). l.unjudged) same;
    }

pub record IsEntry (d : Data) (entry : TickEntry) : Type 0 where
  pub key : some_or faults.Usage (text_at (codes "pod") d) ≡ Ok entry.key
  pub listings : listings_of (field_at (codes "containers") d) ≡ Ok entry.listings
  pub results : results_of (field_at (codes "probes") d) ≡ Ok entry.results
  pub usage : usage_of (field_at (codes "usage") d) ≡ Ok entry.usage
  pub unsampled : truth_of (field_at (codes "unsampled") d) ≡ entry.unsampled
  pub deleting : truth_of (field_at (codes "deleting") d) ≡ entry.deleting
  pub failed : reason_member_of (field_at (codes "failed") d) ≡ entry.failed
  pub conditions : conditions_of (field_at (codes "conditions") d) ≡ entry.conditions
  pub resized : resized_of (field_at (codes "resized") d) ≡ entry.resized

pub entry_parts : (d : Data) (entry : TickEntry) → entry_of d ≡ Ok entry → IsEntry d entry
unfolding entry_of
entry_parts d entry e =
    let key = bind_ok (some_or faults.Usage (text_at (codes "pod") d)) _ entry e in
    let listings = bind_ok (listings_of (field_at (codes "containers") d)) _ entry key.2 in
    let results = bind_ok (results_of (field_at (codes "probes") d)) _ entry listings.2 in
    let usage = bind_ok (usage_of (field_at (codes "usage") d)) _ entry results.2 in
    let same = same_value _ entry usage.2 in
    record {
      key = key.1 ∙ ap (λ (x : TickEntry). Ok x.key) same;
      listings = listings.1 ∙ ap (λ (x : TickEntry). Ok x.listings) same;
      results = results.1 ∙ ap (λ (x : TickEntry). Ok x.results) same;
      usage = usage.1 ∙ ap (λ (x : TickEntry). Ok x.usage) same;
      unsampled = ap (λ (x : TickEntry). x.unsampled) same;
      deleting = ap (λ (x : TickEntry). x.deleting) same;
      failed = ap (λ (x : TickEntry). x.failed) same;
      conditions = ap (λ (x : TickEntry). x.conditions) same;
      resized = ap (λ (x : TickEntry). x.resized) same;
    }

pub record HasUsage (d : Data) (usage : Usage) : Type 0 where
  pub memory : quantity_at (field_at (codes "memory") d) ≡ Ok usage.memory
  pub volumes : quantity_at (field_at (codes "volumes") d) ≡ Ok usage.volumes
  pub logs : quantity_at (field_at (codes "logs") d) ≡ Ok usage.logs
  pub writable : quantity_at (field_at (codes "writable") d) ≡ Ok usage.writable
  pub inodes : quantity_at (field_at (codes "inodes") d) ≡ Ok usage.inodes
  pub pids : quantity_at (field_at (codes "pids") d) ≡ Ok usage.pids

pub usage_parts : (d : Data) (usage : Usage) → usage_in d ≡ Ok usage → HasUsage d usage
unfolding usage_in
usage_parts d usage e =
    let object = bind_ok (only_object d) _ usage e in
    let memory = bind_ok (quantity_at (field_at (codes "memory") d)) _ usage object.2 in
    let volumes = bind_ok (quantity_at (field_at (codes "volumes") d)) _ usage memory.2 in
    let logs = bind_ok (quantity_at (field_at (codes "logs") d)) _ usage volumes.2 in
    let writable = bind_ok (quantity_at (field_at (codes "writable") d)) _ usage logs.2 in
    let inodes = bind_ok (quantity_at (field_at (codes "inodes") d)) _ usage writable.2 in
    let pids = bind_ok (quantity_at (field_at (codes "pids") d)) _ usage inodes.2 in
    let same = same_value _ usage pids.2 in
    record {
      memory = memory.1 ∙ ap (λ (u : Usage). Ok u.memory) same;
      volumes = volumes.1 ∙ ap (λ (u : Usage). Ok u.volumes) same;
      logs = logs.1 ∙ ap (λ (u : Usage). Ok u.logs) same;
      writable = writable.1 ∙ ap (λ (u : Usage). Ok u.writable) same;
      inodes = inodes.1 ∙ ap (λ (u : Usage). Ok u.inodes) same;
      pids = pids.1 ∙ ap (λ (u : Usage). Ok u.pids) same;
    }
