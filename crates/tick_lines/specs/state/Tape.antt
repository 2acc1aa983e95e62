-- What is read of a tick line before its entries, its listings and its results.
use Rattle.std.specs.Prelude.{◌≡◌, ℕ, ℤ, List, [], Option, Some, None, option_map, option_and_then, IfSome, Result}
use Rattle.std.specs.Prelude.{Ok, codes}
use Rattle.json.specs.Token.{Token}
use Rattle.json_fields.specs.rule.Fields.{field_at, text_at}
use Rattle.json_fields.specs.rule.Reading.{some_or}
use Rattle.json_fields.specs.state.Tape.{data_at, items_in, field_behind, IsRead}
use Rattle.manifest.specs.declared.outcome.Outcome.{Outcome}
use Rattle.manifest.specs.declared.outcome.ProbeKind.{ProbeKind}
use Rattle.observations.specs.declared.usage.Usage.{Usage}
use Rattle.serde_json.specs.Data.{Data}
use Rattle.serde_json.specs.Find.{as_str}
use Rattle.json_fields.specs.declared.scope.Scope.TheVariants.{Node, FileSystems}
use Rattle.tick_lines.specs.declared.fault.TickLineFault.{TickLineFault}
use Rattle.tick_lines.specs.declared.fault.TickLineFault.TheVariants as faults
use Rattle.tick_lines.specs.declared.listing.Listing.{Listing}
use Rattle.tick_lines.specs.declared.probing.ProbeResult.{ProbeResult}
use Rattle.tick_lines.specs.declared.tape.EntryMembers.{EntryMembers}
use Rattle.tick_lines.specs.declared.tape.EntryText.{EntryText}
use Rattle.tick_lines.specs.declared.tape_line.LineMembers.{LineMembers}
use Rattle.tick_lines.specs.declared.tape_line.LineSamples.{LineSamples}
use Rattle.tick_lines.specs.declared.tape_line.LineText.{LineText}
use Rattle.tick_lines.specs.declared.tape.ListingMembers.{ListingMembers}
use Rattle.tick_lines.specs.declared.tape.ListingText.{ListingText}
use Rattle.tick_lines.specs.declared.tape.ResultMembers.{ResultMembers}
use Rattle.tick_lines.specs.declared.tape.ResultText.{ResultText}
use Rattle.tick_lines.specs.declared.truth.TruthMember.{TruthMember}
use Rattle.tick_lines.specs.declared.truth.TruthMember.TheVariants.{No}
use Rattle.tick_lines.specs.declared.conditions.ConditionsMember.{ConditionsMember}
use Rattle.tick_lines.specs.declared.conditions.ConditionsMember.TheVariants.{Missing as NoConditions}
use Rattle.tick_lines.specs.rule.Conditions.{conditions_of}
use Rattle.tick_lines.specs.rule.Fields.{items_of, quantity_at}
use Rattle.tick_lines.specs.rule.Listings.{attempt_of, state_of, code_of}
use Rattle.tick_lines.specs.rule.Results.{probe_named, outcome_named}
use Rattle.tick_lines.specs.rule.Samples.{samples_of}
use Rattle.tick_lines.specs.declared.reason.ReasonMember.{ReasonMember}
use Rattle.tick_lines.specs.declared.reason.ReasonMember.TheVariants.{Missing}
use Rattle.tick_lines.specs.rule.Reasons.{reason_member_of}
use Rattle.tick_lines.specs.declared.resizes.ResizedMember.{ResizedMember}
use Rattle.tick_lines.specs.declared.resizes.ResizedMember.TheVariants.{Missing as NoResizes}
use Rattle.tick_lines.specs.rule.Resizes.{resized_of}
use Rattle.tick_lines.specs.rule.Truths.{truth_of, denial_of}
use Rattle.tick_lines.specs.rule.Usages.{usage_of}

-- the data of the items that are left
abbrev pub left_in : Option (List Token) → List Data
left_in None = []
left_in (Some items) = items_in items

abbrev pub listing_as : ListingText → Listing
listing_as l = record { name = l.name.now; instance = l.instance }

abbrev pub result_as : ResultText → ProbeResult
result_as r = record { container = r.container.now; probe = r.probe; outcome = r.outcome }

-- what a field holds; no value is a fault here
abbrev pub found_in : Option Data → Result (Option Data) TickLineFault
found_in found = Ok found

-- whether it is false; no value is a fault here
abbrev pub denial_in : Option Data → Result TruthMember TickLineFault
denial_in found = Ok (denial_of found)

-- what is read of an entry before its listings and results; the entry doesn't mark its pod as unsampled or as being
-- deleted, and has no reason for its end, no status of a condition and no resize
pub record IsEntry (d : Data) (e : EntryText) : Type 0 where
  pub key : text_at (codes "pod") d ≡ Some e.key.now
  pub listings : items_of (field_at (codes "containers") d) ≡ Ok (left_in e.listings)
  pub results : items_of (field_at (codes "probes") d) ≡ Ok (left_in e.results)
  pub usage : usage_of (field_at (codes "usage") d) ≡ Ok e.usage
  pub unsampled : truth_of (field_at (codes "unsampled") d) ≡ No
  pub deleting : truth_of (field_at (codes "deleting") d) ≡ No
  pub failed : reason_member_of (field_at (codes "failed") d) ≡ Missing
  pub conditions : conditions_of (field_at (codes "conditions") d) ≡ NoConditions
  pub resized : resized_of (field_at (codes "resized") d) ≡ NoResizes

-- what is read of a line before its entries and its samples
pub record IsLine (d : Data) (l : LineText) : Type 0 where
  pub entries : items_of (field_at (codes "pods") d) ≡ Ok (left_in l.entries)
  pub signals : found_in (field_at (codes "signals") d) ≡ Ok (option_map data_at l.signals)
  pub after_reclaim : found_in (field_at (codes "afterReclaim") d) ≡ Ok (option_map data_at l.after_reclaim)
  pub unjudged : denial_in (field_at (codes "judged") d) ≡ Ok l.unjudged

-- the samples of a line
pub record HasSamples (l : LineText) (s : LineSamples) : Type 0 where
  pub signals : samples_of Node (option_map data_at l.signals) ≡ Ok s.signals
  pub after_reclaim : samples_of FileSystems (option_map data_at l.after_reclaim) ≡ Ok s.after_reclaim

-- a text that has to be there
abbrev pub text_in : Option Data → Result (List ℕ) TickLineFault
text_in found = some_or faults.Usage (option_and_then as_str found)

-- an exit code, if this is one; no other value is a fault
abbrev pub code_in : Option Data → Result (Option ℤ) TickLineFault
code_in found = Ok (code_of found)

-- whether it is true; no value is a fault here
abbrev pub truth_in : Option Data → Result TruthMember TickLineFault
truth_in found = Ok (truth_of found)

-- why the node has ended the pod; no value is a fault here
abbrev pub reason_in : Option Data → Result ReasonMember TickLineFault
reason_in found = Ok (reason_member_of found)

-- the statuses of conditions; no value is a fault here
abbrev pub conditions_in : Option Data → Result ConditionsMember TickLineFault
conditions_in found = Ok (conditions_of found)

-- the resizes of containers; no value is a fault here
abbrev pub resized_in : Option Data → Result ResizedMember TickLineFault
resized_in found = Ok (resized_of found)

abbrev pub probe_in : Option Data → Result ProbeKind TickLineFault
probe_in found = probe_named (option_and_then as_str found)

abbrev pub outcome_in : Option Data → Result Outcome TickLineFault
outcome_in found = outcome_named (option_and_then as_str found)

-- if something was read of the field, it was read of what the field held before the members that are left
abbrev pub IsFound : {A E : Type 0} → (Option Data → Result A E) → List ℕ → Data → List Token → Option A → Type 0
IsFound f name d left o =
    (before : Option Data) × (field_at name d ≡ field_behind name left before) × IfSome o (λ x. f before ≡ Ok x)

-- what was read of a listing before the members that are left
pub record ListingRead (d : Data) (left : List Token) (l : ListingMembers) : Type 0 where
  pub name : IsFound text_in (codes "name") d left (option_map (λ name. name.now) l.name)
  pub attempt : IsRead attempt_of (codes "attempt") d left l.attempt
  pub state : IsFound state_of (codes "state") d left l.state
  pub code : IsRead code_in (codes "exitCode") d left l.code

-- what was read of a result before the members that are left
pub record ResultRead (d : Data) (left : List Token) (r : ResultMembers) : Type 0 where
  pub container : IsFound text_in (codes "container") d left (option_map (λ name. name.now) r.container)
  pub probe : IsFound probe_in (codes "probe") d left r.probe
  pub outcome : IsFound outcome_in (codes "result") d left r.outcome

-- what was read of a use before the members that are left
pub record UsageRead (d : Data) (left : List Token) (u : Usage) : Type 0 where
  pub memory : IsRead quantity_at (codes "memory") d left u.memory
  pub volumes : IsRead quantity_at (codes "volumes") d left u.volumes
  pub logs : IsRead quantity_at (codes "logs") d left u.logs
  pub writable : IsRead quantity_at (codes "writable") d left u.writable
  pub inodes : IsRead quantity_at (codes "inodes") d left u.inodes
  pub pids : IsRead quantity_at (codes "pids") d left u.pids

-- what was read of an entry before the members that are left
pub record EntryRead (d : Data) (left : List Token) (e : EntryMembers) : Type 0 where
  pub key : IsFound text_in (codes "pod") d left (option_map (λ key. key.now) e.key)
  pub listings : IsRead items_of (codes "containers") d left (left_in e.listings)
  pub results : IsRead items_of (codes "probes") d left (left_in e.results)
  pub usage : IsRead usage_of (codes "usage") d left e.usage
  pub unsampled : IsRead truth_in (codes "unsampled") d left No
  pub deleting : IsRead truth_in (codes "deleting") d left No
  pub failed : IsRead reason_in (codes "failed") d left Missing
  pub conditions : IsRead conditions_in (codes "conditions") d left NoConditions
  pub resized : IsRead resized_in (codes "resized") d left NoResizes

-- what was read of a line before the members that are left
pub record LineRead (d : Data) (left : List Token) (l : LineMembers) : Type 0 where
  pub entries : IsRead items_of (codes "pods") d left (left_in l.entries)
  pub signals : IsRead found_in (codes "signals") d left (option_map data_at l.signals)
  pub after_reclaim : IsRead found_in (codes "afterReclaim") d left (option_map data_at l.after_reclaim)
  pub unjudged : IsRead denial_in (codes "judged") d left l.unjudged
