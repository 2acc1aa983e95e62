-- What is read of a tick line's items and placed at once.
use Rattle.std.specs.Prelude.{◌≡◌, ◌||◌, ℕ, Bool, true, false, List, Option, All, Result, Ok, Err, codes}
use Rattle.std.specs.List.{list_any}
use Rattle.json_fields.specs.rule.Fields.{field_at}
use Rattle.json_fields.specs.rule.Reading.{◌>>=◌, each}
use Rattle.manifest.specs.declared.pod.PodSpec.{PodSpec}
use Rattle.observations.specs.rule.Pods.{PodObs}
use Rattle.roster.specs.rule.Roll.{Roll, is_present}
use Rattle.serde_json.specs.Data.{Data}
use Rattle.tick_lines.specs.declared.fault.TickLineFault.{TickLineFault}
use Rattle.tick_lines.specs.rule.Entries.{entry_of}
use Rattle.tick_lines.specs.rule.Listings.{listing_of}
use Rattle.tick_lines.specs.rule.Results.{result_of}
use Rattle.tick_lines.specs.rule.Conditions.{conditions_of}
use Rattle.tick_lines.specs.rule.Reasons.{reason_member_of}
use Rattle.tick_lines.specs.rule.Resizes.{resized_of}
use Rattle.tick_lines.specs.rule.Truths.{truth_of}
use Rattle.line_faults.specs.declared.fault.FaultKind.{FaultKind}
use Rattle.line_faults.specs.declared.fault.FaultKind.TheVariants.{Usage}
use Rattle.trace.specs.declared.placing.PlacedEntry.{PlacedEntry}
use Rattle.trace.specs.declared.placing.PlacedListing.{PlacedListing}
use Rattle.trace.specs.declared.placing.PlacedResult.{PlacedResult}
use Rattle.trace.specs.rule.Observed.{some_code_missing}
use Rattle.trace.specs.rule.Placing.{placed_entry, placed_listing, placed_result, has_twice, are_of_one_pod, repeats}
use Rattle.trace.specs.rule.Written.{is_of_other_kind, is_no_reason, are_no_statuses, are_no_resizes}
use Rattle.trace.specs.state.Slots.{slots_from}

abbrev pub of_item : {A : Type 0} → Result A TickLineFault → Result A FaultKind
of_item (Ok x) = Ok x
of_item (Err fault) = Err Usage

abbrev pub listing_read : PodSpec → Data → Result PlacedListing FaultKind
listing_read pod d = of_item (listing_of d) >>= placed_listing pod

abbrev pub result_read : PodSpec → Data → Result PlacedResult FaultKind
result_read pod d = of_item (result_of d) >>= placed_result pod

abbrev pub entry_read : Bool → Roll → Data → Result PlacedEntry FaultKind
entry_read heeds roll d = of_item (entry_of d) >>= placed_entry heeds roll

-- an item has a member `unsampled`, `deleting`, `failed`, `conditions` or `resized` of another kind
abbrev pub item_has_other_kind : Data → Bool
item_has_other_kind d =
    (((is_of_other_kind (truth_of (field_at (codes "unsampled") d))
    || is_of_other_kind (truth_of (field_at (codes "deleting") d)))
    || is_no_reason (reason_member_of (field_at (codes "failed") d)))
    || are_no_statuses (conditions_of (field_at (codes "conditions") d)))
    || are_no_resizes (resized_of (field_at (codes "resized") d))

-- these items were read as entries, each of another pod that is present and none at fault, and this is shown of the
-- pods, with the extension's members read or not
pub record EntriesNoted (heeds : Bool) (roll : Roll) (at : ℕ) (ds : List Data) (slots : List (Option PodObs))
    : Type 0 where
  pub entries : List PlacedEntry
  pub read : each (entry_read heeds roll) ds ≡ Ok entries
  pub once : has_twice are_of_one_pod entries ≡ false
  pub apart : list_any repeats entries ≡ false
  pub coded : some_code_missing entries ≡ false
  pub known : list_any item_has_other_kind ds ≡ false
  pub present : All (λ e. is_present roll.departures e.pod ≡ true) entries
  pub noted : slots ≡ slots_from at entries 0 roll.pods
