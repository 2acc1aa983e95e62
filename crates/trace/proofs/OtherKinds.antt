-- The members of a line's entries that are of another kind are those of its items.
use Rattle.std.proofs.Common.{◌≡◌, ◌∙◌, ◌||◌, Bool, false, List, [], ◌∷◌, Ok}
use Rattle.std.proofs.Common.{ap, sym}
use Rattle.std.specs.List.{list_any}
use Rattle.std.specs.Prelude.{codes}
use Rattle.json_fields.specs.rule.Fields.{field_at}
use Rattle.json_fields.specs.rule.Reading.{◌>>=◌, each}
use Rattle.json_fields.proofs.Only.{same_value}
use Rattle.json_fields.proofs.Steps.{bind_ok}
use Rattle.serde_json.specs.Data.{Data}
use Rattle.tick_lines.specs.declared.entry.TickEntry.{TickEntry}
use Rattle.tick_lines.specs.declared.fault.TickLineFault.{TickLineFault}
use Rattle.tick_lines.specs.declared.reason.ReasonMember.{ReasonMember}
use Rattle.tick_lines.specs.declared.truth.TruthMember.{TruthMember}
use Rattle.tick_lines.specs.declared.conditions.ConditionsMember.{ConditionsMember}
use Rattle.tick_lines.specs.rule.Conditions.{conditions_of}
use Rattle.tick_lines.specs.declared.resizes.ResizedMember.{ResizedMember}
use Rattle.tick_lines.specs.rule.Resizes.{resized_of}
use Rattle.tick_lines.specs.rule.Entries.{entry_of}
use Rattle.tick_lines.specs.rule.Reasons.{reason_member_of}
use Rattle.tick_lines.specs.rule.Truths.{truth_of}
use Rattle.tick_lines.proofs.Parts.{entry_parts}
use Rattle.trace.specs.rule.Written.{is_of_other_kind, is_no_reason, are_no_statuses, are_no_resizes, is_of_no_kind}
use Rattle.trace.specs.rule.Written.{has_other_kind}
use Rattle.trace.specs.state.Tape.{item_has_other_kind}

members_alike : (ds : List Data) (es : List TickEntry) → each entry_of ds ≡ Ok es
    → list_any item_has_other_kind ds ≡ has_other_kind es
members_alike [] es e =
    ap has_other_kind (same_value {E = TickLineFault} [] es e)
members_alike (d ∷ ds) es e =
    let one = bind_ok (entry_of d) (λ y. each entry_of ds >>= λ ys. Ok (y ∷ ys)) es e in
    let rest = bind_ok (each entry_of ds) (λ ys. Ok (one.0 ∷ ys)) es one.2 in
    let parts = entry_parts d one.0 one.1 in
    let deleting = truth_of (field_at (codes "deleting") d) in
    let failed = reason_member_of (field_at (codes "failed") d) in
    let conditions = conditions_of (field_at (codes "conditions") d) in
    let resized = resized_of (field_at (codes "resized") d) in
    let Any : TruthMember → TruthMember → ReasonMember → ConditionsMember → ResizedMember → Bool =
    λ first second third fourth fifth. ((((is_of_other_kind first || is_of_other_kind second) || is_no_reason third)
    || are_no_statuses fourth) || are_no_resizes fifth) || list_any item_has_other_kind ds in
    ap (λ (first : TruthMember). Any first deleting failed conditions resized) parts.unsampled
    ∙ ap (λ (second : TruthMember). Any one.0.unsampled second failed conditions resized) parts.deleting
    ∙ ap (λ (third : ReasonMember). Any one.0.unsampled one.0.deleting third conditions resized) parts.failed
    ∙ ap (λ (fourth : ConditionsMember). Any one.0.unsampled one.0.deleting one.0.failed fourth resized)
    parts.conditions
    ∙ ap (λ (fifth : ResizedMember). Any one.0.unsampled one.0.deleting one.0.failed one.0.conditions fifth)
    parts.resized
    ∙ ap (λ (others : Bool). is_of_no_kind one.0 || others) (members_alike ds rest.0 rest.1)
    ∙ ap has_other_kind (same_value {E = TickLineFault} (one.0 ∷ rest.0) es rest.2)

pub entries_of_kind : (ds : List Data) (es : List TickEntry) → each entry_of ds ≡ Ok es
    → list_any item_has_other_kind ds ≡ false → has_other_kind es ≡ false
entries_of_kind ds es e known = sym (members_alike ds es e) ∙ known
