-- What a node line and a tick line have by themselves, with the fault as the kind of a line's.
use Rattle.std.specs.Prelude.{ℕ, ◌==◌, ◌&&◌, ◌||◌, option_and_then, Bool, true, false, List, Option, Some, None, Result}
use Rattle.std.specs.Prelude.{Ok}
use Rattle.std.specs.Prelude.{Err, codes}
use Rattle.std.specs.List.{list_any}
use Rattle.serde_json.specs.Data.{Data}
use Rattle.json_fields.specs.rule.Fields.{field_at}
use Rattle.json_fields.specs.rule.Reading.{◌>>=◌, refused_if}
use Rattle.node_config.specs.declared.node.Format.{Format}
use Rattle.node_config.specs.declared.node.Format.TheVariants.{Standard, Extended}
use Rattle.node_config.specs.declared.node.NodeConfig.{NodeConfig}
use Rattle.node_lines.specs.declared.fault.NodeFault.{NodeFault}
use Rattle.node_lines.specs.rule.Node.{whole_number, node_of}
use Rattle.tick_lines.specs.declared.conditions.ConditionsMember.{ConditionsMember}
use Rattle.tick_lines.specs.declared.conditions.ConditionsMember.TheVariants as conditions
use Rattle.tick_lines.specs.declared.resizes.ResizedMember.{ResizedMember}
use Rattle.tick_lines.specs.declared.resizes.ResizedMember.TheVariants as resized
use Rattle.tick_lines.specs.declared.entry.TickEntry.{TickEntry}
use Rattle.tick_lines.specs.declared.fault.TickLineFault.{TickLineFault}
use Rattle.tick_lines.specs.declared.line.TickLine.{TickLine}
use Rattle.tick_lines.specs.declared.reason.ReasonMember.{ReasonMember}
use Rattle.tick_lines.specs.declared.reason.ReasonMember.TheVariants as reasons
use Rattle.tick_lines.specs.declared.truth.TruthMember.{TruthMember}
use Rattle.tick_lines.specs.declared.truth.TruthMember.TheVariants.{No, Yes, OfOtherKind}
use Rattle.tick_lines.specs.rule.Line.{tick_line_of}
use Rattle.line_faults.specs.declared.fault.FaultKind.{FaultKind}
use Rattle.line_faults.specs.declared.fault.FaultKind.TheVariants.{Config, Usage}
use Rattle.line_faults.specs.rule.Faults.{kind_of_node_fault, kind_of_tick_fault}

abbrev pub of_node_line : {A : Type 0} → Result A NodeFault → Result A FaultKind
of_node_line (Ok x) = Ok x
of_node_line (Err fault) = Err (kind_of_node_fault fault)

abbrev pub of_tick_line : {A : Type 0} → Result A TickLineFault → Result A FaultKind
of_tick_line (Ok x) = Ok x
of_tick_line (Err fault) = Err (kind_of_tick_fault fault)

abbrev pub is_three : Option ℕ → Bool
is_three None = false
is_three (Some n) = n == 3

-- the line has version 3, which is not in the standard format
abbrev pub is_foreign : Format → Data → Bool
is_foreign Standard d = is_three (option_and_then whole_number (field_at (codes "version") d))
is_foreign Extended d = false

-- the node of a node line
abbrev pub node_in : Format → Data → Result NodeConfig FaultKind
node_in format d = refused_if (is_foreign format d) Config >>= λ known. of_node_line (node_of d)

abbrev pub is_of_other_kind : TruthMember → Bool
is_of_other_kind No = false
is_of_other_kind Yes = false
is_of_other_kind OfOtherKind = true

abbrev pub is_no_reason : ReasonMember → Bool
is_no_reason reasons.Missing = false
is_no_reason (reasons.Reason reason) = false
is_no_reason reasons.OfOtherKind = true

abbrev pub are_no_statuses : ConditionsMember → Bool
are_no_statuses conditions.Missing = false
are_no_statuses (conditions.Statuses statuses) = false
are_no_statuses conditions.OfOtherKind = true

abbrev pub are_no_resizes : ResizedMember → Bool
are_no_resizes resized.Missing = false
are_no_resizes (resized.Resizes resizes) = false
are_no_resizes resized.OfOtherKind = true

-- an entry has a member `unsampled` or `deleting` of another kind than a truth value, a member `failed` that is neither
-- null nor a reason, a member `conditions` that is neither null nor an object of true, false and null, or a member
-- `resized` that is neither null nor an object of requests and limits
abbrev pub is_of_no_kind : TickEntry → Bool
is_of_no_kind e =
    (((is_of_other_kind e.unsampled || is_of_other_kind e.deleting) || is_no_reason e.failed)
    || are_no_statuses e.conditions) || are_no_resizes e.resized

abbrev pub has_other_kind : List TickEntry → Bool
has_other_kind entries = list_any is_of_no_kind entries

-- one of these, or the line's member `judged`, is of another kind
abbrev pub line_has_other_kind : TickLine → Bool
line_has_other_kind written = is_of_other_kind written.unjudged || has_other_kind written.entries

-- if the version reads these members, one of another kind is a fault, once the whole line is read
abbrev pub heeded : Bool → TickLine → Result TickLine FaultKind
heeded heeds written = refused_if (heeds && line_has_other_kind written) Usage >>= λ known. Ok written

-- what a tick line has except its moment, from what was read of the line by itself
abbrev pub written_in : Bool → Result TickLine TickLineFault → Result TickLine FaultKind
written_in heeds said = of_tick_line said >>= heeded heeds

-- what a tick line has except its moment
abbrev pub tick_line_in : Bool → Data → Result TickLine FaultKind
tick_line_in heeds d = written_in heeds (tick_line_of d)
