use Rattle.std.proofs.Common.{◌≡◌, drop}
use Rattle.json.specs.Value.{items_view, members_view}
use Rattle.json_fields.specs.state.Borrowed.{items_are_plain, members_are_plain}
use Rattle.json_fields.proofs.borrowed.+is_plain.Given as goal

abbrev pub invariant-items_are_plain-loop-item : goal.invariant-items_are_plain-loop-item
invariant-items_are_plain-loop-item g l =
    items_are_plain (items_view (drop l.item-index l.item-items)) ≡ items_are_plain (items_view l.items.items)

abbrev pub invariant-members_are_plain-loop-member : goal.invariant-members_are_plain-loop-member
invariant-members_are_plain-loop-member g l =
    members_are_plain (members_view (drop l.member-index l.member-items))
    ≡ members_are_plain (members_view l.members.items)
