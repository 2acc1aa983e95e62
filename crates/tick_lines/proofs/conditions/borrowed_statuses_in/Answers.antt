use Rattle.std.proofs.Common.{◌≡◌, subst}
use Rattle.std.specs.Prelude.{IfOk}
use Rattle.json.proofs.Trees.{view-Object}
use Rattle.json.specs.Json as json
use Rattle.json.specs.Value.{members_view}
use Rattle.json_fields.specs.state.Borrowed.{data_of}
use Rattle.tick_lines.specs.state.Conditions.{if_statuses}
use Rattle.tick_lines.proofs.conditions.borrowed_statuses_in.Goals as goal

pub returns-in-Object : goal.returns-in-Object
returns-in-Object g c = rw (c.in-Object.is, view-Object c.in-Object.members)
    (subst (λ ms. IfOk c.object_of.result (λ found. found
    ≡ if_statuses (data_of (json.object (members_view ms))))) c.deref.ensures.value c.object_of.ensures)
