use Rattle.std.proofs.Common.{◌≡◌, map, subst}
use Rattle.std.specs.Prelude.{IfOk, string_bytes}
use Rattle.json.proofs.Trees.{view-Object}
use Rattle.json.specs.Json as json
use Rattle.json.specs.Value.{members_view}
use Rattle.json_fields.specs.state.Borrowed.{data_of}
use Rattle.serde_json.specs.Find.{as_object}
use Rattle.tick_lines.specs.rule.Resizes.{names_from}
use Rattle.tick_lines.proofs.conditions.borrowed_names_in.Goals as goal

pub returns-in-Object : goal.returns-in-Object
returns-in-Object g c = rw (c.in-Object.is, view-Object c.in-Object.members)
    (subst (λ ms. IfOk c.borrowed_names_of.result (λ names. map string_bytes names.items
    ≡ names_from (as_object (data_of (json.object (members_view ms)))))) c.deref.ensures.value
    c.borrowed_names_of.ensures)
