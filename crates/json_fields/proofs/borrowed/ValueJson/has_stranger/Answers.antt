use Rattle.std.proofs.Common.{◌∙◌, sym}
use Rattle.json.proofs.Trees.{view-Object}
use Rattle.json.specs.Value.{members_view}
use Rattle.json_fields.proofs.Strangers.{stranger_in_data}
use Rattle.json_fields.proofs.borrowed.ValueJson.has_stranger.Goals as goal

pub returns-in-Object : goal.returns-in-Object
returns-in-Object g c = rw (c.in-Object.is, view-Object c.in-Object.members)
    (c.has_last_stranger.ensures ∙ rw c.deref.ensures.value
    (sym (stranger_in_data (g.N.MemberNames.includes c.args.names.now) (members_view c.in-Object.members.items))))
