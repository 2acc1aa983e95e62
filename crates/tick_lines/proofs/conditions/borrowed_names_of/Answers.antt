use Rattle.std.proofs.Common.{◌≡◌, ◌∙◌, IfOk, map, string_bytes, subst}
use Rattle.json.specs.Value.{members_view as borrowed_members_view}
use Rattle.tick_lines.specs.state.Conditions.{given_data, given_members}
use Rattle.tick_lines.proofs.Statuses.{keys_are_names, borrowed_names}
use Rattle.tick_lines.proofs.conditions.borrowed_names_of.Goals as goal

pub returns : goal.returns
returns g c =
    subst (λ ks. IfOk c.keys_of.result (λ names. map string_bytes names.items ≡ ks))
    (keys_are_names given_data c.in_ok-noted.noted.entries
    ∙ borrowed_names (borrowed_members_view c.args.members.now) (given_members c.in_ok-noted.noted.entries)
    c.in_ok-noted.ensures) c.keys_of.ensures
