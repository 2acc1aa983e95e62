use Rattle.std.proofs.Common.{◌≡◌, IfOk, map, string_bytes, subst}
use Rattle.serde_json.specs.View.{view}
use Rattle.tick_lines.proofs.Statuses.{keys_are_names}
use Rattle.tick_lines.proofs.resizes.names_of.Goals as goal

pub returns : goal.returns
returns c =
    subst (λ ks. IfOk c.keys_of.result (λ names. map string_bytes names.items ≡ ks))
    (keys_are_names view c.args.members.now.entries) c.keys_of.ensures
