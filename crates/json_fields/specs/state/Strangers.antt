-- Members that an object should not have, looked for among some of them.
use Rattle.std.specs.Prelude.{ℕ, Bool, false, List, Option, Some, None}
use Rattle.serde_json.specs.Data.{Members}
use Rattle.json_fields.specs.rule.Strangers.{has_stranger}

abbrev pub has_stranger_in : (List ℕ → Bool) → Option Members → Bool
has_stranger_in includes None = false
has_stranger_in includes (Some members) = has_stranger includes members
