-- The restart policy and the restart rules of a container's own, or the first fault of these, in the order in which
-- they are read (Kubernetes, "Pod Lifecycle", "Individual container restart policy and rules"; Kubernetes API,
-- `ContainerRestartRule`).
use Rattle.std.specs.Prelude.{ℕ, ℤ, ⊤, ◌&&◌, Bool, true, false, not, nat_lt, List, length, Option, Some, None, is_some}
use Rattle.std.specs.Prelude.{option_and_then, option_map, if◌then◌else◌, Result, Ok, Err, bytes_eq, codes}
use Rattle.serde_json.specs.Data.{Data}
use Rattle.serde_json.specs.Find.{as_str, as_number, as_i64}
use Rattle.json_fields.specs.rule.Fields.{field_at}
use Rattle.json_fields.specs.rule.Numbers.{is_int32}
use Rattle.json_fields.specs.rule.Reading.{◌>>=◌, refused_if, each}
use Rattle.manifest_fields.specs.declared.fault.Field.TheVariants as fields
use Rattle.manifest_fields.specs.declared.fault.ManifestFault.{ManifestFault}
use Rattle.manifest_fields.specs.declared.fault.ManifestFault.TheVariants.{Missing, WrongKind, TooMany, Sidecar}
use Rattle.manifest_fields.specs.rule.Fields.{object_of, array_of, array_or_none, some_items}
use Rattle.manifest.specs.declared.own_restarts.ExitCodeOperator.{ExitCodeOperator}
use Rattle.manifest.specs.declared.own_restarts.ExitCodeOperator.TheVariants.{In, NotIn}
use Rattle.manifest.specs.declared.own_restarts.RestartRule.{RestartRule}
use Rattle.manifest.specs.declared.own_restarts.OwnRestarts.{OwnRestarts}
use Rattle.manifest.specs.declared.pod.Place.{Place}
use Rattle.manifest.specs.declared.pod.Place.TheVariants.{InitContainers, Containers}
use Rattle.manifest.specs.declared.pod.Role.{Role}
use Rattle.manifest.specs.declared.pod.Role.TheVariants.{Init, Sidecar as IsSidecar, App}
use Rattle.manifest.specs.declared.policy.Policy.{Policy}
use Rattle.manifest.specs.declared.policy.Policy.TheVariants.{Always, OnFailure, Never}
use Rattle.manifest_reader.specs.rule.Policies.{policy_from}

-- a container has no more rules, a rule no more codes
abbrev pub most_rules : ℕ
most_rules = 20

abbrev pub most_codes : ℕ
most_codes = 255

-- the items, unless there are more than this many
abbrev pub at_most : ℕ → List Data → Result (List Data) ManifestFault
at_most most items = refused_if (nat_lt most (length items)) TooMany >>= λ within. Ok items

-- the one action that a rule may have
abbrev pub action_from : Option (List ℕ) → Result ⊤ ManifestFault
action_from None = Err (WrongKind fields.RestartRules)
action_from (Some text) = if bytes_eq text (codes "Restart") then Ok tt else Err (WrongKind fields.RestartRules)

abbrev pub action_of : Option Data → Result ⊤ ManifestFault
action_of None = Err (Missing fields.RestartRules)
action_of (Some d) = action_from (as_str d)

abbrev pub operator_from : Option (List ℕ) → Result ExitCodeOperator ManifestFault
operator_from None = Err (WrongKind fields.RestartRules)
operator_from (Some text) =
    if bytes_eq text (codes "In") then Ok In
    else (if bytes_eq text (codes "NotIn") then Ok NotIn else Err (WrongKind fields.RestartRules))

abbrev pub operator_of : Option Data → Result ExitCodeOperator ManifestFault
operator_of None = Err (Missing fields.RestartRules)
operator_of (Some d) = operator_from (as_str d)

-- an exit code: a whole number of 32 bits
abbrev pub code_from : Option ℤ → Result ℤ ManifestFault
code_from None = Err (WrongKind fields.RestartRules)
code_from (Some z) = if is_int32 z then Ok z else Err (WrongKind fields.RestartRules)

abbrev pub code_of : Data → Result ℤ ManifestFault
code_of d = code_from (option_and_then as_i64 (as_number d))

-- the codes of a rule, unread: at least one
unfoldable pub code_items_of : Option Data → Result (List Data) ManifestFault
code_items_of found = do
  listed ← array_of fields.RestartRules found
  some ← some_items fields.RestartRules listed
  at_most most_codes some

-- the part of a rule that decides
unfoldable pub exit_codes_of : Data → Result Data ManifestFault
exit_codes_of d = do
  rule ← object_of fields.RestartRules (Some d)
  restarts ← action_of (field_at (codes "action") rule)
  object_of fields.RestartRules (field_at (codes "exitCodes") rule)

-- one rule
unfoldable pub rule_of : Data → Result RestartRule ManifestFault
rule_of d = do
  exit_codes ← exit_codes_of d
  operator ← operator_of (field_at (codes "operator") exit_codes)
  items ← code_items_of (field_at (codes "values") exit_codes)
  values ← each code_of items
  Ok (record { operator = operator; values = values })

-- the rules of a container, unread
unfoldable pub rule_items_of : Option Data → Result (List Data) ManifestFault
rule_items_of found = do
  listed ← array_or_none fields.RestartRules found
  at_most most_rules listed

-- a container's own policy, which may be left out
abbrev pub own_policy_of : Option Data → Result (Option Policy) ManifestFault
own_policy_of None = Ok None
own_policy_of (Some d) = policy_from (as_str d) >>= λ policy. Ok (Some policy)

-- an item of `initContainers` with this policy of its own
abbrev pub init_with : Option Policy → Role
init_with None = Init
init_with (Some Always) = IsSidecar
init_with (Some OnFailure) = Init
init_with (Some Never) = Init

-- what a container with this policy of its own is to its pod
abbrev pub role_with : Place → Option Policy → Role
role_with InitContainers policy = init_with policy
role_with Containers policy = App

-- a container of this role and with this policy of its own may have rules: it has a policy, and is no sidecar
abbrev pub may_have_rules : Role → Option Policy → Bool
may_have_rules IsSidecar policy = false
may_have_rules Init policy = is_some policy
may_have_rules App policy = is_some policy

-- what it has of its own
abbrev pub own_with : Role → Option Policy → List RestartRule → Option OwnRestarts
own_with IsSidecar policy rules = None
own_with Init policy rules = option_map (λ p. record { policy = p; rules = rules }) policy
own_with App policy rules = option_map (λ p. record { policy = p; rules = rules }) policy

-- a container of this role, with its fields
unfoldable pub restarts_of : Role → Data → Result (Option OwnRestarts) ManifestFault
restarts_of role container = do
  policy ← own_policy_of (field_at (codes "restartPolicy") container)
  items ← rule_items_of (field_at (codes "restartPolicyRules") container)
  rules ← each rule_of items
  may_have ← refused_if (nat_lt 0 (length items) && not (may_have_rules role policy)) Sidecar
  Ok (own_with role policy rules)
