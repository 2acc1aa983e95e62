-- What the checks of a manifest look at, and the faults that they return. A value that is no object has no fields.
-- (Kubernetes API, `Pod`.)
use Rattle.std.specs.Prelude.{ℕ, nat_lt, ◌||◌, Bool, true, false, not, List, [], ◌∷◌}
use Rattle.std.specs.Prelude.{Option, Some, None, is_some, unwrap_or, option_and_then, if◌then◌else◌, Result, Ok, Err}
use Rattle.std.specs.Prelude.{bytes_eq, codes}
use Rattle.std.specs.List.{list_any}
use Rattle.quantity.specs.rule.Duration.{end_of_time}
use Rattle.serde_json.specs.Data.{Data, Items}
use Rattle.serde_json.specs.Find.{as_str, as_number, as_i64, as_u64, as_array, as_object}
use Rattle.json_fields.specs.rule.Fields.{field_at, text_at, items_list}
use Rattle.manifest_fields.specs.declared.fault.Field.{Field}
use Rattle.manifest_fields.specs.declared.fault.ManifestFault.{ManifestFault}
use Rattle.manifest_fields.specs.declared.fault.ManifestFault.TheVariants.{Missing, WrongKind, Sidecar}
use Rattle.manifest.specs.declared.outcome.ProbeKind.{ProbeKind}
use Rattle.manifest.specs.declared.outcome.ProbeKind.TheVariants.{Startup, Liveness, Readiness}
use Rattle.manifest.specs.declared.pod.Place.{Place}
use Rattle.manifest.specs.declared.pod.Place.TheVariants.{InitContainers, Containers}
use Rattle.manifest.specs.declared.resources.Amounts.{Amounts}
use Rattle.manifest.specs.declared.resources.Resource.{Resource}
use Rattle.manifest.specs.declared.resources.Resource.TheVariants.{Cpu, Memory, EphemeralStorage}
use Rattle.manifest.specs.rule.Resources.{some_above}
use Rattle.manifest_fields.specs.rule.ResourceFields.{quantity_at}
use Rattle.json_fields.specs.rule.Numbers.{max_int32, is_int32}
use Rattle.manifest_fields.specs.rule.ProbeFields.{number_of}

-- the fault of what was rejected
abbrev pub fault_of : {A : Type 0} → Result A ManifestFault → Option ManifestFault
fault_of (Ok x) = None
fault_of (Err fault) = Some fault

abbrev pub fails_if : Bool → ManifestFault → Option ManifestFault
fails_if test fault = if test then Some fault else None

-- a value that has to be so
abbrev pub is_so : (Data → Bool) → Field → Data → Option ManifestFault
is_so test field d = if test d then None else Some (WrongKind field)

-- a field that is required
abbrev pub must_be : (Data → Bool) → Field → Option Data → Option ManifestFault
must_be test field None = Some (Missing field)
must_be test field (Some d) = is_so test field d

-- a field that may be left out
abbrev pub may_be : (Data → Bool) → Field → Option Data → Option ManifestFault
may_be test field None = None
may_be test field (Some d) = is_so test field d

-- the field of this name in what was found
abbrev pub at : List ℕ → Option Data → Option Data
at name found = option_and_then (field_at name) found

-- kinds of value
abbrev pub is_some_and : {A : Type 0} → (A → Bool) → Option A → Bool
is_some_and test None = false
is_some_and test (Some x) = test x

abbrev pub is_object : Data → Bool
is_object d = is_some (as_object d)

abbrev pub is_array : Data → Bool
is_array d = is_some (as_array d)

abbrev pub is_text : (List ℕ → Bool) → Data → Bool
is_text test d = is_some_and test (as_str d)

abbrev pub is_policy : List ℕ → Bool
is_policy text = bytes_eq text (codes "Always") || bytes_eq text (codes "OnFailure") || bytes_eq text (codes "Never")

abbrev pub is_priority : Data → Bool
is_priority d = is_some_and is_int32 (option_and_then as_i64 (as_number d))

-- seconds before the end of time
abbrev pub is_grace_period : Data → Bool
is_grace_period d = is_some_and (λ n. nat_lt n end_of_time) (option_and_then as_u64 (as_number d))

abbrev pub items_from : Option Items → List Data
items_from None = []
items_from (Some items) = items_list items

-- the items of what was found, if it is an array
abbrev pub items_in : Option Data → List Data
items_in found = items_from (option_and_then as_array found)

abbrev pub is_empty : List Data → Bool
is_empty [] = true
is_empty (d ∷ ds) = false

-- the amount that was found, if it is a quantity
abbrev pub amount_read : Result (Option ℕ) ManifestFault → Option ℕ
amount_read (Ok amount) = amount
amount_read (Err fault) = None

abbrev pub amount_at : Resource → Option Data → Option Data
amount_at Cpu found = at (codes "cpu") found
amount_at Memory found = at (codes "memory") found
amount_at EphemeralStorage found = at (codes "ephemeral-storage") found

abbrev pub amounts_at : Option Data → Amounts
amounts_at found = record {
  cpu = amount_read (quantity_at (amount_at Cpu found));
  memory = amount_read (quantity_at (amount_at Memory found));
  ephemeral_storage = amount_read (quantity_at (amount_at EphemeralStorage found));
}

abbrev pub name_in : Data → List ℕ
name_in d = unwrap_or (text_at (codes "name") d) []

-- two of the names are one
abbrev pub has_double : List (List ℕ) → Bool
has_double [] = false
has_double (name ∷ names) = list_any (λ other. bytes_eq other name) names || has_double names

-- an item of `containers` has no restart policy of its own; one of `initContainers` has `Always`
-- alone, which makes it a sidecar
abbrev pub own_policy_fault : Place → Option Data → Option ManifestFault
own_policy_fault InitContainers None = None
own_policy_fault InitContainers (Some d) = fails_if (not (is_text (λ text. bytes_eq text (codes "Always")) d)) Sidecar
own_policy_fault Containers found = fails_if (is_some found) Sidecar

-- what the table looks at
abbrev pub in_metadata : List ℕ → Data → Option Data
in_metadata name d = at name (field_at (codes "metadata") d)

abbrev pub in_spec : List ℕ → Data → Option Data
in_spec name d = at name (field_at (codes "spec") d)

abbrev pub init_items : Data → List Data
init_items d = items_in (in_spec (codes "initContainers") d)

abbrev pub app_items : Data → List Data
app_items d = items_in (in_spec (codes "containers") d)

abbrev pub requests_in : Data → Option Data
requests_in item = at (codes "requests") (field_at (codes "resources") item)

abbrev pub limits_in : Data → Option Data
limits_in item = at (codes "limits") (field_at (codes "resources") item)

-- a request of the container is above its limit, both set
abbrev pub has_request_above_limit : Data → Bool
has_request_above_limit item = some_above (amounts_at (requests_in item)) (amounts_at (limits_in item))

abbrev pub probe_at : ProbeKind → Data → Option Data
probe_at Startup item = field_at (codes "startupProbe") item
probe_at Liveness item = field_at (codes "livenessProbe") item
probe_at Readiness item = field_at (codes "readinessProbe") item

-- one success is enough for startup and liveness
abbrev pub most_successes : ProbeKind → ℕ
most_successes Startup = 1
most_successes Liveness = 1
most_successes Readiness = max_int32

-- a number of a probe: its name, the least, the most, and its default
abbrev pub number_fault : Data → ProbeKind → List ℕ → ℕ → ℕ → ℕ → Option ManifestFault
number_fault item kind name least most default = fault_of (number_of least most default (at name (probe_at kind item)))
