-- Each step of reading a manifest has the rows of the table that its check has.
use Rattle.std.proofs.Common.{◌≡◌, ◌∙◌, ℕ, ℤ, ◌+◌, Bool, true, false, not, ◌||◌, List, [], ◌∷◌, ◌++◌, map}
use Rattle.std.proofs.Common.{length, Option, Some, None, is_some, Result, Ok, Err, refl, ap, sym, bytes_eq}
use Rattle.std.specs.Prelude.{if◌then◌else◌, option_and_then, unwrap_or, codes, nat_lt}
use Rattle.std.specs.List.{flat_map, list_any}
use Rattle.serde_json.specs.Data.{Data, Items}
use Rattle.serde_json.specs.Find.{as_str, as_number, as_i64, as_u64, as_array, as_object}
use Rattle.quantity.specs.rule.Duration.{end_of_time}
use Rattle.json_fields.specs.rule.Fields.{field_at, items_list}
use Rattle.json_fields.specs.rule.Reading.{◌>>=◌, refused_if, each}
use Rattle.json_fields.proofs.Steps.{bind_ok}
use Rattle.manifest_fields.specs.declared.fault.Field.{Field}
use Rattle.manifest_fields.specs.declared.fault.Field.TheVariants as fields
use Rattle.manifest_fields.specs.declared.fault.ManifestFault.{ManifestFault}
use Rattle.manifest_fields.specs.declared.fault.ManifestFault.TheVariants.{Missing, WrongKind, InitProbe}
use Rattle.manifest_fields.specs.declared.fault.ManifestFault.TheVariants.{RequestAboveLimit, DuplicateContainer}
use Rattle.manifest_fields.specs.declared.fault.ManifestFault.TheVariants.{TooMany}
use Rattle.manifest_fields.specs.declared.fault.ManifestFault.TheVariants as faults
use Rattle.manifest.specs.declared.policy.Policy.TheVariants.{Always, OnFailure, Never}
use Rattle.manifest.specs.declared.pod.Role.{Role}
use Rattle.manifest.specs.declared.pod.Role.TheVariants.{Init, Sidecar, App}
use Rattle.manifest.specs.declared.pod.ContainerSpec.{ContainerSpec}
use Rattle.manifest.specs.declared.pod.Place.{Place}
use Rattle.manifest.specs.declared.pod.Place.TheVariants.{InitContainers, Containers}
use Rattle.manifest.specs.declared.resources.Amounts.{Amounts}
use Rattle.manifest.specs.rule.Names.{is_name, is_label}
use Rattle.manifest.specs.rule.Containers.{names_of, has_twice, most_containers}
use Rattle.manifest_fields.specs.rule.Fields.{object_of, tested_text, required_text, text_or, items_or, array_or_none}
use Rattle.manifest_fields.specs.rule.Fields.{some_items}
use Rattle.manifest.specs.rule.Resources.{some_above}
use Rattle.manifest_fields.specs.rule.ResourceFields.{quantity_at, amounts_in, amounts_of, resources_in, resources_of}
use Rattle.json_fields.specs.rule.Numbers.{max_int32, is_int32}
use Rattle.manifest_fields.specs.rule.ProbeFields.{number_of, probe_in, probe_of, some_probes, unprobed, probes_of}
use Rattle.manifest_reader.specs.rule.Policies.{policy_from}
use Rattle.manifest_reader.specs.rule.Manifest.{policy_of, priority_from, priority_of, grace_period_from}
use Rattle.manifest_reader.specs.rule.Manifest.{grace_period_of, field_of, sidecar_from, role_of, container_of}
use Rattle.manifest_reader.specs.rule.Manifest.{containers_of, app_items_of, containers_in, metadata_of, settings_in}
use Rattle.manifest_reader.specs.rule.Manifest.{role_by, restarts_by, spec_of, pod_in, pod_at}
use Rattle.manifest_reader.specs.state.Found.{fault_of, fails_if, is_so, must_be, may_be, is_some_and, is_object}
use Rattle.manifest_reader.specs.state.Found.{is_array}
use Rattle.manifest_reader.specs.state.Found.{is_text, is_policy, is_priority, is_grace_period, items_from, items_in}
use Rattle.manifest_reader.specs.state.Found.{is_empty, amount_read, amounts_at, own_policy_fault, name_in}
use Rattle.manifest_reader.specs.state.Found.{has_double}
use Rattle.manifest_reader.proofs.FoundRows.{amount_rows, resource_rows, probe_rows, some_probes_rows, unprobed_rows}
use Rattle.manifest_reader.proofs.FoundRows.{probes_rows, container_rows, containers_rows, metadata_rows, spec_rows}
use Rattle.manifest_reader.proofs.FoundRows.{rows_of}
use Rattle.manifest_reader.proofs.Rows.{Row, first, Reads, read, step, step_row, last_step, fault_if, refused}
use Rattle.manifest_reader.proofs.Rows.{each_rows}

object_step : {B : Type 0} (field : Field) (d : Data) (f : Data → Result B ManifestFault) (rest : List Row)
    → Reads (f d) rest
    → Reads (object_of field (Some d) >>= f) (is_so is_object field d ∷ rest)
object_step {B = B} field d f rest later = record { same = there (is_some (as_object d)) }
  where
    there : (b : Bool) → fault_of ((if b then Ok d else Err (WrongKind field)) >>= f) ≡ first
        ((if b then None else Some (WrongKind field)) ∷ rest)
    there true = later.same
    there false = refl

object_row : (field : Field) (found : Option Data) → fault_of (object_of field found) ≡ must_be is_object field found
object_row field None = refl
object_row field (Some d) = fault_if (is_some (as_object d)) d (WrongKind field)

-- texts
tested_row : (test : List ℕ → Bool) (field : Field) (found : Option (List ℕ))
    → fault_of (tested_text test field found) ≡ (if is_some_and test found then None else Some (WrongKind field))
tested_row test field None = refl
tested_row test field (Some s) = fault_if (test s) s (WrongKind field)

required_row : (test : List ℕ → Bool) (field : Field) (found : Option Data)
    → fault_of (required_text test field found) ≡ must_be (is_text test) field found
required_row test field None = refl
required_row test field (Some d) = tested_row test field (as_str d)

text_row : (default : List ℕ) (test : List ℕ → Bool) (field : Field) (found : Option Data)
    → fault_of (text_or default test field found) ≡ may_be (is_text test) field found
text_row default test field None = refl
text_row default test field (Some d) = tested_row test field (as_str d)

-- arrays
array_step : {B : Type 0} (field : Field) (found : Option Data) (f : List Data → Result B ManifestFault)
    (rest : List Row) → Reads (f (items_in found)) rest
    → Reads (array_or_none field found >>= f) (may_be is_array field found ∷ rest)
array_step field None f rest later = record { same = later.same }
array_step {B = B} field (Some d) f rest later = record { same = there (as_array d) later.same }
  where
    there : (o : Option Items) → fault_of (f (items_from o)) ≡ first rest
        → fault_of (items_or field o >>= f) ≡ first ((if is_some o then None else Some (WrongKind field)) ∷ rest)
    there None given = refl
    there (Some items) given = given

items_step : {B : Type 0} (found : Option Data) (f : List Data → Result B ManifestFault) (rest : List Row)
    → Reads (f (items_in found)) rest
    → Reads (app_items_of found >>= f)
    (must_be is_array fields.Containers found ∷ fails_if (is_empty (items_in found))
    (Missing fields.Containers) ∷ rest)
unfolding app_items_of
items_step None f rest later = record { same = refl }
items_step {B = B} (Some d) f rest later = record { same = there (as_array d) later.same }
  where
    some : (ds : List Data) → fault_of (f ds) ≡ first rest
        → fault_of (some_items fields.Containers ds >>= f) ≡ first
        (fails_if (is_empty ds) (Missing fields.Containers) ∷ rest)
    some [] given = refl
    some (x ∷ xs) given = given

    there : (o : Option Items) → fault_of (f (items_from o)) ≡ first rest
        → fault_of ((items_or fields.Containers o >>= λ listed. some_items fields.Containers listed) >>= f)
        ≡ first ((if is_some o then None else Some (WrongKind fields.Containers)) ∷ fails_if (is_empty (items_from o))
        (Missing fields.Containers) ∷ rest)
    there None given = refl
    there (Some items) given = some (items_list items) given

-- settings
policy_from_row : (found : Option (List ℕ))
    → fault_of (policy_from found) ≡ (if is_some_and is_policy found then None else Some
    (WrongKind fields.RestartPolicy))
policy_from_row None = refl
policy_from_row (Some text) = there (bytes_eq text (codes "Always")) (bytes_eq text (codes "OnFailure"))
    (bytes_eq text (codes "Never"))
  where
    there : (a b c : Bool)
        → fault_of (if a then Ok Always else
        (if b then Ok OnFailure else (if c then Ok Never else Err (WrongKind fields.RestartPolicy))))
        ≡ (if a || b || c then None else Some (WrongKind fields.RestartPolicy))
    there true b c = refl
    there false true c = refl
    there false false true = refl
    there false false false = refl

policy_row : (found : Option Data) → fault_of (policy_of found) ≡ may_be (is_text is_policy) fields.RestartPolicy found
policy_row None = refl
policy_row (Some d) = policy_from_row (as_str d)

priority_row : (found : Option Data) → fault_of (priority_of found) ≡ may_be is_priority fields.Priority found
priority_row None = refl
priority_row (Some d) = there (option_and_then as_i64 (as_number d))
  where
    there : (o : Option ℤ) → fault_of (priority_from o)
        ≡ (if is_some_and is_int32 o then None else Some (WrongKind fields.Priority))
    there None = refl
    there (Some z) = fault_if (is_int32 z) z (WrongKind fields.Priority)

grace_period_row : (found : Option Data) → fault_of (grace_period_of found) ≡ may_be is_grace_period
    fields.GracePeriod found
grace_period_row None = refl
grace_period_row (Some d) = there (option_and_then as_u64 (as_number d))
  where
    there : (o : Option ℕ)
        → fault_of (grace_period_from o) ≡ (if is_some_and (λ n. nat_lt n end_of_time) o then None else Some
        (WrongKind fields.GracePeriod))
    there None = refl
    there (Some n) = fault_if (nat_lt n end_of_time) n (WrongKind fields.GracePeriod)

abbrev setting_rows : Data → List Row
setting_rows spec =
    may_be (is_text is_policy) fields.RestartPolicy (field_at (codes "restartPolicy") spec)
    ∷ may_be is_priority fields.Priority (field_at (codes "priority") spec)
    ∷ may_be is_grace_period fields.GracePeriod (field_at (codes "terminationGracePeriodSeconds") spec)
    ∷ []

settings_read : (spec : Data) → Reads (settings_in spec) (setting_rows spec)
unfolding settings_in
settings_read spec =
    step_row _ _ _ _ (policy_row (field_at (codes "restartPolicy") spec)) (λ p e.
    step_row _ _ _ _ (priority_row (field_at (codes "priority") spec)) (λ n f.
    step_row _ _ _ _ (grace_period_row (field_at (codes "terminationGracePeriodSeconds") spec)) (λ seconds g. read _)))

-- resources
amount_given : (found : Option Data) (amount : Option ℕ) → quantity_at found ≡ Ok amount
    → amount_read (quantity_at found) ≡ amount
amount_given found amount e = ap amount_read e

amounts_in_read : (d : Data) → Reads (amounts_in d) (amount_rows (Some d))
unfolding amounts_in
amounts_in_read d =
    object_step fields.Resources d _ _ (
    step_row (quantity_at (field_at (codes "cpu") d)) _ _ _ refl (λ cpu e.
    step_row (quantity_at (field_at (codes "memory") d)) _ _ _ refl (λ memory f.
    step_row (quantity_at (field_at (codes "ephemeral-storage") d)) _ _ _ refl (λ storage g. read _))))

amounts_read : (found : Option Data) → Reads (amounts_of found) (amount_rows found)
amounts_read None = record { same = refl }
amounts_read (Some d) = amounts_in_read d

object_same : (field : Field) (d x : Data) → object_of field (Some d) ≡ Ok x → x ≡ d
object_same field d x = there (is_some (as_object d))
  where
    there : (b : Bool) → (if b then Ok d else Err (WrongKind field)) ≡ Ok x → x ≡ d
    there true e = cc
    there false e = absurd (cc)

amounts_in_given : (d : Data) (amounts : Amounts) → amounts_in d ≡ Ok amounts → amounts ≡ amounts_at (Some d)
unfolding amounts_in
amounts_in_given d amounts e =
    let object = bind_ok (object_of fields.Resources (Some d)) _ amounts e in
    let same = object_same fields.Resources d object.0 object.1 in
    let cpu = bind_ok (quantity_at (field_at (codes "cpu") object.0)) _ amounts object.2 in
    let memory = bind_ok (quantity_at (field_at (codes "memory") object.0)) _ amounts cpu.2 in
    let storage = bind_ok (quantity_at (field_at (codes "ephemeral-storage") object.0)) _ amounts memory.2 in
    let is : record { cpu = cpu.0; memory = memory.0; ephemeral_storage = storage.0 } ≡ amounts =
    same_value storage.2 in
    let read : Data → Amounts = λ x. amounts_at (Some x) in
    sym is ∙ made (amount_given _ cpu.0 cpu.1) (amount_given _ memory.0 memory.1) (amount_given _ storage.0 storage.1)
    ∙ ap read same
  where
    same_value : {A : Type 0} {a b : A} → ◌≡◌ {A = Result A ManifestFault} (Ok a) (Ok b) → a ≡ b
    same_value e = cc

    made : {a a' b b' c c' : Option ℕ} → a' ≡ a → b' ≡ b → c' ≡ c
        → ◌≡◌ {A = Amounts} (record { cpu = a; memory = b; ephemeral_storage = c })
        (record { cpu = a'; memory = b'; ephemeral_storage = c' })
    made e f g = rw (e, f, g) refl

amounts_given : (found : Option Data) (amounts : Amounts) → amounts_of found ≡ Ok amounts → amounts ≡ amounts_at found
amounts_given None amounts e = cc
amounts_given (Some d) amounts e = amounts_in_given d amounts e

resources_in_read : (d : Data) → Reads (resources_in d) (resource_rows (Some d))
unfolding resources_in
resources_in_read d =
    let requests = field_at (codes "requests") d in
    let limits = field_at (codes "limits") d in
    object_step fields.Resources d _ _ (
    step (amounts_of requests) _ (amount_rows requests) _ (amounts_read requests) (λ r e.
    step (amounts_of limits) _ (amount_rows limits) _ (amounts_read limits) (λ l f.
    step_row (refused_if (some_above r l) RequestAboveLimit) _ _ _
    (refused (some_above r l) RequestAboveLimit ∙ ap (λ (b : Bool). fails_if b RequestAboveLimit)
    (above r l (amounts_given requests r e) (amounts_given limits l f))) (λ u g. read _))))
  where
    above : (r l : Amounts) {r' l' : Amounts} → r ≡ r' → l ≡ l' → some_above r l ≡ some_above r' l'
    above r l e f = rw (e, f) refl

resources_read : (found : Option Data) → Reads (resources_of found) (resource_rows found)
resources_read None = record { same = refl }
resources_read (Some d) = resources_in_read d

-- probes
probe_in_read : (most_successes : ℕ) (d : Data) → Reads (probe_in most_successes d) (probe_rows most_successes (Some d))
unfolding probe_in
probe_in_read most_successes d =
    object_step fields.Probe d _ _ (
    step_row (number_of 0 max_int32 0 (field_at (codes "initialDelaySeconds") d)) _ _ _ refl (λ initial_delay e.
    step_row (number_of 1 max_int32 10 (field_at (codes "periodSeconds") d)) _ _ _ refl (λ period f.
    step_row (number_of 1 max_int32 1 (field_at (codes "timeoutSeconds") d)) _ _ _ refl (λ timeout g.
    step_row (number_of 1 most_successes 1 (field_at (codes "successThreshold") d)) _ _ _ refl (λ successes h.
    step_row (number_of 1 max_int32 3 (field_at (codes "failureThreshold") d)) _ _ _ refl (λ failures i. read _))))))

probe_read : (most_successes : ℕ) (found : Option Data) → Reads (probe_of most_successes found)
    (probe_rows most_successes found)
probe_read most_successes None = record { same = refl }
probe_read most_successes (Some d) = last_step (probe_in most_successes d) (λ p. Some p)
    (probe_rows most_successes (Some d)) (probe_in_read most_successes d)

some_probes_read : (d : Data) → Reads (some_probes d) (some_probes_rows d)
unfolding some_probes
some_probes_read d =
    step _ _ _ _ (probe_read 1 (field_at (codes "startupProbe") d)) (λ s e.
    step _ _ _ _ (probe_read 1 (field_at (codes "livenessProbe") d)) (λ l f.
    last_step _ _ _ (probe_read max_int32 (field_at (codes "readinessProbe") d))))

unprobed_read : (d : Data) → Reads (unprobed d) (unprobed_rows d)
unfolding unprobed
unprobed_read d =
    step_row _ _ _ _ (refused (is_some (field_at (codes "startupProbe") d)) InitProbe) (λ s e.
    step_row _ _ _ _ (refused (is_some (field_at (codes "livenessProbe") d)) InitProbe) (λ l f.
    step_row _ _ _ _ (refused (is_some (field_at (codes "readinessProbe") d)) InitProbe) (λ r g. read _)))

-- containers
sidecar_row : (found : Option (List ℕ)) → fault_of (sidecar_from found) ≡ fails_if
    (not (is_some_and (λ text. bytes_eq text (codes "Always")) found)) faults.Sidecar
sidecar_row None = refl
sidecar_row (Some text) = there (bytes_eq text (codes "Always"))
  where
    there : (b : Bool) → fault_of (if b then Ok Sidecar else Err faults.Sidecar) ≡ fails_if (not b) faults.Sidecar
    there true = refl
    there false = refl

role_row : (place : Place) (found : Option Data) → fault_of (role_of place found) ≡ own_policy_fault place found
role_row InitContainers None = refl
role_row InitContainers (Some d) = sidecar_row (as_str d)
role_row Containers None = refl
role_row Containers (Some d) = refl

is_sidecar : (found : Option (List ℕ)) (role : Role) → sidecar_from found ≡ Ok role → role ≡ Sidecar
is_sidecar None role e = absurd (cc)
is_sidecar (Some text) role e = there (bytes_eq text (codes "Always")) e
  where
    there : (b : Bool) → (if b then Ok Sidecar else Err faults.Sidecar) ≡ Ok role → role ≡ Sidecar
    there true e = cc
    there false e = absurd (cc)

probes_read : (place : Place) (own_policy : Option Data) (role : Role) (d : Data) → role_of place own_policy ≡ Ok role
    → Reads (probes_of role d) (probes_rows place own_policy d)
probes_read InitContainers None role d e = let is : role ≡ Init = cc in rw is (unprobed_read d)
probes_read InitContainers (Some policy) role d e = rw (is_sidecar (as_str policy) role e) (some_probes_read d)
probes_read Containers None role d e = let is : role ≡ App = cc in rw is (some_probes_read d)
probes_read Containers (Some policy) role d e = absurd (cc)

container_read : (place : Place) (d : Data) → Reads (container_of false place d) (container_rows place d)
unfolding container_of container_rows
container_read place d =
    let name = field_at (codes "name") d in
    let own_policy = field_at (codes "restartPolicy") d in
    let resources = field_at (codes "resources") d in
    object_step (field_of place) d _ _ (
    step_row (required_text is_label fields.ContainerName name) _ _ _
    (required_row is_label fields.ContainerName name) (λ n e.
    step_row (role_of place own_policy) _ _ _ (role_row place own_policy) (λ role f.
    step (resources_of resources) _ (resource_rows resources) _ (resources_read resources) (λ r g.
    last_step (probes_of role d) _ (probes_rows place own_policy d) (probes_read place own_policy role d f)))))

-- names
required_given : (test : List ℕ → Bool) (field : Field) (found : Option Data) (s : List ℕ)
    → required_text test field found ≡ Ok s → option_and_then as_str found ≡ Some s
required_given test field None s e = absurd (cc)
required_given test field (Some d) s e = there (as_str d) e
  where
    tested : (b : Bool) (text : List ℕ) → (if b then Ok text else Err (WrongKind field)) ≡ Ok s → Some text ≡ Some s
    tested true text e = cc
    tested false text e = absurd (cc)

    there : (o : Option (List ℕ)) → tested_text test field o ≡ Ok s → o ≡ Some s
    there None e = absurd (cc)
    there (Some text) e = tested (test text) text e

name_given : (own : Bool) (place : Place) (d : Data) (c : ContainerSpec) → container_of own place d ≡ Ok c
    → c.name ≡ name_in d
unfolding container_of
name_given own place d c e =
    let object = bind_ok (object_of (field_of place) (Some d)) _ c e in
    let same = object_same (field_of place) d object.0 object.1 in
    let name = bind_ok (required_text is_label fields.ContainerName (field_at (codes "name") object.0)) _ c object.2 in
    let role = bind_ok (role_by own place (field_at (codes "restartPolicy") object.0)) _ c name.2 in
    let restarts = bind_ok (restarts_by own role.0 object.0) _ c role.2 in
    let resources = bind_ok (resources_of (field_at (codes "resources") object.0)) _ c restarts.2 in
    let probes = bind_ok (probes_of role.0 object.0) _ c resources.2 in
    let is : name.0 ≡ c.name = named probes.2 in
    let read : List ℕ → Option (List ℕ) → List ℕ = λ default o. unwrap_or o default in
    sym is ∙ ap (read []) (sym (required_given is_label fields.ContainerName _ name.0 name.1)) ∙ ap name_in same
  where
    named : {a b : ContainerSpec} → ◌≡◌ {A = Result ContainerSpec ManifestFault} (Ok a) (Ok b) → a.name ≡ b.name
    named {a = a} {b = b} e = let is : a ≡ b = cc in ap (λ (x : ContainerSpec). x.name) is

names_given : (own : Bool) (place : Place) (ds : List Data) (cs : List ContainerSpec)
    → each (container_of own place) ds ≡ Ok cs → names_of cs ≡ map name_in ds
names_given own place [] cs e = let is : cs ≡ [] = cc in rw is refl
names_given own place (d ∷ ds) cs e =
    let one = bind_ok (container_of own place d) _ cs e in
    let rest = bind_ok (each (container_of own place) ds) _ cs one.2 in
    let is : one.0 ∷ rest.0 ≡ cs = cc in
    rw (← is, name_given own place d one.0 one.1, names_given own place ds rest.0 rest.1) refl

any_named : (name : List ℕ) (cs : List ContainerSpec) → list_any (λ (c : ContainerSpec). bytes_eq c.name name)
    cs ≡ list_any (λ (other : List ℕ). bytes_eq other name) (names_of cs)
any_named name [] = refl
any_named name (c ∷ cs) = ap (λ (b : Bool). bytes_eq c.name name || b) (any_named name cs)

twice_double : (cs : List ContainerSpec) → has_twice cs ≡ has_double (names_of cs)
twice_double [] = refl
twice_double (c ∷ cs) = rw (any_named c.name cs, twice_double cs) refl

names_joined : (xs ys : List ContainerSpec) → names_of (xs ++ ys) ≡ names_of xs ++ names_of ys
names_joined [] ys = refl
names_joined (x ∷ xs) ys = ap (λ (names : List (List ℕ)). x.name ∷ names) (names_joined xs ys)

named_in : (xs ys : List Data) → map name_in (xs ++ ys) ≡ map name_in xs ++ map name_in ys
named_in [] ys = refl
named_in (x ∷ xs) ys = ap (λ (names : List (List ℕ)). name_in x ∷ names) (named_in xs ys)

-- two of the containers have one name where two of the items have
pub doubled : (own : Bool) (init_items items : List Data) (init apps : List ContainerSpec)
    → each (container_of own InitContainers) init_items ≡ Ok init → each (container_of own Containers) items ≡ Ok apps
    → has_twice (init ++ apps) ≡ has_double (map name_in (init_items ++ items))
doubled own init_items items init apps f g =
    twice_double (init ++ apps)
    ∙ ap has_double (names_joined init apps
    ∙ (rw (names_given own InitContainers init_items init f, names_given own Containers items apps g) refl)
    ∙ sym (named_in init_items items))

containers_read : (init_items items : List Data) → Reads (containers_of false init_items items)
    (containers_rows init_items items)
unfolding containers_of containers_rows
containers_read init_items items =
    let many = nat_lt most_containers (length init_items + length items) in
    step_row (refused_if many TooMany) _ _ _ (refused many TooMany) (λ u e.
    step (each (container_of false InitContainers) init_items) _ (flat_map (container_rows InitContainers) init_items) _
    (each_rows (container_of false InitContainers) (container_rows InitContainers) (container_read InitContainers)
    init_items) (λ init f.
    step (each (container_of false Containers) items) _ (flat_map (container_rows Containers) items) _
    (each_rows (container_of false Containers) (container_rows Containers) (container_read Containers) items) (λ apps g.
    step_row (refused_if (has_twice (init ++ apps)) DuplicateContainer) _ _ _
    (refused (has_twice (init ++ apps)) DuplicateContainer ∙ ap (λ (b : Bool). fails_if b DuplicateContainer)
    (doubled false init_items items init apps f g)) (λ v h. read _))))

-- a pod
metadata_read : (found : Option Data) → Reads (metadata_of found) (metadata_rows found)
unfolding metadata_of metadata_rows
metadata_read None = record { same = refl }
metadata_read (Some d) =
    let name = field_at (codes "name") d in
    let namespace = field_at (codes "namespace") d in
    object_step fields.Metadata d _ _ (
    step_row (required_text is_name fields.Name name) _ _ _ (required_row is_name fields.Name name) (λ n e.
    step_row (text_or (codes "default") is_label fields.Namespace namespace) _ _ _
    (text_row (codes "default") is_label fields.Namespace namespace) (λ l f. read _)))

abbrev containers_in_rows : Data → List Row
containers_in_rows spec =
    may_be is_array fields.InitContainers (field_at (codes "initContainers") spec)
    ∷ must_be is_array fields.Containers (field_at (codes "containers") spec)
    ∷ fails_if (is_empty (items_in (field_at (codes "containers") spec))) (Missing fields.Containers)
    ∷ containers_rows (items_in (field_at (codes "initContainers") spec))
    (items_in (field_at (codes "containers") spec))

containers_in_read : (spec : Data) → Reads (containers_in false spec) (containers_in_rows spec)
unfolding containers_in
containers_in_read spec =
    let init_containers = field_at (codes "initContainers") spec in
    let containers = field_at (codes "containers") spec in
    array_step fields.InitContainers init_containers _ _
    (items_step containers _ _ (containers_read (items_in init_containers) (items_in containers)))

spec_read : (found : Option Data) → Reads (spec_of false found) (spec_rows found)
unfolding spec_of spec_rows
spec_read None = record { same = refl }
spec_read (Some d) =
    object_step fields.Spec d _ _ (
    step (settings_in d) _ (setting_rows d) _ (settings_read d) (λ settings e.
    last_step (containers_in false d) _ (containers_in_rows d) (containers_in_read d)))

pub pod_read : (d : Data) → Reads (pod_at d) (rows_of d)
unfolding pod_in rows_of
pod_read d =
    let metadata = field_at (codes "metadata") d in
    let spec = field_at (codes "spec") d in
    object_step fields.Pod d _ _ (
    step (metadata_of metadata) _ (metadata_rows metadata) _ (metadata_read metadata) (λ m e.
    last_step (spec_of false spec) _ (spec_rows spec) (spec_read spec)))
