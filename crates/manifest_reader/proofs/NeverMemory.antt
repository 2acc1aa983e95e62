-- The faults of a manifest, none of which is that memory ran out.
use Rattle.std.proofs.Common.{◌≢◌, ℕ, ℤ, Bool, true, false, List, [], ◌∷◌, ◌+◌, ◌++◌, length, Option, Some, None}
use Rattle.std.proofs.Common.{Result, Ok, Err}
use Rattle.std.proofs.Common.{is_some}
use Rattle.std.specs.Prelude.{pos, option_and_then, nat_lt, codes}
use Rattle.serde_json.specs.Data.{Data, Items}
use Rattle.serde_json.specs.Find.{as_str, as_number, as_u64, as_i64, as_array, as_object}
use Rattle.json_fields.specs.rule.Fields.{field_at, items_list}
use Rattle.json_fields.specs.rule.Quantities.{quantity_in}
use Rattle.json_fields.specs.rule.Reading.{◌>>=◌}
use Rattle.json_fields.specs.declared.fault.FieldFault.{FieldFault}
use Rattle.json_fields.specs.declared.fault.FieldFault.TheVariants.{WrongKind as OtherKind, Faulty}
use Rattle.manifest.specs.rule.Names.{is_name, is_label}
use Rattle.manifest_fields.specs.declared.fault.ManifestFault.{ManifestFault}
use Rattle.manifest_fields.specs.declared.fault.ManifestFault.TheVariants.{Missing, WrongKind, Quantity, ProbeRange}
use Rattle.manifest_fields.specs.declared.fault.ManifestFault.TheVariants.{InitProbe, RequestAboveLimit}
use Rattle.manifest_fields.specs.declared.fault.ManifestFault.TheVariants.{DuplicateContainer, Sidecar, TooMany}
use Rattle.manifest_fields.specs.declared.fault.ManifestFault.TheVariants.{OutOfMemory}
use Rattle.manifest_fields.specs.declared.fault.Field.{Field}
use Rattle.manifest_fields.specs.declared.fault.Field.TheVariants as fields
use Rattle.manifest.specs.declared.policy.Policy.TheVariants.{Always, OnFailure, Never}
use Rattle.manifest.specs.declared.pod.Place.{Place}
use Rattle.manifest.specs.declared.pod.Place.TheVariants.{InitContainers, Containers}
use Rattle.manifest.specs.declared.pod.Role.{Role}
use Rattle.manifest.specs.declared.pod.Role.TheVariants.{Init, Sidecar as IsSidecar, App}
use Rattle.manifest_fields.specs.rule.Fields.{object_of, tested_text, required_text, text_or, items_or, array_of}
use Rattle.manifest_fields.specs.rule.Fields.{array_or_none, some_items, absent}
use Rattle.manifest.specs.rule.Probe.{no_probes}
use Rattle.manifest_fields.specs.rule.ProbeFields.{not_from_0, number_from, number_of, probe_in, probe_of}
use Rattle.manifest_fields.specs.rule.ProbeFields.{some_probes, unprobed, probes_of}
use Rattle.manifest.specs.rule.Resources.{nothing, no_resources, some_above}
use Rattle.manifest_fields.specs.rule.ResourceFields.{quantity_read, quantity_at, amounts_in, amounts_of}
use Rattle.manifest_fields.specs.rule.ResourceFields.{resources_in, resources_of}
use Rattle.manifest.specs.declared.own_restarts.ExitCodeOperator.TheVariants.{In, NotIn}
use Rattle.manifest_reader.specs.rule.Policies.{policy_from}
use Rattle.manifest_reader.specs.rule.OwnRestarts.{at_most, most_rules, most_codes, action_from, action_of}
use Rattle.manifest_reader.specs.rule.OwnRestarts.{operator_from, operator_of, code_from, code_of, code_items_of}
use Rattle.manifest_reader.specs.rule.OwnRestarts.{exit_codes_of, rule_of, rule_items_of, own_policy_of, role_with}
use Rattle.manifest_reader.specs.rule.OwnRestarts.{restarts_of}
use Rattle.manifest_reader.specs.rule.Manifest.{policy_of, priority_from, priority_of, grace_period_from}
use Rattle.manifest_reader.specs.rule.Manifest.{grace_period_of, field_of, sidecar_from, role_of, container_of}
use Rattle.manifest_reader.specs.rule.Manifest.{containers_of, app_items_of, containers_in, metadata_of, settings_in}
use Rattle.manifest_reader.specs.rule.Manifest.{role_by, restarts_by, spec_of, pod_in}
use Rattle.manifest.specs.rule.Containers.{has_twice, most_containers}
use Rattle.json_fields.proofs.Only.{Only, only_ok, only_err, only_bind, only_if, only_refused, only_each}

abbrev pub IsFound : ManifestFault → Type 0
IsFound fault = fault ≢ OutOfMemory

pub missing : (field : Field) → IsFound (Missing field)
missing field is = absurd (cc)

pub wrong : (field : Field) → IsFound (WrongKind field)
wrong field is = absurd (cc)

pub object_only : (field : Field) (found : Option Data) → Only IsFound (object_of field found)
object_only field None = only_err IsFound (Missing field) (missing field)
object_only field (Some d) = only_if IsFound (is_some (as_object d)) (Ok d) (Err (WrongKind field))
    (only_ok IsFound d) (only_err IsFound (WrongKind field) (wrong field))

tested_only : (test : List ℕ → Bool) (field : Field) (found : Option (List ℕ))
    → Only IsFound (tested_text test field found)
tested_only test field None = only_err IsFound (WrongKind field) (wrong field)
tested_only test field (Some s) = only_if IsFound (test s) (Ok s) (Err (WrongKind field)) (only_ok IsFound s)
    (only_err IsFound (WrongKind field) (wrong field))

pub required_only : (test : List ℕ → Bool) (field : Field) (found : Option Data)
    → Only IsFound (required_text test field found)
required_only test field None = only_err IsFound (Missing field) (missing field)
required_only test field (Some d) = tested_only test field (as_str d)

text_or_only : (default : List ℕ) (test : List ℕ → Bool) (field : Field) (found : Option Data)
    → Only IsFound (text_or default test field found)
text_or_only default test field None = only_ok IsFound default
text_or_only default test field (Some d) = tested_only test field (as_str d)

items_or_only : (field : Field) (found : Option Items) → Only IsFound (items_or field found)
items_or_only field None = only_err IsFound (WrongKind field) (wrong field)
items_or_only field (Some items) = only_ok IsFound (items_list items)

array_only : (field : Field) (found : Option Data) → Only IsFound (array_of field found)
array_only field None = only_err IsFound (Missing field) (missing field)
array_only field (Some d) = items_or_only field (as_array d)

pub array_or_none_only : (field : Field) (found : Option Data) → Only IsFound (array_or_none field found)
array_or_none_only field None = only_ok IsFound []
array_or_none_only field (Some d) = array_only field (Some d)

some_items_only : (field : Field) (ds : List Data) → Only IsFound (some_items field ds)
some_items_only field [] = only_err IsFound (Missing field) (missing field)
some_items_only field (d ∷ ds) = only_ok IsFound (d ∷ ds)

policy_from_only : (found : Option (List ℕ)) → Only IsFound (policy_from found)
policy_from_only None = only_err IsFound (WrongKind fields.RestartPolicy) (wrong fields.RestartPolicy)
policy_from_only (Some text) =
    only_if IsFound _ (Ok Always) _ (only_ok IsFound Always)
    (only_if IsFound _ (Ok OnFailure) _ (only_ok IsFound OnFailure)
    (only_if IsFound _ (Ok Never) _ (only_ok IsFound Never)
    (only_err IsFound (WrongKind fields.RestartPolicy) (wrong fields.RestartPolicy))))

policy_only : (found : Option Data) → Only IsFound (policy_of found)
policy_only None = only_ok IsFound Always
policy_only (Some d) = policy_from_only (as_str d)

priority_from_only : (found : Option ℤ) → Only IsFound (priority_from found)
priority_from_only None = only_err IsFound (WrongKind fields.Priority) (wrong fields.Priority)
priority_from_only (Some z) = only_if IsFound _ (Ok z) _ (only_ok IsFound z)
    (only_err IsFound (WrongKind fields.Priority) (wrong fields.Priority))

priority_only : (found : Option Data) → Only IsFound (priority_of found)
priority_only None = only_ok IsFound (pos 0)
priority_only (Some d) = priority_from_only (option_and_then as_i64 (as_number d))

grace_period_from_only : (found : Option ℕ) → Only IsFound (grace_period_from found)
grace_period_from_only None = only_err IsFound (WrongKind fields.GracePeriod) (wrong fields.GracePeriod)
grace_period_from_only (Some n) = only_if IsFound _ (Ok n) _ (only_ok IsFound n)
    (only_err IsFound (WrongKind fields.GracePeriod) (wrong fields.GracePeriod))

grace_period_only : (found : Option Data) → Only IsFound (grace_period_of found)
grace_period_only None = only_ok IsFound 30
grace_period_only (Some d) = grace_period_from_only (option_and_then as_u64 (as_number d))

absent_only : (fault : ManifestFault) (found : Option Data) → IsFound fault → Only IsFound (absent fault found)
absent_only fault found is = only_refused IsFound (is_some found) fault is

-- three steps, none of which looks at another
three_only : {A B C D : Type 0} (a : Result A ManifestFault) (b : Result B ManifestFault) (c : Result C ManifestFault)
    (f : A → B → C → D) → Only IsFound a → Only IsFound b → Only IsFound c
    → Only IsFound (a >>= λ x. b >>= λ y. c >>= λ z. Ok (f x y z))
three_only a b c f first second third =
    let P = IsFound in
    only_bind P _ _ first (λ x. only_bind P _ _ second (λ y. only_bind P _ _ third (λ z. only_ok P (f x y z))))

-- resources
quantity_read_only : (read : Result ℕ FieldFault) → Only IsFound (quantity_read read)
quantity_read_only (Ok n) = only_ok IsFound n
quantity_read_only (Err OtherKind) = only_err IsFound (WrongKind fields.Resources) (wrong fields.Resources)
quantity_read_only (Err (Faulty fault)) = only_err IsFound (Quantity fault) (λ is. absurd (cc))

pub quantity_only : (found : Option Data) → Only IsFound (quantity_at found)
quantity_only None = only_ok IsFound None
quantity_only (Some d) = only_bind IsFound (quantity_read (quantity_in d)) _ (quantity_read_only (quantity_in d))
    (λ n. only_ok IsFound (Some n))

amounts_in_only : (d : Data) → Only IsFound (amounts_in d)
unfolding amounts_in
amounts_in_only d =
    only_bind IsFound _ _ (object_only fields.Resources (Some d)) (λ amounts.
    three_only _ _ _ _ (quantity_only (field_at (codes "cpu") amounts))
    (quantity_only (field_at (codes "memory") amounts))
    (quantity_only (field_at (codes "ephemeral-storage") amounts)))

amounts_only : (found : Option Data) → Only IsFound (amounts_of found)
amounts_only None = only_ok IsFound nothing
amounts_only (Some d) = amounts_in_only d

resources_in_only : (d : Data) → Only IsFound (resources_in d)
unfolding resources_in
resources_in_only d =
    let P = IsFound in
    only_bind P _ _ (object_only fields.Resources (Some d)) (λ resources.
    only_bind P _ _ (amounts_only (field_at (codes "requests") resources)) (λ requests.
    only_bind P _ _ (amounts_only (field_at (codes "limits") resources)) (λ limits.
    only_bind P _ _ (only_refused P (some_above requests limits) RequestAboveLimit (λ is. absurd (cc)))
    (λ within. only_ok P _))))

resources_only : (found : Option Data) → Only IsFound (resources_of found)
resources_only None = only_ok IsFound no_resources
resources_only (Some d) = resources_in_only d

-- probes
not_from_0_only : (found : Option ℤ) → Only IsFound (not_from_0 found)
not_from_0_only None = only_err IsFound (WrongKind fields.Probe) (wrong fields.Probe)
not_from_0_only (Some z) = only_err IsFound ProbeRange (λ is. absurd (cc))

number_from_only : (least most : ℕ) (d : Data) (found : Option ℕ) → Only IsFound (number_from least most d found)
number_from_only least most d None = not_from_0_only (option_and_then as_i64 (as_number d))
number_from_only least most d (Some n) = only_if IsFound _ (Ok n) _ (only_ok IsFound n)
    (only_err IsFound ProbeRange (λ is. absurd (cc)))

number_only : (least most default : ℕ) (found : Option Data) → Only IsFound (number_of least most default found)
number_only least most default None = only_ok IsFound default
number_only least most default (Some d) = number_from_only least most d (option_and_then as_u64 (as_number d))

probe_in_only : (most : ℕ) (d : Data) → Only IsFound (probe_in most d)
unfolding probe_in
probe_in_only most d =
    let P = IsFound in
    only_bind P _ _ (object_only fields.Probe (Some d)) (λ probe.
    only_bind P _ _ (number_only _ _ _ (field_at (codes "initialDelaySeconds") probe)) (λ delay.
    only_bind P _ _ (number_only _ _ _ (field_at (codes "periodSeconds") probe)) (λ period.
    only_bind P _ _ (number_only _ _ _ (field_at (codes "timeoutSeconds") probe)) (λ timeout.
    only_bind P _ _ (number_only _ _ _ (field_at (codes "successThreshold") probe)) (λ successes.
    only_bind P _ _ (number_only _ _ _ (field_at (codes "failureThreshold") probe)) (λ failures. only_ok P _))))))

probe_only : (most : ℕ) (found : Option Data) → Only IsFound (probe_of most found)
probe_only most None = only_ok IsFound None
probe_only most (Some d) = only_bind IsFound (probe_in most d) _ (probe_in_only most d) (λ p. only_ok IsFound (Some p))

some_probes_only : (d : Data) → Only IsFound (some_probes d)
unfolding some_probes
some_probes_only d =
    three_only _ _ _ _ (probe_only _ (field_at (codes "startupProbe") d))
    (probe_only _ (field_at (codes "livenessProbe") d)) (probe_only _ (field_at (codes "readinessProbe") d))

unprobed_only : (d : Data) → Only IsFound (unprobed d)
unfolding unprobed
unprobed_only d =
    let found : IsFound InitProbe = λ is. absurd (cc) in
    three_only _ _ _ (λ startup liveness readiness. no_probes)
    (absent_only InitProbe (field_at (codes "startupProbe") d) found)
    (absent_only InitProbe (field_at (codes "livenessProbe") d) found)
    (absent_only InitProbe (field_at (codes "readinessProbe") d) found)

probes_only : (role : Role) (d : Data) → Only IsFound (probes_of role d)
probes_only Init d = unprobed_only d
probes_only IsSidecar d = some_probes_only d
probes_only App d = some_probes_only d

-- a container's own restart policy and rules
action_from_only : (found : Option (List ℕ)) → Only IsFound (action_from found)
action_from_only None = only_err IsFound (WrongKind fields.RestartRules) (wrong fields.RestartRules)
action_from_only (Some text) = only_if IsFound _ (Ok tt) _ (only_ok IsFound tt)
    (only_err IsFound (WrongKind fields.RestartRules) (wrong fields.RestartRules))

action_only : (found : Option Data) → Only IsFound (action_of found)
action_only None = only_err IsFound (Missing fields.RestartRules) (missing fields.RestartRules)
action_only (Some d) = action_from_only (as_str d)

operator_from_only : (found : Option (List ℕ)) → Only IsFound (operator_from found)
operator_from_only None = only_err IsFound (WrongKind fields.RestartRules) (wrong fields.RestartRules)
operator_from_only (Some text) =
    only_if IsFound _ (Ok In) _ (only_ok IsFound In)
    (only_if IsFound _ (Ok NotIn) _ (only_ok IsFound NotIn)
    (only_err IsFound (WrongKind fields.RestartRules) (wrong fields.RestartRules)))

operator_only : (found : Option Data) → Only IsFound (operator_of found)
operator_only None = only_err IsFound (Missing fields.RestartRules) (missing fields.RestartRules)
operator_only (Some d) = operator_from_only (as_str d)

code_from_only : (found : Option ℤ) → Only IsFound (code_from found)
code_from_only None = only_err IsFound (WrongKind fields.RestartRules) (wrong fields.RestartRules)
code_from_only (Some z) = only_if IsFound _ (Ok z) _ (only_ok IsFound z)
    (only_err IsFound (WrongKind fields.RestartRules) (wrong fields.RestartRules))

code_only : (d : Data) → Only IsFound (code_of d)
code_only d = code_from_only (option_and_then as_i64 (as_number d))

at_most_only : (most : ℕ) (items : List Data) → Only IsFound (at_most most items)
at_most_only most items = only_bind IsFound _ _ (only_refused IsFound _ TooMany (λ is. absurd (cc)))
    (λ within. only_ok IsFound items)

code_items_only : (found : Option Data) → Only IsFound (code_items_of found)
unfolding code_items_of
code_items_only found =
    let P = IsFound in
    only_bind P _ _ (array_only fields.RestartRules found) (λ listed.
    only_bind P _ _ (some_items_only fields.RestartRules listed) (λ some. at_most_only most_codes some))

exit_codes_only : (d : Data) → Only IsFound (exit_codes_of d)
unfolding exit_codes_of
exit_codes_only d =
    let P = IsFound in
    only_bind P _ _ (object_only fields.RestartRules (Some d)) (λ rule.
    only_bind P _ _ (action_only (field_at (codes "action") rule)) (λ restarts.
    object_only fields.RestartRules (field_at (codes "exitCodes") rule)))

rule_only : (d : Data) → Only IsFound (rule_of d)
unfolding rule_of
rule_only d =
    let P = IsFound in
    only_bind P _ _ (exit_codes_only d) (λ exit_codes.
    only_bind P _ _ (operator_only (field_at (codes "operator") exit_codes)) (λ operator.
    only_bind P _ _ (code_items_only (field_at (codes "values") exit_codes)) (λ items.
    only_bind P _ _ (only_each P code_of code_only items) (λ values. only_ok P _))))

rule_items_only : (found : Option Data) → Only IsFound (rule_items_of found)
unfolding rule_items_of
rule_items_only found = only_bind IsFound _ _ (array_or_none_only fields.RestartRules found)
    (λ listed. at_most_only most_rules listed)

own_policy_only : (found : Option Data) → Only IsFound (own_policy_of found)
own_policy_only None = only_ok IsFound None
own_policy_only (Some d) = only_bind IsFound (policy_from (as_str d)) _ (policy_from_only (as_str d))
    (λ policy. only_ok IsFound (Some policy))

restarts_only : (role : Role) (d : Data) → Only IsFound (restarts_of role d)
unfolding restarts_of
restarts_only role d =
    let P = IsFound in
    only_bind P _ _ (own_policy_only (field_at (codes "restartPolicy") d)) (λ policy.
    only_bind P _ _ (rule_items_only (field_at (codes "restartPolicyRules") d)) (λ items.
    only_bind P _ _ (only_each P rule_of rule_only items) (λ rules.
    only_bind P _ _ (only_refused P _ Sidecar (λ is. absurd (cc))) (λ may_have. only_ok P _))))

restarts_by_only : (own : Bool) (role : Role) (d : Data) → Only IsFound (restarts_by own role d)
restarts_by_only true role d = restarts_only role d
restarts_by_only false role d = only_ok IsFound None

-- containers
sidecar_from_only : (found : Option (List ℕ)) → Only IsFound (sidecar_from found)
sidecar_from_only None = only_err IsFound Sidecar (λ is. absurd (cc))
sidecar_from_only (Some text) = only_if IsFound _ (Ok IsSidecar) _ (only_ok IsFound IsSidecar)
    (only_err IsFound Sidecar (λ is. absurd (cc)))

role_only : (place : Place) (found : Option Data) → Only IsFound (role_of place found)
role_only InitContainers None = only_ok IsFound Init
role_only InitContainers (Some d) = sidecar_from_only (as_str d)
role_only Containers None = only_ok IsFound App
role_only Containers (Some d) = only_err IsFound Sidecar (λ is. absurd (cc))

role_by_only : (own : Bool) (place : Place) (found : Option Data) → Only IsFound (role_by own place found)
role_by_only true place found = only_bind IsFound (own_policy_of found) _ (own_policy_only found)
    (λ policy. only_ok IsFound (role_with place policy))
role_by_only false place found = role_only place found

container_only : (own : Bool) (place : Place) (d : Data) → Only IsFound (container_of own place d)
unfolding container_of
container_only own place d =
    let P = IsFound in
    only_bind P _ _ (object_only (field_of place) (Some d)) (λ object.
    only_bind P _ _ (required_only is_label fields.ContainerName (field_at (codes "name") object)) (λ name.
    only_bind P _ _ (role_by_only own place (field_at (codes "restartPolicy") object)) (λ role.
    only_bind P _ _ (restarts_by_only own role object) (λ restarts.
    only_bind P _ _ (resources_only (field_at (codes "resources") object)) (λ resources.
    only_bind P _ _ (probes_only role object) (λ probes. only_ok P _))))))

containers_only : (own : Bool) (init_items items : List Data) → Only IsFound (containers_of own init_items items)
unfolding containers_of
containers_only own init_items items =
    let P = IsFound in
    let many = nat_lt most_containers (length init_items + length items) in
    only_bind P _ _ (only_refused P many TooMany (λ is. absurd (cc))) (λ few.
    only_bind P _ _ (only_each P (container_of own InitContainers) (container_only own InitContainers) init_items)
    (λ init.
    only_bind P _ _ (only_each P (container_of own Containers) (container_only own Containers) items) (λ apps.
    only_bind P _ _ (only_refused P (has_twice (init ++ apps)) DuplicateContainer (λ is. absurd (cc)))
    (λ apart. only_ok P (init ++ apps)))))

app_items_only : (found : Option Data) → Only IsFound (app_items_of found)
unfolding app_items_of
app_items_only found = only_bind IsFound _ _ (array_only fields.Containers found)
    (λ listed. some_items_only fields.Containers listed)

containers_in_only : (own : Bool) (spec : Data) → Only IsFound (containers_in own spec)
unfolding containers_in
containers_in_only own spec =
    let P = IsFound in
    only_bind P _ _ (array_or_none_only fields.InitContainers (field_at (codes "initContainers") spec)) (λ init_items.
    only_bind P _ _ (app_items_only (field_at (codes "containers") spec))
    (λ items. containers_only own init_items items))

metadata_only : (found : Option Data) → Only IsFound (metadata_of found)
unfolding metadata_of
metadata_only found =
    let P = IsFound in
    only_bind P _ _ (object_only fields.Metadata found) (λ metadata.
    only_bind P _ _ (required_only is_name fields.Name (field_at (codes "name") metadata)) (λ name.
    only_bind P _ _ (text_or_only (codes "default") is_label fields.Namespace (field_at (codes "namespace") metadata))
    (λ namespace. only_ok P _)))

settings_only : (spec : Data) → Only IsFound (settings_in spec)
unfolding settings_in
settings_only spec =
    three_only _ _ _ _ (policy_only (field_at (codes "restartPolicy") spec))
    (priority_only (field_at (codes "priority") spec))
    (grace_period_only (field_at (codes "terminationGracePeriodSeconds") spec))

spec_only : (own : Bool) (found : Option Data) → Only IsFound (spec_of own found)
unfolding spec_of
spec_only own found =
    let P = IsFound in
    only_bind P _ _ (object_only fields.Spec found) (λ spec.
    only_bind P _ _ (settings_only spec) (λ settings.
    only_bind P _ _ (containers_in_only own spec) (λ containers. only_ok P _)))

pub pod_only : (own : Bool) (d : Data) → Only IsFound (pod_in own d)
unfolding pod_in
pod_only own d =
    let P = IsFound in
    only_bind P _ _ (object_only fields.Pod (Some d)) (λ pod.
    only_bind P _ _ (metadata_only (field_at (codes "metadata") pod)) (λ metadata.
    only_bind P _ _ (spec_only own (field_at (codes "spec") pod)) (λ spec. only_ok P _)))
