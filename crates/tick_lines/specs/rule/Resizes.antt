-- The member of an entry that gives resized containers their requests and limits (this project's extended format;
-- Kubernetes, "Pod Lifecycle", "Pod resize").
use Rattle.std.specs.Prelude.{ℕ, List, [], ◌∷◌, Option, Some, None, is_some, option_map, if◌then◌else◌, Result, Ok}
use Rattle.std.specs.Prelude.{Err}
use Rattle.std.specs.List.{cons_option}
use Rattle.serde_json.specs.Data.{Data, Members, no_members, member}
use Rattle.serde_json.specs.Find.{as_object}
use Rattle.json_fields.specs.rule.Fields.{field_at}
use Rattle.json_fields.specs.rule.Reading.{◌>>=◌, else_fault}
use Rattle.manifest.specs.rule.Resources.{Resources}
use Rattle.manifest_fields.specs.rule.ResourceFields.{resources_in}
use Rattle.tick_lines.specs.declared.fault.TickLineFault.{TickLineFault}
use Rattle.tick_lines.specs.declared.fault.TickLineFault.TheVariants.{Usage}
use Rattle.tick_lines.specs.declared.resizes.ContainerResize.{ContainerResize}
use Rattle.tick_lines.specs.declared.resizes.ResizedMember.{ResizedMember}
use Rattle.tick_lines.specs.declared.resizes.ResizedMember.TheVariants as members

-- the names of the members, in the members' order
abbrev pub names_in : Members → List (List ℕ)
names_in no_members = []
names_in (member name d ms) = name ∷ names_in ms

-- the names of an object's members
abbrev pub names_from : Option Members → List (List ℕ)
names_from None = []
names_from (Some ms) = names_in ms

-- the requests and limits that a member gives, as a manifest has those of a container; a missing one gives none
abbrev pub resources_given : Option Data → Result (Option Resources) TickLineFault
resources_given None = Ok None
resources_given (Some d) = else_fault Usage (resources_in d) >>= λ resources. Ok (Some resources)

-- the resize of the container of this name, if the object's member gives it some
abbrev pub resize_named : Data → List ℕ → Result (Option ContainerResize) TickLineFault
resize_named d name = resources_given (field_at name d)
    >>= λ given. Ok (option_map (λ resources. record { container = name; resources = resources }) given)

-- the resizes of the containers with these names, in the names' order
abbrev pub resizes_named : Data → List (List ℕ) → Result (List ContainerResize) TickLineFault
resizes_named d [] = Ok []
resizes_named d (name ∷ names) =
    resize_named d name >>= λ resize. resizes_named d names >>= λ resizes. Ok (cons_option resize resizes)

-- the resizes of all containers that an object names
abbrev pub resizes_in : Data → Result (List ContainerResize) TickLineFault
resizes_in d = resizes_named d (names_from (as_object d))

abbrev pub resized_by : Result (List ContainerResize) TickLineFault → ResizedMember
resized_by (Ok resizes) = members.Resizes resizes
resized_by (Err fault) = members.OfOtherKind

-- the content of the member: a value with a fault is kept apart, and nothing here rejects it
abbrev pub resized_of : Option Data → ResizedMember
resized_of None = members.Missing
resized_of (Some d) = if is_some (as_object d) then resized_by (resizes_in d) else members.OfOtherKind
