-- What is read of a manifest besides, as the code keeps it.
use Rattle.std.specs.Prelude.{ℕ, Bool, List, map, bytes_eq}
use Rattle.std.specs.Borrow.{Bor}
use Rattle.std.specs.List.{list_any}
use Rattle.extended_manifest.specs.declared.reading.Additions as kept
use Rattle.extended_manifest.specs.rule.Extended.{Additions}

abbrev pub additions_as : kept.Additions → Additions
additions_as additions = record {
  resources = additions.resources;
  gates = map (λ name. name.now) additions.gates.items;
}

-- one of the borrowed texts is the name
abbrev pub has_name : List (Bor (List ℕ)) → List ℕ → Bool
has_name names name = list_any (λ other. bytes_eq other.now name) names
