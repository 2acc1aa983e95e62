-- Entries of pods by their numbers.
use Rattle.std.specs.Prelude.{ℕ, Bool, List, [], ◌∷◌, Result, Ok}
use Rattle.json_fields.specs.rule.Reading.{◌>>=◌}
use Rattle.manifest.specs.declared.pod.PodSpec.{PodSpec}
use Rattle.tick_lines.specs.declared.entry.TickEntry.{TickEntry}
use Rattle.line_faults.specs.declared.fault.FaultKind.{FaultKind}
use Rattle.trace.specs.declared.placing.PlacedEntry.{PlacedEntry}
use Rattle.trace.specs.rule.Placing.{entry_of_pod}

-- the entries, each of the pod with its number
abbrev pub entries_of_pods : Bool → List PodSpec → List ℕ → List TickEntry → Result (List PlacedEntry) FaultKind
entries_of_pods heeds pods [] es = Ok []
entries_of_pods heeds pods (n ∷ ns) [] = Ok []
entries_of_pods heeds pods (n ∷ ns) (e ∷ es) =
    entry_of_pod heeds pods n e >>= λ placed. entries_of_pods heeds pods ns es >>= λ rest. Ok (placed ∷ rest)
