-- A manifest is read with the checks of the table.
use Rattle.serde_json.specs.Data.{Data}
use Rattle.manifest_reader.specs.rule.Manifest.{pod_at}
use Rattle.manifest_reader.specs.state.Table.{fault_at, checks_of}
use Rattle.manifest_reader.specs.state.Laws.{FirstCheck, EveryCheck}
use Rattle.manifest_reader.proofs.Rows.{Reads}
use Rattle.manifest_reader.proofs.Rows as rows
use Rattle.manifest_reader.proofs.FoundRows.{answers_are}
use Rattle.manifest_reader.proofs.RowLemmas.{pod_read}
use Rattle.std.proofs.Common.{map}

checks_read : (d : Data) → Reads (pod_at d) (map (fault_at d) (checks_of d))
checks_read d = rw (answers_are d) (pod_read d)

pub first_check : FirstCheck
first_check d fault = rows.first_check (pod_at d) (fault_at d) (checks_of d) (checks_read d) fault

pub every_check : EveryCheck
every_check d = rows.every_check (pod_at d) (fault_at d) (checks_of d) (checks_read d)
