use Rattle.std.proofs.Common.{false}
use Rattle.manifest_reader.proofs.NeverMemory.{pod_only}
use Rattle.manifest_reader.proofs.laws.never_memory.Goals as goal

pub returns : goal.returns
returns c = λ d fault e. (pod_only false d).has fault e
