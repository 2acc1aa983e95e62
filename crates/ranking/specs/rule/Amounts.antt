-- What a pod uses and requests of what a signal measures, in thousandths (Kubernetes, "Node-pressure
-- Eviction", "Pod selection for kubelet eviction").
use Rattle.std.specs.Prelude.{ℕ, ◌+◌, Bool, true, false, Option, unwrap_or, if◌then◌else◌}
use Rattle.signals.specs.declared.signal.Signal.{Signal}
use Rattle.signals.specs.declared.signal.Signal.TheVariants.{MemoryAvailable, NodefsAvailable, ImagefsAvailable}
use Rattle.signals.specs.declared.signal.Signal.TheVariants.{NodefsInodesFree, ImagefsInodesFree, PidAvailable}
use Rattle.observations.specs.declared.usage.Usage.{Usage}
use Rattle.pod_piece.specs.declared.status.EffectiveRequests.{EffectiveRequests}

-- the newest sample of a resource, and 0 where there is none
abbrev pub newest : Option ℕ → ℕ
newest sample = unwrap_or sample 0

-- volumes, logs and writable layers together
abbrev pub local_storage : Usage → ℕ
local_storage usage = newest usage.volumes + newest usage.logs + newest usage.writable

-- what a pod uses of what the signal measures: where images have a file system of their own, the writable
-- layers lie there, and volumes and logs on the node's
abbrev pub used : Signal → Bool → Usage → ℕ
used MemoryAvailable has_dedicated_imagefs usage = newest usage.memory
used NodefsAvailable has_dedicated_imagefs usage =
    if has_dedicated_imagefs then newest usage.volumes + newest usage.logs else local_storage usage
used ImagefsAvailable has_dedicated_imagefs usage =
    if has_dedicated_imagefs then newest usage.writable else local_storage usage
used NodefsInodesFree has_dedicated_imagefs usage = newest usage.inodes
used ImagefsInodesFree has_dedicated_imagefs usage = newest usage.inodes
used PidAvailable has_dedicated_imagefs usage = newest usage.pids

-- pods request something of what the signal measures
abbrev pub has_requests : Signal → Bool
has_requests MemoryAvailable = true
has_requests NodefsAvailable = true
has_requests ImagefsAvailable = true
has_requests signal = false

-- what a pod requests of what the signal measures; of inodes and processes nothing
abbrev pub requested : Signal → EffectiveRequests → ℕ
requested MemoryAvailable requests = requests.memory
requested NodefsAvailable requests = requests.ephemeral_storage
requested ImagefsAvailable requests = requests.ephemeral_storage
requested NodefsInodesFree requests = 0
requested ImagefsInodesFree requests = 0
requested PidAvailable requests = 0
