-- The signals for eviction (Kubernetes, "Node-pressure Eviction", "Eviction signals"), and the kinds
-- of threshold on them ("Soft eviction thresholds" and "Hard eviction thresholds").
use Rattle.std.specs.Prelude.{ℕ, Bool, true, false, List, Option, Some, None, if◌then◌else◌, bytes_eq, codes}
use Rattle.signals.specs.declared.signal.Signal.{Signal}
use Rattle.signals.specs.declared.signal.Signal.TheVariants.{MemoryAvailable, NodefsAvailable, ImagefsAvailable}
use Rattle.signals.specs.declared.signal.Signal.TheVariants.{NodefsInodesFree, ImagefsInodesFree, PidAvailable}
use Rattle.signals.specs.declared.threshold.ThresholdKind.{ThresholdKind}
use Rattle.signals.specs.declared.threshold.ThresholdKind.TheVariants.{Hard, Soft}

abbrev pub name_of : Signal → List ℕ
name_of MemoryAvailable = codes "memory.available"
name_of NodefsAvailable = codes "nodefs.available"
name_of ImagefsAvailable = codes "imagefs.available"
name_of NodefsInodesFree = codes "nodefs.inodesFree"
name_of ImagefsInodesFree = codes "imagefs.inodesFree"
name_of PidAvailable = codes "pid.available"

-- the signal of this name
abbrev pub named : List ℕ → Option Signal
named name =
    if bytes_eq name (name_of MemoryAvailable) then Some MemoryAvailable
    else (if bytes_eq name (name_of NodefsAvailable) then Some NodefsAvailable
    else (if bytes_eq name (name_of ImagefsAvailable) then Some ImagefsAvailable
    else (if bytes_eq name (name_of NodefsInodesFree) then Some NodefsInodesFree
    else (if bytes_eq name (name_of ImagefsInodesFree) then Some ImagefsInodesFree
    else (if bytes_eq name (name_of PidAvailable) then Some PidAvailable else None)))))

-- the signal is of the node's file system, or of that of images and containers
abbrev pub is_of_file_system : Signal → Bool
is_of_file_system MemoryAvailable = false
is_of_file_system PidAvailable = false
is_of_file_system signal = true

abbrev pub kind_name : ThresholdKind → List ℕ
kind_name Hard = codes "hard"
kind_name Soft = codes "soft"
