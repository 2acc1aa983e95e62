-- One value for each signal.
use Rattle.signals.specs.declared.by_signal.BySignal.{BySignal}
use Rattle.signals.specs.declared.signal.Signal.{Signal}
use Rattle.signals.specs.declared.signal.Signal.TheVariants.{MemoryAvailable, NodefsAvailable, ImagefsAvailable}
use Rattle.signals.specs.declared.signal.Signal.TheVariants.{NodefsInodesFree, ImagefsInodesFree, PidAvailable}

-- the value for the signal
abbrev pub of : {A : Type 0} → BySignal A → Signal → A
of values MemoryAvailable = values.memory_available
of values NodefsAvailable = values.nodefs_available
of values ImagefsAvailable = values.imagefs_available
of values NodefsInodesFree = values.nodefs_inodes_free
of values ImagefsInodesFree = values.imagefs_inodes_free
of values PidAvailable = values.pid_available

-- the value for the signal among six, in the order of the signals
abbrev pub among : {A : Type 0} → A → A → A → A → A → A → Signal → A
among a b c d e f MemoryAvailable = a
among a b c d e f NodefsAvailable = b
among a b c d e f ImagefsAvailable = c
among a b c d e f NodefsInodesFree = d
among a b c d e f ImagefsInodesFree = e
among a b c d e f PidAvailable = f

-- for each signal what f gives
abbrev pub for_each : {A : Type 0} → (Signal → A) → BySignal A
for_each f = record {
  memory_available = f MemoryAvailable;
  nodefs_available = f NodefsAvailable;
  imagefs_available = f ImagefsAvailable;
  nodefs_inodes_free = f NodefsInodesFree;
  imagefs_inodes_free = f ImagefsInodesFree;
  pid_available = f PidAvailable;
}
