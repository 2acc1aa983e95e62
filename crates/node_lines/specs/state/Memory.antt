-- Which fault of a node line means that an allocation failed.
use Rattle.std.specs.Prelude.{Bool, true, false}
use Rattle.node_lines.specs.declared.fault.NodeFault.{NodeFault}
use Rattle.node_lines.specs.declared.fault.NodeFault.TheVariants.{OutOfMemory}

abbrev pub is_memory : NodeFault → Bool
is_memory OutOfMemory = true
is_memory fault = false
