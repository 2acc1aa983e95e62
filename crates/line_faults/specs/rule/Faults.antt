-- The kinds of the faults that a node line and a tick line have by themselves.
use Rattle.node_lines.specs.declared.fault.NodeFault.{NodeFault}
use Rattle.node_lines.specs.declared.fault.NodeFault.TheVariants as node_faults
use Rattle.tick_lines.specs.declared.fault.TickLineFault.{TickLineFault}
use Rattle.tick_lines.specs.declared.fault.TickLineFault.TheVariants as tick_faults
use Rattle.line_faults.specs.declared.fault.FaultKind.{FaultKind}
use Rattle.line_faults.specs.declared.fault.FaultKind.TheVariants.{Config}
use Rattle.line_faults.specs.declared.fault.FaultKind.TheVariants.{SoftWithoutGrace}
use Rattle.line_faults.specs.declared.fault.FaultKind.TheVariants.{Usage, OutOfMemory}

abbrev pub kind_of_node_fault : NodeFault → FaultKind
kind_of_node_fault node_faults.Config = Config
kind_of_node_fault node_faults.SoftWithoutGrace = SoftWithoutGrace
kind_of_node_fault node_faults.OutOfMemory = OutOfMemory

abbrev pub kind_of_tick_fault : TickLineFault → FaultKind
kind_of_tick_fault tick_faults.Usage = Usage
kind_of_tick_fault tick_faults.OutOfMemory = OutOfMemory
