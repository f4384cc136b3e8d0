-- What want of memory and numbers without room are for a server.
use Rattle.crdt_core.specs.declared.memory.Memory.{Memory}
use Rattle.crdt_core.specs.declared.memory.Memory.TheVariants.{Want, Full}
use Rattle.serve_model.specs.declared.served.ServeFault.{ServeFault}
use Rattle.serve_model.specs.declared.served.ServeFault.TheVariants.{Number, Memory as Wanting}

-- the server's fault for want of memory, and for a number without room
abbrev pub fault_of : Memory → ServeFault
fault_of Want = Wanting
fault_of Full = Number
