-- A script's fault, by what is known of its reader and its writer.
use Rattle.std.proofs.Common.{ℕ, List, Option}
use Rattle.gx_script.specs.declared.fault.ScriptFault.{ScriptFault}
use Rattle.gx_script.specs.declared.fault.ScriptFault.TheVariants.{Read, Write}
use Rattle.gx_script.specs.declared.noted.Noted.{Noted}
use Rattle.gx_script.specs.Noting as script
use Rattle.gx_commands.specs.Streams.{IsFaultOf, stream_of}

pub fault_of : {R W : Type 0} (left : R → Option (List ℕ)) (held : W → Option (List ℕ)) (reader : Noted R) (writer : Noted W) (fault : ScriptFault)
    → script.IsFaultOf reader writer fault → IsFaultOf (stream_of left reader) (stream_of held writer) fault
fault_of left held reader writer Read faulty = faulty
fault_of left held reader writer Write faulty = faulty
