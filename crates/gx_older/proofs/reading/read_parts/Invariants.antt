use Rattle.gx_older.proofs.reading.PartsRead.{AreReadTo}
use Rattle.gx_older.proofs.reading.read_parts.Given as goal

-- the parts before this one are read
abbrev pub invariant-loop-part : goal.invariant-loop-part
invariant-loop-part g l = AreReadTo g.D.SectorDisk.state l.fn.disk l.disk l.parts l.part-index l.fn.bytes l.bytes
