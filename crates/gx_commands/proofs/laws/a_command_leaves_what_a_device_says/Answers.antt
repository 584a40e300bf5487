use Rattle.gx_commands.proofs.laws.Saying.{dump_says, run_says}
use Rattle.gx_commands.proofs.laws.a_command_leaves_what_a_device_says.Goals as goal

pub returns-clause-run : goal.returns-clause-run
returns-clause-run g c = λ p. run_says _ _ g.K.ReadKeys.is_proper g.K.ReadKeys.said g.K.KeyClass _ p g.met.D.SectorDisk.counts_now g.met.D.SectorDisk.only_now

pub returns-clause-dump : goal.returns-clause-dump
returns-clause-dump g c = λ p. dump_says _ _ g.K.ReadKeys.is_proper g.K.ReadKeys.said g.K.KeyClass _ p g.met.D.SectorDisk.counts_now g.met.D.SectorDisk.only_now
