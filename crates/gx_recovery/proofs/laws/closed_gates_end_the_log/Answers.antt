use Rattle.std.proofs.Common.{[]}
use Rattle.gx_recovery.proofs.DamageItems.{read_before, read_past, records_append}
use Rattle.gx_recovery.proofs.laws.closed_gates_end_the_log.Goals as goal

pub returns-clause-bodies : goal.returns-clause-bodies
returns-clause-bodies g c = λ bodies one places h. read_before (g.M.Meaning.known (record { most = 0; pages = 0; head = [] })) bodies one places h

pub returns-clause-records : goal.returns-clause-records
returns-clause-records g c = λ bodies body. records_append (g.M.Meaning.known (record { most = 0; pages = 0; head = [] })) bodies body

pub returns-clause-past : goal.returns-clause-past
returns-clause-past g c = λ bodies one places h. read_past (g.M.Meaning.known (record { most = 0; pages = 0; head = [] })) bodies one places h
