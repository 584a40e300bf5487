use Rattle.gx_durable.proofs.Spellings.{one_way, parts_join, spelling_adds, none_are, only_none}
use Rattle.gx_durable.proofs.laws.bytes_are_records.Goals as goal

pub returns-clause-one_way : goal.returns-clause-one_way
returns-clause-one_way g c = one_way g.M.Spelled.reading

pub returns-clause-parts : goal.returns-clause-parts
returns-clause-parts g c = parts_join g.M.Spelled.reading

pub returns-clause-adds : goal.returns-clause-adds
returns-clause-adds g c = spelling_adds g.M.Spelled.reading

pub returns-clause-none : goal.returns-clause-none
returns-clause-none g c = none_are g.M.Spelled.reading

pub returns-clause-only_none : goal.returns-clause-only_none
returns-clause-only_none g c = only_none g.M.Spelled.reading
