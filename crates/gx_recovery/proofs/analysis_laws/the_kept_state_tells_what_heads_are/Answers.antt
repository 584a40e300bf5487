use Rattle.gx_recovery.proofs.Telling.{all_counters_tell, notes_tell}
use Rattle.gx_recovery.proofs.Heads.{no_entry_is_no_note, heads_begin}
use Rattle.gx_recovery.proofs.analysis_laws.the_kept_state_tells_what_heads_are.Goals as goal

pub returns-clause-counters : goal.returns-clause-counters
returns-clause-counters g c = λ d. all_counters_tell (g.M.Meaning.known d)

pub returns-clause-notes : goal.returns-clause-notes
returns-clause-notes g c = λ d. notes_tell (g.M.Meaning.known d)

pub returns-clause-no_entry : goal.returns-clause-no_entry
returns-clause-no_entry g c = λ d. no_entry_is_no_note (g.M.Meaning.known d)

pub returns-clause-begin : goal.returns-clause-begin
returns-clause-begin g c = λ d. heads_begin (g.M.Meaning.known d)
