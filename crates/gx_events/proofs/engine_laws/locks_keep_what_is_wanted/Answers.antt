use Rattle.gx_events.proofs.Apart.{claimed_is_unwanted, wanted_is_spared, told_leaves_alone, sweep_leaves_alone}
use Rattle.gx_events.proofs.engine_laws.locks_keep_what_is_wanted.Goals as goal

pub returns-clause-claimed : goal.returns-clause-claimed
returns-clause-claimed g c = λ k l engine a b pair sound ne claimed. claimed_is_unwanted k l engine sound a b pair ne claimed

pub returns-clause-swept : goal.returns-clause-swept
returns-clause-swept g c = λ k l engine s pair sound dead wanted. wanted_is_spared k l engine sound s pair dead wanted

pub returns-clause-others : goal.returns-clause-others
returns-clause-others g c = λ k l engine a b change sound ne told. told_leaves_alone k l engine sound a b change ne told

pub returns-clause-own_sweep : goal.returns-clause-own_sweep
returns-clause-own_sweep g c = λ k l engine s change sound is told. sweep_leaves_alone k l engine sound s change is told
