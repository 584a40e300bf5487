use Rattle.gx_commands.proofs.laws.Durably.{ends_durably}
use Rattle.gx_commands.proofs.laws.a_run_that_is_done_is_durable.Goals as goal

pub returns : goal.returns
returns g c = ends_durably _ _ g.K.ReadKeys.is_proper g.K.ReadKeys.said g.K.KeyClass _ c.no_call_is_given_up.ensures c.a_class_is_lawful.ensures
