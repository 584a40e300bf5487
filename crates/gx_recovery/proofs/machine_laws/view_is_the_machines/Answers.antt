use Rattle.gx_recovery.proofs.MachineSteps.{added_in_order, added_members, taken_in_order, taken_members, view_as_set}
use Rattle.gx_recovery.proofs.machine_laws.view_is_the_machines.Goals as goal

pub returns-clause-added : goal.returns-clause-added
returns-clause-added g c = λ d k l kl cmp area log i t open_yet. record {
  in_order = added_in_order k l (g.M.Meaning.known d) kl cmp area log i t open_yet;
  members = added_members k l (g.M.Meaning.known d) kl cmp area log i t open_yet;
}

pub returns-clause-taken : goal.returns-clause-taken
returns-clause-taken g c = λ d k l kl cmp area log i t open_yet. record {
  in_order = taken_in_order k l (g.M.Meaning.known d) kl cmp area log i t open_yet;
  members = taken_members k l (g.M.Meaning.known d) kl cmp area log i t open_yet;
}

pub returns-clause-view : goal.returns-clause-view
returns-clause-view g c = λ d k l kl cmp area log i t open_yet latest set. view_as_set k l (g.M.Meaning.known d) kl cmp area log i t open_yet latest set
