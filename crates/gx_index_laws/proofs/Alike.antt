-- An index over trees that agree on pages in use.
use Rattle.std.proofs.Common.{◌≡◌, [], ap}
use Rattle.std.specs.Prelude.{nat_lt}
use Rattle.gx_machine.specs.declared.entry.Entry.{Entry}
use Rattle.gx_node.specs.Trees.{Tree}
use Rattle.gx_node.specs.Legal.{Legal}
use Rattle.gx_node.specs.Alike.{AgreeOnUsed}
use Rattle.gx_node.proofs.AlikeTrees.{standing_too, seek_too}
use Rattle.gx_node.proofs.AlikeLooks.{look_too, descent_too}
use Rattle.gx_events.specs.Slots.{Slot}
use Rattle.gx_index_laws.specs.Classes.{Class, is_live_of, is_live}
use Rattle.gx_index_laws.specs.States.{Work, Rests, Looks, Descends, Seeks}
use Rattle.gx_index_laws.specs.Working.{wants_pair, DoesWork}
use Rattle.gx_index_laws.proofs.Above.{came_too}

module _ {B : Type 0} (c : Class B) (one other : Tree B) (agree : AgreeOnUsed one other) (legal : Legal c.rules one) where
  pub live_too : (e : Entry B) → is_live c other e ≡ is_live c one e
  unfolding is_live
  live_too e = ap (λ n. nat_lt 0 n) (standing_too c.rules one other agree legal (is_live_of c e))

  pub work_too : (slot : Slot B) (work : Work B) → DoesWork c one slot work → DoesWork c other slot work
  work_too slot Rests does = tt
  work_too slot (Looks stack found) does = look_too c.rules one other agree legal (wants_pair c slot) stack found does
  work_too slot (Descends e parent item) does = record {
    call = does.call;
    looked = look_too c.rules one other agree legal (wants_pair c slot) [] [] does.looked;
    descent = descent_too c.rules one other agree item e.key does.descent;
    apart = does.apart;
    came = came_too one other agree parent item.page does.came;
  }
  work_too slot (Seeks e leaf) does = record { wanted = does.wanted; seek = seek_too c.rules one other agree leaf e.row e.key does.seek }
