-- The sessions of a whole index, and what an ask makes of it.
use Rattle.std.specs.Prelude.{ℕ, ◌≡◌, true}
use Rattle.gx_machine.specs.declared.call.Call.{Call}
use Rattle.gx_machine.specs.declared.reply.Reply.TheVariants as reply
use Rattle.gx_machine.specs.declared.reply.Asked.{Asked}
use Rattle.gx_machine.specs.declared.reply.Asked.TheVariants as asked
use Rattle.gx_machine.specs.Machine.{is_session}
use Rattle.gx_events.specs.Asking.{ask_in}
use Rattle.gx_index_laws.specs.Classes.{Class}
use Rattle.gx_index_laws.specs.States as index
use Rattle.gx_index_laws.specs.Happening as happening
use Rattle.gx_phases.specs.States.{State, slots_of}
use Rattle.gx_phases.specs.Moves.{transaction_of}

-- these are an index's sessions: their slots, their transactions' numbers, the next one's, what is durable, and whether it failed
pub record AreOf {B : Type 0} {W : Type 0} (sessions : State B W) (i : index.State B) : Type 0 where
  pub slots : i.slots ≡ slots_of sessions.phases sessions.table
  pub transactions : (a : ℕ) → is_session a ≡ true → i.transaction a ≡ transaction_of a sessions
  pub next : i.next ≡ sessions.next
  pub oldest : i.oldest ≡ sessions.durable
  pub failed : i.failed ≡ sessions.failed

-- an index whose session has asked a call: a Begin that is answered begins a transaction, a call that is open begins its work,
-- and a refused one changes nothing
abbrev pub asked_index : {B : Type 0} → Class B → ℕ → Call B → Asked B → index.State B → index.State B
asked_index c s call (asked.Now reply.Ok) i = happening.with_transaction s i
asked_index c s call (asked.Now other) i = i
asked_index c s call asked.Open i =
    happening.slotted s (ask_in c.keys s call i.slots).1 (happening.first_work (index.tree_now c i) call) i
