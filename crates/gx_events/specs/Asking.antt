-- What asking a call does to an engine: locks alone decide it.
use Rattle.std.specs.Prelude.{ℕ, ◌+◌, ◌==◌, not, ◌&&◌, if◌then◌else◌, length, sum_by, Option, None, Some, Result, Ok, Err, List, [], ◌∷◌}
use Rattle.gx_geom.specs.declared.refusal.Refusal.{Refusal}
use Rattle.gx_geom.specs.declared.refusal.Refusal.TheVariants.{NoTransaction, InTransaction, CallOpen, BadSession}
use Rattle.gx_machine.specs.declared.call.Call.{Call}
use Rattle.gx_machine.specs.declared.call.Call.TheVariants.{Begin, Insert, Delete, Search, Commit, Abort}
use Rattle.gx_machine.specs.declared.reply.Reply.TheVariants as reply
use Rattle.gx_machine.specs.declared.reply.Asked.{Asked}
use Rattle.gx_machine.specs.declared.reply.Asked.TheVariants as asked
use Rattle.gx_machine.specs.Keys.{Keys}
use Rattle.gx_machine.specs.Sessions.{Locks, no_locks, conflicts, lock_for}
use Rattle.gx_machine.specs.Machine.{is_session}
use Rattle.gx_events.specs.Slots.{Note, Slot, Free, Working, Undoing, Waiting, locks_held, slot_at, with_slot}
use Rattle.gx_events.specs.Engines.{Engine}

-- the least session but s whose locks conflict with a call of s, where the slots given are numbered from n
abbrev pub least_barring : {B : Type 0} → Keys B → Call B → ℕ → ℕ → List (Slot B) → Option ℕ
least_barring k call s n [] = None
least_barring k call s n (slot ∷ slots) =
    if not (n == s) && conflicts k call (locks_held slot) then Some n else least_barring k call s (n + 1) slots

-- the claims held in all
abbrev pub claims_held : {B : Type 0} → List (Slot B) → ℕ
claims_held slots = sum_by (λ slot. length (locks_held slot).claims) slots

-- a call refused, with the slot unchanged
abbrev pub refused : {B : Type 0} → Refusal → Slot B → Asked B × Slot B
refused why slot = (asked.Now (reply.Refused why), slot)

-- a call that has its lock is open, and one without its lock is refused
abbrev pub asked_with : {B : Type 0} → Call B → Result (Locks B) Refusal → Locks B → List (Note B) → Asked B × Slot B
asked_with call (Ok locks) old notes = (asked.Open, Working locks notes (Some call))
asked_with call (Err why) old notes = refused why (Working old notes None)

-- a call in a transaction that has none open
abbrev pub ask_working : {B : Type 0} → Keys B → Call B → Option ℕ → ℕ → Locks B → List (Note B) → Asked B × Slot B
ask_working k Begin least spent locks notes = refused InTransaction (Working locks notes None)
ask_working k (Insert e) least spent locks notes = asked_with (Insert e) (lock_for k (Insert e) least spent locks) locks notes
ask_working k (Delete e) least spent locks notes = asked_with (Delete e) (lock_for k (Delete e) least spent locks) locks notes
ask_working k (Search q) least spent locks notes = asked_with (Search q) (lock_for k (Search q) least spent locks) locks notes
ask_working k Commit least spent locks notes = asked_with Commit (lock_for k Commit least spent locks) locks notes
ask_working k Abort least spent locks notes = (asked.Open, Undoing locks notes)

-- a call outside of a transaction
abbrev pub ask_free : {B : Type 0} → Call B → Asked B × Slot B
ask_free Begin = (asked.Now reply.Ok, Working no_locks [] None)
ask_free (Insert e) = refused NoTransaction Free
ask_free (Delete e) = refused NoTransaction Free
ask_free (Search q) = refused NoTransaction Free
ask_free Commit = refused NoTransaction Free
ask_free Abort = refused NoTransaction Free

-- a call of one session, where least is the least other one that bars it and spent the claims held in all
abbrev pub ask_slot : {B : Type 0} → Keys B → Call B → Option ℕ → ℕ → Slot B → Asked B × Slot B
ask_slot k call least spent Free = ask_free call
ask_slot k call least spent (Working locks notes None) = ask_working k call least spent locks notes
ask_slot k call least spent (Working locks notes (Some pending)) = refused CallOpen (Working locks notes (Some pending))
ask_slot k call least spent (Undoing locks notes) = refused CallOpen (Undoing locks notes)
ask_slot k call least spent (Waiting number) = refused CallOpen (Waiting number)

-- what the call gives, and the slot that it leaves
abbrev pub ask_in : {B : Type 0} → Keys B → ℕ → Call B → List (Slot B) → Asked B × Slot B
ask_in k s call slots = ask_slot k call (least_barring k call s 1 slots) (claims_held slots) (slot_at s slots)

-- what the call gives, and the engine that it leaves
abbrev pub ask : {B : Type 0} → Keys B → ℕ → Call B → Engine B → Asked B × Engine B
ask k s call engine =
    if is_session s then
    (let r = ask_in k s call engine.slots in (r.0, record engine { slots = with_slot s r.1 engine.slots }))
    else (asked.Now (reply.Refused BadSession), engine)
