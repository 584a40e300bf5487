-- The calls that are open, and what they may still add to a record.
use Rattle.std.specs.Prelude.{ℕ, ◌+◌, ◌*◌, ◌≤◌, if◌then◌else◌, length, sum_by, None, Some, List}
use Rattle.gx_machine.specs.declared.item.Item.{Item}
use Rattle.gx_machine.specs.Sessions.{Session, Idle, Open, Aborting, Committing, is_unanswered}
use Rattle.gx_machine.specs.Machine.{Machine}
use Rattle.gx_shared.specs.declared.record.TheConstants.{RECORD}

-- one if a call of the session is open
abbrev pub open_of : {B : Type 0} → Session B → ℕ
open_of x = if is_unanswered x then 1 else 0

-- how many calls are open
abbrev pub open_calls : {B : Type 0} → List (Session B) → ℕ
open_calls sessions = sum_by open_of sessions

-- the items that an open call may still add: its reply, and that its commit is sealed
abbrev pub owed_of : {B : Type 0} → Session B → ℕ
owed_of Idle = 0
owed_of (Open locks changes None) = 0
owed_of (Open locks changes (Some call)) = 2
owed_of (Aborting locks) = 2
owed_of (Committing number) = 1

abbrev pub owed : {B : Type 0} → List (Session B) → ℕ
owed sessions = sum_by owed_of sessions

-- the record has room for three items for a new call and for each open one
abbrev pub HasRoom : {B : Type 0} → List (Item B) → Machine B → Type 0
HasRoom calls m = length calls + 3 * (open_calls m.sessions + 1) ≤ RECORD
