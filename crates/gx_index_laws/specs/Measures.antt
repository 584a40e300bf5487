-- What an unanswered call has left: a number that each move of the call lowers.
use Rattle.std.specs.Prelude.{ℕ, ◌≡◌, ◌<◌, ◌+◌, ◌-◌, ◌*◌, Bool, not, ◌&&◌, is_some, None, Some, List}
use Rattle.gx_machine.specs.declared.entry.Entry.{Entry}
use Rattle.gx_machine.specs.declared.call.Call.{Call}
use Rattle.gx_machine.specs.Keys.{Keys}
use Rattle.gx_machine.specs.Sessions.{Locks}
use Rattle.gx_machine.specs.Sets.{has}
use Rattle.gx_node.specs.Lists.{how_many}
use Rattle.gx_node.specs.Looks.{from_root}
use Rattle.gx_node.specs.Trees.{Pair, Tree, child_pages, size, times}
use Rattle.gx_node.specs.Reach.{TraversalItem, pages_ahead}
use Rattle.gx_node.specs.Writes.{leaves_left, descent_left}
use Rattle.gx_events.specs.Slots.{Note, Slot, Free, Working, Undoing, Waiting, slot_at, noted}
use Rattle.gx_events.specs.Wants.{is_claimed}
use Rattle.gx_index_laws.specs.Classes.{Class, IsLawful, entry_of}
use Rattle.gx_index_laws.specs.Happening.{with_work}
use Rattle.gx_index_laws.specs.States.{State, Work, Rests, Looks, Descends, Seeks, tree_now}
use Rattle.gx_index_laws.specs.Whole.{IsWhole}

-- the device's free pages
abbrev pub pages_free : {B : Type 0} → Class B → Tree B → ℕ
pages_free c t = c.pages - t.used

-- What a look has left: the pages ahead of it, and those not taken. A split puts one of these ahead of it at most.
abbrev pub look_left : {B : Type 0} → Class B → Tree B → List TraversalItem → ℕ
look_left c t stack = pages_ahead t stack + pages_free c t

-- what a seek has left: the leaves to the right of it, and the pages not taken, of which a split puts one there at most
abbrev pub seek_left : {B : Type 0} → Class B → Tree B → ℕ → ℕ
seek_left c t leaf = leaves_left t leaf + pages_free c t

-- some session claims the pair
abbrev pub claims_pair : {B : Type 0} → Class B → List (Slot B) → Pair B → Bool
claims_pair c slots x = is_claimed c.keys (entry_of x) slots

-- more than any descent has left: a new beginning for each page, a sweep for each entry of each page, and all levels
abbrev pub descent_most : {B : Type 0} → Class B → ℕ
descent_most c = c.pages * (c.pages + 1) + c.pages * c.rules.most + c.pages + 1

-- what an open call has left, by its session's work: a look may still turn into a descent or a seek; a commit is to be sealed
abbrev pub call_left : {B : Type 0} → Class B → Tree B → List (Slot B) → Work B → ℕ
call_left c t slots Rests = 1
call_left c t slots (Looks stack found) = descent_most c + look_left c t stack
call_left c t slots (Descends e parent item) = descent_left c.rules t c.pages (claims_pair c slots) parent item
call_left c t slots (Seeks e leaf) = seek_left c t leaf

-- the entries that an abort has yet to restore, of those that it claims
abbrev pub entries_left : {B : Type 0} → Keys B → List (Note B) → List (Entry B) → List (Entry B) → ℕ
entries_left k notes restored claims = how_many (λ e. is_some (noted k e notes) && not (has k e restored)) claims

-- what an abort has left of the entry that it is at: a seek, or one that hasn't begun
abbrev pub undo_left : {B : Type 0} → Class B → Tree B → Work B → ℕ
undo_left c t Rests = c.pages + 1
undo_left c t (Looks stack found) = c.pages + 1
undo_left c t (Descends e parent item) = c.pages + 1
undo_left c t (Seeks e leaf) = seek_left c t leaf

-- what a slot's call has left
abbrev pub slot_left : {B : Type 0} → Class B → Tree B → List (Slot B) → Slot B → Work B → List (Entry B) → ℕ
slot_left c t slots Free work restored = 0
slot_left c t slots (Working locks notes None) work restored = 0
slot_left c t slots (Working locks notes (Some call)) work restored = call_left c t slots work
slot_left c t slots (Undoing locks notes) work restored = entries_left c.keys notes restored locks.claims * (c.pages + 2) + undo_left c t work
slot_left c t slots (Waiting number) work restored = 0

-- what a session's call has left
abbrev pub work_left : {B : Type 0} → Class B → State B → ℕ → ℕ
work_left c s a = slot_left c (tree_now c s) s.slots (slot_at a s.slots) (s.work a) (s.restored a)

-- a session's open call is at this work
pub record IsAtWork {B : Type 0} (c : Class B) (old : State B) (s : ℕ) (work : Work B) : Type 0 where
  pub lawful : IsLawful c
  pub whole : IsWhole c old
  pub locks : Locks B
  pub notes : List (Note B)
  pub call : Call B
  pub at : slot_at s old.slots ≡ Working locks notes (Some call)
  pub is : old.work s ≡ work

-- its abort is, with these notes
pub record IsUndoing {B : Type 0} (c : Class B) (old : State B) (s : ℕ) (notes : List (Note B)) : Type 0 where
  pub lawful : IsLawful c
  pub whole : IsWhole c old
  pub locks : Locks B
  pub at : slot_at s old.slots ≡ Undoing locks notes

-- a session's call has less left than before
abbrev pub LeavesLess : {B : Type 0} → Class B → ℕ → State B → State B → Type 0
LeavesLess c s old new = work_left c new s < work_left c old s

-- a page isn't full, and has an entry for this one
abbrev pub HasRoomFor : {B : Type 0} → Class B → Tree B → ℕ → ℕ → Type 0
HasRoomFor c t page x = (size (t.node page) < c.rules.most) × (0 < times x (child_pages (t.node page)))

-- the index once a session's descent goes down from its item to a page, or begins again
abbrev pub goes_to : {B : Type 0} → Class B → ℕ → Entry B → TraversalItem → ℕ → State B → State B
goes_to c s e item x old = with_work s (Descends e item.page (record { page = x; seen = (tree_now c old).counter })) old

abbrev pub begins_anew : {B : Type 0} → Class B → ℕ → Entry B → State B → State B
begins_anew c s e old = with_work s (Descends e 0 (from_root (tree_now c old))) old
