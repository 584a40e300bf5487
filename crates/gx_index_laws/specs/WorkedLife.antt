-- A life of a small index, with its states: numbers as keys, four entries a node, eight pages. One session inserts four
-- entries and commits; another searches while the first inserts a fifth, for which the leaf is split; then power is lost,
-- with the split and the fifth entry in flight, and the opening undoes it and gates that.
use Rattle.std.specs.Prelude.{ℕ, zero, suc, nat_le, true, false, Bool, None, Some, List, [], ◌∷◌, ◌++◌}
use Rattle.std.specs.Ordering.{is_eq, nat_cmp}
use Rattle.gx_machine.specs.declared.entry.Entry.{Entry}
use Rattle.gx_machine.specs.declared.query.Query.{Query}
use Rattle.gx_machine.specs.declared.query.Query.TheVariants.{Overlap}
use Rattle.gx_machine.specs.declared.call.Call.TheVariants.{Begin, Insert, Search, Commit as CommitCall}
use Rattle.gx_machine.specs.declared.reply.Reply.TheVariants.{Ok}
use Rattle.gx_machine.specs.declared.reply.Asked.TheVariants.{Now, Open}
use Rattle.gx_machine.specs.Sessions.{Locks}
use Rattle.gx_machine.specs.Worked.{number_keys}
use Rattle.gx_node.specs.Trees.{Pair, Child}
use Rattle.gx_node.specs.Reach.{TraversalItem}
use Rattle.gx_events.specs.Slots.{Note, Free, Working, Waiting}
use Rattle.gx_events.specs.Happenings.{Happening, Asks, Inserts, Finds, Seals, Durable, Acknowledges, Undoes, EndsUndo, Opens, Works}
use Rattle.gx_recovery.specs.Records.{Whole, Record, Pages, Write, Commit, End}
use Rattle.gx_recovery.specs.Logged.{begun, gate_synced}
use Rattle.gx_index_laws.specs.Classes.{Class, Page}
use Rattle.gx_index_laws.specs.States.{State, Rests, Looks, Descends, Seeks, fresh_state}
use Rattle.gx_index_laws.specs.Happening.{with_record, with_work, slotted, with_restored, with_transaction}
use Rattle.gx_index_laws.specs.Openings.{found_state, Try}

-- a key covers those that are no greater
abbrev pub numbers : Class ℕ
numbers = record {
  keys = number_keys;
  rules = record { covers = λ a b. nat_le b a; same = λ a b. is_eq (nat_cmp a b); most = 4 };
  is_key = λ key. true;
  pages = 8;
  head = [];
}

-- the n-th entry, and the fifth
abbrev pub nth : ℕ → Entry ℕ
nth n = record { row = n; key = n }

abbrev pub fifth : Entry ℕ
fifth = record { row = 5; key = 3 }

-- what the search looks for: the fourth entry
abbrev pub query : Query ℕ
query = Overlap 4

-- f of 1 to n, in order
abbrev pub up_to : {X : Type 0} → (ℕ → X) → ℕ → List X
up_to f zero = []
up_to f (suc n) = up_to f n ++ f (suc n) ∷ []

-- pages
abbrev pub pair : ℕ → ℕ → Bool → Pair ℕ
pair row key marked = record { row = row; key = key; marked = marked }

abbrev pub nth_pair : ℕ → Pair ℕ
nth_pair n = pair n n false

abbrev pub child : ℕ → ℕ → Child ℕ
child key page = record { key = key; page = page }

abbrev pub leaf : (own number right : ℕ) → List (Pair ℕ) → Page ℕ
leaf own number right pairs = record { node = record { level = 0; nsn = number; right = right; pairs = pairs; children = [] }; own = own; bytes = [] }

abbrev pub root : List (Child ℕ) → Page ℕ
root children = record { node = record { level = 1; nsn = 0; right = 0; pairs = []; children = children }; own = 1; bytes = [] }

abbrev pub item : ℕ → ℕ → TraversalItem
item page seen = record { page = page; seen = seen }

-- records
abbrev pub nth_insert : ℕ → Record (Entry ℕ) (Page ℕ)
nth_insert n = Write 1 (nth n) true false 2 (Whole (leaf 2 0 0 (up_to nth_pair n)))

abbrev pub split : Record (Entry ℕ) (Page ℕ)
split =
    Pages (record { page = 1; content = root (child 2 2 ∷ child 4 3 ∷ []) }
    ∷ record { page = 2; content = leaf 2 1 3 (nth_pair 1 ∷ nth_pair 2 ∷ []) }
    ∷ record { page = 3; content = leaf 3 0 0 (nth_pair 3 ∷ nth_pair 4 ∷ []) } ∷ []) 1 3

abbrev pub fifth_insert : Record (Entry ℕ) (Page ℕ)
fifth_insert = Write 3 fifth true false 3 (Whole (leaf 3 0 0 (nth_pair 3 ∷ nth_pair 4 ∷ pair 5 3 false ∷ [])))

abbrev pub fifth_undone : Record (Entry ℕ) (Page ℕ)
fifth_undone = Write 3 fifth false true 3 (Whole (leaf 3 0 0 (nth_pair 3 ∷ nth_pair 4 ∷ pair 5 3 true ∷ [])))

-- locks and notes
abbrev pub claiming : List (Entry ℕ) → Locks ℕ
claiming claims = record { claims = claims; predicates = [] }

abbrev pub searching : Locks ℕ
searching = record { claims = []; predicates = query ∷ [] }

abbrev pub note : Entry ℕ → Note ℕ
note e = record { entry = e; was_live = false }

abbrev pub nth_note : ℕ → Note ℕ
nth_note n = note (nth n)

-- The first session's n-th entry is asked for, if so many are noted, and inserted.
abbrev pub asking : (n noted : ℕ) → State ℕ → State ℕ
asking n noted old = slotted 1 (Working (claiming (up_to nth n)) (up_to nth_note noted) (Some (Insert (nth n)))) (Looks (item 1 0 ∷ []) []) old

abbrev pub inserted : ℕ → State ℕ → State ℕ
inserted n old = slotted 1 (Working (claiming (up_to nth n)) (up_to nth_note n) None) Rests (with_record (nth_insert n) old)

-- The first transaction: four entries, and their commit.
abbrev pub state_0 : State ℕ
state_0 = fresh_state 9

abbrev pub state_1 : State ℕ
state_1 = with_transaction 1 state_0

abbrev pub state_2 : State ℕ
state_2 = asking 1 0 state_1

abbrev pub state_3 : State ℕ
state_3 = inserted 1 state_2

abbrev pub state_4 : State ℕ
state_4 = asking 2 1 state_3

abbrev pub state_5 : State ℕ
state_5 = inserted 2 state_4

abbrev pub state_6 : State ℕ
state_6 = asking 3 2 state_5

abbrev pub state_7 : State ℕ
state_7 = inserted 3 state_6

abbrev pub state_8 : State ℕ
state_8 = asking 4 3 state_7

abbrev pub state_9 : State ℕ
state_9 = inserted 4 state_8

abbrev pub state_10 : State ℕ
state_10 = slotted 1 (Working (claiming (up_to nth 4)) (up_to nth_note 4) (Some CommitCall)) Rests state_9

abbrev pub state_11 : State ℕ
state_11 = record (slotted 1 (Waiting 1) Rests (with_record (Commit 1 1) state_10)) { older = [] ∷ [] }

abbrev pub state_12 : State ℕ
state_12 = record state_11 { log = begun state_11.log }

abbrev pub state_13 : State ℕ
state_13 = record state_12 { log = gate_synced state_12.log; older = []; oldest = 1 }

abbrev pub committed : State ℕ
committed = slotted 1 Free Rests state_13

-- The second session searches, and has read the root.
abbrev pub state_15 : State ℕ
state_15 = with_transaction 2 committed

abbrev pub state_16 : State ℕ
state_16 = slotted 2 (Working searching [] (Some (Search query))) (Looks (item 1 0 ∷ []) []) state_15

abbrev pub state_17 : State ℕ
state_17 = with_work 2 (Looks (item 2 0 ∷ []) []) state_16

-- The first inserts a fifth entry: it looks, finds nothing, and descends to a leaf that is full.
abbrev pub state_18 : State ℕ
state_18 = with_transaction 1 state_17

abbrev pub state_19 : State ℕ
state_19 = slotted 1 (Working (claiming (fifth ∷ [])) [] (Some (Insert fifth))) (Looks (item 1 0 ∷ []) []) state_18

abbrev pub state_20 : State ℕ
state_20 = with_work 1 (Looks (item 2 0 ∷ []) []) state_19

abbrev pub state_21 : State ℕ
state_21 = with_work 1 (Looks [] []) state_20

abbrev pub state_22 : State ℕ
state_22 = with_work 1 (Descends fifth 0 (item 1 0)) state_21

abbrev pub state_23 : State ℕ
state_23 = with_work 1 (Descends fifth 1 (item 2 0)) state_22

-- The leaf is split while the search is open; the descent begins again, and the entry is added.
abbrev pub state_24 : State ℕ
state_24 = with_record split state_23

abbrev pub state_25 : State ℕ
state_25 = with_work 1 (Descends fifth 0 (item 1 1)) state_24

abbrev pub state_26 : State ℕ
state_26 = with_work 1 (Descends fifth 1 (item 3 1)) state_25

abbrev pub state_27 : State ℕ
state_27 = slotted 1 (Working (claiming (fifth ∷ [])) (note fifth ∷ []) None) Rests (with_record fifth_insert state_26)

-- The search reads the leaf that was split, and the one that its rightlink names, and is answered.
abbrev pub state_28 : State ℕ
state_28 = with_work 2 (Looks (item 3 0 ∷ []) []) state_27

abbrev pub state_29 : State ℕ
state_29 = with_work 2 (Looks [] (nth_pair 4 ∷ [])) state_28

abbrev pub state_30 : State ℕ
state_30 = slotted 2 (Working searching [] None) Rests state_29

-- The batch with the split and the fifth entry is in flight.
abbrev pub lost : State ℕ
lost = record state_30 { log = begun state_30.log }

-- The opening over that page area, with that batch read; its undo, whose records are gated.
abbrev pub found_log : List (Record (Entry ℕ) (Page ℕ))
found_log = lost.log.gated ++ lost.log.flight

abbrev pub opened : State ℕ
opened = found_state numbers 4 lost.log.area found_log

abbrev pub sought : State ℕ
sought = with_work 1 (Seeks fifth 3) opened

abbrev pub restored : State ℕ
restored = with_restored 1 fifth (with_record fifth_undone sought)

abbrev pub undone : State ℕ
undone = slotted 1 Free Rests (with_record (End 3) restored)

abbrev pub sent : State ℕ
sent = record undone { log = begun undone.log }

abbrev pub reopened : State ℕ
reopened = record sent { log = gate_synced sent.log; older = []; oldest = 1 }

-- The events.
abbrev pub inserting : List (Happening ℕ)
inserting =
    Asks 1 Begin (Now Ok) ∷ Asks 1 (Insert (nth 1)) Open ∷ Inserts 1 (nth 1) ∷ Asks 1 (Insert (nth 2)) Open ∷ Inserts 1 (nth 2)
    ∷ Asks 1 (Insert (nth 3)) Open ∷ Inserts 1 (nth 3) ∷ Asks 1 (Insert (nth 4)) Open ∷ Inserts 1 (nth 4) ∷ []

abbrev pub committing : List (Happening ℕ)
committing = Asks 1 CommitCall Open ∷ Seals 1 [] 1 ∷ Works ∷ Durable 1 ∷ Acknowledges 1 1 ∷ []

-- the search begins, and another looks and descends, up to the split
abbrev pub descending : List (Happening ℕ)
descending =
    Asks 2 Begin (Now Ok) ∷ Asks 2 (Search query) Open ∷ Works ∷ Asks 1 Begin (Now Ok) ∷ Asks 1 (Insert fifth) Open
    ∷ Works ∷ Works ∷ Works ∷ Works ∷ Works ∷ []

-- the entry is added, and the search goes on to its end
abbrev pub finding : List (Happening ℕ)
finding = Works ∷ Works ∷ Inserts 1 fifth ∷ Works ∷ Works ∷ Finds 2 query (nth 4 ∷ []) ∷ Works ∷ []

abbrev pub undoing : List (Happening ℕ)
undoing = Works ∷ Undoes 1 fifth ∷ EndsUndo 1 ∷ Works ∷ Durable 1 ∷ []

abbrev pub opening : Try ℕ
opening = record { area = lost.log.area; log = found_log; next = 4; events = undoing }

abbrev pub worked_events : List (Happening ℕ)
worked_events = inserting ++ (committing ++ (descending ++ (finding ++ Opens 1 ∷ [])))
