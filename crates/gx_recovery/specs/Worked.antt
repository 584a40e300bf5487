-- A small index to try the definitions on: entries are numbers, and pages 2 and 3 are its leaves.
use Rattle.std.specs.Prelude.{◌≡◌, ℕ, zero, suc, ◌+◌, nat_lt, ◌==◌, Bool, true, false, not, ◌&&◌, if◌then◌else◌, filter, length, List, [], ◌∷◌, ◌++◌}
use Rattle.std.specs.List.{list_any}
use Rattle.std.specs.Ordering.{is_eq, nat_cmp}
use Rattle.gx_recovery.specs.Known.{Known, Tree}
use Rattle.gx_recovery.specs.Records.{Change, Whole, Small, Record, Pages, Adjust, Write, Commit, End, Counters, Note}
use Rattle.gx_recovery.specs.Damages.{Damage, NoBody, NoHead, HeadLater, NotDevice, PageNumber, OwnNumber, LeafNumber, NoEntry, LastNumber, Closed, CommitNumber, CounterFalls, UsedFalls, Shared, TooManyOpen, TooManyTouched, NoImage, Unfit, damages}

-- an entry on a leaf, with its mark
pub record Pair : Type 0 where
  pub entry : ℕ
  pub marked : Bool

-- a page's content: its own number, and its pairs
pub record Content : Type 0 where
  pub own : ℕ
  pub pairs : List Pair

abbrev pub live : ℕ → Pair
live e = record { entry = e; marked = false }

abbrev pub marked : ℕ → Pair
marked e = record { entry = e; marked = true }

abbrev pub leaf : ℕ → List Pair → Content
leaf own pairs = record { own = own; pairs = pairs }

-- the pairs of a leaf and of what is to the right of it
abbrev pub pairs_from : ℕ → Tree Content → List Pair
pairs_from page tree = if page == 2 then (tree.page 2).pairs ++ (tree.page 3).pairs else (tree.page 3).pairs

abbrev pub worked : Known ℕ Content
worked = record {
  cmp = nat_cmp;
  live = λ tree e. list_any (λ p. not p.marked && is_eq (nat_cmp e p.entry)) (pairs_from 2 tree);
  sound = λ tree. ((tree.page 2).own ≡ 2) × (tree.used ≡ 2 + tree.counter);
  placed = λ tree e page. list_any (λ p. is_eq (nat_cmp e p.entry)) (pairs_from page tree) ≡ true;
  is_entry = λ e. nat_lt e 1000;
  own = λ content. content.own;
  most = 3;
  pages = 8;
  head = [];
}

-- an insert by a transaction, of an entry that wasn't there, on page 2
abbrev pub insert : ℕ → ℕ → Record ℕ Content
insert t e = Write t e true false 2 (Whole (leaf 2 (live e ∷ [])))

-- the content with these pairs
abbrev pub with_pairs : List Pair → Content → Content
with_pairs pairs content = record content { pairs = pairs }

-- a small change that adds a pair: it fits a leaf that has room for it, and hasn't the entry
abbrev pub adding : ℕ → Change Content
adding e = record {
  fits = λ most content. nat_lt (length content.pairs) most && not (list_any (λ p. p.entry == e) content.pairs);
  made = λ content. with_pairs (live e ∷ content.pairs) content;
}

-- one that sweeps an entry away: it fits a leaf that has it with its mark
abbrev pub sweeping : ℕ → Change Content
sweeping e = record {
  fits = λ most content. list_any (λ p. p.entry == e && p.marked) content.pairs;
  made = λ content. with_pairs (filter (λ p. not (p.entry == e)) content.pairs) content;
}

-- an insert that says only what it adds
abbrev pub small_insert : ℕ → ℕ → Record ℕ Content
small_insert t e = Write t e true false 2 (Small (adding e))

-- notes of so many transactions, one each; and so many notes of one transaction
abbrev pub notes_upto : ℕ → List (Record ℕ Content)
notes_upto zero = []
notes_upto (suc n) = notes_upto n ++ Note n n true 2 ∷ []

abbrev pub notes_down : ℕ → List (Record ℕ Content)
notes_down zero = []
notes_down (suc n) = Note 1 n true 2 ∷ notes_down n

abbrev pub fresh_head : Record ℕ Content
fresh_head = Counters 0 0 2 1

-- A damaged log with what is wrong with it.
pub record Row : Type 0 where
  pub bodies : List (List (Record ℕ Content))
  pub found : List Damage

abbrev pub later : List (Record ℕ Content) → List Damage → Row
later body found = record { bodies = (fresh_head ∷ []) ∷ body ∷ []; found = found }

abbrev pub first : List (Record ℕ Content) → List Damage → Row
first body found = record { bodies = body ∷ []; found = found }

-- the number that no transaction has
abbrev pub no_transaction : ℕ
no_transaction = 18446744073709551615

-- the rows: the first eight logs have nothing wrong with them, each of the others one thing
abbrev pub rows : List Row
rows =
    later (insert 1 7 ∷ Commit 1 1 ∷ insert 2 7 ∷ End 2 ∷ []) []
    -- small changes behind an image, by a write and by pages; an image is no small change, and may come at any time
    ∷ later (insert 1 7 ∷ small_insert 1 8 ∷ Commit 1 1 ∷ []) []
    ∷ later (Pages (record { page = 2; content = leaf 2 (marked 7 ∷ []) } ∷ []) 0 2 ∷ Adjust 2 (sweeping 7) ∷ small_insert 1 7 ∷ insert 1 7 ∷ []) []
    -- at the limits: as many entries as a node may have, all pages of the device, the last transaction, eight transactions,
    -- 512 entries
    ∷ later (insert 1 7 ∷ small_insert 1 8 ∷ small_insert 1 9 ∷ []) []
    ∷ first (Counters 0 0 8 1 ∷ Note 1 7 true 8 ∷ []) []
    ∷ later (End 18446744073709551614 ∷ []) []
    ∷ first (fresh_head ∷ notes_upto 8) []
    ∷ first (fresh_head ∷ notes_down 512) []
    -- gate 0 is closed; the first body begins with another record, or has another behind; a head in a later body
    ∷ record { bodies = []; found = NoBody ∷ [] }
    ∷ first (insert 1 7 ∷ []) (NoHead ∷ [])
    ∷ first (fresh_head ∷ insert 1 7 ∷ []) (NoHead ∷ [])
    ∷ later (Note 1 7 true 2 ∷ []) (HeadLater ∷ [])
    ∷ later (fresh_head ∷ []) (HeadLater ∷ [])
    -- more pages than the device has; a page 0; a page that isn't in use
    ∷ first (Counters 0 0 9 1 ∷ []) (NotDevice ∷ [])
    ∷ later (Pages (record { page = 0; content = leaf 0 [] } ∷ []) 0 2 ∷ []) (PageNumber ∷ [])
    ∷ later (Pages (record { page = 3; content = leaf 3 [] } ∷ []) 0 2 ∷ []) (PageNumber ∷ [])
    -- an image of another page, on a split and on a write
    ∷ later (Pages (record { page = 2; content = leaf 3 [] } ∷ []) 0 2 ∷ []) (OwnNumber ∷ [])
    ∷ later (Write 1 7 true false 2 (Whole (leaf 3 [])) ∷ []) (OwnNumber ∷ [])
    -- a leaf that isn't in use, of a write and of a note; a leaf 0
    ∷ later (Write 1 7 true false 3 (Whole (leaf 3 [])) ∷ []) (LeafNumber ∷ [])
    ∷ first (fresh_head ∷ Note 1 7 true 3 ∷ []) (LeafNumber ∷ [])
    ∷ first (fresh_head ∷ Note 1 7 true 0 ∷ []) (LeafNumber ∷ [])
    -- so of the first of two notes of one entry
    ∷ first (fresh_head ∷ Note 1 7 true 9 ∷ Note 1 7 true 2 ∷ []) (LeafNumber ∷ [])
    -- a key that isn't one of the class
    ∷ later (insert 1 7000 ∷ []) (NoEntry ∷ [])
    -- the number that none can follow, of a write, a commit, an end and a note
    ∷ later (insert no_transaction 7 ∷ []) (LastNumber ∷ [])
    ∷ later (Commit no_transaction 1 ∷ []) (LastNumber ∷ [])
    ∷ later (End no_transaction ∷ []) (LastNumber ∷ [])
    ∷ first (fresh_head ∷ Note no_transaction 7 true 2 ∷ []) (LastNumber ∷ [])
    -- a transaction goes on after its commit or its end
    ∷ later (Commit 1 1 ∷ insert 1 7 ∷ []) (Closed ∷ [])
    ∷ later (End 1 ∷ Commit 1 1 ∷ []) (Closed ∷ [])
    ∷ later (Commit 1 1 ∷ End 1 ∷ []) (Closed ∷ [])
    -- a commit's number is left out, or comes again
    ∷ later (Commit 1 2 ∷ []) (CommitNumber ∷ [])
    ∷ later (Commit 1 1 ∷ Commit 2 1 ∷ []) (CommitNumber ∷ [])
    -- the counter falls; the pages in use fall
    ∷ later (Pages [] 1 2 ∷ Pages [] 0 2 ∷ []) (CounterFalls ∷ [])
    ∷ later (Pages [] 0 3 ∷ Pages [] 0 2 ∷ []) (UsedFalls ∷ [])
    -- two open transactions have one entry: by two writes, by a note and a write, by two notes
    ∷ later (insert 1 7 ∷ insert 2 7 ∷ []) (Shared ∷ [])
    ∷ record { bodies = (fresh_head ∷ Note 1 7 true 2 ∷ []) ∷ (insert 2 7 ∷ []) ∷ []; found = Shared ∷ [] }
    ∷ first (fresh_head ∷ Note 1 7 true 2 ∷ Note 2 7 true 2 ∷ []) (Shared ∷ [])
    -- nine transactions are open
    ∷ first (fresh_head ∷ notes_upto 9) (TooManyOpen ∷ [])
    -- 513 entries are touched
    ∷ first (fresh_head ∷ notes_down 513) (TooManyTouched ∷ [])
    -- a small change with no image before it in this log: of a write, of no transaction, of another page
    ∷ later (small_insert 1 7 ∷ []) (NoImage ∷ [])
    ∷ later (Adjust 2 (sweeping 7) ∷ []) (NoImage ∷ [])
    ∷ later (insert 1 7 ∷ Adjust 1 (adding 8) ∷ []) (NoImage ∷ [])
    -- one that doesn't fit: the page has the entry already; it has as many as it may; it doesn't have the entry; it has
    -- the entry without a mark
    ∷ later (insert 1 7 ∷ small_insert 1 7 ∷ []) (Unfit ∷ [])
    ∷ later (insert 1 7 ∷ small_insert 1 8 ∷ small_insert 1 9 ∷ small_insert 1 6 ∷ []) (Unfit ∷ [])
    ∷ later (insert 1 7 ∷ Adjust 2 (sweeping 8) ∷ []) (Unfit ∷ [])
    ∷ later (insert 1 7 ∷ Adjust 2 (sweeping 7) ∷ []) (Unfit ∷ [])
    ∷ []

abbrev pub found_in : List Row → List (List Damage)
found_in [] = []
found_in (row ∷ rows) = damages worked row.bodies ∷ found_in rows

abbrev pub wanted_of : List Row → List (List Damage)
wanted_of [] = []
wanted_of (row ∷ rows) = row.found ∷ wanted_of rows
