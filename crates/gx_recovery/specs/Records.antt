-- The kinds of record of a log over entries E and contents of pages P, and what each says by itself.
use Rattle.std.specs.Prelude.{ℕ, Bool, true, false, ◌&&◌, ◌==◌, Option, None, Some, List}
use Rattle.std.specs.List.{list_any}

-- a page by its number, with the whole of its content
pub record Image (P : Type 0) : Type 0 where
  pub page : ℕ
  pub content : P

-- a small change of a page: which contents it fits, where a node may have so many entries, and what it makes of one
pub record Change (P : Type 0) : Type 0 where
  pub fits : (most : ℕ) → P → Bool
  pub made : P → P

-- what a write says of its leaf: the whole of its content, or a small change of it
pub data Said (P : Type 0) : Type 0 where
  Whole : (content : P) → Said P
  Small : (change : Change P) → Said P

-- The records. A mark is true if the entry is marked or isn't there. Pages: these pages have these contents, and
-- counter and used are what they are afterwards. Adjust: a small change of this one page, of no transaction. Write: the
-- transaction changed the entry's mark, on this leaf, of which it is said how it is then. Commit: the transaction's
-- entries are the set of this number. End: all that the transaction wrote is unchanged. Counters and Note begin a log:
-- the numbers, and an entry that an open transaction had written.
pub data Record (E P : Type 0) : Type 0 where
  Pages : (images : List (Image P)) (counter used : ℕ) → Record E P
  Adjust : (page : ℕ) (change : Change P) → Record E P
  Write : (transaction : ℕ) (entry : E) (before after : Bool) (leaf : ℕ) (said : Said P) → Record E P
  Commit : (transaction number : ℕ) → Record E P
  End : (transaction : ℕ) → Record E P
  Counters : (number counter used next : ℕ) → Record E P
  Note : (transaction : ℕ) (entry : E) (before : Bool) (leaf : ℕ) → Record E P

-- an entry that a transaction wrote: the mark that it had before, and its leaf
pub record Touch (E : Type 0) : Type 0 where
  pub transaction : ℕ
  pub entry : E
  pub before : Bool
  pub leaf : ℕ

-- what a record touches: notes count as writes do
abbrev pub touch_of : {E P : Type 0} → Record E P → Option (Touch E)
touch_of (Pages images counter used) = None
touch_of (Adjust page change) = None
touch_of (Write transaction entry before after leaf said) = Some (record { transaction = transaction; entry = entry; before = before; leaf = leaf })
touch_of (Commit transaction number) = None
touch_of (End transaction) = None
touch_of (Counters number counter used next) = None
touch_of (Note transaction entry before leaf) = Some (record { transaction = transaction; entry = entry; before = before; leaf = leaf })

-- whether a record closes transaction t, where a commit closes it if its number passes
abbrev pub closes : {E P : Type 0} → (ℕ → Bool) → ℕ → Record E P → Bool
closes passes t (Pages images counter used) = false
closes passes t (Adjust page change) = false
closes passes t (Write transaction entry before after leaf said) = false
closes passes t (Commit transaction number) = transaction == t && passes number
closes passes t (End transaction) = transaction == t
closes passes t (Counters number counter used next) = false
closes passes t (Note transaction entry before leaf) = false

abbrev pub is_whole : {P : Type 0} → Said P → Bool
is_whole (Whole content) = true
is_whole (Small change) = false

-- whether a record gives the whole of page p
abbrev pub gives : {E P : Type 0} → ℕ → Record E P → Bool
gives p (Pages images counter used) = list_any (λ i. i.page == p) images
gives p (Adjust page change) = false
gives p (Write transaction entry before after leaf said) = is_whole said && leaf == p
gives p (Commit transaction number) = false
gives p (End transaction) = false
gives p (Counters number counter used next) = false
gives p (Note transaction entry before leaf) = false

-- whether a record says anything of page p
abbrev pub speaks_of : {E P : Type 0} → ℕ → Record E P → Bool
speaks_of p (Pages images counter used) = list_any (λ i. i.page == p) images
speaks_of p (Adjust page change) = page == p
speaks_of p (Write transaction entry before after leaf said) = leaf == p
speaks_of p (Commit transaction number) = false
speaks_of p (End transaction) = false
speaks_of p (Counters number counter used next) = false
speaks_of p (Note transaction entry before leaf) = false

-- every number passes
abbrev pub any_number : ℕ → Bool
any_number number = true

-- whether transaction t is closed in a log
abbrev pub settled : {E P : Type 0} → (ℕ → Bool) → ℕ → List (Record E P) → Bool
settled passes t log = list_any (closes passes t) log

-- whether a record is of transaction t
abbrev pub names : {E P : Type 0} → ℕ → Record E P → Bool
names t (Pages images counter used) = false
names t (Adjust page change) = false
names t (Write transaction entry before after leaf said) = transaction == t
names t (Commit transaction number) = transaction == t
names t (End transaction) = transaction == t
names t (Counters number counter used next) = false
names t (Note transaction entry before leaf) = transaction == t
