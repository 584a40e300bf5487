-- What is kept of a log decides what may follow it, by the definitions of logs and of damaged ones.
use Rattle.std.specs.Prelude.{◌≡◌, ℕ, Bool, true, false, ◌&&◌, List, [], ◌∷◌, ◌++◌, map, nat_le}
use Rattle.gx_recovery.specs.Known.{Known, IsLawful}
use Rattle.gx_recovery.specs.Records.{Image, Change, Said, Record, Pages, Adjust, Write, Commit, End, Counters, Note, Touch, settled, any_number}
use Rattle.gx_recovery.specs.Analysis.{Analysis, analysis}
use Rattle.gx_recovery.specs.Given.{given, change_fits}
use Rattle.gx_recovery.specs.Damage.{said_fits, follows, is_head, IsLog}
use Rattle.gx_recovery.specs.Kept.{Kept, is_closed, may_touch, may_write, may_give, may_end, may_commit, with_counters, with_touch, with_pages, with_end, with_commit, ClosedBy}

-- What is kept is what the log says, with a transaction among the closed ones exactly if the log closes it.
pub record IsKept {E P : Type 0} (k : Known E P) (log : List (Record E P)) (s : Kept E) : Type 0 where
  pub told : s.told ≡ analysis k log
  pub closed : (t : ℕ) → is_closed t s.closed ≡ settled any_number t log
  pub pages : s.pages ≡ k.pages

-- A record follows a log exactly if this test passes, and is kept then.
pub record Tells {E P : Type 0} (k : Known E P) (log : List (Record E P)) (r : Record E P) (may : Bool) (new : Kept E) : Type 0 where
  pub exact : follows k log r ≡ may
  pub kept : IsKept k (log ++ r ∷ []) new

-- the same of a record that closes a transaction
pub record TellsClosing {E P : Type 0} (k : Known E P) (log : List (Record E P)) (r : Record E P) (may : Bool) (t : ℕ) (told : Analysis E) (old : Kept E) : Type 0 where
  pub exact : follows k log r ≡ may
  pub kept : (new : Kept E) → ClosedBy t told old new → IsKept k (log ++ r ∷ []) new

-- the same of a log's head
pub record TellsHead {E P : Type 0} (k : Known E P) (head : List (Record E P)) (may : Bool) (new : Kept E) : Type 0 where
  pub exact : is_head k head ≡ may
  pub kept : IsKept k head new

-- A write of an entry of the class. Whether what it says of its leaf fits depends on the pages that the log gives, and
-- on nothing that is kept here.
abbrev pub WritesTell : {E P : Type 0} → Known E P → Type 0
WritesTell {E} {P} k = IsLawful k → (log : List (Record E P)) (s : Kept E) → IsLog k log → IsKept k log s → (t : Touch E) (after : Bool) (said : Said P)
    → k.is_entry t.entry ≡ true
    → Tells k log (Write t.transaction t.entry t.before after t.leaf said) (may_write k.cmp t s && said_fits k t.leaf said log) (with_touch k.cmp t s)

-- a write of what is no entry of the class never follows
abbrev pub NoEntryIsRefused : {E P : Type 0} → Known E P → Type 0
NoEntryIsRefused {E} {P} k = IsLawful k → (log : List (Record E P)) → IsLog k log → (t : Touch E) (after : Bool) (said : Said P) → k.is_entry t.entry ≡ false
    → follows k log (Write t.transaction t.entry t.before after t.leaf said) ≡ false

-- A small change of no transaction follows where it fits the page that the log gives, and changes nothing that is kept.
-- Such a page is in use, so its number isn't tested again.
abbrev pub ChangesTell : {E P : Type 0} → Known E P → Type 0
ChangesTell {E} {P} k = IsLawful k → (log : List (Record E P)) (s : Kept E) → IsLog k log → IsKept k log s → (page : ℕ) (change : Change P)
    → Tells k log (Adjust page change) (change_fits k change (given page log)) s

-- each image has its page's own number
abbrev pub AreOwn : {E P : Type 0} → Known E P → List (Image P) → Type 0
AreOwn k [] = Unit {0}
AreOwn k (i ∷ images) = (k.own i.content ≡ i.page) × AreOwn k images

-- pages, each with its image
abbrev pub PagesTell : {E P : Type 0} → Known E P → Type 0
PagesTell {E} {P} k = IsLawful k → (log : List (Record E P)) (s : Kept E) → IsLog k log → IsKept k log s → (images : List (Image P)) (counter used : ℕ)
    → AreOwn k images
    → Tells k log (Pages images counter used) (may_give counter used (map (λ i. i.page) images) s) (with_pages counter used s)

abbrev pub CommitsTell : {E P : Type 0} → Known E P → Type 0
CommitsTell {E} {P} k = IsLawful k → (log : List (Record E P)) (s : Kept E) → IsLog k log → IsKept k log s → (t number : ℕ)
    → TellsClosing k log (Commit t number) (may_commit t number s) t (with_commit t number s.told) s

abbrev pub EndsTell : {E P : Type 0} → Known E P → Type 0
EndsTell {E} {P} k = IsLawful k → (log : List (Record E P)) (s : Kept E) → IsLog k log → IsKept k log s → (t : ℕ)
    → TellsClosing k log (End t) (may_end t s) t (with_end t s.told) s

-- a head's numbers, where nothing was read before
abbrev pub CountersTell : {E P : Type 0} → Known E P → Type 0
CountersTell {E} {P} k = (s : Kept E) → IsKept k [] s → (number counter used next : ℕ)
    → TellsHead k (Counters number counter used next ∷ []) (nat_le used s.pages) (with_counters number counter used next s)

-- one more note of an entry of the class
abbrev pub NotesTell : {E P : Type 0} → Known E P → Type 0
NotesTell {E} {P} k = IsLawful k → (head : List (Record E P)) (s : Kept E) → is_head k head ≡ true → IsKept k head s → (t : Touch E) → k.is_entry t.entry ≡ true
    → TellsHead k (head ++ Note t.transaction t.entry t.before t.leaf ∷ []) (may_touch k.cmp t s) (with_touch k.cmp t s)

-- a note of what is no entry of the class never makes a head
abbrev pub NoEntryIsNoNote : {E P : Type 0} → Known E P → Type 0
NoEntryIsNoNote {E} {P} k = IsLawful k → (head : List (Record E P)) → is_head k head ≡ true → (t : Touch E) → k.is_entry t.entry ≡ false
    → is_head k (head ++ Note t.transaction t.entry t.before t.leaf ∷ []) ≡ false

-- What begins a head is a head: so a record that spoils one spoils it whatever comes behind.
abbrev pub HeadsBegin : {E P : Type 0} → Known E P → Type 0
HeadsBegin {E} {P} k = IsLawful k → (number counter used next : ℕ) (notes more : List (Record E P))
    → is_head k (Counters number counter used next ∷ (notes ++ more)) ≡ true → is_head k (Counters number counter used next ∷ notes) ≡ true
