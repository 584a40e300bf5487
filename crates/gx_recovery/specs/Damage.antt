-- Which lists of records are logs: the tests that a restart makes, record by record.
use Rattle.std.specs.Prelude.{◌≡◌, ℕ, ◌+◌, Bool, true, false, not, ◌&&◌, ◌||◌, nat_le, nat_lt, ◌==◌, if◌then◌else◌, length, List, [], ◌∷◌, ◌++◌}
use Rattle.std.specs.List.{list_any, list_all}
use Rattle.gx_recovery.specs.Known.{Known, same}
use Rattle.gx_recovery.specs.Records.{Image, Said, Whole, Small, Record, Pages, Adjust, Write, Commit, End, Counters, Note, Touch, settled, any_number}
use Rattle.gx_recovery.specs.Analysis.{Analysis, analysis}
use Rattle.gx_recovery.specs.Given.{given, change_fits}
use Rattle.gx_recovery.specs.declared.TheConstants.{TRANSACTIONS, TOUCHED, LAST_TRANSACTION}

-- a transaction's number that another can follow
abbrev pub is_transaction : ℕ → Bool
is_transaction t = nat_lt t LAST_TRANSACTION

-- a page that is in use
abbrev pub is_page : ℕ → ℕ → Bool
is_page used page = nat_lt 0 page && nat_le page used

-- what is touched has a transaction's number, a key of the class and a leaf that is in use
abbrev pub touch_fits : {E P : Type 0} → Known E P → ℕ → Touch E → Bool
touch_fits k used t = is_transaction t.transaction && (k.is_entry t.entry && is_page used t.leaf)

-- no two transactions have touched one entry
abbrev pub apart : {E P : Type 0} → Known E P → List (Touch E) → Bool
apart k [] = true
apart k (x ∷ xs) = list_all (λ y. x.transaction == y.transaction || not (same k x.entry y.entry)) xs && apart k xs

-- how many transactions have touched something
abbrev pub transactions : {E : Type 0} → List (Touch E) → ℕ
transactions [] = 0
transactions (x ∷ xs) = if list_any (λ y. y.transaction == x.transaction) xs then transactions xs else transactions xs + 1

-- What a log may say at any record's end: the pages in use are the device's; what open transactions have touched fits,
-- and no two share an entry; so many transactions may be open at once, and have touched so many entries in all.
abbrev pub fits : {E P : Type 0} → Known E P → Analysis E → Bool
fits k a =
    nat_le a.used k.pages && (list_all (touch_fits k a.used) a.touched && (apart k a.touched
    && (nat_le (transactions a.touched) TRANSACTIONS && nat_le (length a.touched) TOUCHED)))

-- a page's image is of a page in use, and has that page's own number
abbrev pub image_fits : {E P : Type 0} → Known E P → ℕ → Image P → Bool
image_fits k used i = is_page used i.page && k.own i.content == i.page

-- a whole content has its leaf's own number, and a small change fits what the log gives of the leaf
abbrev pub said_fits : {E P : Type 0} → Known E P → ℕ → Said P → List (Record E P) → Bool
said_fits k leaf (Whole content) log = k.own content == leaf
said_fits k leaf (Small change) log = change_fits k change (given leaf log)

-- a transaction may still write, commit or end
abbrev pub is_open : {E P : Type 0} → ℕ → List (Record E P) → Bool
is_open t log = is_transaction t && not (settled any_number t log)

-- Whether a record by itself may come after a log that says a. Neither the counter nor the pages in use fall.
abbrev pub may_follow : {E P : Type 0} → Known E P → List (Record E P) → Analysis E → Record E P → Bool
may_follow k log a (Pages images counter used) = nat_le a.counter counter && (nat_le a.used used && list_all (image_fits k used) images)
may_follow k log a (Adjust page change) = change_fits k change (given page log)
may_follow k log a (Write transaction entry before after leaf said) = not (settled any_number transaction log) && said_fits k leaf said log
may_follow k log a (Commit transaction number) = is_open transaction log && number == a.number + 1
may_follow k log a (End transaction) = is_open transaction log
may_follow k log a (Counters number counter used next) = false
may_follow k log a (Note transaction entry before leaf) = false

-- a record may follow a log: by itself, and by what the log then says
abbrev pub follows : {E P : Type 0} → Known E P → List (Record E P) → Record E P → Bool
follows k log r = may_follow k log (analysis k log) r && fits k (analysis k (log ++ r ∷ []))

-- records may follow a log one after another
abbrev pub follow : {E P : Type 0} → Known E P → List (Record E P) → List (Record E P) → Bool
follow k log [] = true
follow k log (r ∷ rs) = follows k log r && follow k (log ++ r ∷ []) rs

abbrev pub is_note : {E P : Type 0} → Record E P → Bool
is_note (Pages images counter used) = false
is_note (Adjust page change) = false
is_note (Write transaction entry before after leaf said) = false
is_note (Commit transaction number) = false
is_note (End transaction) = false
is_note (Counters number counter used next) = false
is_note (Note transaction entry before leaf) = true

-- a note's leaf is in use; of two notes of one entry the analysis keeps the last one's leaf alone, so each is tested by itself
abbrev pub note_fits : {E P : Type 0} → ℕ → Record E P → Bool
note_fits used (Pages images counter now) = true
note_fits used (Adjust page change) = true
note_fits used (Write transaction entry before after leaf said) = true
note_fits used (Commit transaction number) = true
note_fits used (End transaction) = true
note_fits used (Counters number counter now next) = true
note_fits used (Note transaction entry before leaf) = is_page used leaf

-- a log's head: the numbers, and then notes alone, each on a leaf that is in use
abbrev pub is_head : {E P : Type 0} → Known E P → List (Record E P) → Bool
is_head k (Counters number counter used next ∷ notes) =
    list_all is_note notes && (list_all (note_fits used) notes && fits k (analysis k (Counters number counter used next ∷ notes)))
is_head k log = false

-- the records of these bodies
abbrev pub records_of : {E P : Type 0} → List (List (Record E P)) → List (Record E P)
records_of [] = []
records_of (body ∷ bodies) = body ++ records_of bodies

-- bodies that are no damaged log: the first is a head, and the records of the others may follow it
abbrev pub is_undamaged : {E P : Type 0} → Known E P → List (List (Record E P)) → Bool
is_undamaged k [] = false
is_undamaged k (head ∷ bodies) = is_head k head && follow k head (records_of bodies)

-- one place of an extent: whether its gate is open, and the records of its body
pub record Place (E P : Type 0) : Type 0 where
  pub open_gate : Bool
  pub body : List (Record E P)

-- the bodies of the leading open gates: what comes after a closed one isn't read
abbrev pub bodies_read : {E P : Type 0} → List (Place E P) → List (List (Record E P))
bodies_read [] = []
bodies_read (place ∷ places) = if place.open_gate then place.body ∷ bodies_read places else []

-- bodies behind open gates
abbrev pub opened : {E P : Type 0} → List (List (Record E P)) → List (Place E P)
opened [] = []
opened (body ∷ bodies) = (record { open_gate = true; body = body }) ∷ opened bodies

-- a list of records is a log
pub record IsLog {E P : Type 0} (k : Known E P) (log : List (Record E P)) : Type 0 where
  pub head : List (Record E P)
  pub later : List (Record E P)
  pub parts : log ≡ head ++ later
  pub begins : is_head k head ≡ true
  pub goes_on : follow k head later ≡ true
