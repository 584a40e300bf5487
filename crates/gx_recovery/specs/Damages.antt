-- What is wrong with given bodies, item by item: all that the tests of a log refuse.
use Rattle.std.specs.Prelude.{ℕ, ◌+◌, Bool, true, false, not, ◌&&◌, nat_le, ◌==◌, if◌then◌else◌, length, Option, None, Some, List, [], ◌∷◌, ◌++◌}
use Rattle.std.specs.List.{list_all}
use Rattle.gx_recovery.specs.Known.{Known}
use Rattle.gx_recovery.specs.Records.{Change, Said, Whole, Small, Record, Pages, Adjust, Write, Commit, End, Counters, Note, settled, any_number}
use Rattle.gx_recovery.specs.Analysis.{Analysis, analysis}
use Rattle.gx_recovery.specs.Given.{given}
use Rattle.gx_recovery.specs.Damage.{is_transaction, is_page, apart, transactions, is_note, note_fits, records_of}
use Rattle.gx_recovery.specs.declared.TheConstants.{TRANSACTIONS, TOUCHED}

-- The items. NoBody: the first gate is closed. NoHead: the first body isn't Counters and then notes alone. HeadLater:
-- they are in a later body. NotDevice: more pages are in use than the device has. PageNumber: a page's number is 0, or
-- isn't in use. OwnNumber: a content's own number isn't the page's. LeafNumber: so of a touch's leaf. NoEntry: a key
-- isn't one of the class. LastNumber: a transaction has the number that none can follow. Closed: a transaction writes,
-- commits or ends that has committed or ended. CommitNumber: it isn't the last one plus one. CounterFalls, UsedFalls.
-- Shared: two open transactions have touched one entry. TooManyOpen, TooManyTouched. NoImage: a small change is of a
-- page that the log hasn't given whole. Unfit: it doesn't fit what the log gives.
pub data Damage : Type 0 where
  NoBody : Damage
  NoHead : Damage
  HeadLater : Damage
  NotDevice : Damage
  PageNumber : Damage
  OwnNumber : Damage
  LeafNumber : Damage
  NoEntry : Damage
  LastNumber : Damage
  Closed : Damage
  CommitNumber : Damage
  CounterFalls : Damage
  UsedFalls : Damage
  Shared : Damage
  TooManyOpen : Damage
  TooManyTouched : Damage
  NoImage : Damage
  Unfit : Damage

-- one more item, unless its test passes
abbrev pub unless : Bool → Damage → List Damage → List Damage
unless test item items = if test then items else item ∷ items

-- what is wrong with what a log says at a record's end, where leaves says whether the leaves besides those that it
-- names are in use
abbrev pub misfits : {E P : Type 0} → Known E P → Bool → Analysis E → List Damage
misfits k leaves a =
    unless (nat_le a.used k.pages) NotDevice
    (unless (list_all (λ t. is_transaction t.transaction) a.touched) LastNumber
    (unless (list_all (λ t. k.is_entry t.entry) a.touched) NoEntry
    (unless (leaves && list_all (λ t. is_page a.used t.leaf) a.touched) LeafNumber
    (unless (apart k a.touched) Shared
    (unless (nat_le (transactions a.touched) TRANSACTIONS) TooManyOpen
    (unless (nat_le (length a.touched) TOUCHED) TooManyTouched []))))))

-- what is wrong with a transaction that commits or ends
abbrev pub unopened : {E P : Type 0} → ℕ → List (Record E P) → List Damage → List Damage
unopened t log items = unless (is_transaction t) LastNumber (unless (not (settled any_number t log)) Closed items)

-- what is wrong with a small change of a page of which this is given
abbrev pub unfitting : {E P : Type 0} → Known E P → Change P → Option P → List Damage → List Damage
unfitting k change None items = NoImage ∷ items
unfitting k change (Some content) items = unless (change.fits k.most content) Unfit items

-- what is wrong with what a write says of its leaf
abbrev pub unsaid : {E P : Type 0} → Known E P → ℕ → Said P → List (Record E P) → List Damage → List Damage
unsaid k leaf (Whole content) log items = unless (k.own content == leaf) OwnNumber items
unsaid k leaf (Small change) log items = unfitting k change (given leaf log) items

-- what is wrong with a record by itself, after a log that says a; more is what is wrong at its end
abbrev pub unfollowing : {E P : Type 0} → Known E P → List (Record E P) → Analysis E → Record E P → List Damage → List Damage
unfollowing k log a (Pages images counter used) more =
    unless (nat_le a.counter counter) CounterFalls
    (unless (nat_le a.used used) UsedFalls
    (unless (list_all (λ i. is_page used i.page) images) PageNumber
    (unless (list_all (λ i. k.own i.content == i.page) images) OwnNumber more)))
unfollowing k log a (Adjust page change) more = unfitting k change (given page log) more
unfollowing k log a (Write transaction entry before after leaf said) more = unless (not (settled any_number transaction log)) Closed (unsaid k leaf said log more)
unfollowing k log a (Commit transaction number) more = unopened transaction log (unless (number == a.number + 1) CommitNumber more)
unfollowing k log a (End transaction) more = unopened transaction log more
unfollowing k log a (Counters number counter used next) more = HeadLater ∷ more
unfollowing k log a (Note transaction entry before leaf) more = HeadLater ∷ more

-- what is wrong with records that come after a log
abbrev pub faults_after : {E P : Type 0} → Known E P → List (Record E P) → List (Record E P) → List Damage
faults_after k log [] = []
faults_after k log (r ∷ rs) =
    unfollowing k log (analysis k log) r (misfits k true (analysis k (log ++ r ∷ []))) ++ faults_after k (log ++ r ∷ []) rs

-- what is wrong with the first body, and then with the records of the others; nothing more is read of a first body that
-- isn't a head
abbrev pub faults_from : {E P : Type 0} → Known E P → List (Record E P) → List (Record E P) → List Damage
faults_from k (Counters number counter used next ∷ notes) later =
    if list_all is_note notes then misfits k (list_all (note_fits used) notes) (analysis k (Counters number counter used next ∷ notes)) ++ faults_after k (Counters number counter used next ∷ notes) later
    else NoHead ∷ []
faults_from k head later = NoHead ∷ []

-- what is wrong with given bodies
abbrev pub damages : {E P : Type 0} → Known E P → List (List (Record E P)) → List Damage
damages k [] = NoBody ∷ []
damages k (head ∷ bodies) = faults_from k head (records_of bodies)

abbrev pub is_none : List Damage → Bool
is_none [] = true
is_none (x ∷ xs) = false
