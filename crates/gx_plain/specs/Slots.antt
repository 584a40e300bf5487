-- What a session of the plain index is in the machine, and what answering does to it.
use Rattle.std.specs.Prelude.{ℕ, ◌≡◌, ◌≤◌, ◌⊎◌, true, false, ◌+◌, Bool, length, None, Some, List}
use Rattle.gx_geom.specs.declared.refusal.Refusal.TheVariants.{NoCall, Memory}
use Rattle.gx_machine.specs.declared.entry.Entry.{Entry}
use Rattle.gx_machine.specs.declared.call.Call.{Call}
use Rattle.gx_machine.specs.declared.call.Call.TheVariants.{Begin, Insert, Delete, Search, Commit, Abort}
use Rattle.gx_machine.specs.declared.limits.TheConstants.{MAX_CLAIMS, MAX_PREDICATES}
use Rattle.gx_machine.specs.declared.query.Query.{Query}
use Rattle.gx_machine.specs.declared.reply.Reply.{Reply}
use Rattle.gx_machine.specs.declared.reply.Reply.TheVariants as replies
use Rattle.gx_machine.specs.Keys.{Keys}
use Rattle.gx_machine.specs.Sessions.{Locks, Changes, no_changes, Session, Idle, Open, Aborting, Committing, locks_of, view, answer_insert, answer_delete, sealed_set, closed_session}
use Rattle.gx_machine.specs.Sets.{has, found, InOrder}
use Rattle.gx_machine.specs.Invariants.{Covered}
use Rattle.gx_plain.specs.declared.slot.SlotPhase.{SlotPhase}
use Rattle.gx_plain.specs.declared.slot.SlotPhase.TheVariants as phase

-- the session that a phase makes of locks and changes
abbrev pub session_of : {B : Type 0} → SlotPhase B → Locks B → Changes B → Session B
session_of phase.Idle locks changes = Idle
session_of (phase.Open call) locks changes = Open locks changes call
session_of phase.Aborting locks changes = Aborting locks
session_of (phase.Committing number) locks changes = Committing number

-- what a session has changed
abbrev pub changes_of : {B : Type 0} → Session B → Changes B
changes_of Idle = no_changes
changes_of (Open locks changes call) = changes
changes_of (Aborting locks) = no_changes
changes_of (Committing number) = no_changes

-- how many entries a session has added
abbrev pub added_by : {B : Type 0} → Session B → ℕ
added_by Idle = 0
added_by (Open locks changes call) = length changes.added
added_by (Aborting locks) = 0
added_by (Committing number) = 0

-- room for all claims, for a session's predicates, and for all that it claims to be taken away
pub record IsRoomy (claims predicates taken : ℕ) : Type 0 where
  pub for_claims : MAX_CLAIMS ≤ claims
  pub for_predicates : MAX_PREDICATES ≤ predicates
  pub for_taken : MAX_CLAIMS ≤ taken

-- the entry of an open delete is claimed
abbrev pub DeleteIsClaimed : {B : Type 0} → Keys B → SlotPhase B → List (Entry B) → Type 0
DeleteIsClaimed k phase.Idle claims = Unit {0}
DeleteIsClaimed k (phase.Open None) claims = Unit {0}
DeleteIsClaimed k (phase.Open (Some Begin)) claims = Unit {0}
DeleteIsClaimed k (phase.Open (Some (Insert e))) claims = Unit {0}
DeleteIsClaimed k (phase.Open (Some (Delete e))) claims = has k e claims ≡ true
DeleteIsClaimed k (phase.Open (Some (Search q))) claims = Unit {0}
DeleteIsClaimed k (phase.Open (Some Commit)) claims = Unit {0}
DeleteIsClaimed k (phase.Open (Some Abort)) claims = Unit {0}
DeleteIsClaimed k phase.Aborting claims = Unit {0}
DeleteIsClaimed k (phase.Committing number) claims = Unit {0}

-- what a transaction takes away it claims, so that there are never more such entries than claims
pub record TakesClaimed {B : Type 0} (k : Keys B) (phase : SlotPhase B) (claims taken : List (Entry B)) : Type 0 where
  pub in_order : InOrder k taken
  pub claimed : Covered k taken claims
  pub asked : DeleteIsClaimed k phase claims

-- the call writes this entry
abbrev pub IsWrite : {B : Type 0} → Entry B → Call B → Type 0
IsWrite e Begin = ⊥
IsWrite e (Insert d) = d ≡ e
IsWrite e (Delete d) = d ≡ e
IsWrite e (Search q) = ⊥
IsWrite e Commit = ⊥
IsWrite e Abort = ⊥

-- the session has a delete of this entry open
abbrev pub IsDeleting : {B : Type 0} → Entry B → Session B → Type 0
IsDeleting e Idle = ⊥
IsDeleting e (Open locks changes None) = ⊥
IsDeleting e (Open locks changes (Some Begin)) = ⊥
IsDeleting e (Open locks changes (Some (Insert d))) = ⊥
IsDeleting e (Open locks changes (Some (Delete d))) = d ≡ e
IsDeleting e (Open locks changes (Some (Search q))) = ⊥
IsDeleting e (Open locks changes (Some Commit)) = ⊥
IsDeleting e (Open locks changes (Some Abort)) = ⊥
IsDeleting e (Aborting locks) = ⊥
IsDeleting e (Committing number) = ⊥

-- the session has a commit open that isn't sealed
abbrev pub IsCommitting : {B : Type 0} → Session B → Type 0
IsCommitting Idle = ⊥
IsCommitting (Open locks changes None) = ⊥
IsCommitting (Open locks changes (Some Begin)) = ⊥
IsCommitting (Open locks changes (Some (Insert e))) = ⊥
IsCommitting (Open locks changes (Some (Delete e))) = ⊥
IsCommitting (Open locks changes (Some (Search q))) = ⊥
IsCommitting (Open locks changes (Some Commit)) = Unit {0}
IsCommitting (Open locks changes (Some Abort)) = ⊥
IsCommitting (Aborting locks) = ⊥
IsCommitting (Committing number) = ⊥

-- a transaction with no call open
abbrev pub IsFree : {B : Type 0} → Session B → Type 0
IsFree Idle = ⊥
IsFree (Open locks changes None) = Unit {0}
IsFree (Open locks changes (Some call)) = ⊥
IsFree (Aborting locks) = ⊥
IsFree (Committing number) = ⊥

-- a reply that takes memory: an entry is kept, or entries are returned
abbrev pub takes_memory : {B : Type 0} → Reply B → Bool
takes_memory replies.Ok = false
takes_memory replies.Inserted = true
takes_memory replies.Deleted = false
takes_memory (replies.Found entries) = true
takes_memory (replies.Committed number) = false
takes_memory replies.Aborted = false
takes_memory (replies.Refused why) = false

-- an open call is closed with this reply and these changes, or with nothing changed if the memory that the reply
-- takes is refused; the locks stay
abbrev pub Closes : {B : Type 0} → Reply B × Changes B → Session B → Reply B → Session B → Type 0
Closes given old reply new =
    ((reply ≡ given.0) × (new ≡ Open (locks_of old) given.1 None))
    ⊎ ((takes_memory given.0 ≡ true) × (reply ≡ replies.Refused Memory) × (new ≡ Open (locks_of old) (changes_of old) None))

-- the last committed set and the number of commits stay unchanged
abbrev pub SameSet : {B : Type 0} → List (Entry B) → ℕ → List (Entry B) → ℕ → Type 0
SameSet latest commits latest' commits' = (latest' ≡ latest) × (commits' ≡ commits)

-- what is answered to a search
abbrev pub answer_search : {B : Type 0} → Keys B → Query B → List (Entry B) → Changes B → Reply B × Changes B
answer_search k query latest changes = (replies.Found (found k query (view k latest changes)), changes)

-- what answering a session does: to it, to the last committed set, and to the number of commits
abbrev pub SlotAnswers : {B : Type 0} → Keys B → Session B → List (Entry B) → ℕ → Reply B → Session B → List (Entry B) → ℕ → Type 0
SlotAnswers k Idle latest commits reply session latest' commits' = (reply ≡ replies.Refused NoCall) × (session ≡ Idle) × SameSet latest commits latest' commits'
SlotAnswers k (Open locks changes None) latest commits reply session latest' commits' =
    (reply ≡ replies.Refused NoCall) × (session ≡ Open locks changes None) × SameSet latest commits latest' commits'
SlotAnswers k (Open locks changes (Some Begin)) latest commits reply session latest' commits' = ⊥
SlotAnswers k (Open locks changes (Some (Insert e))) latest commits reply session latest' commits' =
    Closes (answer_insert k e latest changes) (Open locks changes (Some (Insert e))) reply session × SameSet latest commits latest' commits'
SlotAnswers k (Open locks changes (Some (Delete e))) latest commits reply session latest' commits' =
    (reply ≡ (answer_delete k e latest changes).0) × (session ≡ Open locks (answer_delete k e latest changes).1 None) × SameSet latest commits latest' commits'
SlotAnswers k (Open locks changes (Some (Search q))) latest commits reply session latest' commits' =
    Closes (answer_search k q latest changes) (Open locks changes (Some (Search q))) reply session × SameSet latest commits latest' commits'
SlotAnswers k (Open locks changes (Some Commit)) latest commits reply session latest' commits' =
    (reply ≡ replies.Committed (commits + 1)) × (session ≡ Idle) × (latest' ≡ view k latest changes) × (commits' ≡ commits + 1)
SlotAnswers k (Open locks changes (Some Abort)) latest commits reply session latest' commits' = ⊥
SlotAnswers k (Aborting locks) latest commits reply session latest' commits' = (reply ≡ replies.Aborted) × (session ≡ Idle) × SameSet latest commits latest' commits'
SlotAnswers k (Committing number) latest commits reply session latest' commits' =
    (reply ≡ replies.Committed number) × (session ≡ Idle) × SameSet latest commits latest' commits'

-- a commit is sealed under this number: the set becomes what the transaction sees
pub record SlotSeals {B : Type 0} (k : Keys B) (old : Session B) (latest : List (Entry B)) (commits : ℕ) (new : Session B) (latest' : List (Entry B)) (commits' number : ℕ) : Type 0 where
  pub set : sealed_set k latest old ≡ Some latest'
  pub session : new ≡ Committing number
  pub number_is : number ≡ commits + 1
  pub commits_is : commits' ≡ number

-- there is no commit to seal, and all stays unchanged
pub record NothingSealed {B : Type 0} (k : Keys B) (old : Session B) (latest : List (Entry B)) (commits : ℕ) (new : Session B) (latest' : List (Entry B)) (commits' : ℕ) : Type 0 where
  pub none : sealed_set k latest old ≡ None
  pub session : new ≡ old
  pub latest_is : latest' ≡ latest
  pub commits_is : commits' ≡ commits

-- an open call is closed without an answer, or there is none and the session stays unchanged
abbrev pub SlotDrops : {B : Type 0} → Session B → Bool → Session B → Type 0
SlotDrops old true new = closed_session old ≡ Some new
SlotDrops old false new = (closed_session old ≡ None) × (new ≡ old)

-- the open call of a session of the plain index is one that is answered, and a sealed commit is one of these
abbrev pub CanAnswer : {B : Type 0} → ℕ → Session B → Type 0
CanAnswer commits Idle = Unit {0}
CanAnswer commits (Open locks changes None) = Unit {0}
CanAnswer commits (Open locks changes (Some Begin)) = ⊥
CanAnswer commits (Open locks changes (Some (Insert e))) = Unit {0}
CanAnswer commits (Open locks changes (Some (Delete e))) = Unit {0}
CanAnswer commits (Open locks changes (Some (Search q))) = Unit {0}
CanAnswer commits (Open locks changes (Some Commit)) = Unit {0}
CanAnswer commits (Open locks changes (Some Abort)) = ⊥
CanAnswer commits (Aborting locks) = Unit {0}
CanAnswer commits (Committing number) = number ≤ commits

-- the session has a transaction, with a call open or not
abbrev pub IsOpen : {B : Type 0} → Session B → Type 0
IsOpen Idle = ⊥
IsOpen (Open locks changes call) = Unit {0}
IsOpen (Aborting locks) = ⊥
IsOpen (Committing number) = ⊥

-- one if the session has a transaction, or is undoing one
abbrev pub opened_by : {B : Type 0} → Session B → ℕ
opened_by Idle = 0
opened_by (Open locks changes call) = 1
opened_by (Aborting locks) = 1
opened_by (Committing number) = 0

-- a call of a session that begins a transaction
abbrev pub begins : {B : Type 0} → Call B → Session B → Bool
begins Begin Idle = true
begins Begin (Open locks changes call) = false
begins Begin (Aborting locks) = false
begins Begin (Committing number) = false
begins (Insert e) session = false
begins (Delete e) session = false
begins (Search q) session = false
begins Commit session = false
begins Abort session = false
