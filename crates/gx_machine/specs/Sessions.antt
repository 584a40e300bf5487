-- What a session is, and what one call does to it.
use Rattle.std.specs.Prelude.{ℕ, Bool, true, false, ◌||◌, if◌then◌else◌, nat_lt, nat_le, length, Option, None, Some, option_map, Result, Ok, Err, List, [], ◌∷◌, ◌++◌}
use Rattle.std.specs.List.{list_any}
use Rattle.gx_geom.specs.declared.refusal.Refusal.{Refusal}
use Rattle.gx_geom.specs.declared.refusal.Refusal.TheVariants.{NoTransaction, InTransaction, Present, Absent, Busy, ClaimsFull, PredicatesFull, CallOpen}
use Rattle.gx_machine.specs.declared.limits.TheConstants.{MAX_CLAIMS, MAX_PREDICATES}
use Rattle.gx_machine.specs.declared.entry.Entry.{Entry}
use Rattle.gx_machine.specs.declared.query.Query.{Query}
use Rattle.gx_machine.specs.declared.call.Call.{Call}
use Rattle.gx_machine.specs.declared.call.Call.TheVariants.{Begin, Insert, Delete, Search, Commit, Abort}
use Rattle.gx_machine.specs.declared.reply.Reply.{Reply}
use Rattle.gx_machine.specs.declared.reply.Reply.TheVariants as reply
use Rattle.gx_machine.specs.declared.reply.Asked.{Asked}
use Rattle.gx_machine.specs.declared.reply.Asked.TheVariants as asked
use Rattle.gx_machine.specs.Keys.{Keys, matches, same_query}
use Rattle.gx_machine.specs.Sets.{has, including, excluding, including_all, excluding_all, found}

-- what keeps other sessions off: the entries that a session claims, and its predicates
pub record Locks (B : Type 0) : Type 0 where
  pub claims : List (Entry B)
  pub predicates : List (Query B)

-- what a transaction has added to the last committed set, and what it has taken from it
pub record Changes (B : Type 0) : Type 0 where
  pub added : List (Entry B)
  pub taken : List (Entry B)

-- none, as a transaction begins
abbrev pub no_locks : {B : Type 0} → Locks B
no_locks = record { claims = []; predicates = [] }

abbrev pub no_changes : {B : Type 0} → Changes B
no_changes = record { added = []; taken = [] }

-- a session has no transaction; or has one, perhaps with a call open; or is undoing one, whose changes decide nothing
-- more; or waits for its commit
pub data Session (B : Type 0) : Type 0 where
  Idle : Session B
  Open : (locks : Locks B) (changes : Changes B) (call : Option (Call B)) → Session B
  Aborting : (locks : Locks B) → Session B
  Committing : (number : ℕ) → Session B

-- the locks that a session holds
abbrev pub locks_of : {B : Type 0} → Session B → Locks B
locks_of Idle = no_locks
locks_of (Open locks changes call) = locks
locks_of (Aborting locks) = locks
locks_of (Committing number) = no_locks

-- the last committed set as a transaction sees it
abbrev pub view : {B : Type 0} → Keys B → List (Entry B) → Changes B → List (Entry B)
view k latest changes = including_all k changes.added (excluding_all k changes.taken latest)

-- Locks.

-- a query is among the predicates
abbrev pub has_query : {B : Type 0} → Keys B → Query B → List (Query B) → Bool
has_query k q predicates = list_any (same_query k q) predicates

-- a write of the entry conflicts with locks that claim it, or have a predicate that matches it
abbrev pub write_conflicts : {B : Type 0} → Keys B → Entry B → Locks B → Bool
write_conflicts k e locks = has k e locks.claims || list_any (λ q. matches k q e) locks.predicates

-- a search conflicts with locks that claim a matching entry
abbrev pub search_conflicts : {B : Type 0} → Keys B → Query B → Locks B → Bool
search_conflicts k q locks = list_any (matches k q) locks.claims

-- a call conflicts with another session's locks
abbrev pub conflicts : {B : Type 0} → Keys B → Call B → Locks B → Bool
conflicts k (Insert e) locks = write_conflicts k e locks
conflicts k (Delete e) locks = write_conflicts k e locks
conflicts k (Search q) locks = search_conflicts k q locks
conflicts k Begin locks = false
conflicts k Commit locks = false
conflicts k Abort locks = false

-- a call conflicts with another session
abbrev pub session_conflicts : {B : Type 0} → Keys B → Call B → Session B → Bool
session_conflicts k call session = conflicts k call (locks_of session)

-- how many claims a session holds
abbrev pub claims_of : {B : Type 0} → Session B → ℕ
claims_of session = length (locks_of session).claims

-- the locks with a claim on the entry, or why there is none: spent are the claims held in all
abbrev pub with_claim : {B : Type 0} → Keys B → Entry B → ℕ → Locks B → Result (Locks B) Refusal
with_claim k e spent locks =
    if has k e locks.claims then Ok locks
    else if nat_lt spent MAX_CLAIMS then Ok (record locks { claims = including k e locks.claims })
    else Err ClaimsFull

-- the locks with this predicate, or why there is none
abbrev pub with_predicate : {B : Type 0} → Keys B → Query B → Locks B → Result (Locks B) Refusal
with_predicate k q locks =
    if has_query k q locks.predicates then Ok locks
    else if nat_lt (length locks.predicates) MAX_PREDICATES then Ok (record locks { predicates = locks.predicates ++ q ∷ [] })
    else Err PredicatesFull

-- the locks with the one that a call takes: a write claims its entry, a search holds its predicate, no other takes one
abbrev pub with_lock : {B : Type 0} → Keys B → Call B → ℕ → Locks B → Result (Locks B) Refusal
with_lock k (Insert e) spent locks = with_claim k e spent locks
with_lock k (Delete e) spent locks = with_claim k e spent locks
with_lock k (Search q) spent locks = with_predicate k q locks
with_lock k Begin spent locks = Ok locks
with_lock k Commit spent locks = Ok locks
with_lock k Abort spent locks = Ok locks

-- what is given if no other session conflicts; if one does, this is the least
abbrev pub unless_busy : {B : Type 0} → Option ℕ → Result (Locks B) Refusal → Result (Locks B) Refusal
unless_busy None given = given
unless_busy (Some other) given = Err (Busy other)

-- the locks with the one that a call takes, or why there is none: a session that conflicts, or no place
abbrev pub lock_for : {B : Type 0} → Keys B → Call B → Option ℕ → ℕ → Locks B → Result (Locks B) Refusal
lock_for k call least spent locks = unless_busy least (with_lock k call spent locks)

-- Asking, for one session.

-- a call refused, with the session unchanged
abbrev pub refused : {B : Type 0} → Refusal → Session B → Asked B × Session B
refused why session = (asked.Now (reply.Refused why), session)

-- a call in a transaction, which gets its lock or is refused it for a reason
abbrev pub asked_with : {B : Type 0} → Call B → Result (Locks B) Refusal → Locks B → Changes B → Asked B × Session B
asked_with call (Ok locks) old changes = (asked.Open, Open locks changes (Some call))
asked_with call (Err why) old changes = refused why (Open old changes None)

-- a call in a transaction with no call open: an abort gives up its changes, any other call is open
abbrev pub ask_open : {B : Type 0} → Keys B → Call B → Option ℕ → ℕ → Locks B → Changes B → Asked B × Session B
ask_open k Begin least spent locks changes = refused InTransaction (Open locks changes None)
ask_open k (Insert e) least spent locks changes = asked_with (Insert e) (lock_for k (Insert e) least spent locks) locks changes
ask_open k (Delete e) least spent locks changes = asked_with (Delete e) (lock_for k (Delete e) least spent locks) locks changes
ask_open k (Search q) least spent locks changes = asked_with (Search q) (lock_for k (Search q) least spent locks) locks changes
ask_open k Commit least spent locks changes = asked_with Commit (lock_for k Commit least spent locks) locks changes
ask_open k Abort least spent locks changes = (asked.Open, Aborting locks)

-- a call outside of a transaction
abbrev pub ask_idle : {B : Type 0} → Call B → Asked B × Session B
ask_idle Begin = (asked.Now reply.Ok, Open no_locks no_changes None)
ask_idle (Insert e) = refused NoTransaction Idle
ask_idle (Delete e) = refused NoTransaction Idle
ask_idle (Search q) = refused NoTransaction Idle
ask_idle Commit = refused NoTransaction Idle
ask_idle Abort = refused NoTransaction Idle

-- a call, where least is the least other session that conflicts and spent the claims held in all
abbrev pub ask_session : {B : Type 0} → Keys B → Call B → Option ℕ → ℕ → Session B → Asked B × Session B
ask_session k call least spent Idle = ask_idle call
ask_session k call least spent (Open locks changes None) = ask_open k call least spent locks changes
ask_session k call least spent (Open locks changes (Some pending)) = refused CallOpen (Open locks changes (Some pending))
ask_session k call least spent (Aborting locks) = refused CallOpen (Aborting locks)
ask_session k call least spent (Committing number) = refused CallOpen (Committing number)

-- Answering, where latest is the last committed set: an answer knows a transaction's changes, and none of its locks.

-- an insert adds its entry if the view doesn't have it
abbrev pub answer_insert : {B : Type 0} → Keys B → Entry B → List (Entry B) → Changes B → Reply B × Changes B
answer_insert k e latest changes =
    if has k e (view k latest changes) then (reply.Refused Present, changes)
    else (reply.Inserted, record { added = including k e changes.added; taken = excluding k e changes.taken })

-- a delete takes its entry away if the view has it
abbrev pub answer_delete : {B : Type 0} → Keys B → Entry B → List (Entry B) → Changes B → Reply B × Changes B
answer_delete k e latest changes =
    if has k e (view k latest changes) then
    (reply.Deleted, record { added = excluding k e changes.added; taken = including k e changes.taken })
    else (reply.Refused Absent, changes)

-- the answer to an open call, and the changes afterwards; a commit isn't answered so
abbrev pub answer_call : {B : Type 0} → Keys B → Call B → List (Entry B) → Changes B → Option (Reply B × Changes B)
answer_call k (Insert e) latest changes = Some (answer_insert k e latest changes)
answer_call k (Delete e) latest changes = Some (answer_delete k e latest changes)
answer_call k (Search q) latest changes = Some (reply.Found (found k q (view k latest changes)), changes)
answer_call k Begin latest changes = None
answer_call k Commit latest changes = None
answer_call k Abort latest changes = None

-- the answer to a session, where oldest is the number up to which commits are durable: an open call but a commit
-- is answered and closed, an abort is answered, and a commit that was sealed is answered once it is durable
abbrev pub answer_session : {B : Type 0} → Keys B → List (Entry B) → ℕ → Session B → Option (Reply B × Session B)
answer_session k latest oldest Idle = None
answer_session k latest oldest (Open locks changes None) = None
answer_session k latest oldest (Open locks changes (Some call)) =
    option_map (λ r. (r.0, Open locks r.1 None)) (answer_call k call latest changes)
answer_session k latest oldest (Aborting locks) = Some (reply.Aborted, Idle)
answer_session k latest oldest (Committing number) = if nat_le number oldest then Some (reply.Committed number, Idle) else None

-- the set that a session's commit adds, if it has asked for one
abbrev pub sealed_set : {B : Type 0} → Keys B → List (Entry B) → Session B → Option (List (Entry B))
sealed_set k latest Idle = None
sealed_set k latest (Open locks changes None) = None
sealed_set k latest (Open locks changes (Some Begin)) = None
sealed_set k latest (Open locks changes (Some (Insert e))) = None
sealed_set k latest (Open locks changes (Some (Delete e))) = None
sealed_set k latest (Open locks changes (Some (Search q))) = None
sealed_set k latest (Open locks changes (Some Commit)) = Some (view k latest changes)
sealed_set k latest (Open locks changes (Some Abort)) = None
sealed_set k latest (Aborting locks) = None
sealed_set k latest (Committing number) = None

-- a session whose open call is closed without an answer keeps its locks and its changes
abbrev pub closed_session : {B : Type 0} → Session B → Option (Session B)
closed_session Idle = None
closed_session (Open locks changes None) = None
closed_session (Open locks changes (Some call)) = Some (Open locks changes None)
closed_session (Aborting locks) = None
closed_session (Committing number) = None

-- a call of the session was asked and isn't answered
abbrev pub is_unanswered : {B : Type 0} → Session B → Bool
is_unanswered Idle = false
is_unanswered (Open locks changes None) = false
is_unanswered (Open locks changes (Some call)) = true
is_unanswered (Aborting locks) = true
is_unanswered (Committing number) = true
