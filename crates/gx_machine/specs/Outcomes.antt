-- What replies and refusals say, in terms of their subject.
use Rattle.std.specs.Prelude.{ℕ, ◌≡◌, ◌≢◌, ◌<◌, ◌⊎◌, true, false, ◌&&◌, None, Some, List}
use Rattle.gx_machine.specs.declared.entry.Entry.{Entry}
use Rattle.gx_machine.specs.declared.query.Query.{Query}
use Rattle.gx_machine.specs.declared.call.Call.{Call}
use Rattle.gx_machine.specs.declared.call.Call.TheVariants.{Search, Commit}
use Rattle.gx_machine.specs.Keys.{Keys, matches}
use Rattle.gx_machine.specs.Sets.{has, InOrder}
use Rattle.gx_machine.specs.Sessions.{Session, Open, Committing, Locks, Changes, session_conflicts, view}
use Rattle.gx_machine.specs.Machine.{Machine, newest, kept_sets, is_session, session_at}

-- no session but s conflicts with a call of s
abbrev pub NoneConflicts : {B : Type 0} → Keys B → ℕ → Call B → List (Session B) → Type 0
NoneConflicts k s call sessions = (a : ℕ) → a ≢ s → session_conflicts k call (session_at a sessions) ≡ false

-- this session is another one than s, conflicts with a call of s, and is the least such
pub record IsLeastConflict {B : Type 0} (k : Keys B) (s : ℕ) (call : Call B) (other : ℕ) (sessions : List (Session B)) : Type 0 where
  pub is_there : is_session other ≡ true
  pub is_another : other ≢ s
  pub conflicts : session_conflicts k call (session_at other sessions) ≡ true
  pub is_least : (a : ℕ) → a < other → a ≢ s → session_conflicts k call (session_at a sessions) ≡ false

-- The session has a search open, and these are the entries of its view that match, in order, each once.
pub record IsAnswered {B : Type 0} (k : Keys B) (s : ℕ) (m : Machine B) (entries : List (Entry B)) : Type 0 where
  pub locks : Locks B
  pub changes : Changes B
  pub query : Query B
  pub asked : session_at s m.sessions ≡ Open locks changes (Some (Search query))
  pub in_order : InOrder k entries
  pub exact : (e : Entry B) → has k e entries ≡ (matches k query e && has k e (view k m.latest changes))

-- The session is unchanged, or the call that it had open is gone, and its locks and changes are unchanged.
abbrev pub KeepsTransaction : {B : Type 0} → Session B → Session B → Type 0
KeepsTransaction {B} old new =
    (new ≡ old)
    ⊎ ((locks : Locks B) × (changes : Changes B) × (call : Call B) × (old ≡ Open locks changes (Some call)) × (new ≡ Open locks changes None))

-- The session's commit was open, its view is the last committed set, after those that were kept, and the session waits
-- for that set's number; no other session changes.
pub record IsSealed {B : Type 0} (k : Keys B) (s number : ℕ) (old new : Machine B) : Type 0 where
  pub locks : Locks B
  pub changes : Changes B
  pub asked : session_at s old.sessions ≡ Open locks changes (Some Commit)
  pub set : new.latest ≡ view k old.latest changes
  pub kept : new.older ≡ kept_sets old
  pub newest_is : newest new ≡ number
  pub waits : session_at s new.sessions ≡ Committing number
  pub others : (a : ℕ) → a ≢ s → session_at a new.sessions ≡ session_at a old.sessions
