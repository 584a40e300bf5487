-- Laws of each machine of a run.
use Rattle.std.specs.Prelude.{ℕ, ◌≡◌, ◌≢◌, Bool, true, false, length, None, Some, List, All, replicate}
use Rattle.gx_machine.specs.declared.limits.TheConstants.{SESSIONS}
use Rattle.gx_machine.specs.declared.entry.Entry.{Entry}
use Rattle.gx_machine.specs.declared.call.Call.{Call}
use Rattle.gx_machine.specs.declared.call.Call.TheVariants.{Begin, Insert, Delete, Search, Commit, Abort}
use Rattle.gx_machine.specs.Keys.{Keys}
use Rattle.gx_machine.specs.Sets.{has, InOrder}
use Rattle.gx_machine.specs.Sessions.{Session, Idle, Open, Aborting, Committing, Locks, Changes, locks_of, has_query, conflicts}
use Rattle.gx_machine.specs.Machine.{Machine, session_at}
use Rattle.gx_machine.specs.Runs.{Step, Asks, Answers, Seals, Durable, Closes, RefusesAsk, RefusesCall, Fails, Crashes, Nothing}

-- each kept set is in order
pub record KeptInOrder {B : Type 0} (k : Keys B) (m : Machine B) : Type 0 where
  pub older : All (InOrder k) m.older
  pub latest : InOrder k m.latest

-- no session is in a transaction
abbrev pub AllIdle : {B : Type 0} → Machine B → Type 0
AllIdle m = m.sessions ≡ replicate SESSIONS Idle

-- what the first locks claim, the second neither claim nor have a predicate that matches it
abbrev pub Apart : {B : Type 0} → Keys B → Locks B → Locks B → Type 0
Apart {B} k x y = (e : Entry B) → has k e x.claims ≡ true → conflicts k (Insert e) y ≡ false

-- there are eight sessions, and the locks of each keep apart from those of the others
pub record LocksApart {B : Type 0} (k : Keys B) (sessions : List (Session B)) : Type 0 where
  pub eight : length sessions ≡ SESSIONS
  pub apart : (a b : ℕ) → a ≢ b → Apart k (locks_of (session_at a sessions)) (locks_of (session_at b sessions))

-- each of these entries is among those
abbrev pub Covered : {B : Type 0} → Keys B → List (Entry B) → List (Entry B) → Type 0
Covered {B} k xs ys = (e : Entry B) → has k e xs ≡ true → has k e ys ≡ true

-- what an open call needs: a write that its entry is claimed, a search that its query is a predicate
abbrev pub HoldsFor : {B : Type 0} → Keys B → Call B → Locks B → Type 0
HoldsFor k (Insert e) locks = has k e locks.claims ≡ true
HoldsFor k (Delete e) locks = has k e locks.claims ≡ true
HoldsFor k (Search q) locks = has_query k q locks.predicates ≡ true
HoldsFor k Begin locks = Unit {0}
HoldsFor k Commit locks = Unit {0}
HoldsFor k Abort locks = Unit {0}

-- what a transaction added and took away are lists in order that share nothing, and it claims both
pub record AreClaimed {B : Type 0} (k : Keys B) (locks : Locks B) (changes : Changes B) : Type 0 where
  pub added_in_order : InOrder k changes.added
  pub taken_in_order : InOrder k changes.taken
  pub apart : (e : Entry B) → has k e changes.added ≡ true → has k e changes.taken ≡ false
  pub added : Covered k changes.added locks.claims
  pub taken : Covered k changes.taken locks.claims

-- what is claimed is a list in order; an open transaction claims what it changed, and holds what its open call needs
abbrev pub IsSound : {B : Type 0} → Keys B → Session B → Type 0
IsSound k Idle = Unit {0}
IsSound k (Open locks changes None) = InOrder k locks.claims × AreClaimed k locks changes
IsSound k (Open locks changes (Some call)) = InOrder k locks.claims × AreClaimed k locks changes × HoldsFor k call locks
IsSound k (Aborting locks) = InOrder k locks.claims
IsSound k (Committing number) = Unit {0}

-- the sessions keep apart, and each is sound
pub record SessionsHold {B : Type 0} (k : Keys B) (sessions : List (Session B)) : Type 0 where
  pub locks : LocksApart k sessions
  pub sound : (a : ℕ) → IsSound k (session_at a sessions)

-- the steps of which one adds a set, one drops sets and one leaves a single set
abbrev pub changes_sets : {B : Type 0} → Step B → Bool
changes_sets (Asks s call given) = false
changes_sets (Answers s r) = false
changes_sets (Seals s number) = true
changes_sets (Durable number) = true
changes_sets (Closes s why) = false
changes_sets (RefusesAsk s call why) = false
changes_sets (RefusesCall s why) = false
changes_sets Fails = false
changes_sets (Crashes number) = true
changes_sets Nothing = false

-- the same sets are kept, under the same numbers
pub record SameSets {B : Type 0} (old new : Machine B) : Type 0 where
  pub older : new.older ≡ old.older
  pub latest : new.latest ≡ old.latest
  pub oldest : new.oldest ≡ old.oldest
