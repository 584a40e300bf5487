-- What the machine replies at once acknowledges no commit.
use Rattle.std.proofs.Common.{◌≡◌, ℕ, Bool, true, false, [], ◌∷◌, ◌++◌, Option, Some, None, refl, ap, sym, ◌∙◌}
use Rattle.std.specs.Prelude.{if◌then◌else◌, nat_lt, length, Ok, Err}
use Rattle.gx_geom.specs.declared.refusal.Refusal.TheVariants as refusal
use Rattle.gx_machine.specs.declared.entry.Entry.{Entry}
use Rattle.gx_machine.specs.declared.query.Query.{Query}
use Rattle.gx_machine.specs.declared.call.Call.{Call}
use Rattle.gx_machine.specs.declared.call.Call.TheVariants.{Begin, Insert, Delete, Search, Commit, Abort}
use Rattle.gx_machine.specs.declared.reply.Reply.{Reply}
use Rattle.gx_machine.specs.declared.reply.Asked.{Asked as Given}
use Rattle.gx_machine.specs.declared.reply.Asked.TheVariants as asked
use Rattle.gx_machine.specs.Keys.{Keys}
use Rattle.gx_machine.specs.Sessions.{Session, Idle, Open, Aborting, Committing, Locks, Changes, ask_session, asked_with, unless_busy, with_claim, with_predicate, has_query}
use Rattle.gx_machine.specs.Sets.{has, including}
use Rattle.gx_machine.specs.Machine.{Machine, ask, is_session, least_conflicting, claims_held, session_at}
use Rattle.gx_machine.specs.declared.limits.TheConstants.{MAX_CLAIMS, MAX_PREDICATES}
use Rattle.gx_machine.proofs.StepEffects.{asked_there}
use Rattle.gx_engine_events.specs.Books.{is_commit}

-- what is given at once acknowledges the commit of this number
abbrev pub commits : {B : Type 0} → ℕ → Given B → Bool
commits number (asked.Now r) = is_commit number r
commits number asked.Open = false

module _ {B : Type 0} (k : Keys B) (number : ℕ) where
  claim_open : (call : Call B) (one two old : Locks B) (changes : Changes B) (there room : Bool)
      → commits number (asked_with call (if there then Ok one else if room then Ok two else Err refusal.ClaimsFull) old changes).0 ≡ false
  claim_open call one two old changes true room = refl
  claim_open call one two old changes false true = refl
  claim_open call one two old changes false false = refl

  predicate_open : (call : Call B) (one two old : Locks B) (changes : Changes B) (there room : Bool)
      → commits number (asked_with call (if there then Ok one else if room then Ok two else Err refusal.PredicatesFull) old changes).0 ≡ false
  predicate_open call one two old changes true room = refl
  predicate_open call one two old changes false true = refl
  predicate_open call one two old changes false false = refl

  insert_open : (call : Call B) (e : Entry B) (least : Option ℕ) (spent : ℕ) (locks : Locks B) (changes : Changes B)
      → commits number (asked_with call (unless_busy least (with_claim k e spent locks)) locks changes).0 ≡ false
  insert_open call e None spent locks changes =
      claim_open call locks (record locks { claims = including k e locks.claims }) locks changes (has k e locks.claims) (nat_lt spent MAX_CLAIMS)
  insert_open call e (Some other) spent locks changes = refl

  search_open : (q : Query B) (least : Option ℕ) (spent : ℕ) (locks : Locks B) (changes : Changes B)
      → commits number (asked_with (Search q) (unless_busy least (with_predicate k q locks)) locks changes).0 ≡ false
  search_open q None spent locks changes =
      predicate_open (Search q) locks (record locks { predicates = locks.predicates ++ q ∷ [] }) locks changes (has_query k q locks.predicates) (nat_lt (length locks.predicates) MAX_PREDICATES)
  search_open q (Some other) spent locks changes = refl

  commit_open : (least : Option ℕ) (locks : Locks B) (changes : Changes B)
      → commits number (asked_with Commit (unless_busy least (Ok locks)) locks changes).0 ≡ false
  commit_open None locks changes = refl
  commit_open (Some other) locks changes = refl

  session_open : (call : Call B) (least : Option ℕ) (spent : ℕ) (x : Session B) → commits number (ask_session k call least spent x).0 ≡ false
  session_open Begin least spent Idle = refl
  session_open (Insert e) least spent Idle = refl
  session_open (Delete e) least spent Idle = refl
  session_open (Search q) least spent Idle = refl
  session_open Commit least spent Idle = refl
  session_open Abort least spent Idle = refl
  session_open Begin least spent (Open locks changes None) = refl
  session_open (Insert e) least spent (Open locks changes None) = insert_open (Insert e) e least spent locks changes
  session_open (Delete e) least spent (Open locks changes None) = insert_open (Delete e) e least spent locks changes
  session_open (Search q) least spent (Open locks changes None) = search_open q least spent locks changes
  session_open Commit least spent (Open locks changes None) = commit_open least locks changes
  session_open Abort least spent (Open locks changes None) = refl
  session_open call least spent (Open locks changes (Some pending)) = refl
  session_open call least spent (Aborting locks) = refl
  session_open call least spent (Committing number) = refl

  there_open : (s : ℕ) (call : Call B) (m : Machine B) (there : Bool) → commits number (asked_there k s call m there).0 ≡ false
  there_open s call m true = session_open call (least_conflicting k call s 1 m.sessions) (claims_held m.sessions) (session_at s m.sessions)
  there_open s call m false = refl

  -- so a reply that is given at once acknowledges none
  pub given_commits_none : (s : ℕ) (call : Call B) (m n : Machine B) (r : Reply B) → ask k s call m ≡ (asked.Now r, n) → is_commit number r ≡ false
  given_commits_none s call m n r h = sym (ap (λ (p : Given B × Machine B). commits number p.0) h) ∙ there_open s call m (is_session s)
