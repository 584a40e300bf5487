-- Which replies the machine gives at once: never one that refuses an ask for a cause outside of it.
use Rattle.std.proofs.Common.{◌≡◌, ℕ, Bool, true, false, [], ◌∷◌, ◌++◌, Option, Some, None, refl, ap, sym, ◌∙◌}
use Rattle.std.specs.Prelude.{if◌then◌else◌, nat_lt, length, Ok, Err}
use Rattle.gx_geom.specs.declared.refusal.Refusal.{Refusal}
use Rattle.gx_geom.specs.declared.refusal.Refusal.TheVariants as refusal
use Rattle.gx_machine.specs.declared.entry.Entry.{Entry}
use Rattle.gx_machine.specs.declared.query.Query.{Query}
use Rattle.gx_machine.specs.declared.call.Call.{Call}
use Rattle.gx_machine.specs.declared.call.Call.TheVariants.{Begin, Insert, Delete, Search, Commit, Abort}
use Rattle.gx_machine.specs.declared.reply.Reply.{Reply}
use Rattle.gx_machine.specs.declared.reply.Reply.TheVariants as reply
use Rattle.gx_machine.specs.declared.reply.Asked.{Asked as Given}
use Rattle.gx_machine.specs.declared.reply.Asked.TheVariants as asked
use Rattle.gx_machine.specs.Keys.{Keys}
use Rattle.gx_machine.specs.Sessions.{Session, Idle, Open, Aborting, Committing, Locks, Changes, ask_session, asked_with, unless_busy, with_claim, with_predicate, has_query}
use Rattle.gx_machine.specs.Sets.{has, including}
use Rattle.gx_machine.specs.Machine.{Machine, ask, is_session, least_conflicting, claims_held, session_at}
use Rattle.gx_machine.specs.declared.limits.TheConstants.{MAX_CLAIMS, MAX_PREDICATES}
use Rattle.gx_machine.proofs.StepEffects.{asked_there}
use Rattle.gx_events.specs.Replay.{refuses_ask}

-- a refusal that the machine gives when it is asked
abbrev pub is_own : Refusal → Bool
is_own refusal.Failed = false
is_own refusal.HistoryFull = false
is_own other = true

abbrev pub is_quiet_reply : {B : Type 0} → Reply B → Bool
is_quiet_reply (reply.Refused why) = is_own why
is_quiet_reply other = true

abbrev pub is_quiet : {B : Type 0} → Given B → Bool
is_quiet (asked.Now r) = is_quiet_reply r
is_quiet asked.Open = true

pub own_refuses_none : {B : Type 0} (why : Refusal) (call : Call B) → is_own why ≡ true → refuses_ask (reply.Refused why) call ≡ false
own_refuses_none refusal.NoTransaction call own = refl
own_refuses_none refusal.InTransaction call own = refl
own_refuses_none refusal.Present call own = refl
own_refuses_none refusal.Absent call own = refl
own_refuses_none (refusal.Busy other) call own = refl
own_refuses_none refusal.BadBox call own = refl
own_refuses_none refusal.PagesFull call own = refl
own_refuses_none refusal.ClaimsFull call own = refl
own_refuses_none refusal.PredicatesFull call own = refl
own_refuses_none refusal.Memory call own = refl
own_refuses_none refusal.Device call own = refl
own_refuses_none refusal.Failed call own = cc
own_refuses_none refusal.Damaged call own = refl
own_refuses_none refusal.NotFormatted call own = refl
own_refuses_none refusal.BadSession call own = refl
own_refuses_none refusal.CallOpen call own = refl
own_refuses_none refusal.TooSmall call own = refl
own_refuses_none refusal.BadParameter call own = refl
own_refuses_none refusal.NoCall call own = refl
own_refuses_none refusal.HistoryFull call own = cc
own_refuses_none refusal.OldVersion call own = refl

pub quiet_refuses_none : {B : Type 0} (r : Reply B) (call : Call B) → is_quiet_reply r ≡ true → refuses_ask r call ≡ false
quiet_refuses_none reply.Ok call quiet = refl
quiet_refuses_none reply.Inserted call quiet = refl
quiet_refuses_none reply.Deleted call quiet = refl
quiet_refuses_none (reply.Found entries) call quiet = refl
quiet_refuses_none (reply.Committed number) call quiet = refl
quiet_refuses_none reply.Aborted call quiet = refl
quiet_refuses_none (reply.Refused why) call quiet = own_refuses_none why call quiet

module _ {B : Type 0} (k : Keys B) where
  claim_quiet : (call : Call B) (one two old : Locks B) (changes : Changes B) (there room : Bool)
      → is_quiet (asked_with call (if there then Ok one else if room then Ok two else Err refusal.ClaimsFull) old changes).0 ≡ true
  claim_quiet call one two old changes true room = refl
  claim_quiet call one two old changes false true = refl
  claim_quiet call one two old changes false false = refl

  predicate_quiet : (call : Call B) (one two old : Locks B) (changes : Changes B) (there room : Bool)
      → is_quiet (asked_with call (if there then Ok one else if room then Ok two else Err refusal.PredicatesFull) old changes).0 ≡ true
  predicate_quiet call one two old changes true room = refl
  predicate_quiet call one two old changes false true = refl
  predicate_quiet call one two old changes false false = refl

  insert_quiet : (call : Call B) (e : Entry B) (least : Option ℕ) (spent : ℕ) (locks : Locks B) (changes : Changes B)
      → is_quiet (asked_with call (unless_busy least (with_claim k e spent locks)) locks changes).0 ≡ true
  insert_quiet call e None spent locks changes =
      claim_quiet call locks (record locks { claims = including k e locks.claims }) locks changes (has k e locks.claims) (nat_lt spent MAX_CLAIMS)
  insert_quiet call e (Some other) spent locks changes = refl

  search_quiet : (q : Query B) (least : Option ℕ) (spent : ℕ) (locks : Locks B) (changes : Changes B)
      → is_quiet (asked_with (Search q) (unless_busy least (with_predicate k q locks)) locks changes).0 ≡ true
  search_quiet q None spent locks changes =
      predicate_quiet (Search q) locks (record locks { predicates = locks.predicates ++ q ∷ [] }) locks changes (has_query k q locks.predicates) (nat_lt (length locks.predicates) MAX_PREDICATES)
  search_quiet q (Some other) spent locks changes = refl

  commit_quiet : (least : Option ℕ) (locks : Locks B) (changes : Changes B)
      → is_quiet (asked_with Commit (unless_busy least (Ok locks)) locks changes).0 ≡ true
  commit_quiet None locks changes = refl
  commit_quiet (Some other) locks changes = refl

  session_quiet : (call : Call B) (least : Option ℕ) (spent : ℕ) (x : Session B) → is_quiet (ask_session k call least spent x).0 ≡ true
  session_quiet Begin least spent Idle = refl
  session_quiet (Insert e) least spent Idle = refl
  session_quiet (Delete e) least spent Idle = refl
  session_quiet (Search q) least spent Idle = refl
  session_quiet Commit least spent Idle = refl
  session_quiet Abort least spent Idle = refl
  session_quiet Begin least spent (Open locks changes None) = refl
  session_quiet (Insert e) least spent (Open locks changes None) = insert_quiet (Insert e) e least spent locks changes
  session_quiet (Delete e) least spent (Open locks changes None) = insert_quiet (Delete e) e least spent locks changes
  session_quiet (Search q) least spent (Open locks changes None) = search_quiet q least spent locks changes
  session_quiet Commit least spent (Open locks changes None) = commit_quiet least locks changes
  session_quiet Abort least spent (Open locks changes None) = refl
  session_quiet call least spent (Open locks changes (Some pending)) = refl
  session_quiet call least spent (Aborting locks) = refl
  session_quiet call least spent (Committing number) = refl

  there_quiet : (s : ℕ) (call : Call B) (m : Machine B) (there : Bool) → is_quiet (asked_there k s call m there).0 ≡ true
  there_quiet s call m true = session_quiet call (least_conflicting k call s 1 m.sessions) (claims_held m.sessions) (session_at s m.sessions)
  there_quiet s call m false = refl

  -- what is given at once refuses no ask for a cause outside of the machine
  pub given_refuses_none : (s : ℕ) (call : Call B) (m n : Machine B) (r : Reply B) → ask k s call m ≡ (asked.Now r, n) → refuses_ask r call ≡ false
  given_refuses_none s call m n r h =
      quiet_refuses_none r call (sym (ap (λ (p : Given B × Machine B). is_quiet p.0) h) ∙ there_quiet s call m (is_session s))
