-- The set machine: its state, and what each kind of step does to it.
use Rattle.std.specs.Prelude.{ℕ, ◌+◌, ◌-◌, nat_lt, nat_le, ◌==◌, Bool, true, false, not, ◌&&◌, if◌then◌else◌, length, drop, replicate, Option, None, Some, option_map, List, [], ◌∷◌, ◌++◌, slice_set, sum_by}
use Rattle.std.specs.List.{slice_index_or}
use Rattle.gx_geom.specs.declared.refusal.Refusal.TheVariants.{BadSession}
use Rattle.gx_machine.specs.declared.limits.TheConstants.{SESSIONS}
use Rattle.gx_machine.specs.declared.entry.Entry.{Entry}
use Rattle.gx_machine.specs.declared.call.Call.{Call}
use Rattle.gx_machine.specs.declared.reply.Reply.{Reply}
use Rattle.gx_machine.specs.declared.reply.Reply.TheVariants as reply
use Rattle.gx_machine.specs.declared.reply.Asked.{Asked}
use Rattle.gx_machine.specs.declared.reply.Asked.TheVariants as asked
use Rattle.gx_machine.specs.Keys.{Keys}
use Rattle.gx_machine.specs.Sessions.{Session, Idle, Committing, session_conflicts, claims_of, ask_session, answer_session, sealed_set, closed_session}

-- the state: the kept sets, oldest first, of which latest is the last committed one; the number of the oldest
-- of them; the eight sessions; and whether a fault has made the machine fail, until a crash
pub record Machine (B : Type 0) : Type 0 where
  pub older : List (List (Entry B))
  pub latest : List (Entry B)
  pub oldest : ℕ
  pub sessions : List (Session B)
  pub failed : Bool

-- with nothing committed, and no session in a transaction
abbrev pub fresh_machine : {B : Type 0} → Machine B
fresh_machine = record { older = []; latest = []; oldest = 0; sessions = replicate SESSIONS Idle; failed = false }

-- the kept sets, the oldest first
abbrev pub kept_sets : {B : Type 0} → Machine B → List (List (Entry B))
kept_sets m = m.older ++ m.latest ∷ []

-- the number of the last committed set
abbrev pub newest : {B : Type 0} → Machine B → ℕ
newest m = m.oldest + length m.older

-- the kept set of this number, from oldest to newest
abbrev pub set_of : {B : Type 0} → ℕ → Machine B → List (Entry B)
set_of number m = slice_index_or (kept_sets m) (number - m.oldest) []

-- sessions are numbered from 1
abbrev pub is_session : ℕ → Bool
is_session s = nat_lt 0 s && nat_le s SESSIONS

-- a session by its number; `Idle` for a number that no session has
abbrev pub session_at : {B : Type 0} → ℕ → List (Session B) → Session B
session_at s sessions = if is_session s then slice_index_or sessions (s - 1) Idle else Idle

-- the machine with this session changed
abbrev pub with_session : {B : Type 0} → ℕ → Session B → Machine B → Machine B
with_session s session m = record m { sessions = slice_set m.sessions (s - 1) session }

-- the least session but s that conflicts with a call of s, where the sessions given are numbered from n
abbrev pub least_conflicting : {B : Type 0} → Keys B → Call B → ℕ → ℕ → List (Session B) → Option ℕ
least_conflicting k call s n [] = None
least_conflicting k call s n (session ∷ sessions) =
    if not (n == s) && session_conflicts k call session then Some n else least_conflicting k call s (n + 1) sessions

-- the claims held in all
abbrev pub claims_held : {B : Type 0} → List (Session B) → ℕ
claims_held sessions = sum_by claims_of sessions

-- Ask: the reply at once, or the call is open
abbrev pub ask : {B : Type 0} → Keys B → ℕ → Call B → Machine B → Asked B × Machine B
ask k s call m =
    if is_session s then
    (let r = ask_session k call (least_conflicting k call s 1 m.sessions) (claims_held m.sessions) (session_at s m.sessions) in
    (r.0, with_session s r.1 m))
    else (asked.Now (reply.Refused BadSession), m)

-- Answer
abbrev pub answer : {B : Type 0} → Keys B → ℕ → Machine B → Option (Reply B × Machine B)
answer k s m = option_map (λ r. (r.0, with_session s r.1 m)) (answer_session k m.latest m.oldest (session_at s m.sessions))

-- Seal: a commit's set becomes the last committed one, under the next number
abbrev pub seal : {B : Type 0} → Keys B → ℕ → Machine B → Option (Machine B)
seal k s m =
    option_map (λ set. record m {
      older = kept_sets m;
      latest = set;
      sessions = slice_set m.sessions (s - 1) (Committing (newest m + 1));
    }) (sealed_set k m.latest (session_at s m.sessions))

-- Durable, up to this number: the sets before it are dropped
abbrev pub durable : {B : Type 0} → ℕ → Machine B → Machine B
durable number m = record m { older = drop (number - m.oldest) m.older; oldest = number }

-- Close: a call that is open goes without an answer
abbrev pub close : {B : Type 0} → ℕ → Machine B → Option (Machine B)
close s m = option_map (λ session. with_session s session m) (closed_session (session_at s m.sessions))

-- Crash: one of the kept sets is left, with its number, and no session has a transaction
abbrev pub crash : {B : Type 0} → ℕ → Machine B → Machine B
crash number m = record {
  older = [];
  latest = set_of number m;
  oldest = number;
  sessions = replicate SESSIONS Idle;
  failed = false;
}

-- a fault makes the machine fail: from then on each call is refused, until a crash
abbrev pub failed_machine : {B : Type 0} → Machine B → Machine B
failed_machine m = record m { failed = true }
