-- Only a Begin is answered at once with Ok.
use Rattle.std.proofs.Common.{◌≡◌, ℕ, Bool, true, false, Option, Some, None, refl}
use Rattle.std.specs.Prelude.{Result, Ok, Err}
use Rattle.gx_geom.specs.declared.refusal.Refusal.{Refusal}
use Rattle.gx_machine.specs.declared.call.Call.{Call}
use Rattle.gx_machine.specs.declared.call.Call.TheVariants.{Begin, Insert, Delete, Search, Commit, Abort}
use Rattle.gx_machine.specs.declared.reply.Reply.TheVariants as reply
use Rattle.gx_machine.specs.declared.reply.Asked.TheVariants as asked
use Rattle.gx_machine.specs.Keys.{Keys}
use Rattle.gx_machine.specs.Sessions.{Session, Idle, Open, Aborting, Committing, Locks, Changes, asked_with, lock_for, ask_open, ask_idle, ask_session}
use Rattle.gx_machine.specs.Machine.{Machine, is_session, ask}
use Rattle.gx_machine.proofs.StepEffects.{asked_there}
use Rattle.gx_events.specs.Happens.{is_begin}

module _ {B : Type 0} (k : Keys B) where
  never_ok : (call : Call B) (r : Result (Locks B) Refusal) (old : Locks B) (changes : Changes B) → (asked_with call r old changes).0 ≡ asked.Now reply.Ok → is_begin call ≡ true
  never_ok call (Ok locks) old changes h = let no : ⊥ = cc in absurd no
  never_ok call (Err why) old changes h = let no : ⊥ = cc in absurd no

  idle_ok : (call : Call B) → (ask_idle call).0 ≡ asked.Now reply.Ok → is_begin call ≡ true
  idle_ok Begin h = refl
  idle_ok (Insert e) h = let no : ⊥ = cc in absurd no
  idle_ok (Delete e) h = let no : ⊥ = cc in absurd no
  idle_ok (Search q) h = let no : ⊥ = cc in absurd no
  idle_ok Commit h = let no : ⊥ = cc in absurd no
  idle_ok Abort h = let no : ⊥ = cc in absurd no

  open_ok : (call : Call B) (least : Option ℕ) (spent : ℕ) (locks : Locks B) (changes : Changes B)
      → (ask_open k call least spent locks changes).0 ≡ asked.Now reply.Ok → is_begin call ≡ true
  open_ok Begin least spent locks changes h = refl
  open_ok (Insert e) least spent locks changes h = never_ok (Insert e) (lock_for k (Insert e) least spent locks) locks changes h
  open_ok (Delete e) least spent locks changes h = never_ok (Delete e) (lock_for k (Delete e) least spent locks) locks changes h
  open_ok (Search q) least spent locks changes h = never_ok (Search q) (lock_for k (Search q) least spent locks) locks changes h
  open_ok Commit least spent locks changes h = never_ok Commit (lock_for k Commit least spent locks) locks changes h
  open_ok Abort least spent locks changes h = let no : ⊥ = cc in absurd no

  session_ok : (call : Call B) (least : Option ℕ) (spent : ℕ) (x : Session B) → (ask_session k call least spent x).0 ≡ asked.Now reply.Ok → is_begin call ≡ true
  session_ok call least spent Idle h = idle_ok call h
  session_ok call least spent (Open locks changes None) h = open_ok call least spent locks changes h
  session_ok call least spent (Open locks changes (Some pending)) h = let no : ⊥ = cc in absurd no
  session_ok call least spent (Aborting locks) h = let no : ⊥ = cc in absurd no
  session_ok call least spent (Committing number) h = let no : ⊥ = cc in absurd no

  there_ok : (s : ℕ) (call : Call B) (m : Machine B) (there : Bool) → (asked_there k s call m there).0 ≡ asked.Now reply.Ok → is_begin call ≡ true
  there_ok s call m true h = session_ok call _ _ _ h
  there_ok s call m false h = let no : ⊥ = cc in absurd no

  pub begins_alone : (s : ℕ) (call : Call B) (m : Machine B) → (ask k s call m).0 ≡ asked.Now reply.Ok → is_begin call ≡ true
  begins_alone s call m h = there_ok s call m (is_session s) h
