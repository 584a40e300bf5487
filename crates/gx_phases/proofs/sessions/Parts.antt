-- An ask on the two lists that it changes is one on the whole.
use Rattle.std.proofs.Common.{◌≡◌, ℕ, ◌-◌, Bool, true, false, List, Result, Ok, Err, sym, subst}
use Rattle.gx_geom.specs.declared.refusal.Refusal.{Refusal}
use Rattle.gx_geom.specs.declared.refusal.Refusal.TheVariants.{NoTransaction, InTransaction, CallOpen}
use Rattle.gx_machine.specs.declared.call.Call.{Call}
use Rattle.gx_machine.specs.declared.call.Call.TheVariants.{Begin, Insert, Delete, Search, Commit, Abort}
use Rattle.gx_machine.specs.declared.reply.Asked.{Asked}
use Rattle.gx_machine.specs.Keys.{Keys}
use Rattle.gx_machine.specs.Machine.{is_session}
use Rattle.gx_machine.specs.Sessions.{Locks}
use Rattle.gx_txn.specs.Tables.{Held, locks_for}
use Rattle.gx_phases.specs.declared.phase.Phase.{Phase}
use Rattle.gx_phases.specs.declared.phase.Phase.TheVariants as phase
use Rattle.gx_phases.specs.States.{State, phase_at}
use Rattle.gx_phases.specs.Parts.{Stays, LockTakenIn, WorkingAsked, PartsAsked}
use Rattle.gx_phases.specs.Asked.{IsRefused, LockTaken, AskedFree, AskedWorking, AskedAt, AskedBy, IsAsked, Begun, is_full, is_begin, begins}

module _ {B W : Type 0} (k : Keys B) (s : ℕ) (work : W) (old : State B W) (given : Asked B) where
  module _ (phases' : List (Phase B W)) (table' : List (Held B)) where
    abbrev pub parts : State B W
    parts = record old { phases = phases'; table = table' }

    stays : (why : Refusal) → Stays why old.phases given phases' × (table' ≡ old.table) → IsRefused why old given parts
    stays why a = (a.0.0, (λ i. record old { phases = a.0.1 i; table = a.1 i }))

    lock_taken : (r : Result (Locks B) Refusal) (call : Call B) → LockTakenIn r s call work old.phases old.table given phases' table'
        → LockTaken r s call work old given parts
    lock_taken (Ok locks) call a = (a.0, (λ i. record old { phases = a.1 i; table = a.2 i }))
    lock_taken (Err why) call a = stays why a

    working : (call : Call B) → WorkingAsked k s call work old.phases old.table given phases' table' → AskedWorking k s call work old given parts
    working Begin a = stays InTransaction a
    working (Insert e) a = lock_taken (locks_for k (Insert e) s old.table) (Insert e) a
    working (Delete e) a = lock_taken (locks_for k (Delete e) s old.table) (Delete e) a
    working (Search q) a = lock_taken (locks_for k (Search q) s old.table) (Search q) a
    working Commit a = (a.0, (λ i. record old { phases = a.1 i; table = a.2 i }))
    working Abort a = (a.0, (λ i. record old { phases = a.1 i; table = a.2 i }))

    free : (call : Call B) → is_begin call ≡ false → IsRefused NoTransaction old given parts → AskedFree s call old given parts
    free Begin other a = let no : ⊥ = cc in absurd no
    free (Insert e) other a = a
    free (Delete e) other a = a
    free (Search q) other a = a
    free Commit other a = a
    free Abort other a = a

    pub of_parts : (call : Call B) (q : Phase B W) → begins call q ≡ false → PartsAsked k s call work q old.phases old.table given phases' table'
        → AskedAt k s call work q old given parts
    of_parts call phase.Free other a = free call other (stays NoTransaction a)
    of_parts call phase.Working other a = working call a
    of_parts call (phase.Open pending on) other a = stays CallOpen a
    of_parts call (phase.Undoing restored on) other a = stays CallOpen a
    of_parts call (phase.Waiting number) other a = stays CallOpen a

  -- a Begin outside of a transaction
  begun_of : (call : Call B) (new : State B W) → is_begin call ≡ true → Begun (is_full old) s old given new → AskedFree s call old given new
  begun_of Begin new is a = a
  begun_of (Insert e) new is a = let no : ⊥ = cc in absurd no
  begun_of (Delete e) new is a = let no : ⊥ = cc in absurd no
  begun_of (Search q) new is a = let no : ⊥ = cc in absurd no
  begun_of Commit new is a = let no : ⊥ = cc in absurd no
  begun_of Abort new is a = let no : ⊥ = cc in absurd no

  pub begun_at : (call : Call B) (q : Phase B W) (new : State B W) → begins call q ≡ true → Begun (is_full old) s old given new → AskedAt k s call work q old given new
  begun_at call phase.Free new is a = begun_of call new is a
  begun_at call phase.Working new is a = let no : ⊥ = cc in absurd no
  begun_at call (phase.Open pending on) new is a = let no : ⊥ = cc in absurd no
  begun_at call (phase.Undoing restored on) new is a = let no : ⊥ = cc in absurd no
  begun_at call (phase.Waiting number) new is a = let no : ⊥ = cc in absurd no

  -- past the first two tests
  pub asked_there : (call : Call B) (new : State B W) → old.failed ≡ false → is_session s ≡ true → AskedAt k s call work (phase_at (s - 1) old.phases) old given new
      → IsAsked k s call work old given new
  asked_there call new works is a =
      subst (λ (failed : Bool). AskedBy k s call work failed (is_session s) old given new) (sym works)
      (subst (λ (there : Bool). AskedBy k s call work false there old given new) (sym is) a)
