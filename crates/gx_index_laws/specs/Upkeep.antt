-- What is to be done for the log and for frames before a call that waits for it can go on, and the number that falls with it.
use Rattle.std.specs.Prelude.{ℕ, suc, ◌≡◌, ◌+◌, ◌≤◌, Bool, true, false, nat_le, ◌⊎◌}
use Rattle.gx_index_laws.specs.declared.TheConstants.{CHECKPOINT_AT}

-- A checkpoint: none runs; one runs, gates what is logged and writes dirty pages; or it turns to the other extent, with so
-- many device calls to go.
pub data Checkpoint : Type 0 where
  Off : Checkpoint
  Running : Checkpoint
  Turning : (calls : ℕ) → Checkpoint

-- how many frames are dirty; whether records are filling; how many device calls the batch in flight has to go, of its body's
-- sync, its gate and the gate's sync; how many bodies of the extent are used; and the checkpoint
pub record Upkeep : Type 0 where
  pub dirty : ℕ
  pub filling : Bool
  pub flight : ℕ
  pub used : ℕ
  pub checkpoint : Checkpoint

abbrev pub calls_to_go : Checkpoint → ℕ
calls_to_go Off = 0
calls_to_go Running = 0
calls_to_go (Turning calls) = calls

-- so many frames there are at most, and so many calls of a batch and of a turn
pub record IsWithin (u : Upkeep) : Type 0 where
  pub dirty : u.dirty ≤ 4096
  pub flight : u.flight ≤ 3
  pub turn : calls_to_go u.checkpoint ≤ 7

-- so many if it is so
abbrev pub where_so : Bool → ℕ → ℕ
where_so true n = n
where_so false n = 0

-- the bodies used once what is filling is a batch
abbrev pub used_then : Upkeep → ℕ
used_then u = u.used + where_so u.filling 1

-- The number: a page's write for each dirty frame; what is left of the batch in flight, and the four calls of the next
-- one; and a checkpoint's sync of pages and its turn, if one runs or has to, since as many bodies as that are used or
-- will be.
abbrev pub checkpoint_left : Checkpoint → ℕ → ℕ
checkpoint_left Off used = where_so (nat_le CHECKPOINT_AT used) 8
checkpoint_left Running used = 8
checkpoint_left (Turning calls) used = calls

abbrev pub upkeep_left : Upkeep → ℕ
upkeep_left u = u.dirty + (u.flight + where_so u.filling 4) + checkpoint_left u.checkpoint (used_then u)

-- the filling batch begins with the write of its body, or the one in flight goes on by a call
pub record TakesBatch (old new : Upkeep) : Type 0 where
  pub idle : old.flight ≡ 0
  pub filled : old.filling ≡ true
  pub is : new ≡ record old { filling = false; flight = 3; used = suc old.used }

pub record GoesOn (old new : Upkeep) : Type 0 where
  pub calls : ℕ
  pub going : old.flight ≡ suc calls
  pub is : new ≡ record old { flight = calls }

-- a dirty page is written
pub record WritesPage (old new : Upkeep) : Type 0 where
  pub others : ℕ
  pub some : old.dirty ≡ suc others
  pub is : new ≡ record old { dirty = others }

-- what was written is synced, if all is written and all is gated: the turn is next
pub record SyncsPages (old new : Upkeep) : Type 0 where
  pub written : old.dirty ≡ 0
  pub idle : old.flight ≡ 0
  pub gated : old.filling ≡ false
  pub is : new ≡ record old { checkpoint = Turning 7 }

-- a turn goes on by a call, and ends with one body used
pub record TurnsOn (old new : Upkeep) : Type 0 where
  pub calls : ℕ
  pub going : old.checkpoint ≡ Turning (suc (suc calls))
  pub is : new ≡ record old { checkpoint = Turning (suc calls) }

pub record Turned (old new : Upkeep) : Type 0 where
  pub going : old.checkpoint ≡ Turning 1
  pub empty : old.filling ≡ false
  pub is : new ≡ record old { checkpoint = Off; used = 1 }

-- a checkpoint runs, or has to
abbrev pub MustRun : Upkeep → Type 0
MustRun u = (u.checkpoint ≡ Running) ⊎ ((u.checkpoint ≡ Off) × (CHECKPOINT_AT ≤ u.used))

abbrev pub running : Upkeep → Upkeep
running u = record u { checkpoint = Running }

-- a step of the log, a page's write, a step of a checkpoint
pub data Chore : Type 0 where
  LogStep : Chore
  WritePage : Chore
  CheckpointStep : Chore

abbrev pub IsChore : Upkeep → Chore → Upkeep → Type 0
IsChore old LogStep new = (old.checkpoint ≡ Off) × (TakesBatch old new ⊎ GoesOn old new)
IsChore old WritePage new = WritesPage old new
IsChore old CheckpointStep new =
    (MustRun old × ((TakesBatch (running old) new ⊎ GoesOn (running old) new) ⊎ (WritesPage (running old) new ⊎ SyncsPages (running old) new)))
    ⊎ (TurnsOn old new ⊎ Turned old new)
