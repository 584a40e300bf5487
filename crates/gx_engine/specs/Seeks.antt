-- The outcomes of the moves of an insert or a delete whose pair is in a leaf.
use Rattle.std.specs.Prelude.{ℕ, ◌≡◌, ◌≢◌, ◌<◌, ◌≤◌, ◌==◌, ◌&&◌, ◌⊎◌, Bool, true, false, not}
use Rattle.std.specs.Ordering.{is_eq}
use Rattle.gx_geom.specs.declared.refusal.Refusal.{Refusal}
use Rattle.gx_geom.specs.declared.refusal.Refusal.TheVariants.{Absent, Damaged as DamagedRefusal, Device as DeviceRefusal, Present}
use Rattle.gx_machine.specs.declared.call.Call.{Call}
use Rattle.gx_machine.specs.declared.call.Call.TheVariants.{Delete, Insert}
use Rattle.gx_machine.specs.declared.entry.Entry.{Entry}
use Rattle.gx_machine.specs.declared.reply.Reply.{Reply}
use Rattle.gx_machine.specs.declared.reply.Reply.TheVariants.{Deleted, Inserted, Refused as RefusedCall}
use Rattle.gx_machine.specs.Keys.{Keys, Members, keys_of}
use Rattle.gx_disk.specs.Device.{Device}
use Rattle.gx_page.specs.Contents.{Contents}
use Rattle.gx_node.specs.Reading.{Format, format_of, is_node}
use Rattle.gx_class.specs.declared.class.KeyClass.{Ghosts}
use Rattle.gx_node.specs.Trees.{Pair, Used}
use Rattle.gx_node.specs.declared.fault.StepFault.{StepFault}
use Rattle.gx_node.specs.declared.fault.StepFault.TheVariants as step
use Rattle.gx_tree.specs.declared.seek.Sought.{Sought}
use Rattle.gx_tree.specs.declared.seek.Sought.TheVariants.{Here, Right}
use Rattle.gx_node.specs.Owner.{IsWhy}
use Rattle.gx_tree.specs.Seeking as tree
use Rattle.gx_node.specs.Store.{tree_of}
use Rattle.gx_events.specs.declared.outcome.Need.{Need}
use Rattle.gx_events.specs.declared.outcome.Need.TheVariants as need
use Rattle.gx_events.specs.declared.outcome.Outcome.{Outcome}
use Rattle.gx_events.specs.declared.outcome.Outcome.TheVariants.{Replied, More, Help}
use Rattle.gx_phases.specs.declared.phase.Phase.TheVariants as phase
use Rattle.gx_phases.specs.Moves.{answered_state, failed_state, written_state}
use Rattle.gx_phases.specs.States.{State, with_phase_of}
use Rattle.gx_store.specs.declared.fault.StoreFault.{StoreFault}
use Rattle.gx_store.specs.Faults as faults
use Rattle.gx_store.specs.Standing.{store_of}
use Rattle.gx_store.specs.State.{IsSteady}
use Rattle.gx_record.specs.declared.sizes.TheConstants.{SPLIT_RECORD}
use Rattle.gx_storage.specs.Bringing.{bringing}
use Rattle.gx_storage.specs.Changes.{begun}
use Rattle.gx_storage.specs.Imaged.{is_imaged}
use Rattle.gx_storage.specs.Small.{mark_room}
use Rattle.gx_storage.specs.State.{Volume}
use Rattle.gx_engine.specs.declared.work.Work.{Work}
use Rattle.gx_engine.specs.declared.work.Work.TheVariants.{Seeks}
use Rattle.gx_engine.specs.Moves.{calling}
use Rattle.gx_engine.specs.Refusals.{IsEarly, IsHelp, StampsStay}
use Rattle.gx_engine.specs.States.{Parts, is_due, runs}
use Rattle.gx_engine.specs.Writes.{brought}

-- the call that writes an entry, by the mark that it gives the pair: a delete sets it, and an insert clears it
abbrev pub write_call : {B : Type 0} → Bool → Entry B → Call B
write_call true entry = Delete entry
write_call false entry = Insert entry

-- its reply, once it is written; and its refusal, if the pair has the mark already
abbrev pub written_reply : {B : Type 0} → Bool → Reply B
written_reply true = Deleted
written_reply false = Inserted

abbrev pub standing_refusal : Bool → Refusal
standing_refusal true = Absent
standing_refusal false = Present

-- a mark was to be set: the write is noted, with the mark that was found, and answered; or the pair is sought further
-- to the right
abbrev pub set_outcome : {B : Type 0} → Bool → Sought → Outcome B
set_outcome marked (Here slot before) = Replied (written_reply marked)
set_outcome marked (Right next) = More

abbrev pub set_state : {B : Type 0} → Keys B → ℕ → Entry B → ℕ → Bool → Sought → State B (Work B) → State B (Work B)
set_state k s entry leaf marked (Here slot before) sessions = written_state k s (record { entry = entry; before = before; leaf = leaf }) sessions
set_state k s entry leaf marked (Right next) sessions = with_phase_of s (phase.Open (write_call marked entry) (Seeks next)) sessions

-- The write is noted with some mark from before it, and this leaf, and the call is closed.
pub record IsNoted {B D : Type 0} (k : Keys B) (s : ℕ) (entry : Entry B) (leaf : ℕ) (old new : Parts B D) : Type 0 where
  pub before : Bool
  pub is : new ≡ record old { volume = new.volume; sessions = written_state k s (record { entry = entry; before = before; leaf = leaf }) old.sessions }
  pub most : new.volume.most ≡ old.volume.most

module _ {B : Type 0} (f : Format B) (IsKey : B → Type 0) (k : Keys B) where
  -- An entry's pair was sought in a leaf of the tree that is shown: it is in this slot with this mark; or it isn't in
  -- the leaf, and that is the leaf to the right.
  pub record IsSought {D : Type 0} (d : Device) (v : Volume D) (entry : Entry B) (leaf : ℕ) (sought : Sought) : Type 0 where
    pub wants : Pair B → Bool
    pub wanted : (x : Pair B) → IsKey x.key → wants x ≡ ((x.row == entry.row) && is_eq (k.cmp x.key entry.key))
    pub seeks : tree.Seeks wants ((tree_of (store_of f d.seen v.shelf)).node leaf) sought

  -- It wasn't sought: pages were refused, or the page is no leaf in use.
  pub record IsUnsought {D : Type 0} (passes : ℕ → Contents → Bool) (d e : Device) (v w : Volume D) (leaf : ℕ) (fault : StepFault StoreFault) : Type 0 where
    pub why : IsWhy (faults.IsWhy passes d e (bringing v) w.shelf) fault
    pub damaged : fault ≡ step.Damaged → Used (tree_of (store_of f e.seen w.shelf)) leaf → ((tree_of (store_of f e.seen w.shelf)).node leaf).level ≢ 0

-- The outcome of such a move, for a class whose keys are spelled in so many bytes.
module _ {B : Type 0} (f : Format B) (IsKey : B → Type 0) (k : Keys B) (key : ℕ) where
  -- Another event has to come first: a checkpoint, since one is due, and the pair is in the leaf with the other mark;
  -- or, if none is due, an event that makes room in the log for the record of a mark, whose size depends on the leaf's
  -- bit; or one that frees a frame. No page changed.
  abbrev pub IsPutOff : {D : Type 0} → (ℕ → Contents → Bool) → Device → Device → Entry B → ℕ → Bool → Parts B D → Parts B D → Need → Type 0
  IsPutOff passes d e entry leaf marked old new n =
      ((n ≡ need.Checkpoint) × (is_due old ≡ true) × StampsStay old.volume.shelf new.volume.shelf × ((slot : ℕ) × IsSought f IsKey k e new.volume entry leaf (Here slot (not marked))))
      ⊎ ((size : ℕ) × ((size ≡ 0) ⊎ (size ≡ mark_room (is_imaged old.volume.imaged leaf) key)) × (size ≤ SPLIT_RECORD) × ((help : IsHelp passes d e (runs old.checkpoint) (begun old.volume size) new.volume.shelf n) × IsEarly help.fault (is_due old)))

  -- The pair is sought further to the right, nothing is logged, and no page is taken; or its mark was set, and the
  -- write is noted; or it has the mark already, and nothing is logged; or the engine has failed; or another event has
  -- to come first, and the call's state is unchanged.
  abbrev pub SeekComes : {D : Type 0} → (ℕ → Contents → Bool) → Device → Device → ℕ → Entry B → ℕ → Bool → Parts B D → Parts B D → Outcome B → Type 0
  SeekComes passes d e s entry leaf marked old new More =
      (next : ℕ) × (new ≡ calling s (write_call marked entry) (Seeks next) (brought old new)) × (IsSteady d old.volume.shelf.frames → new.volume.shelf.used ≡ old.volume.shelf.used)
  SeekComes passes d e s entry leaf marked old new (Replied Inserted) = (marked ≡ false) × IsNoted k s entry leaf old new
  SeekComes passes d e s entry leaf marked old new (Replied Deleted) = (marked ≡ true) × IsNoted k s entry leaf old new
  SeekComes passes d e s entry leaf marked old new (Replied (RefusedCall Present)) =
      (marked ≡ false) × (new ≡ record (brought old new) { sessions = answered_state s old.sessions }) × ((slot : ℕ) × IsSought f IsKey k e new.volume entry leaf (Here slot false))
  SeekComes passes d e s entry leaf marked old new (Replied (RefusedCall Absent)) =
      (marked ≡ true) × (new ≡ record (brought old new) { sessions = answered_state s old.sessions }) × ((slot : ℕ) × IsSought f IsKey k e new.volume entry leaf (Here slot true))
  SeekComes passes d e s entry leaf marked old new (Replied (RefusedCall DeviceRefusal)) = (d.faults < e.faults) × (new ≡ record (brought old new) { sessions = failed_state old.sessions })
  SeekComes passes d e s entry leaf marked old new (Replied (RefusedCall DamagedRefusal)) = new ≡ record (brought old new) { sessions = failed_state old.sessions }
  SeekComes passes d e s entry leaf marked old new (Help n) = IsPutOff passes d e entry leaf marked old new n × (new ≡ brought old new)
  SeekComes passes d e s entry leaf marked old new other = ⊥

-- the same over a class of keys, and devices that are seen so
abbrev pub SeeksAs : {C B D : Type 0} → Members B → Ghosts C B → (D → Device) → ℕ → Entry B → ℕ → Bool → Parts B D → Parts B D → Outcome B → Type 0
SeeksAs shape class state s entry leaf marked old new outcome =
    SeekComes (format_of class) class.is_key (keys_of shape) class.KEY (is_node (format_of class)) (state old.volume.shelf.disk) (state new.volume.shelf.disk)
    s entry leaf marked old new outcome
