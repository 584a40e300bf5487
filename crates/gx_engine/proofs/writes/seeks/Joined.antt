-- The outcomes of the moves of a write whose pair is in a leaf: of its parts, and joined.
use Rattle.std.proofs.Common.{◌≡◌, ◌≢◌, ◌∙◌, sym, ap, refl, subst, inl, inr, ℕ, ◌-◌, ◌<◌, ◌≤◌, ◌⊎◌, ◌==◌, ◌||◌, ◌&&◌, Bool, true, false, List, arith}
use Rattle.std.specs.Prelude.{nat_le, Result, Ok, Err, IfOk, IfErr}
use Rattle.std.specs.Ordering.{is_eq}
use Rattle.gx_geom.specs.declared.refusal.Refusal.{Refusal}
use Rattle.gx_geom.specs.declared.refusal.Refusal.TheVariants as refusal
use Rattle.gx_machine.specs.declared.entry.Entry.{Entry}
use Rattle.gx_machine.specs.declared.reply.Reply.{Reply}
use Rattle.gx_machine.specs.declared.reply.Reply.TheVariants as reply
use Rattle.gx_machine.specs.Keys.{Keys}
use Rattle.gx_disk.specs.Device.{Device}
use Rattle.gx_page.specs.Contents.{Contents}
use Rattle.gx_node.specs.Reading.{Format}
use Rattle.gx_glog.specs.State.{Log}
use Rattle.gx_node.specs.Trees.{Pair, Used}
use Rattle.gx_node.specs.declared.fault.StepFault.{StepFault}
use Rattle.gx_node.specs.declared.fault.StepFault.TheVariants as step
use Rattle.gx_tree.specs.declared.seek.Sought.{Sought}
use Rattle.gx_tree.specs.declared.seek.Sought.TheVariants.{Here, Right}
use Rattle.gx_node.specs.Owner.{IsWhy}
use Rattle.gx_tree.specs.Seeking as tree
use Rattle.gx_node.specs.Store.{tree_of}
use Rattle.gx_events.specs.declared.outcome.Need.{Need}
use Rattle.gx_events.specs.declared.outcome.Outcome.{Outcome}
use Rattle.gx_events.specs.declared.outcome.Outcome.TheVariants.{Replied, More, Help}
use Rattle.gx_phases.specs.declared.phase.Phase.{Phase}
use Rattle.gx_phases.specs.declared.phase.Phase.TheVariants as phase
use Rattle.gx_phases.specs.Moves.{HasWrite, failed_state}
use Rattle.gx_phases.specs.States.{State, phase_at, with_phase_of}
use Rattle.gx_store.specs.declared.fault.StoreFault.{StoreFault}
use Rattle.gx_store.specs.declared.fault.StoreFault.TheVariants as fault
use Rattle.gx_store.specs.Faults as faults
use Rattle.gx_store.specs.Standing.{store_of}
use Rattle.gx_store.specs.State.{IsSteady}
use Rattle.gx_class.specs.declared.class.TheConstants.{MAX_KEY}
use Rattle.gx_record.specs.declared.sizes.TheConstants.{SPLIT_RECORD}
use Rattle.gx_storage.specs.Bringing.{bringing}
use Rattle.gx_recovery.specs.Known.{Known, Limits}
use Rattle.gx_index_laws.specs.Classes.{Page}
use Rattle.gx_index_laws.specs.declared.TheConstants.{CHECKPOINT_AT}
use Rattle.gx_durable.specs.Spelled.{Reading}
use Rattle.gx_txn.specs.declared.note.Note.{Note}
use Rattle.gx_storage.specs.Changes.{begun, has_room}
use Rattle.gx_storage.specs.Imaged.{is_imaged}
use Rattle.gx_storage.specs.Small.{mark_room}
use Rattle.gx_storage.specs.Flushing.{Helps}
use Rattle.gx_storage.specs.State.{Volume}
use Rattle.gx_engine.specs.declared.work.Work.{Work}
use Rattle.gx_engine.specs.declared.work.Work.TheVariants.{Seeks}
use Rattle.gx_engine.specs.Moves.{calling}
use Rattle.gx_engine.specs.Refusals.{CanBeHelped, IsEarly, IsHelp, IsRefused, StampsStay}
use Rattle.gx_engine.specs.Seeks.{IsNoted, IsPutOff, IsSought, IsUnsought, SeekComes, set_outcome, set_state, write_call, written_reply}
use Rattle.gx_engine.specs.States.{Parts, is_due, runs}
use Rattle.gx_engine.specs.Undoing.{PairIsSought}
use Rattle.gx_engine.specs.Writes.{AsksRoom, IsDelayed, WriteComes, brought}
use Rattle.gx_engine.proofs.Reading.{only_shelf}
use Rattle.gx_engine.proofs.RoomMade.{same_used, seek_made}

-- a call that writes is open, and writes its entry
pub has_write : {B : Type 0} (entry : Entry B) (marked : Bool) (work : Work B) (p : Phase B (Work B)) → p ≡ phase.Open (write_call marked entry) work → HasWrite entry p
has_write {B} entry marked work p is = subst (λ (q : Phase B (Work B)). HasWrite entry q) (sym is) (by marked)
  where
    by : (m : Bool) → HasWrite entry (phase.Open (write_call m entry) work)
    by true = refl
    by false = refl

-- What the tree's seek says of the tree that is shown.
module _ {B D : Type 0} (f : Format B) (IsKey : B → Type 0) (k : Keys B) (e : Device) (w : Volume D) (leaf : ℕ) where
  pub found : (entry : Entry B) (wants : Pair B → Bool) → ((x : Pair B) → IsKey x.key → wants x ≡ ((x.row == entry.row) && is_eq (k.cmp x.key entry.key)))
      → (result : Result Sought (StepFault StoreFault))
      → IfOk result (tree.Seeks wants ((tree_of (store_of f e.seen w.shelf)).node leaf)) → IfOk result (IsSought f IsKey k e w entry leaf)
  found entry wants wanted (Ok sought) seeks = record { wants = wants; wanted = wanted; seeks = seeks }
  found entry wants wanted (Err fault) seeks = tt

  pub unfound : (passes : ℕ → Contents → Bool) (d : Device) (v : Volume D) (result : Result Sought (StepFault StoreFault)) → IfErr result (IsWhy (faults.IsWhy passes d e (bringing v) w.shelf))
      → (result ≡ Err step.Damaged → Used (tree_of (store_of f e.seen w.shelf)) leaf → ((tree_of (store_of f e.seen w.shelf)).node leaf).level ≢ 0)
      → IfErr result (IsUnsought f IsKey k passes d e v w leaf)
  unfound passes d v (Ok sought) why damaged = tt
  unfound passes d v (Err fault) why damaged =
      let result : StepFault StoreFault → Result Sought (StepFault StoreFault) = λ x. Err x in
      record { why = why; damaged = λ is. damaged (ap result is) }

-- a step that reads asks for no room, so it may ask for a record's
pub why_begun : {D : Type 0} (passes : ℕ → Contents → Bool) (d e : Device) (v w : Volume D) (refused : StoreFault) → faults.IsWhy passes d e (bringing v) w.shelf refused
    → faults.IsWhy passes d e (begun v 0) w.shelf refused
why_begun passes d e v w fault.NoRoom why = absurd (let no : true ≡ false = why in cc)
why_begun passes d e v w (fault.TooFewFrames frames) why = why
why_begun passes d e v w fault.Device why = why
why_begun passes d e v w fault.Damaged why = why

-- nor is it refused for lack of that
pub no_room : {D : Type 0} {P : Type 0} (passes : ℕ → Contents → Bool) (d e : Device) (v w : Volume D) (refused : StoreFault) → faults.IsWhy passes d e (bringing v) w.shelf refused
    → refused ≡ fault.NoRoom → P
no_room passes d e v w refused why is = absurd (let no : true ≡ false = subst (λ (x : StoreFault). faults.IsWhy passes d e (bringing v) w.shelf x) is why in cc)

-- Pages may have been brought.
module _ {B D : Type 0} (old : Parts B D) (w : Volume D) (log : w.log ≡ old.volume.log) (most : w.most ≡ old.volume.most)
    (imaged : w.imaged ≡ old.volume.imaged) where
  abbrev mid : Parts B D
  mid = record old { volume = w }

  pub brought_with : (sessions : State B (Work B)) → record mid { sessions = sessions } ≡ record (brought old mid) { sessions = sessions }
  brought_with sessions = ap (λ (v : Volume D). record old { volume = v; sessions = sessions }) (only_shelf old.volume w log most imaged)

  brought_on : (new : Parts B D) (sessions : State B (Work B)) → record (brought mid new) { sessions = sessions } ≡ record (brought old new) { sessions = sessions }
  brought_on new sessions = λ j. record {
    volume = record { log = log j; shelf = new.volume.shelf; most = most j; imaged = imaged j };
    sessions = sessions;
    in_flight = old.in_flight;
    checkpoint = old.checkpoint;
  }

  module _ (f : Format B) (IsKey : B → Type 0) (k : Keys B) (key : ℕ) (passes : ℕ → Contents → Bool) (state : D → Device) (d : Device) (s : ℕ) (entry : Entry B) (leaf : ℕ) (marked : Bool) where
    abbrev Comes : Parts B D → Outcome B → Type 0
    Comes new o = SeekComes f IsKey k key passes d (state new.volume.shelf.disk) s entry leaf marked old new o

    at : (new there : Parts B D) (o given : Outcome B) → o ≡ given → new ≡ there → Comes there given → Comes new o
    at new there o given one other comes = subst (λ (y : Outcome B). Comes new y) (sym one) (subst (λ (x : Parts B D). Comes x given) (sym other) comes)

    -- what a move comes to that was refused pages
    pub refused_comes : StampsStay old.volume.shelf w.shelf → (size : ℕ) → (size ≡ 0) ⊎ (size ≡ mark_room (is_imaged old.volume.imaged leaf) key) → size ≤ SPLIT_RECORD → (refused : StoreFault) → (refused ≡ fault.NoRoom → is_due old ≡ false) → faults.IsWhy passes d (state w.shelf.disk) (begun old.volume size) w.shelf refused
        → (new : Parts B D) (o : Outcome B) → IsRefused refused mid new o → Comes new o
    refused_comes stay size asks small fault.NoRoom early why new o is =
        at new mid o _ is.2 is.3 (inr (size, asks, small, (record { fault = fault.NoRoom; can = tt; why = why; help = is.0; helps = is.1; is = refl; stamps = stay }, early refl)), brought_with old.sessions)
    refused_comes stay size asks small (fault.TooFewFrames frames) early why new o is =
        at new mid o _ is.2 is.3 (inr (size, asks, small, (record { fault = fault.TooFewFrames frames; can = tt; why = why; help = is.0; helps = is.1; is = refl; stamps = stay }, tt)), brought_with old.sessions)
    refused_comes stay size asks small fault.Device early why new o is = at new _ o _ is.0 is.1 (why, brought_with (failed_state old.sessions))
    refused_comes stay size asks small fault.Damaged early why new o is = at new _ o _ is.0 is.1 (brought_with (failed_state old.sessions))

    -- and one whose page is no leaf
    pub damaged_comes : (new : Parts B D) (o : Outcome B) → o ≡ Replied (reply.Refused refusal.Damaged) → new ≡ record mid { sessions = failed_state old.sessions } → Comes new o
    damaged_comes new o one other = at new _ o _ one other (brought_with (failed_state old.sessions))

  -- The outcome of a part that begins with them is the outcome of the whole.
  module _ (f : Format B) (IsKey : B → Type 0) (k : Keys B) (key : ℕ) (passes : ℕ → Contents → Bool) (stay : StampsStay old.volume.shelf w.shelf) (d e later : Device) (sooner : d.faults ≤ e.faults)
      (steady : IsSteady d old.volume.shelf.frames → IsSteady e w.shelf.frames) (used : w.shelf.used ≡ old.volume.shelf.used) (s : ℕ) (entry : Entry B) (leaf : ℕ) (marked : Bool)
      (new : Parts B D) where
    due_same : is_due mid ≡ is_due old
    due_same = ap (λ (g : Log). runs old.checkpoint || nat_le CHECKPOINT_AT g.used) log

    help_on : (size : ℕ) (n : Need) (help : IsHelp passes e later (runs old.checkpoint) (begun w size) new.volume.shelf n) → IsEarly help.fault (is_due mid)
        → (now : IsHelp passes d later (runs old.checkpoint) (begun old.volume size) new.volume.shelf n) × IsEarly now.fault (is_due old)
    help_on size n help early = by help.fault refl
      where
        why_is : (x : StoreFault) → help.fault ≡ x → faults.IsWhy passes e later (begun w size) new.volume.shelf x
        why_is x is = subst (λ (y : StoreFault). faults.IsWhy passes e later (begun w size) new.volume.shelf y) is help.why

        helps_is : (x : StoreFault) → help.fault ≡ x → Helps new.volume.shelf x help.help
        helps_is x is = subst (λ (y : StoreFault). Helps new.volume.shelf y help.help) is help.helps

        by : (x : StoreFault) → help.fault ≡ x → (now : IsHelp passes d later (runs old.checkpoint) (begun old.volume size) new.volume.shelf n) × IsEarly now.fault (is_due old)
        by fault.NoRoom is = (
          record {
            fault = fault.NoRoom;
            can = tt;
            why = sym (ap (λ (g : Log). has_room g size) log) ∙ why_is fault.NoRoom is;
            help = help.help;
            helps = helps_is fault.NoRoom is;
            is = help.is;
            stamps = λ page. help.stamps page ∙ stay page;
          },
          sym due_same ∙ subst (λ (x : StoreFault). IsEarly x (is_due mid)) is early,
        )
        by (fault.TooFewFrames frames) is = (
          record {
            fault = fault.TooFewFrames frames;
            can = tt;
            why = why_is (fault.TooFewFrames frames) is;
            help = help.help;
            helps = helps_is (fault.TooFewFrames frames) is;
            is = help.is;
            stamps = λ page. help.stamps page ∙ stay page;
          },
          tt,
        )
        by fault.Device is = absurd (subst (λ (x : StoreFault). CanBeHelped x) is help.can)
        by fault.Damaged is = absurd (subst (λ (x : StoreFault). CanBeHelped x) is help.can)

    delayed_on : (n : Need) → IsPutOff f IsKey k key passes e later entry leaf marked mid new n → IsPutOff f IsKey k key passes d later entry leaf marked old new n
    delayed_on n (inl due) = inl (due.0, sym due_same ∙ due.1, (λ page. due.2 page ∙ stay page), due.3)
    delayed_on n (inr room) = inr (room.0, asks_on room.0 room.1, room.2, help_on room.0 n room.3.0 room.3.1)
      where
        asks_on : (size : ℕ) → (size ≡ 0) ⊎ (size ≡ mark_room (is_imaged w.imaged leaf) key) → (size ≡ 0) ⊎ (size ≡ mark_room (is_imaged old.volume.imaged leaf) key)
        asks_on size (inl none) = inl none
        asks_on size (inr one) = inr (one ∙ ap (λ (bits : List Bool). mark_room (is_imaged bits leaf) key) imaged)

    noted_on : IsNoted k s entry leaf mid new → IsNoted k s entry leaf old new
    noted_on noted = record { before = noted.before; is = noted.is; most = noted.most ∙ most }

    refused_on : (why : Refusal) → SeekComes f IsKey k key passes e later s entry leaf marked mid new (Replied (reply.Refused why))
        → SeekComes f IsKey k key passes d later s entry leaf marked old new (Replied (reply.Refused why))
    refused_on refusal.Present comes = (comes.0, comes.1 ∙ brought_on new _, comes.2)
    refused_on refusal.Absent comes = (comes.0, comes.1 ∙ brought_on new _, comes.2)
    refused_on refusal.Device comes = (omega (arith, sooner, comes.0), comes.1 ∙ brought_on new _)
    refused_on refusal.Damaged comes = comes ∙ brought_on new _
    refused_on why comes = absurd comes

    replied_on : (r : Reply B) → SeekComes f IsKey k key passes e later s entry leaf marked mid new (Replied r) → SeekComes f IsKey k key passes d later s entry leaf marked old new (Replied r)
    replied_on reply.Inserted comes = (comes.0, noted_on comes.1)
    replied_on reply.Deleted comes = (comes.0, noted_on comes.1)
    replied_on (reply.Refused why) comes = refused_on why comes
    replied_on r comes = absurd comes

    pub comes_on : (o : Outcome B) → SeekComes f IsKey k key passes e later s entry leaf marked mid new o → SeekComes f IsKey k key passes d later s entry leaf marked old new o
    comes_on More comes = (comes.0, comes.1 ∙ brought_on new _, λ was. comes.2 (steady was) ∙ used)
    comes_on (Replied r) comes = replied_on r comes
    comes_on (Help n) comes = (delayed_on n comes.0, comes.1 ∙ brought_on new _)
    comes_on o comes = absurd comes

-- the record of a mark has some bytes, and no more than a split's
mark_is_some : (small : Bool) (key : ℕ) → 0 < mark_room small key
mark_is_some true key = omega arith
mark_is_some false key = omega arith

pub mark_is_short : (small : Bool) (key : ℕ) → key ≤ MAX_KEY → mark_room small key ≤ SPLIT_RECORD
mark_is_short true key short = omega (arith, short)
mark_is_short false key short = omega (arith, short)

-- Such a move is a write's.
module _ {B D : Type 0} (f : Format B) (IsKey : B → Type 0) (k : Keys B) (key : ℕ) (short : key ≤ MAX_KEY) (passes : ℕ → Contents → Bool) (d e : Device) (s : ℕ)
    (entry : Entry B) (leaf : ℕ) (marked : Bool) (old new : Parts B D) (at : phase_at (s - 1) old.sessions.phases ≡ phase.Open (write_call marked entry) (Seeks leaf)) where
  its_call : (m : Bool) → marked ≡ m → write_call marked entry ≡ write_call m entry
  its_call m is = ap (λ b. write_call b entry) is

  refused_write : (why : Refusal) → SeekComes f IsKey k key passes d e s entry leaf marked old new (Replied (reply.Refused why))
      → WriteComes k f passes key d e s (write_call marked entry) old new (Replied (reply.Refused why))
  refused_write refusal.Present comes = (entry, its_call false comes.0, comes.1)
  refused_write refusal.Absent comes = (entry, its_call true comes.0, comes.1)
  refused_write refusal.Device comes = comes
  refused_write refusal.Damaged comes = comes
  refused_write why comes = absurd comes

  replied_write : (r : Reply B) → SeekComes f IsKey k key passes d e s entry leaf marked old new (Replied r) → WriteComes k f passes key d e s (write_call marked entry) old new (Replied r)
  replied_write reply.Inserted comes = (record { entry = entry; before = comes.1.before; leaf = leaf }, its_call false comes.0, comes.1.is, comes.1.most)
  replied_write reply.Deleted comes = (record { entry = entry; before = comes.1.before; leaf = leaf }, its_call true comes.0, comes.1.is, comes.1.most)
  replied_write (reply.Refused why) comes = refused_write why comes
  replied_write r comes = absurd comes

  delayed : (n : Need) → IsPutOff f IsKey k key passes d e entry leaf marked old new n → IsDelayed (AsksRoom k f key d s (write_call marked entry) old) passes d e old new n
  delayed n (inl due) = (
    mark_room (is_imaged old.volume.imaged leaf) key,
    record { work = Seeks leaf; at = at; asks = inr refl },
    mark_is_short (is_imaged old.volume.imaged leaf) key short,
    inl (due.0, due.1, mark_is_some (is_imaged old.volume.imaged leaf) key, due.2),
  )
  delayed n (inr room) = (room.0, record { work = Seeks leaf; at = at; asks = room.1 }, room.2, inr room.3)

  pub seek_write : (o : Outcome B) → SeekComes f IsKey k key passes d e s entry leaf marked old new o → WriteComes k f passes key d e s (write_call marked entry) old new o
  seek_write More comes =
      let same : new.volume ≡ record old.volume { shelf = new.volume.shelf } = ap (λ (x : Parts B D). x.volume) comes.1 in (
        Seeks comes.0,
        comes.1 ∙ sym (ap (λ (v : Volume D). calling s (write_call marked entry) (Seeks comes.0) (record old { volume = v })) same),
        ap (λ (v : Volume D). v.most) same,
        seek_made k f d s (write_call marked entry) old e new comes.2 leaf at,
      )
  seek_write (Replied r) comes = replied_write r comes
  seek_write (Help n) comes = (delayed n comes.0, comes.1)
  seek_write o comes = absurd comes

-- The outcome of a mark that was set, or not.
module _ {B D : Type 0} (f : Format B) (IsKey : B → Type 0) (k : Keys B) (passes : ℕ → Contents → Bool) (d e : Device) (s : ℕ) (entry : Entry B) (leaf : ℕ) (marked : Bool) (old : Parts B D)
    (w : Volume D) (known : Limits → Known (Entry B) (Page B)) (r : Reading (Entry B) (Page B)) (spelling : B → List ℕ) (key t : ℕ) (n : Note B) where
  abbrev its_end : Sought → Parts B D
  its_end sought = record old { volume = w; sessions = set_state k s entry leaf marked sought old.sessions }

  pub set_comes : (sought : Sought) → PairIsSought known r f passes IsKey k spelling key d e old.volume w t n leaf sought
      → SeekComes f IsKey k key passes d e s entry leaf marked old (its_end sought) (set_outcome marked sought)
  set_comes (Here slot before) set = by marked refl
    where
      noted : IsNoted k s entry leaf old (its_end (Here slot before))
      noted = record { before = before; is = refl; most = set.logged.most }

      by : (m : Bool) → marked ≡ m → SeekComes f IsKey k key passes d e s entry leaf marked old (its_end (Here slot before)) (Replied (written_reply m))
      by true is = (is, noted)
      by false is = (is, noted)
  set_comes (Right next) set = (
    next,
    brought_with old w set.logged.log set.logged.most set.logged.imaged (with_phase_of s (phase.Open (write_call marked entry) (Seeks next)) old.sessions),
    λ steady. same_used f d.seen e.seen old.volume.shelf w.shelf (set.sets steady).1,
  )

-- What was noted of a mark that was set, or not.
module _ {B D : Type 0} (k : Keys B) (s : ℕ) (entry : Entry B) (leaf : ℕ) (marked : Bool) (sought : Sought) (old mid new : Parts B D) (only : mid ≡ record old { volume = mid.volume })
    (noted : new ≡ record mid { sessions = set_state k s entry leaf marked sought mid.sessions }) (outcome : Outcome B) (is : outcome ≡ set_outcome marked sought) where
  noted_is : new ≡ record old { volume = mid.volume; sessions = set_state k s entry leaf marked sought old.sessions }
  noted_is = noted ∙ ap (λ (m : Parts B D). record m { sessions = set_state k s entry leaf marked sought m.sessions }) only

  -- what is said of it is said of where it ends
  pub noted_so : (P : Parts B D → Outcome B → Type 0) → P (record old { volume = mid.volume; sessions = set_state k s entry leaf marked sought old.sessions }) (set_outcome marked sought)
      → P new outcome
  noted_so P said = subst (λ (o : Outcome B). P new o) (sym is) (subst (λ (x : Parts B D). P x (set_outcome marked sought)) (sym noted_is) said)
