-- As many pages are in use after the events of an opening as before.
use Rattle.std.proofs.Common.{◌≡◌, ℕ, ◌-◌, Bool, true, false, Option, None, Some, List, refl, ap, sym, ◌∙◌}
use Rattle.gx_geom.specs.declared.refusal.Refusal.TheVariants as refusal
use Rattle.gx_class.specs.Traits.{traits_of}
use Rattle.gx_class.specs.declared.class.KeyClass.{Ghosts}
use Rattle.gx_machine.specs.declared.entry.Entry.{Entry}
use Rattle.gx_machine.specs.declared.reply.Reply.TheVariants as reply
use Rattle.gx_machine.specs.Keys.{Members, keys_of}
use Rattle.gx_machine.specs.Machine.{is_session}
use Rattle.gx_disk.specs.Device.{Device}
use Rattle.gx_node.specs.Reading.{Format, format_of, is_node}
use Rattle.gx_node.specs.Store as store
use Rattle.gx_tree.specs.declared.seek.Sought.{Sought}
use Rattle.gx_tree.specs.declared.seek.Sought.TheVariants.{Here, Right}
use Rattle.gx_recovery.specs.Analysis.{Analysis, analysis, read}
use Rattle.gx_recovery.specs.Known.{Known, Limits}
use Rattle.gx_recovery.specs.Logged.{all_records, appended}
use Rattle.gx_recovery.specs.Records.{Record}
use Rattle.gx_recovery.proofs.Folds.{analysis-snoc}
use Rattle.gx_index_laws.specs.Classes.{Class, IsLawful, Page}
use Rattle.gx_index_laws.specs.States as index
use Rattle.gx_index_laws.proofs.Standing.{known_lawful}
use Rattle.gx_durable.specs.Spelled.{Reading, record_read}
use Rattle.gx_durable.proofs.Reading.{one_more}
use Rattle.gx_durable.specs.Classes.{class_of, known_at, reading_of}
use Rattle.gx_store.specs.Standing.{standing_node}
use Rattle.gx_store.specs.State.{Shelf}
use Rattle.gx_store.proofs.Listed.{nodes_long}
use Rattle.gx_storage.specs.Changes.{IsUnlogged, MarkIsLogged}
use Rattle.gx_storage.specs.Imaged.{is_imaged}
use Rattle.gx_storage.specs.Small.{mark_said}
use Rattle.gx_txn.specs.declared.note.Note.{Note}
use Rattle.gx_phases.specs.declared.phase.Phase.{Phase}
use Rattle.gx_phases.specs.declared.phase.Phase.TheVariants as phase
use Rattle.gx_phases.specs.Moves.{next_of, transaction_of}
use Rattle.gx_phases.specs.States.{phase_at}
use Rattle.gx_events.specs.declared.event.Event.{Event}
use Rattle.gx_events.specs.declared.event.Event.TheVariants.{Ask, Move, LogStep, WritePage, CheckpointStep, Sweep}
use Rattle.gx_events.specs.declared.outcome.Need.TheVariants as need
use Rattle.gx_events.specs.declared.outcome.Outcome.{Outcome}
use Rattle.gx_events.specs.declared.outcome.Outcome.TheVariants as outcome
use Rattle.gx_engine.specs.declared.work.Work.{Work}
use Rattle.gx_engine.specs.Comes.{MovesAt, MovesBy}
use Rattle.gx_engine.specs.Holds.{Holds}
use Rattle.gx_engine.specs.Made.{Makes}
use Rattle.gx_engine.specs.States.{Parts, is_due, runs}
use Rattle.gx_engine.specs.Stepping.{has_call}
use Rattle.gx_engine.specs.Undoing.{EndComes, RestoreComes, UndoBy, next_leaf}
use Rattle.gx_restart.specs.Undoing.{IsOfOpening, MayUndo, OnlyUndoes}
use Rattle.gx_restart.proofs.Bringing.{SameUsed, as_used, checkpoint_used, log_used, page_used}

module _ {C B D : Type 0} (shape : Members B) (proper : B → Bool) (said : List ℕ → B) (class : Ghosts C B) (state : D → Device) (l : Limits) (lc : IsLawful (class_of shape proper l)) where
  abbrev at : Parts B D → Device
  at e = state e.volume.shelf.disk

  abbrev c : Class B
  c = class_of shape proper l

  abbrev k : Known (Entry B) (Page B)
  k = known_at shape proper l

  abbrev r : Reading (Entry B) (Page B)
  r = reading_of said (format_of class)

  abbrev f : Format B
  f = format_of class

  module _ (old new : Parts B D) (bodies : List (List (Record (Entry B) (Page B)))) (i : index.State B) (h : Holds c r f (is_node f) (at old) old bodies i) where
    unlogged : (was : Shelf D) → IsUnlogged (known_at shape proper) r f (is_node f) was (at old) (at new) old.volume new.volume → SameUsed old new
    unlogged was is = sym (is.keeps l bodies i.log (known_lawful c lc) h.keeps).keeps.used ∙ h.keeps.used

    -- a mark's record takes no page
    with_record : (x : Record (Entry B) (Page B)) → (read k (analysis k (all_records i.log)) x).used ≡ (analysis k (all_records i.log)).used
        → (analysis k (all_records (appended x i.log))).used ≡ (analysis k (all_records i.log)).used
    with_record x same =
        ap (λ (log : List (Record (Entry B) (Page B))). (analysis k log).used) (one_more i.log x) ∙ ap (λ (a : Analysis (Entry B)). a.used) (analysis-snoc k (all_records i.log) x) ∙ same

    with_mark : (small : Bool) (tx row : ℕ) (key : B) (before after : Bool) (leaf : ℕ) (seen : List ℕ) (s : Shelf D)
        → (analysis k (all_records (appended (record_read r (mark_said class.spelling small tx row key before after leaf seen s)) i.log))).used ≡ (analysis k (all_records i.log)).used
    with_mark true tx row key before after leaf seen s = with_record (record_read r (mark_said class.spelling true tx row key before after leaf seen s)) refl
    with_mark false tx row key before after leaf seen s = with_record (record_read r (mark_said class.spelling false tx row key before after leaf seen s)) refl

    sought_used : (transaction : ℕ) (n : Note B) (leaf : ℕ) (sought : Sought)
        → MarkIsLogged (known_at shape proper) r f (is_node f) class.spelling class.KEY transaction n.entry leaf n.before (at old) (at new) old.volume new.volume sought → SameUsed old new
    sought_used transaction n leaf (Here slot before) is =
        let shows = (is.keeps l bodies i.log (known_lawful c lc) h.keeps).shows in
        sym (nodes_long (standing_node f new.volume.shelf.frames (at new).seen) new.volume.shelf.used) ∙ shows.used
        ∙ with_mark (is_imaged old.volume.imaged leaf) transaction n.entry.row n.entry.key before n.before leaf (at new).seen new.volume.shelf ∙ h.keeps.used
    sought_used transaction n leaf (Right next) is = unlogged _ is

    restore_used : (s restored : ℕ) (n : Note B) (leaf : ℕ) (given : Outcome B)
        → RestoreComes (known_at shape proper) r f (is_node f) class.is_key (keys_of shape) class.spelling class.KEY (at old) (at new) s restored n leaf old new given → SameUsed old new
    restore_used s restored n leaf outcome.More comes = sought_used (transaction_of s old.sessions) n leaf comes.0 comes.1.logged
    restore_used s restored n leaf (outcome.Help help) comes = unlogged _ comes.0
    restore_used s restored n leaf (outcome.Replied (reply.Refused refusal.Device)) comes = unlogged _ comes.0
    restore_used s restored n leaf (outcome.Replied (reply.Refused refusal.Damaged)) comes = unlogged _ comes.0
    restore_used s restored n leaf other comes = absurd comes

    end_used : (s : ℕ) (given : Outcome B) → EndComes s old new given → SameUsed old new
    end_used s (outcome.Replied reply.Aborted) ended = ap (λ v. v.shelf.used) ended.volume
    end_used s (outcome.Help need.Log) comes = as_used old new old comes.1 refl
    end_used s other comes = absurd comes

    undo_used : (due : Bool) (next : Option ℕ) (s : ℕ) (given : Outcome B)
        → UndoBy (known_at shape proper) r f (is_node f) class.is_key (keys_of shape) class.spelling class.KEY due next (at old) (at new) s old new given → SameUsed old new
    undo_used true next s given comes = as_used old new old comes.1 refl
    undo_used false None s given comes = end_used s given comes
    undo_used false (Some restored) s given comes = restore_used s restored comes.0 (next_leaf s old.sessions comes.0) given comes.2

    at_used : (s : ℕ) (p : Phase B (Work B)) (given : Outcome B) → MayUndo p
        → MovesAt (keys_of shape) (known_at shape proper) r f (is_node f) class.is_key class.spelling class.KEY (at old) (at new) s old new p given → SameUsed old new
    at_used s phase.Free given may comes = as_used old new old comes.1 refl
    at_used s (phase.Undoing restored work) given may comes = undo_used (is_due old) (next_of s old.sessions) s given comes
    at_used s phase.Working given may comes = absurd may
    at_used s (phase.Open call work) given may comes = absurd may
    at_used s (phase.Waiting number) given may comes = absurd may

    moves_used : (there has failed : Bool) (s : ℕ) (given : Outcome B) → OnlyUndoes old
        → MovesBy (keys_of shape) (known_at shape proper) r f (is_node f) class.is_key class.spelling class.KEY (at old) (at new) there has failed s old new given → SameUsed old new
    moves_used false has failed s given undoes comes = as_used old new old comes.1 refl
    moves_used true false failed s given undoes comes = as_used old new old comes.1 refl
    moves_used true true true s given undoes comes = as_used old new old comes.1 refl
    moves_used true true false s given undoes comes = at_used s (phase_at (s - 1) old.sessions.phases) given (undoes (s - 1)) comes

    -- so after any event of an opening
    pub event_used : (event : Event B) (given : Outcome B) → IsOfOpening event → OnlyUndoes old → Makes shape (traits_of proper said class) state old event given new → SameUsed old new
    event_used (Ask s call) given is undoes made = absurd is
    event_used (Move s) given is undoes made = moves_used (is_session s) (has_call (phase_at (s - 1) old.sessions.phases)) old.sessions.failed s given undoes made.comes
    event_used LogStep given is undoes made = log_used (at old) (at new) old new old.sessions.failed (runs old.checkpoint) given made.comes
    event_used (WritePage page) given is undoes made = page_used page (at old) (at new) old new old.sessions.failed given made.comes
    event_used CheckpointStep given is undoes made = checkpoint_used (at old) (at new) old new old.sessions.failed given made.comes
    event_used (Sweep page) given is undoes made = absurd is
