-- A run with status 0 over an honest device is one run of the machine, and durable.
use Rattle.std.proofs.Common.{◌≡◌, ◌≤◌, ℕ, Bool, true, false, List, [], inl, inr, refl, sym, subst, ◌∙◌, arith}
use Rattle.std.specs.Prelude.{Result, Ok, Err, OnOk}
use Rattle.std.specs.Io.KnownBytes.{Appends}
use Rattle.gx_geom.specs.declared.refusal.Refusal.{Refusal}
use Rattle.gx_machine.specs.declared.entry.Entry.{Entry}
use Rattle.gx_machine.specs.Keys.{Members}
use Rattle.gx_script.specs.Corners.{Grammar}
use Rattle.gx_script.specs.Scripts.{asked}
use Rattle.gx_class.specs.Traits.{traits_of}
use Rattle.gx_class.specs.declared.class.KeyClass.{Ghosts}
use Rattle.gx_disk.specs.Device.{Device, MayLeave}
use Rattle.gx_node.specs.Reading.{format_of, is_node}
use Rattle.gx_glog.specs.declared.parameters.Parameters.{Parameters}
use Rattle.gx_recovery.specs.Known.{Limits}
use Rattle.gx_recovery.specs.Records.{Record}
use Rattle.gx_index_laws.specs.Classes.{IsLawful, Page}
use Rattle.gx_index_laws.specs.States as index
use Rattle.gx_index_laws.proofs.Standing.{known_lawful}
use Rattle.gx_durable.proofs.Crashes.{crash_leaves}
use Rattle.gx_durable.specs.Classes.{class_of, reading_of}
use Rattle.gx_events.specs.declared.event.Event.{Event}
use Rattle.gx_events.specs.declared.outcome.Outcome.{Outcome}
use Rattle.gx_engine.specs.Holds.{Holds}
use Rattle.gx_engine.specs.States.{Parts}
use Rattle.gx_opening.specs.Standing.{known_for, limits_of, reading}
use Rattle.gx_engine.specs.Helping.{AskedEnds}
use Rattle.gx_engine.specs.Made.{Makes}
use Rattle.gx_engine.specs.Resting.{IsAtRest}
use Rattle.gx_restart.specs.Called.{CallsIndex}
use Rattle.gx_restart.specs.States.{State}
use Rattle.gx_restart.proofs.Durable.{all_durable}
use Rattle.gx_restart.proofs.Scripts.{script_alone}
use Rattle.gx_commands.specs.Streams.{Outputs, Stream}
use Rattle.gx_commands.specs.Durably.{EndsDurably, StandsForLast}
use Rattle.gx_commands.specs.Endings.{EndsBy, EndsSettling, HasRun, RunsOver, TellsSettled, WasOpened, watched_over}
use Rattle.gx_commands.proofs.Forgetting.{script_forgets}
use Rattle.gx_commands.proofs.Refusing.{refused_status}

module _ {B C D : Type 0} (grammar : Grammar B) (shape : Members B) (is_key : B → Bool) (said : List ℕ → B) (class : Ghosts C B) (state : D → Device) where
  abbrev makes : Parts B D → Event B → Outcome B → Parts B D → Type 0
  makes = Makes shape (traits_of is_key said class) state

  zero_not : {A : Type 0} → ◌≡◌ {A = ℕ} 0 1 → A
  zero_not is = absurd (let bad : ⊥ = omega arith in bad)

  -- with status 0 nothing was met, and the index was settled
  met_nothing : (met : Bool) (index : State B D) (after : D) (from to : Outputs) → EndsBy shape (traits_of is_key said class) state met index after from to 0
      → (met ≡ false) × EndsSettling shape (traits_of is_key said class) state index after from to 0
  met_nothing true index after from to ends = zero_not ends.0
  met_nothing false index after from to ends = (refl, ends)

  -- and the settling ended well
  settled_well : {P : Type 0} (result : Result (Unit {0}) Refusal) (from to : Outputs) → OnOk result P → TellsSettled result from to 0 → P × (to ≡ from)
  settled_well (Ok done) from to well told = (well, told.1)
  settled_well (Err why) from to well told = zero_not told.status_is

  module _ (never : (l : Limits) → AskedEnds shape (traits_of is_key said class) state l) (lawful : (l : Limits) → 4 ≤ l.most → IsLawful (class_of shape is_key l)) where
    -- what a crash may leave of an index at rest stands for its last set
    stands_last : (p : Parameters) (e : Parts B D) (bodies : List (List (Record (Entry B) (Page B)))) (i : index.State B)
        → IsLawful (class_of shape is_key (limits_of p))
        → Holds (class_of shape is_key (limits_of p)) (reading_of said (format_of class)) (format_of class) (is_node (format_of class)) (state e.volume.shelf.disk) e bodies i
        → IsAtRest e → (image : List ℕ) → MayLeave (state e.volume.shelf.disk) image → StandsForLast shape (traits_of is_key said class) state p i image
    stands_last p e bodies i lc h rest image may =
        let stands = crash_leaves (known_for shape is_key said (format_of class) p) (reading shape is_key said (format_of class)) (known_lawful (class_of shape is_key (limits_of p)) lc)
        _ _ _ _ bodies i.log image h.keeps.runs.up may in
        let gated = sym h.whole.sets.first ∙ h.sessions.oldest ∙ all_durable _ _ _ _ (state e.volume.shelf.disk) e bodies i h rest.quiet ∙ h.latest in
        record { stands = stands; last = omega (arith, gated, stands.stands.at_least, stands.stands.at_most) }

    ran_durably : (number frames : ℕ) (disk after : D) (had left : Stream) (from to : Outputs) → (state disk).honest ≡ true
        → (opened : WasOpened grammar shape (traits_of is_key said class) state number frames disk after had left from to 0)
        → HasRun grammar shape (traits_of is_key said class) state (watched_over shape (traits_of is_key said class) state opened.engine) after had left from to 0
        → EndsDurably grammar shape (traits_of is_key said class) state number disk after had left from to
    ran_durably number frames disk after had left from to honest opened ran =
        let ended = met_nothing ran.new.met ran.new.index after ran.between to ran.ends in
        let settled = ended.1 in
        let rest = settled_well {P = IsAtRest settled.new.engine} settled.result ran.between to settled.rests settled.told in
        let is = opened.opening.opened honest in
        let p = is.parameters in
        let lc = lawful (limits_of p) is.holds.holds.some in
        let old : State B D = record { engine = opened.engine; ended = false } in
        let script = script_forgets grammar (CallsIndex makes) 1 (asked grammar ran.done.input) (watched_over shape (traits_of is_key said class) state opened.engine) ran.new ran.done.text ran.done.ran in
        record {
          parameters = p;
          formatted = is.formatted;
          found = is.holds.found;
          input = ran.done.input;
          text = ran.done.text;
          read = ran.done.read;
          at_end = ran.done.at_end;
          wrote = subst (λ (o : Outputs). Appends from.replies.bytes o.replies.bytes ran.done.text) (sym rest.1) ran.done.wrote;
          ended = ran.new.index.engine;
          settled = settled.new.engine;
          left_is = settled.left;
          runs = λ set kept.
              let run = script_alone grammar shape is_key said class state (limits_of p) 1 (asked grammar ran.done.input) old ran.new.index ran.done.text refl (never (limits_of p)) lc script
              is.holds.bodies is.holds.index is.holds.holds _ (is.seen set kept) in
              let settling = settled.runs (limits_of p) run.ran.bodies run.ran.index run.ran.holds in
              record {
                machine = run.machine;
                run = run.runs;
                reached = run.ran.index;
                seen = run.seen;
                settling = settling;
                durable = all_durable _ _ _ _ (state settled.new.engine.volume.shelf.disk) settled.new.engine settling.bodies settling.index settling.holds rest.0.quiet;
                stands = stands_last p settled.new.engine settling.bodies settling.index lc settling.holds rest.0;
              };
        }

    pub ends_durably : (number frames : ℕ) (disk after : D) (had left : Stream) (from to : Outputs) → (state disk).honest ≡ true
        → RunsOver grammar shape (traits_of is_key said class) state number frames disk after had left from to 0
        → EndsDurably grammar shape (traits_of is_key said class) state number disk after had left from to
    ends_durably number frames disk after had left from to honest (inl refused) = zero_not (refused_status shape is_key said class state number refused.refused.why refused.refused.disk after from to 0 refused.told)
    ends_durably number frames disk after had left from to honest (inr opened) =
        elim opened.script [
          | inl ran ↦ ran_durably number frames disk after had left from to honest opened ran
          | inr stopped ↦ zero_not stopped.status_is
        ]
