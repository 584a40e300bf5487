-- A command leaves what a device says that it is formatted for.
use Rattle.std.proofs.Common.{◌≡◌, ◌∙◌, sym, refl, subst, inl, inr, ⊎_elim, ℕ, ◌+◌, ◌≤◌, Bool, true, false, List, [], ◌∷◌, length, Option, arith}
use Rattle.std.specs.Prelude.{Ok, Err}
use Rattle.gx_geom.specs.declared.refusal.Refusal.{Refusal}
use Rattle.gx_geom.specs.declared.refusal.Refusal.TheVariants.{Absent, BadBox, BadParameter, BadSession, Busy, CallOpen, ClaimsFull, Damaged, Device as NoDevice, Failed, HistoryFull, InTransaction, Memory, NoCall, NoTransaction, NotFormatted, OldVersion, PagesFull, PredicatesFull, Present, TooSmall}
use Rattle.gx_machine.specs.declared.call.Call.{Call}
use Rattle.gx_machine.specs.declared.entry.Entry.{Entry}
use Rattle.gx_machine.specs.declared.reply.Reply.{Reply}
use Rattle.gx_machine.specs.Keys.{Members}
use Rattle.gx_script.specs.declared.fault.ScriptFault.{ScriptFault}
use Rattle.gx_script.specs.declared.fault.ScriptFault.TheVariants.{Read, Write}
use Rattle.gx_script.specs.declared.line.Line.{Line}
use Rattle.gx_script.specs.declared.line.Line.TheVariants.{Asks, Bad, Blank, Reversed}
use Rattle.gx_script.specs.Corners.{Grammar}
use Rattle.gx_script.specs.Scripts.{IsScript, IsStopped, IsTold}
use Rattle.gx_class.specs.Traits.{traits_of}
use Rattle.gx_class.specs.declared.class.KeyClass.{Ghosts}
use Rattle.gx_disk.specs.Device.{Device, MayLeave}
use Rattle.gx_disk.proofs.Leaving.{rested_image}
use Rattle.gx_durable.proofs.Heads.{image_head}
use Rattle.gx_events.specs.declared.event.Event.{Event}
use Rattle.gx_events.specs.declared.outcome.Outcome.{Outcome}
use Rattle.gx_format.specs.Fresh.{HasMagic}
use Rattle.gx_glog.specs.Parameters.{Fit}
use Rattle.gx_glog.specs.declared.parameters.Parameters.{Parameters}
use Rattle.gx_index_laws.specs.Classes.{Page}
use Rattle.gx_index_laws.specs.States as index
use Rattle.gx_node.specs.Reading.{format_of, is_node}
use Rattle.gx_opening.specs.Formatted.{Says, head_of}
use Rattle.gx_opening.specs.Standing.{limits_of}
use Rattle.gx_opening.proofs.Heads.{formatted_head, head_magic, head_says}
use Rattle.gx_opening.proofs.Stood.{one_saying}
use Rattle.gx_durable.specs.Classes.{class_of, reading_of}
use Rattle.gx_recovery.specs.Records.{Record}
use Rattle.gx_engine.specs.declared.start.NotOpened.{NotOpened}
use Rattle.gx_engine.specs.Holds.{Holds}
use Rattle.gx_engine.specs.Made.{AreMade, Makes}
use Rattle.gx_engine.specs.States.{Parts}
use Rattle.gx_restart.specs.Called.{CallsBy, CallsIndex}
use Rattle.gx_restart.specs.Keeping.{IsKept}
use Rattle.gx_restart.specs.States.{State}
use Rattle.gx_commands.specs.Streams.{Outputs, Stream}
use Rattle.gx_commands.specs.Dumping.{DumpsOver}
use Rattle.gx_commands.specs.Endings.{EndsBy, RunsOver, RunsScript, watched_over}
use Rattle.gx_commands.specs.Openings.{Opens}
use Rattle.gx_commands.specs.Refusing.{TellsDamage, TellsOpening}
use Rattle.gx_commands.specs.Saying.{SaysSo}
use Rattle.gx_commands.proofs.Forgetting.{script_forgets, stopped_forgets}

module _ {B C D : Type 0} (grammar : Grammar B) (shape : Members B) (is_key : B → Bool) (said : List ℕ → B) (class : Ghosts C B) (state : D → Device) (p : Parameters) where
  -- an engine holds some index of what its device is formatted for
  record HoldsSome (e : Parts B D) : Type 0 where
    bodies : List (List (Record (Entry B) (Page B)))
    index : index.State B
    holds : Holds (class_of shape is_key (limits_of p)) (reading_of said (format_of class)) (format_of class) (is_node (format_of class)) (state e.volume.shelf.disk) e bodies index

  -- so its device says it
  held_says : Fit p → (e : Parts B D) → HoldsSome e → SaysSo p (state e.volume.shelf.disk)
  held_says fit e some image may =
      let d = state e.volume.shelf.disk in
      let reads = image_head (head_of p) d.seen d.pending image may some.holds.keeps.runs.up.carries.head in
      (head_magic image p reads, head_says image p reads fit)

  -- events keep that
  abbrev makes : Parts B D → Event B → Outcome B → Parts B D → Type 0
  makes = Makes shape (traits_of is_key said class) state

  made_hold : (steps : List (Event B × Outcome B)) (old new : Parts B D) → AreMade makes old steps new → HoldsSome old → HoldsSome new
  made_hold [] old new same some = subst (λ (e : Parts B D). HoldsSome e) (sym same) some
  made_hold (step ∷ steps) old new made some =
      let one = (made.1.steps (limits_of p) some.bodies some.index some.holds).led in
      made_hold steps made.0 new made.2 (record { bodies = one.bodies; index = one.index; holds = one.holds })

  -- so do a call and a script
  calls_by : (ended : Bool) (old : State B D) (s : ℕ) (call : Call B) (reply : Reply B) (new : State B D) → CallsBy makes ended old s call reply new
      → HoldsSome old.engine → HoldsSome new.engine
  calls_by true old s call reply new same some = subst (λ (i : State B D). HoldsSome i.engine) (sym same.1) some
  calls_by false old s call reply new (inl driven) some = made_hold driven.0.steps old.engine new.engine driven.0.made some
  calls_by false old s call reply new (inr given) some = made_hold given.0.1.steps old.engine new.engine given.0.1.made some

  line_holds : (n : ℕ) (line : Line B) (old new : State B D) (text : List ℕ) → IsTold grammar (CallsIndex makes) n line old text new → HoldsSome old.engine → HoldsSome new.engine
  line_holds n Blank old new text told some = subst (λ (i : State B D). HoldsSome i.engine) (sym told.1) some
  line_holds n Bad old new text told some = subst (λ (i : State B D). HoldsSome i.engine) (sym told.1) some
  line_holds n (Reversed session) old new text told some = subst (λ (i : State B D). HoldsSome i.engine) (sym told.1) some
  line_holds n (Asks session call) old new text told some = calls_by old.ended old _ call told.0 new told.1 some

  script_holds : (n : ℕ) (lines : List (Line B)) (old new : State B D) (text : List ℕ) → IsScript grammar (CallsIndex makes) n lines old text new → HoldsSome old.engine → HoldsSome new.engine
  script_holds n [] old new text ran some = subst (λ (i : State B D). HoldsSome i.engine) (sym ran.1) some
  script_holds n (line ∷ more) old new text ran some =
      script_holds (n + 1) more ran.2 new ran.1 ran.4 (line_holds n line old ran.2 ran.0 ran.3 some)

  stopped_holds : (had left held holds : Option (List ℕ)) (old new : State B D) (fault : ScriptFault) → IsStopped grammar (CallsIndex makes) had left held holds old new fault
      → HoldsSome old.engine → HoldsSome new.engine
  stopped_holds had left held holds old new Read stopped some = script_holds 1 stopped.done old new stopped.text stopped.ran some
  stopped_holds had left held holds old new Write stopped some =
      let w = stopped.ran in script_holds (1 + length w.before) w.after w.middle new _ w.runs (script_holds 1 w.before old w.middle w.settled w.ran some)

  -- and what follows a script
  ends_hold : (met : Bool) (old : State B D) (after : D) (from to : Outputs) (status : ℕ) → EndsBy shape (traits_of is_key said class) state met old after from to status → Fit p
      → HoldsSome old.engine → SaysSo p (state after)
  ends_hold true old after from to status ends fit some = subst (λ (d : D). SaysSo p (state d)) (sym ends.1.1.1) (held_says fit old.engine some)
  ends_hold false old after from to status ends fit some =
      let ran = ends.runs (limits_of p) some.bodies some.index some.holds in
      subst (λ (d : D). SaysSo p (state d)) (sym ends.left) (held_says fit ends.new.engine (record { bodies = ran.bodies; index = ran.index; holds = ran.holds }))

  script_says : (engine : Parts B D) (after : D) (had left : Stream) (from to : Outputs) (status : ℕ)
      → RunsScript grammar shape (traits_of is_key said class) state (watched_over shape (traits_of is_key said class) state engine) after had left from to status → Fit p → HoldsSome engine → SaysSo p (state after)
  script_says engine after had left from to status (inl ran) fit some =
      let there = script_holds 1 _ (record { engine = engine; ended = false }) ran.new.index ran.done.text
      (script_forgets grammar (CallsIndex makes) 1 _ (watched_over shape (traits_of is_key said class) state engine) ran.new ran.done.text ran.done.ran) some in
      ends_hold ran.new.met ran.new.index after ran.between to status ran.ends fit there
  script_says engine after had left from to status (inr stopped) fit some =
      let there = stopped_holds _ _ _ _ (record { engine = engine; ended = false }) stopped.new.index stopped.fault
      (stopped_forgets grammar (CallsIndex makes) _ _ _ _ (watched_over shape (traits_of is_key said class) state engine) stopped.new stopped.fault stopped.stopped) some in
      subst (λ (d : D). SaysSo p (state d)) (sym stopped.left_is) (held_says fit stopped.new.index.engine there)

  -- ---- a device whose opening was refused

  module _ (counts_now : (d : D) (t : ℕ) (image : List ℕ) → (state d).honest ≡ true → t ≤ (state d).moment → MayLeave (state d) image → (state d).left_since t image)
      (only_now : (d : D) (image : List ℕ) → (state d).honest ≡ true → (state d).left_since (state d).moment image → MayLeave (state d) image) where
    -- what the device read, and each image that is kept
    own_says : (disk : D) → SaysSo p (state disk) → HasMagic (state disk).seen × Says (state disk).seen p
    own_says disk so = so (state disk).seen (record { size = refl; settled = λ s is. refl })

    kept_says : (disk : D) → SaysSo p (state disk) → (image : List ℕ) → IsKept shape is_key said (format_of class) p (state disk) image → HasMagic image × Says image p
    kept_says disk so image (inl (inl may)) = so image may
    kept_says disk so image (inl (inr found)) =
        let own = own_says disk so in
        let reads = found.same.head ∙ formatted_head (state disk).seen p own.0 own.1 in
        (head_magic image p reads, head_says image p reads own.1.fit)
    kept_says disk so image (inr found) = (head_magic image p found.stands.head, head_says image p found.stands.head (own_says disk so).1.fit)

    refused_says : (number frames : ℕ) (disk : D) (n : NotOpened D) → (state disk).honest ≡ true → Opens shape (traits_of is_key said class) state number frames disk (Err n) → SaysSo p (state disk)
        → SaysSo p (state n.disk)
    refused_says number frames disk n honest opens so image may =
        let still : (state n.disk).honest ≡ true = opens.device.1 ∙ honest in
        let leaves = opens.safe honest p (own_says disk so).1 in
        ⊎_elim (λ left. so image (only_now disk image honest left)) (kept_says disk so image)
        (leaves.only (state disk).moment image (omega arith) (counts_now n.disk (state disk).moment image still leaves.later may))

    damage_says : (number : ℕ) (disk after : D) (old new : Outputs) (status : ℕ) → (state disk).honest ≡ true → TellsDamage shape (traits_of is_key said class) state number disk after old new status
        → SaysSo p (state disk) → SaysSo p (state after)
    damage_says number disk after old new status honest told so image may = so image (rested_image (state disk) (state after) (told.rests honest).rests image may)

    same_says : (disk after : D) → after ≡ disk → SaysSo p (state disk) → SaysSo p (state after)
    same_says disk after same so = subst (λ (d : D). SaysSo p (state d)) (sym same) so

    told_says : (number : ℕ) (why : Refusal) (disk after : D) (old new : Outputs) (status : ℕ) → (state disk).honest ≡ true
        → TellsOpening shape (traits_of is_key said class) state number why disk after old new status → SaysSo p (state disk) → SaysSo p (state after)
    told_says number Damaged disk after old new status honest told so = damage_says number disk after old new status honest told so
    told_says number (Busy s) disk after old new status honest told so = same_says disk after told.1 so
    told_says number NoTransaction disk after old new status honest told so = same_says disk after told.1 so
    told_says number InTransaction disk after old new status honest told so = same_says disk after told.1 so
    told_says number Present disk after old new status honest told so = same_says disk after told.1 so
    told_says number Absent disk after old new status honest told so = same_says disk after told.1 so
    told_says number PagesFull disk after old new status honest told so = same_says disk after told.1 so
    told_says number ClaimsFull disk after old new status honest told so = same_says disk after told.1 so
    told_says number PredicatesFull disk after old new status honest told so = same_says disk after told.1 so
    told_says number BadBox disk after old new status honest told so = same_says disk after told.1 so
    told_says number Memory disk after old new status honest told so = same_says disk after told.1 so
    told_says number NoDevice disk after old new status honest told so = same_says disk after told.1 so
    told_says number Failed disk after old new status honest told so = same_says disk after told.1 so
    told_says number NotFormatted disk after old new status honest told so = same_says disk after told.1 so
    told_says number BadSession disk after old new status honest told so = same_says disk after told.1 so
    told_says number CallOpen disk after old new status honest told so = same_says disk after told.1 so
    told_says number TooSmall disk after old new status honest told so = same_says disk after told.1 so
    told_says number BadParameter disk after old new status honest told so = same_says disk after told.1 so
    told_says number NoCall disk after old new status honest told so = same_says disk after told.1 so
    told_says number HistoryFull disk after old new status honest told so = same_says disk after told.1 so
    told_says number OldVersion disk after old new status honest told so = same_says disk after told.1 so

    -- ---- the commands

    unopened_says : (number frames : ℕ) (disk after : D) (n : NotOpened D) (from to : Outputs) (status : ℕ) → (state disk).honest ≡ true
        → Opens shape (traits_of is_key said class) state number frames disk (Err n) → TellsOpening shape (traits_of is_key said class) state number n.why n.disk after from to status → SaysSo p (state disk)
        → SaysSo p (state after)
    unopened_says number frames disk after n from to status honest opens told so =
        told_says number n.why n.disk after from to status (opens.device.1 ∙ honest) told (refused_says number frames disk n honest opens so)

    -- an engine that was opened holds an index of what its device says
    opened_holds : (number frames : ℕ) (disk : D) (engine : Parts B D) → (state disk).honest ≡ true → Opens shape (traits_of is_key said class) state number frames disk (Ok engine)
        → SaysSo p (state disk) → HoldsSome engine
    opened_holds number frames disk engine honest opens so =
        let is = opens.opened honest in
        let same = one_saying (state disk).seen is.parameters p is.formatted.says (own_says disk so).1 in
        record {
          bodies = is.holds.bodies;
          index = is.holds.index;
          holds = subst (λ (q : Parameters). Holds (class_of shape is_key (limits_of q)) (reading_of said (format_of class)) (format_of class) (is_node (format_of class))
              (state engine.volume.shelf.disk) engine is.holds.bodies is.holds.index) same is.holds.holds;
        }

    pub run_says : (number frames : ℕ) (disk after : D) (had left : Stream) (from to : Outputs) (status : ℕ) → (state disk).honest ≡ true → SaysSo p (state disk)
        → RunsOver grammar shape (traits_of is_key said class) state number frames disk after had left from to status → SaysSo p (state after)
    run_says number frames disk after had left from to status honest so (inl refused) =
        unopened_says number frames disk after refused.refused from to status honest refused.opening refused.told so
    run_says number frames disk after had left from to status honest so (inr opened) =
        script_says opened.engine after had left from to status opened.script (own_says disk so).1.fit (opened_holds number frames disk opened.engine honest opened.opening so)

    pub dump_says : (number frames : ℕ) (disk after : D) (from to : Outputs) (status : ℕ) → (state disk).honest ≡ true → SaysSo p (state disk)
        → DumpsOver grammar shape (traits_of is_key said class) state number frames disk after from to status → SaysSo p (state after)
    dump_says number frames disk after from to status honest so (inl refused) =
        unopened_says number frames disk after refused.refused from to status honest refused.opening refused.told so
    dump_says number frames disk after from to status honest so (inr dumped) =
        let some = opened_holds number frames disk dumped.engine honest dumped.opening so in
        let ran = dumped.dump.runs (limits_of p) some.bodies some.index some.holds in
        subst (λ (d : D). SaysSo p (state d)) (sym dumped.dump.left)
        (held_says (own_says disk so).1.fit dumped.dump.new.engine (record { bodies = ran.bodies; index = ran.index; holds = ran.holds }))
