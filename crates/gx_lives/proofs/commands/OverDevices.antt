-- Commands over a device are lives of its index.
use Rattle.std.proofs.Common.{◌≡◌, refl, ap, sym, subst, ◌∙◌, inl, inr, ℕ, ◌≤◌, Bool, true, false, List, [], ◌∷◌, ◌++◌}
use Rattle.std.specs.Prelude.{Result, Ok, Err, OnOk}
use Rattle.gx_class.specs.Traits.{traits_of}
use Rattle.gx_class.specs.declared.class.KeyClass.{Ghosts}
use Rattle.gx_commands.specs.Dumping.{DumpsIndex, index_over}
use Rattle.gx_commands.specs.Endings.{AnswersWatched, EndsBy, FormatsOver, HasRun, RunsScript, TellsFormat, WasStopped, watched_over}
use Rattle.gx_commands.specs.Openings.{Opens}
use Rattle.gx_commands.specs.Refusing.{TellsOpening}
use Rattle.gx_commands.specs.Streams.{Outputs, Stream}
use Rattle.gx_commands.specs.Verifying.{VerifiesOver}
use Rattle.gx_commands.specs.declared.watched.Watched.{Watched}
use Rattle.gx_commands.proofs.Forgetting.{script_forgets}
use Rattle.gx_disk.specs.Device.{Device}
use Rattle.gx_disk.specs.declared.layout.TheConstants.{LEAST_SECTORS}
use Rattle.gx_engine.specs.Made.{AreMade, Makes}
use Rattle.gx_engine.specs.States.{Parts}
use Rattle.gx_engine.specs.declared.start.NotOpened.{NotOpened}
use Rattle.gx_engine.proofs.Making.{made_joined}
use Rattle.gx_events.specs.declared.event.Event.{Event}
use Rattle.gx_events.specs.declared.outcome.Outcome.{Outcome}
use Rattle.gx_format.specs.Formatting.{Formats}
use Rattle.gx_format.specs.Fresh.{fresh_root}
use Rattle.gx_geom.specs.declared.refusal.Refusal.{Refusal}
use Rattle.gx_geom.specs.declared.refusal.Refusal.TheVariants.{BadParameter, Damaged}
use Rattle.gx_glog.specs.declared.parameters.Parameters.{Parameters}
use Rattle.gx_machine.specs.Keys.{Members}
use Rattle.gx_node.specs.Reading.{format_of}
use Rattle.gx_opening.proofs.Resting.{looks_rest}
use Rattle.gx_page.specs.Format.{IsWellFormed}
use Rattle.gx_restart.specs.Beginning.{HasFailed}
use Rattle.gx_restart.specs.Called.{CallsIndex}
use Rattle.gx_restart.specs.Opened.{IsRefused}
use Rattle.gx_restart.specs.States.{State}
use Rattle.gx_script.specs.declared.line.Line.{Line}
use Rattle.gx_script.specs.Corners.{Grammar}
use Rattle.gx_script.specs.Scripts.{IsScript, asked}
use Rattle.gx_lives.specs.Calling.{turns_of}
use Rattle.gx_lives.specs.Commands.{AreGiven, AreOf, AreOfAll, AreOfDump, AreOfRun, Command, Dumps, FollowsBy, IsCutOff, IsGiven, IsTurnedAway, LivesSo, Runs, RunsLines, Verifies}
use Rattle.gx_lives.specs.Lives.{GoesOn, Lies, Lives, Stage, Turn, Works}
use Rattle.gx_lives.specs.Lives as life
use Rattle.gx_lives.specs.OneRun.{IsNew}
use Rattle.gx_lives.proofs.Calling.{did_some, lines_so, settle_so}
use Rattle.gx_lives.proofs.Dumping.{dump_so, lives_joined}

-- why an opening was refused
abbrev why_in : {E D : Type 0} → Result E (NotOpened D) → Refusal
why_in (Ok engine) = Damaged
why_in (Err refused) = refused.why

not_damage : HasFailed Damaged → ⊥
not_damage failed = elim failed [
  | inl device ↦ (let no : ⊥ = cc in no)
  | inr memory ↦ (let no : ⊥ = cc in no)
]

module _ {B C D : Type 0} (grammar : Grammar B) (shape : Members B) (proper : B → Bool) (said : List ℕ → B) (class : Ghosts C B) (state : D → Device) where
  abbrev makes : Parts B D → Event B → Outcome B → Parts B D → Type 0
  makes = Makes shape (traits_of proper said class) state

  abbrev Goes : D → Parts B D → Type 0
  Goes disk engine = GoesOn shape (traits_of proper said class) state (Lies disk) life.Opens (Works engine)

  abbrev Living : Stage B D → List (Turn B) → Stage B D → Type 0
  Living = Lives shape (traits_of proper said class) state

  abbrev Over : (List (Turn B) → Type 0) → D → D → Type 0
  Over = LivesSo shape (traits_of proper said class) state

  -- an opening is the turn of its name
  opening : (frames : ℕ) (disk : D) (engine : Parts B D) → (state disk).honest ≡ true → Opens shape (traits_of proper said class) state class.CLASS frames disk (Ok engine) → Goes disk engine
  opening frames disk engine honest opens = (record { same = opens.device; keeps = opens.keeps honest }, opens.opened honest)

  -- events, after which the engine is given up
  given_up : (steps : List (Event B × Outcome B)) (old new : Parts B D) (after : D) → AreMade makes old steps new → after ≡ new.volume.shelf.disk
      → Living (Works old) (turns_of steps ++ life.GivesUp ∷ []) (Lies after)
  given_up [] old new after same left = (Lies after, left ∙ ap (λ (e : Parts B D). e.volume.shelf.disk) same, refl)
  given_up (step ∷ steps) old new after made left = (Works made.0, made.1, given_up steps made.0 new after made.2 left)

  abbrev watched : Parts B D → Watched (State B D)
  watched engine = watched_over shape (traits_of proper said class) state engine

  abbrev Watching : Watched (State B D) → Watched (State B D) → List (Line B) → List ℕ → Type 0
  Watching old new lines text = IsScript grammar (AnswersWatched shape (traits_of proper said class) state) 1 lines old text new

  -- lines, and what followed them
  script_lives : (disk after : D) (engine : Parts B D) (lines : List (Line B)) (text : List ℕ) (new : Watched (State B D)) → Goes disk engine
      → Watching (watched engine) new lines text → (Follows : Bool → List (Event B × Outcome B) → Type 0)
      → (steps : List (Event B × Outcome B)) × (last : Parts B D) × Follows new.index.ended steps × AreMade makes new.index.engine steps last × (after ≡ last.volume.shelf.disk)
      → Over (RunsLines grammar lines text Follows) disk after
  script_lives disk after engine lines text new opens ran Follows (steps, last, follows, made, left) =
      let calls = lines_so grammar shape proper said class state 1 lines (record { engine = engine; ended = false }) new.index text
      (script_forgets grammar (CallsIndex makes) 1 lines (watched engine) new text ran) in
      record {
        turns = life.Opens ∷ (turns_of (calls.0 ++ steps) ++ life.GivesUp ∷ []);
        so = record { called = calls.0; ended = new.index.ended; are = calls.1; later = steps; follows = follows; is = refl };
        lives = (Works engine, opens, given_up (calls.0 ++ steps) engine last after (made_joined makes calls.0 steps engine new.index.engine last calls.2 made) left);
      }

  -- what follows a script's end
  ends : (met : Bool) (index : State B D) (after : D) (from to : Outputs) (status : ℕ) → EndsBy shape (traits_of proper said class) state met index after from to status
      → (steps : List (Event B × Outcome B)) × (last : Parts B D) × FollowsBy met from to status index.ended steps × AreMade makes index.engine steps last × (after ≡ last.volume.shelf.disk)
  ends true index after from to status is = ([], index.engine, (refl, is.0), refl, is.1.1.1)
  ends false index after from to status is =
      let settled = settle_so shape proper said class state index.ended index is.result is.new is.settles in
      (settled.0, is.new.engine, (is.result, settled.1, is.told), settled.2, is.left)

  ran_all : (frames : ℕ) (disk after : D) (engine : Parts B D) (had left : Stream) (from to : Outputs) (status : ℕ) → Goes disk engine
      → HasRun grammar shape (traits_of proper said class) state (watched engine) after had left from to status → Over (AreOfRun grammar frames had left from to status) disk after
  ran_all frames disk after engine had left from to status opens is =
      let all = script_lives disk after engine (asked grammar is.done.input) is.done.text is.new opens is.done.ran (FollowsBy is.new.met is.between to status)
      (ends is.new.met is.new.index after is.between to status is.ends) in
      record {
        turns = all.turns;
        so = inr (inl (record {
          input = is.done.input;
          text = is.done.text;
          met = is.new.met;
          between = is.between;
          read = is.done.read;
          at_end = is.done.at_end;
          wrote = is.done.wrote;
          runs = all.so;
        }));
        lives = all.lives;
      }

  ran_some : (frames : ℕ) (disk after : D) (engine : Parts B D) (had left : Stream) (from to : Outputs) (status : ℕ) → Goes disk engine
      → WasStopped grammar shape (traits_of proper said class) state (watched engine) after had left from to status → Over (AreOfRun grammar frames had left from to status) disk after
  ran_some frames disk after engine had left from to status opens is =
      let some =
      did_some grammar (AnswersWatched shape (traits_of proper said class) state) had.bytes left.bytes from.replies.bytes to.replies.bytes (watched engine) is.new is.fault is.stopped in
      let all = script_lives disk after engine some.lines some.text is.new opens some.ran (IsCutOff status) ([], is.new.index.engine, (refl, is.status_is), refl, is.left_is) in
      record {
        turns = all.turns;
        so = inr (inr (record { lines = some.lines; text = some.text; did = some.did; runs = all.so }));
        lives = all.lives;
      }

  ran : (frames : ℕ) (disk after : D) (engine : Parts B D) (had left : Stream) (from to : Outputs) (status : ℕ) → Goes disk engine
      → RunsScript grammar shape (traits_of proper said class) state (watched engine) after had left from to status → Over (AreOfRun grammar frames had left from to status) disk after
  ran frames disk after engine had left from to status opens (inl all) = ran_all frames disk after engine had left from to status opens all
  ran frames disk after engine had left from to status opens (inr some) = ran_some frames disk after engine had left from to status opens some

  -- a dump
  dumped : (frames : ℕ) (disk after : D) (engine : Parts B D) (from to : Outputs) (status : ℕ) → Goes disk engine
      → DumpsIndex grammar shape (traits_of proper said class) state (index_over shape (traits_of proper said class) state engine) after from to status → Over (AreOfDump frames status) disk after
  dumped frames disk after engine from to status opens is =
      let read = dump_so shape proper said class state (index_over shape (traits_of proper said class) state engine) is.result is.new is.dumps in
      record {
        turns = life.Opens ∷ (read.turns ++ life.GivesUp ∷ []);
        so = inr (read.turns, read.reads, refl);
        lives = (
          Works engine,
          opens,
          lives_joined shape proper said class state read.turns (life.GivesUp ∷ []) (Works engine) (Works is.new.engine) (Lies after) read.lives (Lies after, is.left, refl),
        );
      }

  -- verifying
  verified : (frames : ℕ) (disk after : D) (from to : Outputs) (status : ℕ) → (state disk).honest ≡ true → VerifiesOver shape (traits_of proper said class) state class.CLASS frames disk after from to status
      → Over (λ turns. turns ≡ life.Reads ∷ []) disk after
  verified frames disk after from to status honest is =
      let counted = is.verifies.counted in
      record {
        turns = life.Reads ∷ [];
        so = refl;
        lives = (Lies after, record { same = (counted.sectors, counted.honest); only = looks_rest (state disk) (state after) (is.verifies.looks honest) }, refl);
      }

  -- an opening that was refused, other than because of damage, is all
  told_other : (why : Refusal) → (why ≡ Damaged → ⊥) → (disk after : D) (from to : Outputs) (status : ℕ) → TellsOpening shape (traits_of proper said class) state class.CLASS why disk after from to status
      → (status ≡ 1) × (after ≡ disk)
  told_other Damaged other disk after from to status told = absurd (other refl)
  told_other why other disk after from to status told = (told.0.status_is, told.1)

  module _ (disk : D) (honest : (state disk).honest ≡ true) (large : LEAST_SECTORS ≤ (state disk).sectors)
      (undamaged : (left : D) (why : Refusal) → IsRefused shape proper said (format_of class) state class.CLASS disk left why → HasFailed why) where
    turned_away : (frames : ℕ) (after : D) (n : NotOpened D) (from to : Outputs) (status : ℕ) → Opens shape (traits_of proper said class) state class.CLASS frames disk (Err n)
        → TellsOpening shape (traits_of proper said class) state class.CLASS n.why n.disk after from to status → Over (λ turns. IsTurnedAway frames turns status) disk after
    turned_away frames after n from to status opens told =
        let failed : 16 ≤ frames → frames ≤ 4096 → HasFailed n.why = λ low high. undamaged n.disk n.why (opens.refused honest low high large) in
        let other : n.why ≡ Damaged → ⊥ = λ is.
        (let out = opens.frames_are (λ range. not_damage (subst HasFailed is (failed range.0 range.1))) in
        let both : Damaged ≡ BadParameter = sym is ∙ ap why_in out in
        cc) in
        let left = told_other n.why other n.disk after from to status told in
        record {
          turns = life.Refuses n.why ∷ [];
          so = record { why = n.why; cause = failed; status_is = left.0; is = refl };
          lives = (Lies n.disk, record { same = opens.device; keeps = opens.keeps honest }, ap (λ (d : D). Lies d) left.1);
        }

    -- a command
    pub given : (command : Command) (after : D) → IsGiven grammar shape (traits_of proper said class) state disk command after → Over (AreOf grammar command) disk after
    given (Runs frames had left from to status) after (inl refused) =
        let away = turned_away frames after refused.refused from to status refused.opening refused.told in
        record { turns = away.turns; so = inl (refused.unread, away.so); lives = away.lives }
    given (Runs frames had left from to status) after (inr opened) =
        ran frames disk after opened.engine had left from to status (opening frames disk opened.engine honest opened.opening) opened.script
    given (Dumps frames from to status) after (inl refused) =
        let away = turned_away frames after refused.refused from to status refused.opening refused.told in
        record { turns = away.turns; so = inl away.so; lives = away.lives }
    given (Dumps frames from to status) after (inr opened) =
        dumped frames disk after opened.engine from to status (opening frames disk opened.engine honest opened.opening) opened.dump
    given (Verifies frames from to status) after is = verified frames disk after from to status honest is

  -- commands, one after another, after what led to their device
  module _ (disk : D) (each : (before : List (Turn B)) (old new : D) (command : Command) → Living (Lies disk) before (Lies old)
      → IsGiven grammar shape (traits_of proper said class) state old command new → Over (AreOf grammar command) old new) where
    pub all_given : (commands : List Command) (before : List (Turn B)) (old new : D) → Living (Lies disk) before (Lies old) → AreGiven grammar shape (traits_of proper said class) state old commands new
        → Over (AreOfAll grammar commands) old new
    all_given [] before old new lived same = record { turns = []; so = refl; lives = ap (λ (d : D). Lies d) same }
    all_given (command ∷ commands) before old new lived (middle, is, others) =
        let one = each before old middle command lived is in
        let then = lives_joined shape proper said class state before one.turns (Lies disk) (Lies old) (Lies middle) lived one.lives in
        let rest = all_given commands (before ++ one.turns) middle new then others in
        record {
          turns = one.turns ++ rest.turns;
          so = (one.turns, rest.turns, one.so, rest.so, refl);
          lives = lives_joined shape proper said class state one.turns rest.turns (Lies old) (Lies middle) (Lies new) one.lives rest.lives;
        }

-- a format with status 0 leaves a new device
pub new_by : {C B D : Type 0} (class : Ghosts C B) (start : B) (state : D → Device) (p : Parameters) (old new : D) → (state old).honest ≡ true → (from to : Outputs)
    → FormatsOver state p (fresh_root class.spelling start) old new from to 0 → IsNew class start state p new
new_by class start state p old new honest from to is = by is.result is.formats is.well_formed is.told
  where
    by : (result : Result (Unit {0}) Refusal) → Formats state p (fresh_root class.spelling start) old new result → OnOk result (IsWellFormed (fresh_root class.spelling start))
        → TellsFormat p.pages p.most result from to 0 → IsNew class start state p new
    by (Ok done) formats formed told = record { before = old; honest = honest; formats = formats; root = formed }
    by (Err why) formats formed told = let refused : ◌≡◌ {A = ℕ} 0 1 = told.status_is in let no : ⊥ = cc in absurd no
