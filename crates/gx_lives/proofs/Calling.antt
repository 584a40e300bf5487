-- What those who call an index do, as turns of its life.
use Rattle.std.proofs.Common.{◌≡◌, ◌∙◌, ap, sym, refl, inl, inr, subst, ℕ, ◌+◌, Bool, true, false, List, [], ◌∷◌, ◌++◌, append_assoc, Option}
use Rattle.std.proofs.lemmas.List.{append-nil}
use Rattle.std.specs.Prelude.{Result, Ok, Err}
use Rattle.gx_geom.specs.declared.refusal.Refusal.{Refusal}
use Rattle.gx_class.specs.Traits.{traits_of}
use Rattle.gx_class.specs.declared.class.KeyClass.{Ghosts}
use Rattle.gx_disk.specs.Device.{Device}
use Rattle.gx_engine.specs.Driven.{IsDriven}
use Rattle.gx_engine.specs.Made.{AreMade, Makes}
use Rattle.gx_engine.specs.States.{Parts}
use Rattle.gx_engine.proofs.Making.{made_joined}
use Rattle.gx_events.specs.declared.event.Event.{Event}
use Rattle.gx_events.specs.declared.event.Event.TheVariants.{Ask, CheckpointStep, LogStep}
use Rattle.gx_events.specs.declared.outcome.Outcome.{Outcome}
use Rattle.gx_events.specs.declared.outcome.Outcome.TheVariants.{Replied}
use Rattle.gx_machine.specs.declared.call.Call.{Call}
use Rattle.gx_machine.specs.declared.item.Item.{Item}
use Rattle.gx_machine.specs.declared.reply.Reply.{Reply}
use Rattle.gx_machine.specs.Keys.{Members}
use Rattle.gx_restart.specs.Called.{CallsBy, CallsIndex}
use Rattle.gx_engine.specs.Repeated.{last_of}
use Rattle.gx_restart.specs.Settled.{IsExhausted, Settles, SettlesBy, SettlesOn}
use Rattle.gx_restart.specs.States.{State}
use Rattle.gx_script.specs.declared.fault.ScriptFault.{ScriptFault}
use Rattle.gx_script.specs.declared.fault.ScriptFault.TheVariants.{Read, Write}
use Rattle.gx_script.specs.declared.line.Line.{Line}
use Rattle.gx_script.specs.declared.line.Line.TheVariants.{Asks, Bad, Blank, Reversed}
use Rattle.gx_script.specs.Corners.{Grammar}
use Rattle.gx_script.specs.Scripts.{IsDone, IsScript, IsStopped, IsTold, asked, asked_as}
use Rattle.gx_script.proofs.ScriptLemmas.{script_append}
use Rattle.gx_shared.specs.Books.{IsMade, is_made, is_turned_away, is_unrecorded}
use Rattle.gx_lives.specs.Calling.{AreLines, DidSome, IsAnswered, IsCalled, IsExhausting, IsLine, IsOneEvent, IsSettled, IsSettling, LivesBy, LivesBySome, turns_of}
use Rattle.gx_lives.specs.Lives.{Lives, Works}

module _ {C B D : Type 0} (shape : Members B) (proper : B → Bool) (said : List ℕ → B) (class : Ghosts C B) (state : D → Device) where
  abbrev makes : Parts B D → Event B → Outcome B → Parts B D → Type 0
  makes = Makes shape (traits_of proper said class) state

  lives_made : (steps : List (Event B × Outcome B)) (old new : Parts B D) → AreMade makes old steps new → Lives shape (traits_of proper said class) state (Works old) (turns_of steps) (Works new)
  lives_made [] old new same = ap (λ (e : Parts B D). Works e) same
  lives_made (step ∷ steps) old new made = (Works made.0, made.1, lives_made steps made.0 new made.2)

  lives_by : (AreSo : List (Event B × Outcome B) → Type 0) (old new : Parts B D) (steps : List (Event B × Outcome B)) → AreSo steps → AreMade makes old steps new
      → LivesBy shape (traits_of proper said class) state AreSo old new
  lives_by AreSo old new steps so made = record { steps = steps; so = so; lives = lives_made steps old new made }

  -- a call
  pub answered : (old new : Parts B D) (s : ℕ) (call : Call B) (reply : Reply B) → IsDriven makes s (Ask s call) old reply new
      → LivesBy shape (traits_of proper said class) state (IsAnswered s call reply) old new
  answered old new s call reply driven = lives_by (IsAnswered s call reply) old new driven.steps driven.driven driven.made

  -- events of which this holds led from one engine to another
  abbrev MadeBy : (List (Event B × Outcome B) → Type 0) → Parts B D → Parts B D → Type 0
  MadeBy AreSo old new = (steps : List (Event B × Outcome B)) × AreSo steps × AreMade makes old steps new

  lives_so : (AreSo : List (Event B × Outcome B) → Type 0) (old new : Parts B D) → MadeBy AreSo old new → LivesBy shape (traits_of proper said class) state AreSo old new
  lives_so AreSo old new made = lives_by AreSo old new made.0 made.1 made.2

  -- a call's events are those of its reply
  call_so : (ended : Bool) (old : State B D) → old.ended ≡ ended → (s : ℕ) (call : Call B) (reply : Reply B) (new : State B D) → CallsBy makes ended old s call reply new
      → MadeBy (λ steps. IsCalled ended s call reply steps new.ended) old.engine new.engine
  call_so true old is s call reply new same = ([], (refl, same.0, ap (λ (i : State B D). i.ended) same.1 ∙ is), ap (λ (i : State B D). i.engine) same.1)
  call_so false old is s call reply new (inl driven) = (driven.0.steps, inl (driven.0.driven, driven.1), driven.0.made)
  call_so false old is s call reply new (inr given) = (given.0.1.steps, inr (given.0.0, given.0.1.driven, given.1, given.2), given.0.1.made)

  pub called_so : (old new : State B D) (s : ℕ) (call : Call B) (reply : Reply B) → CallsIndex makes old s call reply new
      → LivesBy shape (traits_of proper said class) state (λ steps. IsCalled old.ended s call reply steps new.ended) old.engine new.engine
  called_so old new s call reply calls = lives_so (λ steps. IsCalled old.ended s call reply steps new.ended) old.engine new.engine (call_so old.ended old refl s call reply new calls)

  -- a settling's are the checkpoint's steps, and then the log's
  exhausted_so : (event : Event B) (old : Parts B D) (result : Result (Unit {0}) Refusal) (new : Parts B D) → IsExhausted makes event old result new
      → MadeBy (IsExhausting event result) old new
  exhausted_so event old result new is =
      let last : List (Event B × Outcome B) = (event, last_of result) ∷ [] in
      (is.before.steps ++ last, (is.before.steps, is.before.again, refl), made_joined makes is.before.steps last old is.middle new is.before.made (new, is.last_made, refl))

  settling_so : (old : Parts B D) (result : Result (Unit {0}) Refusal) (new : Parts B D) → SettlesOn makes old result new → MadeBy (IsSettling result) old new
  settling_so old (Ok done) new (middle, first, next) =
      let a = exhausted_so CheckpointStep old (Ok done) middle first in
      let b = exhausted_so LogStep middle (Ok done) new next in
      (a.0 ++ b.0, (a.0, b.0, a.1, b.1, refl), made_joined makes a.0 b.0 old middle new a.2 b.2)
  settling_so old (Err why) new (inl first) = let a = exhausted_so CheckpointStep old (Err why) new first in (a.0, inl a.1, a.2)
  settling_so old (Err why) new (inr (middle, first, next)) =
      let a = exhausted_so CheckpointStep old (Ok tt) middle first in
      let b = exhausted_so LogStep middle (Err why) new next in
      (a.0 ++ b.0, inr (a.0, b.0, a.1, b.1, refl), made_joined makes a.0 b.0 old middle new a.2 b.2)

  pub settle_so : (ended : Bool) (old : State B D) (result : Result (Unit {0}) Refusal) (new : State B D) → SettlesBy makes ended old result new
      → MadeBy (IsSettled ended result) old.engine new.engine
  settle_so true old result new same = ([], (refl, same.0), ap (λ (i : State B D). i.engine) same.1)
  settle_so false old result new on = settling_so old.engine result new.engine on.0

  pub settled_so : (old new : State B D) (result : Result (Unit {0}) Refusal) → Settles makes old result new
      → LivesBy shape (traits_of proper said class) state (IsSettled old.ended result) old.engine new.engine
  settled_so old new result settles = lives_so (IsSettled old.ended result) old.engine new.engine (settle_so old.ended old result new settles)

  -- a hold of a book
  pub held : (old new : Parts B D × List (Item B)) (event : Event B) (outcome : Outcome B) → IsMade makes old event outcome new
      → LivesBy shape (traits_of proper said class) state (IsOneEvent event) old.0 new.0
  held old new event outcome (is_made given made told recorded) = lives_by (IsOneEvent event) old.0 new.0 ((event, given) ∷ []) (inr (given, refl)) (new.0, made, refl)
  held old new event outcome (is_turned_away why same) =
      lives_by (IsOneEvent event) old.0 new.0 [] (inl refl) (ap (λ (x : Parts B D × List (Item B)). x.0) same)
  held old new event outcome (is_unrecorded given made full same) =
      lives_by (IsOneEvent event) old.0 new.0 ((event, Replied given) ∷ []) (inr (Replied given, refl)) (new.0, made, refl)

-- what a script that was stopped did of its lines
module _ {B I : Type 0} (grammar : Grammar B) (answered : I → ℕ → Call B → Reply B → I → Type 0) where
  pub record RanSome (had left held_so holds : Option (List ℕ)) (old new : I) : Type 0 where
    pub lines : List (Line B)
    pub text : List ℕ
    pub did : DidSome grammar had left held_so holds lines text
    pub ran : IsScript grammar answered 1 lines old text new

  pub did_some : (had left held_so holds : Option (List ℕ)) (old new : I) (fault : ScriptFault) → IsStopped grammar answered had left held_so holds old new fault
      → RanSome had left held_so holds old new
  did_some had left held_so holds old new Read stopped = record {
    lines = stopped.done;
    text = stopped.text;
    did = record {
      input = stopped.input;
      written = stopped.text;
      unwritten = [];
      read = stopped.read;
      first = inl (stopped.begun, stopped.first);
      wrote = stopped.wrote;
      parts = sym (append-nil stopped.text);
    };
    ran = stopped.ran;
  }
  did_some had left held_so holds old new Write stopped =
      let w = stopped.ran in
      let text : List ℕ = w.settled ++ (w.late ++ stopped.unwritten) in
      let all = script_append grammar answered 1 w.before w.after old w.middle new w.settled (w.late ++ stopped.unwritten) w.ran w.runs in
      record {
        lines = stopped.done;
        text = text;
        did = record {
          input = stopped.input;
          written = stopped.written;
          unwritten = stopped.unwritten;
          read = stopped.read;
          first = stopped.first;
          wrote = stopped.wrote;
          parts = sym (append_assoc w.settled w.late stopped.unwritten) ∙ ap (λ front. front ++ stopped.unwritten) (sym w.wrote);
        };
        ran = subst (λ lines. IsScript grammar answered 1 lines old text new) (sym w.parts) all;
      }

-- a script
module _ {B C D : Type 0} (grammar : Grammar B) (shape : Members B) (proper : B → Bool) (said : List ℕ → B) (class : Ghosts C B) (state : D → Device) where
  abbrev Asked : State B D → ℕ → Call B → Reply B → State B D → Type 0
  Asked = CallsIndex (Makes shape (traits_of proper said class) state)

  -- a script's events are those of its calls' replies, line by line
  abbrev LinesBy : (List (Event B × Outcome B) → Type 0) → State B D → State B D → Type 0
  LinesBy AreSo old new = MadeBy shape proper said class state AreSo old.engine new.engine

  none_so : (AreSo : List (Event B × Outcome B) → Type 0) (old new : State B D) → new ≡ old → AreSo [] → LinesBy AreSo old new
  none_so AreSo old new same so = ([], so, ap (λ (i : State B D). i.engine) same)

  line_so : (n : ℕ) (line : Line B) (old new : State B D) (text : List ℕ) → IsTold grammar Asked n line old text new → LinesBy (λ steps. IsLine grammar n line text old.ended steps new.ended) old new
  line_so n Blank old new text told =
      none_so (λ steps. IsLine grammar n Blank text old.ended steps new.ended) old new told.1 (told.0, refl, ap (λ (i : State B D). i.ended) told.1)
  line_so n Bad old new text told =
      none_so (λ steps. IsLine grammar n Bad text old.ended steps new.ended) old new told.1 (told.0, refl, ap (λ (i : State B D). i.ended) told.1)
  line_so n (Reversed session) old new text told =
      none_so (λ steps. IsLine grammar n (Reversed session) text old.ended steps new.ended) old new told.1 (told.0, refl, ap (λ (i : State B D). i.ended) told.1)
  line_so n (Asks session call) old new text told =
      let made = call_so shape proper said class state old.ended old refl (asked_as session) call told.0 new told.1 in
      (made.0, (told.0, made.1, told.2), made.2)

  pub lines_so : (n : ℕ) (lines : List (Line B)) (old new : State B D) (text : List ℕ) → IsScript grammar Asked n lines old text new
      → LinesBy (λ steps. AreLines grammar n lines text old.ended steps new.ended) old new
  lines_so n [] old new text ran =
      none_so (λ steps. AreLines grammar n [] text old.ended steps new.ended) old new ran.1 (ran.0, refl, ap (λ (i : State B D). i.ended) ran.1)
  lines_so n (line ∷ more) old new text (first, rest, middle, told, others, parts) =
      let a = line_so n line old middle first told in
      let b = lines_so (n + 1) more middle new rest others in (
        a.0 ++ b.0,
        (first, rest, a.0, b.0, middle.ended, a.1, b.1, parts, refl),
        made_joined (Makes shape (traits_of proper said class) state) a.0 b.0 old.engine middle.engine new.engine a.2 b.2,
      )

  pub script_so : (n : ℕ) (lines : List (Line B)) (old new : State B D) (text : List ℕ) → IsScript grammar Asked n lines old text new
      → LivesBy shape (traits_of proper said class) state (λ steps. AreLines grammar n lines text old.ended steps new.ended) old.engine new.engine
  script_so n lines old new text ran =
      lives_so shape proper said class state (λ steps. AreLines grammar n lines text old.ended steps new.ended) old.engine new.engine (lines_so n lines old new text ran)

  pub script_done : (had left held_so holds : Option (List ℕ)) (old new : State B D) (is : IsDone grammar Asked had left held_so holds old new)
      → LivesBy shape (traits_of proper said class) state (λ steps. AreLines grammar 1 (asked grammar is.input) is.text old.ended steps new.ended) old.engine new.engine
  script_done had left held_so holds old new is = script_so 1 (asked grammar is.input) old new is.text is.ran

  pub script_stopped : (had left held_so holds : Option (List ℕ)) (old new : State B D) (fault : ScriptFault) → IsStopped grammar Asked had left held_so holds old new fault
      → LivesBySome grammar shape (traits_of proper said class) state had left held_so holds old.ended new.ended old.engine new.engine
  script_stopped had left held_so holds old new fault stopped =
      let some = did_some grammar Asked had left held_so holds old new fault stopped in
      record { lines = some.lines; text = some.text; did = some.did; lives = script_so 1 some.lines old new some.text some.ran }
