-- The calls of an index, as turns of its life.
use Rattle.std.specs.Prelude.{ℕ, ◌≡◌, ◌+◌, ◌⊎◌, Bool, true, false, List, [], ◌∷◌, ◌++◌, Option, Result, Ok, Err}
use Rattle.std.specs.Io.KnownBytes.{Appends, Consumes, IsAtEnd}
use Rattle.gx_class.specs.Traits.{Traits}
use Rattle.gx_disk.specs.Device.{Device}
use Rattle.gx_engine.specs.Driven.{AreDriven}
use Rattle.gx_engine.specs.Repeated.{AreAgain, last_of}
use Rattle.gx_engine.specs.States.{Parts}
use Rattle.gx_events.specs.declared.driver.Next.TheVariants.{Done, Run}
use Rattle.gx_events.specs.declared.event.Event.{Event}
use Rattle.gx_events.specs.declared.event.Event.TheVariants.{Ask, CheckpointStep, LogStep}
use Rattle.gx_events.specs.declared.outcome.Outcome.{Outcome}
use Rattle.gx_geom.specs.declared.refusal.Refusal.{Refusal}
use Rattle.gx_geom.specs.declared.refusal.Refusal.TheVariants.{BadBox, Damaged, Failed}
use Rattle.gx_machine.specs.declared.call.Call.{Call}
use Rattle.gx_machine.specs.declared.reply.Reply.{Reply}
use Rattle.gx_machine.specs.declared.reply.Reply.TheVariants.{Refused}
use Rattle.gx_machine.specs.Keys.{Members}
use Rattle.gx_script.specs.Corners.{Grammar}
use Rattle.gx_script.specs.declared.line.Line.{Line}
use Rattle.gx_script.specs.declared.line.Line.TheVariants.{Asks, Bad, Blank, Reversed}
use Rattle.gx_script.specs.Replies.{bad_line, reply_text}
use Rattle.gx_script.specs.Scripts.{FirstLines, asked, asked_as}
use Rattle.gx_lives.specs.Lives.{Lives, Turn, Works}
use Rattle.gx_lives.specs.Lives as life

-- events with their outcomes, as turns
abbrev pub turns_of : {B : Type 0} → List (Event B × Outcome B) → List (Turn B)
turns_of [] = []
turns_of (step ∷ steps) = life.Happens step.0 step.1 ∷ turns_of steps

-- from the ask on each event is the one that the session's driver named, and the last outcome gives the call this reply
abbrev pub IsAnswered : {B : Type 0} → ℕ → Call B → Reply B → List (Event B × Outcome B) → Type 0
IsAnswered s call reply steps = AreDriven s (Run (Ask s call)) steps (Done reply)

-- this event alone, or none
abbrev pub IsOneEvent : {B : Type 0} → Event B → List (Event B × Outcome B) → Type 0
IsOneEvent {B} event steps = (steps ≡ []) ⊎ ((outcome : Outcome B) × (steps ≡ (event, outcome) ∷ []))

-- A call of an index gets this reply by these events, by whether the index gave up before it, and after it. If it
-- hadn't before, they are the events of the session's driver, up to that reply; or the call was given up, with one more
-- event due, and the reply is `Damaged`. If it had, there are none.
abbrev pub IsCalled : {B : Type 0} → Bool → ℕ → Call B → Reply B → List (Event B × Outcome B) → Bool → Type 0
IsCalled true s call reply steps after = (steps ≡ []) × (reply ≡ Refused Failed) × (after ≡ true)
IsCalled {B} false s call reply steps after =
    (IsAnswered s call reply steps × (after ≡ false))
    ⊎ ((due : Event B) × AreDriven s (Run (Ask s call)) steps (Run due) × (reply ≡ Refused Damaged) × (after ≡ true))

-- A line of a script gives this text by these events: a call's are those of its reply, which is the text; others have none.
abbrev pub IsLine : {B : Type 0} → Grammar B → ℕ → Line B → List ℕ → Bool → List (Event B × Outcome B) → Bool → Type 0
IsLine grammar number Blank text before steps after = (text ≡ []) × (steps ≡ []) × (after ≡ before)
IsLine grammar number Bad text before steps after = (text ≡ bad_line number) × (steps ≡ []) × (after ≡ before)
IsLine grammar number (Reversed session) text before steps after = (text ≡ reply_text grammar session (Refused BadBox)) × (steps ≡ []) × (after ≡ before)
IsLine {B} grammar number (Asks session call) text before steps after =
    (reply : Reply B) × IsCalled before (asked_as session) call reply steps after × (text ≡ reply_text grammar session reply)

-- line by line, the first of which has this number
abbrev pub AreLines : {B : Type 0} → Grammar B → ℕ → List (Line B) → List ℕ → Bool → List (Event B × Outcome B) → Bool → Type 0
AreLines grammar number [] text before steps after = (text ≡ []) × (steps ≡ []) × (after ≡ before)
AreLines {B} grammar number (line ∷ more) text before steps after =
    (first : List ℕ) × (rest : List ℕ) × (done : List (Event B × Outcome B)) × (later : List (Event B × Outcome B)) × (middle : Bool)
    × IsLine grammar number line first before done middle × AreLines grammar (number + 1) more rest middle later after × (text ≡ first ++ rest) × (steps ≡ done ++ later)

-- an event over and over, until there is nothing to do or it is refused, which is the result
abbrev pub IsExhausting : {B : Type 0} → Event B → Result (Unit {0}) Refusal → List (Event B × Outcome B) → Type 0
IsExhausting {B} event result steps = (before : List (Event B × Outcome B)) × AreAgain event before × (steps ≡ before ++ (event, last_of result) ∷ [])

-- the checkpoint's steps, and then the log's
abbrev pub IsSettling : {B : Type 0} → Result (Unit {0}) Refusal → List (Event B × Outcome B) → Type 0
IsSettling {B} (Ok done) steps =
    (first : List (Event B × Outcome B)) × (next : List (Event B × Outcome B)) × IsExhausting CheckpointStep (Ok done) first × IsExhausting LogStep (Ok done) next
    × (steps ≡ first ++ next)
IsSettling {B} (Err why) steps =
    IsExhausting CheckpointStep (Err why) steps
    ⊎ ((first : List (Event B × Outcome B)) × (next : List (Event B × Outcome B)) × IsExhausting CheckpointStep (Ok tt) first × IsExhausting LogStep (Err why) next
    × (steps ≡ first ++ next))

-- by whether the index gave up before, if there is no event
abbrev pub IsSettled : {B : Type 0} → Bool → Result (Unit {0}) Refusal → List (Event B × Outcome B) → Type 0
IsSettled true result steps = (steps ≡ []) × (result ≡ Err Failed)
IsSettled false result steps = IsSettling result steps

-- An engine lived on by events alone, of which this holds.
pub record LivesBy {B D : Type 0} (shape : Members B) (traits : Traits B) (state : D → Device)
    (AreSo : List (Event B × Outcome B) → Type 0) (old new : Parts B D) : Type 0 where
  pub steps : List (Event B × Outcome B)
  pub so : AreSo steps
  pub lives : Lives shape traits state (Works old) (turns_of steps) (Works new)

-- These lines were done of what was read, the first that have ended or at the end of the input all of them; and of their text a front was written.
pub record DidSome {B : Type 0} (grammar : Grammar B) (had left held holds : Option (List ℕ)) (lines : List (Line B)) (text : List ℕ) : Type 0 where
  pub input : List ℕ
  pub written : List ℕ
  pub unwritten : List ℕ
  pub read : Consumes had left input
  pub first : ((rest : List ℕ) × FirstLines grammar input lines rest) ⊎ (IsAtEnd left × (asked grammar input ≡ lines))
  pub wrote : Appends held holds written
  pub parts : text ≡ written ++ unwritten

-- A script that was stopped did some of its lines, by these events.
pub record LivesBySome {B D : Type 0} (grammar : Grammar B) (shape : Members B) (traits : Traits B) (state : D → Device)
    (had left held holds : Option (List ℕ)) (before after : Bool) (old new : Parts B D) : Type 0 where
  pub lines : List (Line B)
  pub text : List ℕ
  pub did : DidSome grammar had left held holds lines text
  pub lives : LivesBy shape traits state (λ steps. AreLines grammar 1 lines text before steps after) old new

-- turns that read, and none that does anything else
abbrev pub AreReads : {B : Type 0} → List (Turn B) → Type 0
AreReads [] = Unit {0}
AreReads (life.Reads ∷ turns) = AreReads turns
AreReads (other ∷ turns) = ⊥

-- An engine lived on by readings alone.
pub record LivesByReading {B D : Type 0} (shape : Members B) (traits : Traits B) (state : D → Device) (old new : Parts B D) : Type 0 where
  pub turns : List (Turn B)
  pub reads : AreReads turns
  pub lives : Lives shape traits state (Works old) turns (Works new)
