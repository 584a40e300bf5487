-- Scripts over a watched index, as scripts over the index.
use Rattle.std.proofs.Common.{◌≡◌, ℕ, ◌+◌, Bool, true, false, List, [], ◌∷◌, length, Option, refl, ap, sym, ◌∙◌}
use Rattle.std.specs.Prelude.{◌||◌}
use Rattle.gx_machine.specs.declared.call.Call.{Call}
use Rattle.gx_machine.specs.declared.reply.Reply.{Reply}
use Rattle.gx_script.specs.declared.fault.ScriptFault.{ScriptFault}
use Rattle.gx_script.specs.declared.fault.ScriptFault.TheVariants.{Read, Write}
use Rattle.gx_script.specs.declared.line.Line.{Line}
use Rattle.gx_script.specs.declared.line.Line.TheVariants.{Blank, Bad, Reversed, Asks}
use Rattle.gx_script.specs.Corners.{Grammar}
use Rattle.gx_script.specs.Scripts.{asked, IsDone, IsScript, IsStopped, IsTold, IsWritten}
use Rattle.gx_commands.specs.Watching.{IsFaultless, Watches, tells_fault}
use Rattle.gx_commands.specs.declared.watched.Watched.{Watched}

module _ {B I : Type 0} (grammar : Grammar B) (answered : I → ℕ → Call B → Reply B → I → Type 0) where
  told_forgets : (n : ℕ) (line : Line B) (old new : Watched I) (text : List ℕ) → IsTold grammar (Watches answered) n line old text new → IsTold grammar answered n line old.index text new.index
  told_forgets n Blank old new text told = (told.0, ap (λ (w : Watched I). w.index) told.1)
  told_forgets n Bad old new text told = (told.0, ap (λ (w : Watched I). w.index) told.1)
  told_forgets n (Reversed session) old new text told = (told.0, ap (λ (w : Watched I). w.index) told.1)
  told_forgets n (Asks session call) old new text told = (told.0, told.1.0, told.2)

  pub script_forgets : (n : ℕ) (lines : List (Line B)) (old new : Watched I) (text : List ℕ)
      → IsScript grammar (Watches answered) n lines old text new → IsScript grammar answered n lines old.index text new.index
  script_forgets n [] old new text ran = (ran.0, ap (λ (w : Watched I). w.index) ran.1)
  script_forgets n (line ∷ more) old new text ran =
      (ran.0, ran.1, ran.2.index, told_forgets n line old ran.2 ran.0 ran.3, script_forgets (n + 1) more ran.2 new ran.1 ran.4, ran.5)

  pub done_forgets : (had left held holds : Option (List ℕ)) (old new : Watched I)
      → IsDone grammar (Watches answered) had left held holds old new → IsDone grammar answered had left held holds old.index new.index
  done_forgets had left held holds old new done = record {
    input = done.input;
    text = done.text;
    read = done.read;
    at_end = done.at_end;
    wrote = done.wrote;
    ran = script_forgets 1 (asked grammar done.input) old new done.text done.ran;
  }

  written_forgets : (n : ℕ) (done : List (Line B)) (old new : Watched I) (written unwritten : List ℕ)
      → IsWritten grammar (Watches answered) n done old written unwritten new → IsWritten grammar answered n done old.index written unwritten new.index
  written_forgets n done old new written unwritten w = record {
    before = w.before;
    after = w.after;
    middle = w.middle.index;
    settled = w.settled;
    late = w.late;
    parts = w.parts;
    ran = script_forgets n w.before old w.middle w.settled w.ran;
    runs = script_forgets (n + length w.before) w.after w.middle new _ w.runs;
    asks_first = w.asks_first;
    wrote = w.wrote;
  }

  pub stopped_forgets : (had left held holds : Option (List ℕ)) (old new : Watched I) (fault : ScriptFault)
      → IsStopped grammar (Watches answered) had left held holds old new fault → IsStopped grammar answered had left held holds old.index new.index fault
  stopped_forgets had left held holds old new Read stopped = record {
    input = stopped.input;
    text = stopped.text;
    done = stopped.done;
    begun = stopped.begun;
    read = stopped.read;
    wrote = stopped.wrote;
    first = stopped.first;
    unended = stopped.unended;
    ran = script_forgets 1 stopped.done old new stopped.text stopped.ran;
  }
  stopped_forgets had left held holds old new Write stopped = record {
    input = stopped.input;
    done = stopped.done;
    written = stopped.written;
    unwritten = stopped.unwritten;
    read = stopped.read;
    wrote = stopped.wrote;
    first = stopped.first;
    ran = written_forgets 1 stopped.done old new stopped.written stopped.unwritten stopped.ran;
    some = stopped.some;
  }

  none_first : (a b : Bool) → (a || b) ≡ false → a ≡ false
  none_first false b none = refl
  none_first true b none = none

  none_second : (a b : Bool) → (a || b) ≡ false → b ≡ false
  none_second false b none = none
  none_second true b none = cc

  -- if no fault is noted after a line, none was noted before it, and its reply reported none
  told_faultless : (n : ℕ) (line : Line B) (old new : Watched I) (text : List ℕ)
      → IsTold grammar (Watches answered) n line old text new → new.met ≡ false → (old.met ≡ false) × IsTold grammar (IsFaultless answered) n line old.index text new.index
  told_faultless n Blank old new text told none = (sym (ap (λ (w : Watched I). w.met) told.1) ∙ none, (told.0, ap (λ (w : Watched I). w.index) told.1))
  told_faultless n Bad old new text told none = (sym (ap (λ (w : Watched I). w.met) told.1) ∙ none, (told.0, ap (λ (w : Watched I). w.index) told.1))
  told_faultless n (Reversed session) old new text told none = (sym (ap (λ (w : Watched I). w.met) told.1) ∙ none, (told.0, ap (λ (w : Watched I). w.index) told.1))
  told_faultless n (Asks session call) old new text told none =
      let neither = sym told.1.1 ∙ none in
      (none_first old.met (tells_fault told.0) neither, (told.0, (told.1.0, none_second old.met (tells_fault told.0) neither), told.2))

  -- so of lines
  script_met_nothing : (n : ℕ) (lines : List (Line B)) (old new : Watched I) (text : List ℕ)
      → IsScript grammar (Watches answered) n lines old text new → new.met ≡ false → (old.met ≡ false) × IsScript grammar (IsFaultless answered) n lines old.index text new.index
  script_met_nothing n [] old new text ran none = (sym (ap (λ (w : Watched I). w.met) ran.1) ∙ none, (ran.0, ap (λ (w : Watched I). w.index) ran.1))
  script_met_nothing n (line ∷ more) old new text ran none =
      let later = script_met_nothing (n + 1) more ran.2 new ran.1 ran.4 none in
      let first = told_faultless n line old ran.2 ran.0 ran.3 later.0 in
      (first.0, (ran.0, ran.1, ran.2.index, first.1, later.1, ran.5))

  pub script_faultless : (n : ℕ) (lines : List (Line B)) (old new : Watched I) (text : List ℕ)
      → IsScript grammar (Watches answered) n lines old text new → new.met ≡ false → IsScript grammar (IsFaultless answered) n lines old.index text new.index
  script_faultless n lines old new text ran none = (script_met_nothing n lines old new text ran none).1
