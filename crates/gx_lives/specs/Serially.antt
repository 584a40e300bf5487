-- The one run is serial and its searches find exactly what matches, in terms of its own steps.
use Rattle.std.specs.Prelude.{ℕ, ◌≡◌, Some, List, ◌∷◌, ◌++◌}
use Rattle.gx_machine.specs.declared.call.Call.{Call}
use Rattle.gx_machine.specs.declared.call.Call.TheVariants.{Begin}
use Rattle.gx_machine.specs.declared.entry.Entry.{Entry}
use Rattle.gx_machine.specs.declared.reply.Asked.TheVariants.{Now}
use Rattle.gx_machine.specs.declared.reply.Reply.{Reply}
use Rattle.gx_machine.specs.declared.reply.Reply.TheVariants.{Found, Ok}
use Rattle.gx_machine.specs.Alone.{IsCommitted, RunsAlone, answered_calls}
use Rattle.gx_machine.specs.Keys.{Keys}
use Rattle.gx_machine.specs.Machine.{Machine}
use Rattle.gx_machine.specs.Outcomes.{IsAnswered}
use Rattle.gx_machine.specs.Runs.{Answers, Asks, IsRun, Seals, Step}
use Rattle.gx_machine.specs.Serial.{AnsweredThenSealed}
use Rattle.gx_machine.specs.Sessions.{Changes, answer_call, no_changes, view}

module _ {B : Type 0} (k : Keys B) (start : Machine B) (steps : List (Step B)) where
  -- these steps, from start, answer a call in a transaction, and seal the commit of that transaction later
  pub record AnswersThenSeals (s : ℕ) (call : Call B) (changes : Changes B) (reply : Reply B) (then_changes : Changes B) (sealing : Machine B) : Type 0 where
    pub sealed : AnsweredThenSealed k start s call changes reply then_changes sealing
    pub after : List (Step B)
    pub parts : steps ≡ sealed.before ++ Answers s reply ∷ (sealed.between ++ Seals s sealed.number ∷ after)

  -- these steps, from start, begin a transaction, go on with the steps that are made in it and by others, and seal its commit
  pub record Commits (s : ℕ) (begun : Machine B) (made : List (Step B)) (sealing sealed : Machine B) : Type 0 where
    pub committed : IsCommitted k start s begun made sealing sealed
    pub after : List (Step B)
    pub parts : steps ≡ committed.before ++ Asks s Begin (Now Ok) ∷ (made ++ Seals s committed.number ∷ after)

  -- These steps are a serial run from start. When a session's commit is sealed, each call that its transaction was
  -- answered is answered alike on the last committed set of that moment; and the transaction as a whole gets its
  -- replies on that set, and makes of it the set of its commit. A commit has the number after that of the last
  -- committed set, so the transactions run in the order of their commits' numbers.
  pub record AreSerial : Type 0 where
    pub alike : (s : ℕ) (call : Call B) (changes : Changes B) (reply : Reply B) (then_changes : Changes B) (sealing : Machine B)
        → AnswersThenSeals s call changes reply then_changes sealing → answer_call k call sealing.latest changes ≡ Some (reply, then_changes)
    pub alone : (s : ℕ) (begun : Machine B) (made : List (Step B)) (sealing sealed : Machine B) (run : IsRun k begun made sealing)
        → Commits s begun made sealing sealed
        → (after : Changes B) × RunsAlone k sealing.latest no_changes (answered_calls k s begun made sealing run) after
        × (sealed.latest ≡ view k sealing.latest after)

  -- each search that these steps answer, from start, finds exactly what matches in the session's view, in order
  abbrev pub FindExactly : Type 0
  FindExactly =
      (s : ℕ) (entries : List (Entry B)) (before after : List (Step B)) → steps ≡ before ++ Answers s (Found entries) ∷ after
      → (asked : Machine B) × IsRun k start before asked × IsAnswered k s asked entries
