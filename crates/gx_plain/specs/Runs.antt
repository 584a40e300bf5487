-- The plain index's calls as runs of the set machine.
use Rattle.std.specs.Prelude.{ℕ, ◌≡◌, ◌⊎◌, ◌+◌, false, true, length, if◌then◌else◌, None, [], ◌∷◌}
use Rattle.gx_geom.specs.declared.refusal.Refusal.TheVariants.{BadSession, NoCall, HistoryFull, Memory}
use Rattle.gx_machine.specs.declared.call.Call.{Call}
use Rattle.gx_machine.specs.declared.limits.TheConstants.{SESSIONS}
use Rattle.gx_machine.specs.declared.reply.Reply.{Reply}
use Rattle.gx_machine.specs.declared.reply.Reply.TheVariants.{Refused}
use Rattle.gx_machine.specs.declared.reply.Asked.TheVariants.{Now}
use Rattle.gx_machine.specs.Keys.{Keys}
use Rattle.gx_machine.specs.Machine.{newest, is_session, answer, seal}
use Rattle.gx_machine.specs.Runs.{Asks, Answers, Seals, Durable, Closes, RefusesAsk, IsStep, IsRun}
use Rattle.gx_plain.specs.Index.{Index, is_used_up, ask_index}

-- what an index of this crate is: eight sessions, all commits durable, and no fault has made it fail
pub record IsPlain {B : Type 0} (index : Index B) : Type 0 where
  pub eight : length index.machine.sessions ≡ SESSIONS
  pub durable : index.machine.older ≡ []
  pub runs : index.machine.failed ≡ false

-- asking is a step of the machine
abbrev pub AskIsRun : {B : Type 0} → Keys B → ℕ → Call B → Index B → Type 0
AskIsRun k s call index =
    let r = ask_index k s call index in
    IsStep k index.machine (Asks s call r.0) r.1.machine
    ⊎ (((r.0 ≡ Now (Refused HistoryFull)) × (is_used_up index ≡ true)) × IsStep k index.machine (RefusesAsk s call HistoryFull) r.1.machine)

-- answering is a run of the machine that gives this one reply, or finds neither an answer to give nor a commit to seal
abbrev pub AnswerIsRun : {B : Type 0} → Keys B → ℕ → Index B → Reply B → Index B → Type 0
AnswerIsRun k s old reply new =
    IsStep k old.machine (Answers s reply) new.machine
    ⊎ IsRun k old.machine (Seals s (newest old.machine + 1) ∷ Durable (newest old.machine + 1) ∷ Answers s reply ∷ []) new.machine
    ⊎ ((reply ≡ Refused Memory) × IsStep k old.machine (Closes s Memory) new.machine)
    ⊎ ((answer k s old.machine ≡ None) × (seal k s old.machine ≡ None) × (reply ≡ Refused (if is_session s then NoCall else BadSession)) × (new ≡ old))
