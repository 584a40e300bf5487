-- Each call that is asked and answered is a run of the machine, and so is a script.
use Rattle.std.proofs.Common.{◌≡◌, ℕ, ◌+◌, Bool, true, false, ◌⊎◌, inl, inr, List, [], ◌∷◌, ◌++◌, length, refl, ap, sym, ◌∙◌, subst, rules, append_assoc}
use Rattle.std.specs.Prelude.{Option, None, Some, option_map, Result, Ok, Err}
use Rattle.gx_geom.specs.declared.refusal.Refusal.{Refusal}
use Rattle.gx_geom.specs.declared.refusal.Refusal.TheVariants.{BadSession, HistoryFull, Memory}
use Rattle.gx_machine.specs.declared.entry.Entry.{Entry}
use Rattle.gx_machine.specs.declared.call.Call.{Call}
use Rattle.gx_machine.specs.declared.call.Call.TheVariants.{Begin, Insert, Delete, Search, Commit, Abort}
use Rattle.gx_machine.specs.declared.item.Item.{Item}
use Rattle.gx_machine.specs.declared.item.Item.TheVariants.{Asked, Replied, Sealed}
use Rattle.gx_machine.specs.declared.reply.Reply.{Reply}
use Rattle.gx_machine.specs.declared.reply.Reply.TheVariants.{Refused}
use Rattle.gx_machine.specs.declared.reply.Asked.{Asked as Given}
use Rattle.gx_machine.specs.declared.reply.Asked.TheVariants.{Now, Open as Opened}
use Rattle.gx_machine.specs.Keys.{Keys}
use Rattle.gx_machine.specs.Sessions.{Locks, Changes, Session, Idle, Open, Aborting, Committing, lock_for, asked_with, ask_session, answer_session, sealed_set}
use Rattle.gx_machine.specs.Machine.{Machine, newest, is_session, session_at, least_conflicting, claims_held, answer, seal}
use Rattle.gx_machine.specs.Runs.{Step, Asks, Answers, Seals, Durable, Closes, RefusesAsk, IsStep, IsRun}
use Rattle.gx_machine.specs.Records.{items_of, record_of, calls_and_replies}
use Rattle.gx_machine.proofs.Places.{at_same}
use Rattle.gx_machine.proofs.RunLemmas.{join}
use Rattle.gx_machine.proofs.StepEffects.{asked_session, asked_there}
use Rattle.gx_script.specs.declared.line.Line.{Line}
use Rattle.gx_script.specs.declared.line.Line.TheVariants.{Blank, Bad, Reversed, Asks as Wants}
use Rattle.gx_script.specs.Corners.{Grammar}
use Rattle.gx_script.specs.Scripts.{IsScript, asked_as}
use Rattle.gx_plain.specs.Index.{Index, ask_index, AnswersIndex, AnswersAsked, CallsIndex}
use Rattle.gx_plain.specs.Runs.{IsPlain, AskIsRun, AnswerIsRun}
use Rattle.gx_plain.specs.OneRun.{IsCallRun, Tells, IsOneRun}

module _ {B : Type 0} (k : Keys B) where
  asking : (s : ℕ) (call : Call B) (index : Index B) → IsPlain index → AskIsRun k s call index
  asking s call index plain = search rules

  asked_plain : (s : ℕ) (call : Call B) (index : Index B) → IsPlain index → IsPlain (ask_index k s call index).1
  asked_plain s call index plain = search rules

  answering : (s : ℕ) (old new : Index B) (reply : Reply B) → IsPlain old → AnswersIndex k s old reply new → AnswerIsRun k s old reply new
  answering s old new reply plain answers = search rules

  pub call_plain : (s : ℕ) (call : Call B) (old new : Index B) (reply : Reply B) → IsPlain old → CallsIndex k old s call reply new → IsPlain new
  call_plain s call old new reply plain calls = search rules

  -- A call that is open has an answer, or is a commit to be sealed.

  lock_answered : (call : Call B) (lock : Result (Locks B) Refusal) (locks : Locks B) (changes : Changes B) (P : Session B → Type 0)
      → ((g : Locks B) → ¬ P (Open g changes (Some call))) → (asked_with call lock locks changes).0 ≡ Opened → ¬ P (asked_with call lock locks changes).1
  lock_answered call (Ok g) locks changes P never h p = never g p
  lock_answered call (Err why) locks changes P never h p = cc

  -- a session that has nothing to be answered, and nothing to be sealed
  abbrev HasNothing : List (Entry B) → ℕ → Session B → Type 0
  HasNothing latest oldest x = (answer_session k latest oldest x ≡ None) × (sealed_set k latest x ≡ None)

  open_answered : (call : Call B) (least : Option ℕ) (spent : ℕ) (x : Session B) (latest : List (Entry B)) (oldest : ℕ)
      → (ask_session k call least spent x).0 ≡ Opened → ¬ HasNothing latest oldest (ask_session k call least spent x).1
  open_answered Begin least spent Idle latest oldest h p = cc
  open_answered (Insert e) least spent Idle latest oldest h p = cc
  open_answered (Delete e) least spent Idle latest oldest h p = cc
  open_answered (Search q) least spent Idle latest oldest h p = cc
  open_answered Commit least spent Idle latest oldest h p = cc
  open_answered Abort least spent Idle latest oldest h p = cc
  open_answered Begin least spent (Open locks changes None) latest oldest h p = cc
  open_answered (Insert e) least spent (Open locks changes None) latest oldest h p =
      lock_answered (Insert e) (lock_for k (Insert e) least spent locks) locks changes (HasNothing latest oldest)
      (λ g none. (let no : Some _ ≡ None = none.0 in cc)) h p
  open_answered (Delete e) least spent (Open locks changes None) latest oldest h p =
      lock_answered (Delete e) (lock_for k (Delete e) least spent locks) locks changes (HasNothing latest oldest)
      (λ g none. (let no : Some _ ≡ None = none.0 in cc)) h p
  open_answered (Search q) least spent (Open locks changes None) latest oldest h p =
      lock_answered (Search q) (lock_for k (Search q) least spent locks) locks changes (HasNothing latest oldest)
      (λ g none. (let no : Some _ ≡ None = none.0 in cc)) h p
  open_answered Commit least spent (Open locks changes None) latest oldest h p =
      lock_answered Commit (lock_for k Commit least spent locks) locks changes (HasNothing latest oldest)
      (λ g none. (let no : Some _ ≡ None = none.1 in cc)) h p
  open_answered Abort least spent (Open locks changes None) latest oldest h p = let no : Some _ ≡ None = p.0 in cc
  open_answered call least spent (Open locks changes (Some pending)) latest oldest h p = cc
  open_answered call least spent (Aborting locks) latest oldest h p = cc
  open_answered call least spent (Committing number) latest oldest h p = cc

  unmapped : {X Y : Type 0} (f : X → Y) (o : Option X) → option_map f o ≡ None → o ≡ None
  unmapped f None h = refl
  unmapped f (Some x) h = let no : ⊥ = cc in absurd no

  nothing_by : (s : ℕ) (call : Call B) (old new : Machine B) (there : Bool) → length old.sessions ≡ 8 → is_session s ≡ there
      → asked_there k s call old there ≡ (Opened, new) → answer k s new ≡ None → ¬ (seal k s new ≡ None)
  nothing_by s call old new true eight is h unanswered unsealed =
      let asked = asked_session k s call old in
      let there : session_at s new.sessions ≡ asked.1 =
      sym (ap (λ (p : Given B × Machine B). session_at s p.1.sessions) h) ∙ at_same s old.sessions asked.1 is eight in
      open_answered call (least_conflicting k call s 1 old.sessions) (claims_held old.sessions) (session_at s old.sessions) new.latest new.oldest
      (ap (λ (p : Given B × Machine B). p.0) h) (
        sym (ap (answer_session k new.latest new.oldest) there) ∙ unmapped _ (answer_session k new.latest new.oldest (session_at s new.sessions)) unanswered,
        sym (ap (sealed_set k new.latest) there) ∙ unmapped _ (sealed_set k new.latest (session_at s new.sessions)) unsealed,
      )
  nothing_by s call old new false eight is h unanswered unsealed =
      let no : Now (Refused BadSession) ≡ Opened = ap (λ (p : Given B × Machine B). p.0) h in cc

  -- A call as a run.

  told : (s : ℕ) (call : Call B) (given : Given B) (reply : Reply B) (old new : Machine B) → given ≡ Now reply → IsStep k old (Asks s call given) new → IsCallRun k s call reply old new
  told s call given reply old new is step = record {
    steps = Asks s call (Now reply) ∷ [];
    runs = (new, subst (λ (g : Given B). IsStep k old (Asks s call g) new) is step, refl);
    record_is = refl;
    in_call = refl;
  }

  answered : (s : ℕ) (call : Call B) (reply : Reply B) (old : Machine B) (middle new : Index B) → length old.sessions ≡ 8
      → IsStep k old (Asks s call Opened) middle.machine → AnswerIsRun k s middle reply new → IsCallRun k s call reply old new.machine
  answered s call reply old middle new eight step (inl answer) = record {
    steps = Asks s call Opened ∷ Answers s reply ∷ [];
    runs = (middle.machine, step, (new.machine, answer, refl));
    record_is = refl;
    in_call = refl;
  }
  answered s call reply old middle new eight step (inr (inl commit)) = record {
    steps = Asks s call Opened ∷ Seals s (newest middle.machine + 1) ∷ Durable (newest middle.machine + 1) ∷ Answers s reply ∷ [];
    runs = (middle.machine, step, commit);
    record_is = refl;
    in_call = refl;
  }
  answered s call reply old middle new eight step (inr (inr (inl closes))) = record {
    steps = Asks s call Opened ∷ Closes s Memory ∷ [];
    runs = (middle.machine, step, (new.machine, closes.1, refl));
    record_is = ap (λ (r : Reply B). Asked s call ∷ Replied s r ∷ []) (sym closes.0);
    in_call = refl;
  }
  answered s call reply old middle new eight step (inr (inr (inr none))) =
      absurd (nothing_by s call old middle.machine (is_session s) eight refl step.1 none.0 none.1)

  by_asked : (s : ℕ) (call : Call B) (reply : Reply B) (old new middle : Index B) (given : Given B) → IsPlain old → IsPlain middle
      → IsStep k old.machine (Asks s call given) middle.machine ⊎ (((given ≡ Now (Refused HistoryFull)) × Unit {0}) × IsStep k old.machine (RefusesAsk s call HistoryFull) middle.machine)
      → AnswersAsked k s given middle reply new → IsCallRun k s call reply old.machine new.machine
  by_asked s call reply old new middle (Now given) plain then_plain (inl step) calls =
      subst (λ (index : Index B). IsCallRun k s call reply old.machine index.machine) (sym calls.1)
      (told s call (Now given) reply old.machine middle.machine (ap Now (sym calls.0)) step)
  by_asked s call reply old new middle (Now given) plain then_plain (inr refused) calls =
      let same : given ≡ Refused HistoryFull = cc in
      subst (λ (index : Index B). IsCallRun k s call reply old.machine index.machine) (sym calls.1) (record {
        steps = RefusesAsk s call HistoryFull ∷ [];
        runs = (middle.machine, refused.1, refl);
        record_is = ap (λ (r : Reply B). Asked s call ∷ Replied s r ∷ []) (sym (calls.0 ∙ same));
        in_call = refl;
      })
  by_asked s call reply old new middle Opened plain then_plain (inl step) calls =
      answered s call reply old.machine middle new plain.eight step (answering s middle new reply then_plain calls)
  by_asked s call reply old new middle Opened plain then_plain (inr refused) calls = let no : ⊥ = cc in absurd no

  with_unit : (s : ℕ) (call : Call B) (index : Index B) → AskIsRun k s call index
      → IsStep k index.machine (Asks s call (ask_index k s call index).0) (ask_index k s call index).1.machine
      ⊎ ((((ask_index k s call index).0 ≡ Now (Refused HistoryFull)) × Unit {0}) × IsStep k index.machine (RefusesAsk s call HistoryFull) (ask_index k s call index).1.machine)
  with_unit s call index (inl step) = inl step
  with_unit s call index (inr refused) = inr ((refused.0.0, tt), refused.1)

  pub call_run : (s : ℕ) (call : Call B) (old new : Index B) (reply : Reply B) → IsPlain old → CallsIndex k old s call reply new
      → IsCallRun k s call reply old.machine new.machine
  call_run s call old new reply plain calls =
      by_asked s call reply old new (ask_index k s call old).1 (ask_index k s call old).0 plain (asked_plain s call old plain)
      (with_unit s call old (asking s call old plain)) calls

  -- records join as runs do
  calls_join : (xs ys : List (Item B)) → calls_and_replies (xs ++ ys) ≡ calls_and_replies xs ++ calls_and_replies ys
  calls_join [] ys = refl
  calls_join (Asked s call ∷ xs) ys = ap (λ (items : List (Item B)). Asked s call ∷ items) (calls_join xs ys)
  calls_join (Sealed s number ∷ xs) ys = calls_join xs ys
  calls_join (Replied s reply ∷ xs) ys = ap (λ (items : List (Item B)). Replied s reply ∷ items) (calls_join xs ys)

  records_join : (before after : List (Step B)) → record_of (before ++ after) ≡ record_of before ++ record_of after
  records_join [] after = refl
  records_join (step ∷ before) after =
      ap (λ (items : List (Item B)). items_of step ++ items) (records_join before after)
      ∙ sym (append_assoc (items_of step) (record_of before) (record_of after))

  pub joined : (before after : List (Step B)) → calls_and_replies (record_of (before ++ after)) ≡ calls_and_replies (record_of before) ++ calls_and_replies (record_of after)
  joined before after = ap calls_and_replies (records_join before after) ∙ calls_join (record_of before) (record_of after)

-- What the lines of a script ask and are answered is one run.
pub script_run : {B : Type 0} (grammar : Grammar B) (k : Keys B) (number : ℕ) (lines : List (Line B)) (old new : Index B) (text : List ℕ) → IsPlain old
    → IsScript grammar (CallsIndex k) number lines old text new → IsOneRun grammar k number lines old.machine new.machine text
script_run {B} grammar k number [] old new text plain script = record { steps = []; runs = ap (λ (index : Index B). index.machine) script.1; tells = (refl, script.0) }
script_run {B} grammar k number (Blank ∷ more) old new text plain script =
    let told = script.3 in
    let rest = script_run grammar k (number + 1) more script.2 new script.1 (subst IsPlain (sym told.1) plain) script.4 in
    record {
      steps = rest.steps;
      runs = subst (λ (index : Index B). IsRun k index.machine rest.steps new.machine) told.1 rest.runs;
      tells = subst (λ (t : List ℕ). Tells grammar (number + 1) more (calls_and_replies (record_of rest.steps)) t) (sym (script.5 ∙ ap (λ (t : List ℕ). t ++ script.1) told.0)) rest.tells;
    }
script_run {B} grammar k number (Bad ∷ more) old new text plain script =
    let told = script.3 in
    let rest = script_run grammar k (number + 1) more script.2 new script.1 (subst IsPlain (sym told.1) plain) script.4 in
    record {
      steps = rest.steps;
      runs = subst (λ (index : Index B). IsRun k index.machine rest.steps new.machine) told.1 rest.runs;
      tells = (script.1, script.5 ∙ ap (λ (t : List ℕ). t ++ script.1) told.0, rest.tells);
    }
script_run {B} grammar k number (Reversed session ∷ more) old new text plain script =
    let told = script.3 in
    let rest = script_run grammar k (number + 1) more script.2 new script.1 (subst IsPlain (sym told.1) plain) script.4 in
    record {
      steps = rest.steps;
      runs = subst (λ (index : Index B). IsRun k index.machine rest.steps new.machine) told.1 rest.runs;
      tells = (script.1, script.5 ∙ ap (λ (t : List ℕ). t ++ script.1) told.0, rest.tells);
    }
script_run {B} grammar k number (Wants session call ∷ more) old new text plain script =
    let told = script.3 in
    let middle = script.2 in
    let first = call_run k (asked_as session) call old middle told.0 plain told.1 in
    let rest = script_run grammar k (number + 1) more middle new script.1 (call_plain k (asked_as session) call old middle told.0 plain told.1) script.4 in
    record {
      steps = first.steps ++ rest.steps;
      runs = join k first.steps rest.steps old.machine middle.machine new.machine first.runs rest.runs;
      tells = (
        told.0,
        calls_and_replies (record_of rest.steps),
        script.1,
        joined k first.steps rest.steps ∙ ap (λ (items : List (Item B)). items ++ calls_and_replies (record_of rest.steps)) first.record_is,
        script.5 ∙ ap (λ (t : List ℕ). t ++ script.1) told.2,
        rest.tells,
      );
    }
