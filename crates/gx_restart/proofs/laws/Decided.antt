-- The text of a script for an index is the one that its calls alone decide.
use Rattle.std.proofs.Common.{◌≡◌, ◌∙◌, ℕ, ◌+◌, Bool, true, false, List, [], length, refl, ap, sym, arith}
use Rattle.gx_class.specs.Traits.{traits_of}
use Rattle.gx_class.specs.declared.class.KeyClass.{Ghosts}
use Rattle.gx_disk.specs.Device.{Device}
use Rattle.gx_machine.specs.declared.call.Call.{Call}
use Rattle.gx_machine.specs.declared.entry.Entry.{Entry}
use Rattle.gx_machine.specs.declared.reply.Reply.{Reply}
use Rattle.gx_machine.proofs.Places.{at_idle}
use Rattle.gx_machine.specs.Keys.{Members, keys_of}
use Rattle.gx_machine.specs.Machine.{Machine, session_at}
use Rattle.gx_machine.specs.Sessions.{Session, is_unanswered}
use Rattle.gx_events.specs.Engines.{SeenAs, opened_machine}
use Rattle.gx_recovery.specs.Known.{Limits}
use Rattle.gx_recovery.specs.Records.{Record}
use Rattle.gx_index_laws.specs.Classes.{Class, IsLawful, Page}
use Rattle.gx_index_laws.specs.States as index
use Rattle.gx_index_laws.specs.States.{engine_of}
use Rattle.gx_durable.specs.Classes.{class_of}
use Rattle.gx_script.specs.declared.line.Line.{Line}
use Rattle.gx_script.specs.Corners.{Grammar}
use Rattle.gx_script.specs.Scripts.{IsScript}
use Rattle.gx_plain.specs.Decided.{AnswersDecided, IsDecidedCall, Rests, decided_text, is_decided, seen_by_calls}
use Rattle.gx_plain.specs.Index.{CallsIndex as CallsPlain, Index}
use Rattle.gx_plain.specs.Runs.{IsPlain}
use Rattle.gx_plain.proofs.Decided.{call_decides, plain_text, script_text}
use Rattle.gx_engine.specs.Helping.{AskedEnds, HoldsIndex}
use Rattle.gx_engine.specs.Made.{Makes}
use Rattle.gx_restart.specs.Called.{CallsIndex}
use Rattle.gx_restart.specs.Decided.{IsDecidedScript, OfItsMachine}
use Rattle.gx_restart.specs.States.{State}
use Rattle.gx_restart.proofs.Alone.{call_alone, call_goes_on}

-- a machine rests where another rests that its calls see alike
rests_alike : {B : Type 0} (m n : Machine B) → m.failed ≡ false → m.sessions ≡ n.sessions → Rests n → Rests m
rests_alike {B} m n works same rests = record {
  eight = ap length same ∙ rests.eight;
  works = works;
  answered = λ s. ap (λ (xs : List (Session B)). is_unanswered (session_at s xs)) same ∙ rests.answered s;
}

-- an index that was opened
pub opened_rests : {B : Type 0} (number : ℕ) (set : List (Entry B)) → Rests (opened_machine number set)
opened_rests number set = record { eight = refl; works = refl; answered = λ s. ap is_unanswered (at_idle s) }

pub opened_seen : {B : Type 0} (number : ℕ) (set : List (Entry B)) → seen_by_calls (opened_machine number set) ≡ opened_machine number set
opened_seen number set =
    let same : number + 0 ≡ number = omega arith in
    ap (λ n. record { older = []; latest = set; oldest = n; sessions = (opened_machine number set).sessions; failed = false }) same

module _ {B C D : Type 0} (grammar : Grammar B) (shape : Members B) (proper : B → Bool) (said : List ℕ → B) (class : Ghosts C B) (state : D → Device) (l : Limits) where
  abbrev c : Class B
  c = class_of shape proper l

  record IsSeen (old : State B D) (m : Machine B) : Type 0 where
    goes : old.ended ≡ false
    bodies : List (List (Record (Entry B) (Page B)))
    index : index.State B
    holds : HoldsIndex shape (traits_of proper said class) state l old.engine bodies index
    seen : SeenAs c.keys (engine_of c index) m

  module _ (never : AskedEnds shape (traits_of proper said class) state l) (lawful : IsLawful c) where
    each_index : (old : State B D) (s : ℕ) (call : Call B) (r : Reply B) (new : State B D) (m : Machine B) → IsSeen old m → Rests m
        → CallsIndex (Makes shape (traits_of proper said class) state) old s call r new → is_decided r ≡ true → (n : Machine B) × IsSeen new n × IsDecidedCall (keys_of shape) s call r m n
    each_index old s call r new m is rests calls decided =
        let one = call_alone shape proper said class state l old s call r new calls is.goes never lawful is.bodies is.index is.holds m is.seen in (
          one.machine,
          record {
            goes = call_goes_on shape proper said class state l old s call r new calls is.goes never is.bodies is.index is.holds;
            bodies = one.ran.bodies;
            index = one.ran.index;
            holds = one.ran.holds;
            seen = one.seen;
          },
          call_decides (keys_of shape) s call r m one.machine decided rests one.runs,
        )

    pub index_text : (number : ℕ) (lines : List (Line B)) (old new : State B D) (text : List ℕ) → IsDecidedScript grammar shape (traits_of proper said class) state number lines old text new
        → OfItsMachine shape (traits_of proper said class) state l old (λ m. text ≡ decided_text grammar (keys_of shape) number lines (seen_by_calls m))
    index_text number lines old new text script goes bodies i holds m seen rests =
        script_text grammar (keys_of shape) (CallsIndex (Makes shape (traits_of proper said class) state)) IsSeen each_index number lines old new text m
        (record { goes = goes; bodies = bodies; index = i; holds = holds; seen = seen }) rests script

    -- and the plain index's
    pub same_text : (number : ℕ) (lines : List (Line B)) (old new : State B D) (text : List ℕ) → IsDecidedScript grammar shape (traits_of proper said class) state number lines old text new
        → (plain after : Index B) (other : List ℕ) → IsPlain plain → IsScript grammar (AnswersDecided (CallsPlain (keys_of shape))) number lines plain other after
        → OfItsMachine shape (traits_of proper said class) state l old (λ m. seen_by_calls m ≡ plain.machine → text ≡ other)
    same_text number lines old new text script plain after other is so goes bodies i holds m seen rests same =
        index_text number lines old new text script goes bodies i holds m seen rests ∙ ap (λ (x : Machine B). decided_text grammar (keys_of shape) number lines x) same
        ∙ sym (plain_text grammar (keys_of shape) number lines plain after other is (rests_alike plain.machine m is.runs (sym (ap (λ (x : Machine B). x.sessions) same)) rests) so)
