-- A script as one run of the set machine.
use Rattle.std.specs.Prelude.{ℕ, ◌≡◌, ◌+◌, Bool, true, false, List, [], ◌∷◌, ◌++◌}
use Rattle.std.specs.List.{list_all}
use Rattle.gx_geom.specs.declared.refusal.Refusal.TheVariants.{BadBox}
use Rattle.gx_machine.specs.declared.item.Item.{Item}
use Rattle.gx_machine.specs.declared.item.Item.TheVariants.{Asked, Replied}
use Rattle.gx_machine.specs.declared.call.Call.{Call}
use Rattle.gx_machine.specs.declared.reply.Reply.{Reply}
use Rattle.gx_machine.specs.declared.reply.Reply.TheVariants.{Refused}
use Rattle.gx_machine.specs.Keys.{Keys}
use Rattle.gx_machine.specs.Machine.{Machine}
use Rattle.gx_machine.specs.Runs.{Step, Asks as AsksStep, Answers, Seals, Durable, Closes, RefusesAsk, RefusesCall, Fails, Crashes, Nothing, IsRun}
use Rattle.gx_machine.specs.Records.{record_of, calls_and_replies}
use Rattle.gx_script.specs.declared.line.Line.{Line}
use Rattle.gx_script.specs.declared.line.Line.TheVariants.{Blank, Bad, Reversed, Asks}
use Rattle.gx_script.specs.Corners.{Grammar}
use Rattle.gx_script.specs.Replies.{reply_text, bad_line}
use Rattle.gx_script.specs.Scripts.{asked_as}

-- a step that may be made in a call: no crash, and no fault that no session sees
abbrev pub is_in_call : {B : Type 0} → Step B → Bool
is_in_call (AsksStep s call given) = true
is_in_call (Answers s reply) = true
is_in_call (Seals s number) = true
is_in_call (Durable number) = true
is_in_call (Closes s why) = true
is_in_call (RefusesAsk s call why) = true
is_in_call (RefusesCall s why) = true
is_in_call Fails = false
is_in_call (Crashes number) = false
is_in_call Nothing = true

-- a run of the machine that asks this call of the session and gives it this reply, and nothing else to anyone
pub record IsCallRun {B : Type 0} (k : Keys B) (s : ℕ) (call : Call B) (reply : Reply B) (old new : Machine B) : Type 0 where
  pub steps : List (Step B)
  pub runs : IsRun k old steps new
  pub record_is : calls_and_replies (record_of steps) ≡ Asked s call ∷ Replied s reply ∷ []
  pub in_call : list_all is_in_call steps ≡ true

module _ {B : Type 0} (grammar : Grammar B) where
  -- These lines, the first of which has this number, ask these calls, and give this text with these replies.
  abbrev pub Tells : ℕ → List (Line B) → List (Item B) → List ℕ → Type 0
  Tells number [] items text = (items ≡ []) × (text ≡ [])
  Tells number (Blank ∷ more) items text = Tells (number + 1) more items text
  Tells number (Bad ∷ more) items text =
      (rest : List ℕ) × (text ≡ bad_line number ++ rest) × Tells (number + 1) more items rest
  Tells number (Reversed session ∷ more) items text =
      (rest : List ℕ) × (text ≡ reply_text grammar session (Refused BadBox) ++ rest) × Tells (number + 1) more items rest
  Tells number (Asks session call ∷ more) items text =
      (reply : Reply B) × (later : List (Item B)) × (rest : List ℕ)
      × (items ≡ Asked (asked_as session) call ∷ Replied (asked_as session) reply ∷ later)
      × (text ≡ reply_text grammar session reply ++ rest) × Tells (number + 1) more later rest

-- What these lines ask and are answered is one run of the machine, and this is its text.
pub record IsOneRun {B : Type 0} (grammar : Grammar B) (k : Keys B) (number : ℕ) (lines : List (Line B)) (old new : Machine B) (text : List ℕ) : Type 0 where
  pub steps : List (Step B)
  pub runs : IsRun k old steps new
  pub tells : Tells grammar number lines (calls_and_replies (record_of steps)) text
