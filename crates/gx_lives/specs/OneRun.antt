-- The headline as one statement: what an index lives through is one run of the set machine.
use Rattle.std.specs.Prelude.{ℕ, ◌≡◌, ◌≤◌, ◌⊎◌, true, List, [], ◌∷◌, Ok}
use Rattle.gx_class.specs.Traits.{Traits}
use Rattle.gx_class.specs.declared.class.KeyClass.{Ghosts}
use Rattle.gx_disk.specs.Device.{Device}
use Rattle.gx_events.specs.declared.event.Event.TheVariants.{Move}
use Rattle.gx_events.specs.declared.outcome.Outcome.TheVariants.{Replied}
use Rattle.gx_format.specs.Formatting.{Formats}
use Rattle.gx_format.specs.Fresh.{fresh_root}
use Rattle.gx_geom.specs.declared.refusal.Refusal.{Refusal}
use Rattle.gx_glog.specs.declared.parameters.Parameters.{Parameters}
use Rattle.gx_machine.specs.declared.reply.Reply.TheVariants.{Committed}
use Rattle.gx_machine.specs.Keys.{Members, keys_of}
use Rattle.gx_machine.specs.Machine.{Machine, fresh_machine}
use Rattle.gx_machine.specs.Runs.{IsRun, Step}
use Rattle.gx_page.specs.Format.{IsWellFormed}
use Rattle.gx_restart.specs.Beginning.{HasFailed}
use Rattle.gx_lives.specs.Bearing.{Bears, HasSet}
use Rattle.gx_lives.specs.Lives.{Lies, MayBeLeft, Stage, Turn}
use Rattle.gx_lives.specs.Lives as life
use Rattle.gx_lives.specs.Serially.{AreSerial, FindExactly}
use Rattle.gx_lives.specs.Told.{Tells}
use Rattle.gx_restart.specs.Setting.{IsRefusedAs}

-- A device is new: an honest one was formatted, which ended well, and the root that was laid down is a page.
pub record IsNew {C B D : Type 0} (class : Ghosts C B) (start : B) (state : D → Device) (p : Parameters) (disk : D) : Type 0 where
  pub before : D
  pub honest : (state before).honest ≡ true
  pub formats : Formats state p (fresh_root class.spelling start) before disk (Ok tt)
  pub root : IsWellFormed (fresh_root class.spelling start)

-- a commit was answered with this number
abbrev pub IsAcknowledged : {B : Type 0} → ℕ → List (Turn B) → Type 0
IsAcknowledged number [] = ⊥
IsAcknowledged number (turn ∷ turns) = ((s : ℕ) × (turn ≡ life.Happens (Move s) (Replied (Committed number)))) ⊎ IsAcknowledged number turns

-- Turns that led to a stage are one run of the set machine, from this one.
pub record IsRunFrom {B D : Type 0} (shape : Members B) (traits : Traits B) (state : D → Device) (p : Parameters) (start : Machine B) (turns : List (Turn B))
    (now : Stage B D) : Type 0 where
  -- a step for each ask and each reply, for commits that are sealed and durable, and a crash for each opening that ended well
  pub steps : List (Step B)
  pub told : Tells turns steps
  pub machine : Machine B
  pub runs : IsRun (keys_of shape) start steps machine
  -- it is serial, and each search in it finds exactly what matches in its view
  pub serial : AreSerial (keys_of shape) start steps
  pub finds : FindExactly (keys_of shape) start steps
  -- each commit that got its reply is among those that every kept set has
  pub covers : (number : ℕ) → IsAcknowledged number turns → number ≤ machine.oldest
  -- the stage is seen as that machine
  pub bears : Bears shape traits state p machine now
  -- whatever a crash may leave, now or within what begins now, has a set that the machine keeps
  pub left : (image : List ℕ) → MayBeLeft shape traits state now image → HasSet shape traits state p machine image
  -- an opening is refused only if a call failed or memory was refused
  pub opens : (disk new : D) (why : Refusal) → now ≡ Lies disk → IsRefusedAs shape traits state disk new why → HasFailed why

-- from nothing committed
abbrev pub IsOneRun : {B D : Type 0} → Members B → Traits B → (D → Device) → Parameters → List (Turn B) → Stage B D → Type 0
IsOneRun shape traits state p turns now = IsRunFrom shape traits state p fresh_machine turns now
