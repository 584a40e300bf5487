-- Replies that report a fault, and an index whose replies are watched for them.
use Rattle.std.specs.Prelude.{ℕ, ◌≡◌, ◌||◌, Bool, true, false}
use Rattle.gx_geom.specs.declared.refusal.Refusal.{Refusal}
use Rattle.gx_geom.specs.declared.refusal.Refusal.TheVariants.{Device, Failed, Damaged}
use Rattle.gx_machine.specs.declared.call.Call.{Call}
use Rattle.gx_machine.specs.declared.reply.Reply.{Reply}
use Rattle.gx_machine.specs.declared.reply.Reply.TheVariants.{Refused}
use Rattle.gx_commands.specs.declared.watched.Watched.{Watched}

-- the device failed, or had failed before, or what it holds can't be read
abbrev pub is_fault : Refusal → Bool
is_fault Device = true
is_fault Failed = true
is_fault Damaged = true
is_fault other = false

-- a reply was refused so
abbrev pub tells_fault : {B : Type 0} → Reply B → Bool
tells_fault (Refused why) = is_fault why
tells_fault other = false

module _ {B I : Type 0} (answered : I → ℕ → Call B → Reply B → I → Type 0) where
  -- the index answers, and once a reply has reported a fault, that is noted
  abbrev pub Watches : Watched I → ℕ → Call B → Reply B → Watched I → Type 0
  Watches old s call reply new = answered old.index s call reply new.index × (new.met ≡ (old.met || tells_fault reply))

  -- the index answers, and no reply reports a fault
  abbrev pub IsFaultless : I → ℕ → Call B → Reply B → I → Type 0
  IsFaultless old s call reply new = answered old s call reply new × (tells_fault reply ≡ false)
