-- The status of a call: 0, or the number of the refusal, and for Busy 256 times the session besides.
use Rattle.std.specs.Prelude.{ℕ, ◌+◌, ◌*◌, Result, Ok, Err}
use Rattle.gx_geom.specs.Refusals.{refusal_number}
use Rattle.gx_geom.specs.declared.refusal.Refusal.{Refusal}
use Rattle.gx_geom.specs.declared.refusal.Refusal.TheVariants.{Busy}
use Rattle.gx_machine.specs.declared.reply.Reply.{Reply}
use Rattle.gx_machine.specs.declared.reply.Reply.TheVariants.{Committed, Refused}

-- the session that is in the way
abbrev pub session_in : Refusal → ℕ
session_in (Busy session) = session
session_in other = 0

-- the status of a refusal
abbrev pub refused : Refusal → ℕ
refused why = refusal_number why + 256 * session_in why

-- of a reply
abbrev pub replied : {B : Type 0} → Reply B → ℕ
replied (Refused why) = refused why
replied other = 0

-- the number of a commit, where a reply has one; else what there was
abbrev pub number_in : {B : Type 0} → Reply B → ℕ → ℕ
number_in (Committed number) had = number
number_in other had = had

-- of a result
abbrev pub resulted : {T : Type 0} → Result T Refusal → ℕ
resulted (Ok done) = 0
resulted (Err why) = refused why
