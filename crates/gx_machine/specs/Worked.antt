-- A run worked out: two sessions, a conflict, two commits, of which a crash loses the one that wasn't acknowledged.
use Rattle.std.specs.Prelude.{ℕ, ◌==◌, false, List, [], ◌∷◌, ◌++◌, replicate}
use Rattle.std.specs.Ordering.{nat_cmp}
use Rattle.gx_geom.specs.declared.refusal.Refusal.TheVariants.{Busy}
use Rattle.gx_machine.specs.declared.limits.TheConstants.{SESSIONS}
use Rattle.gx_machine.specs.declared.entry.Entry.{Entry}
use Rattle.gx_machine.specs.declared.query.Query.TheVariants.{Overlap}
use Rattle.gx_machine.specs.declared.call.Call.TheVariants.{Begin, Insert, Search, Commit}
use Rattle.gx_machine.specs.declared.reply.Reply.TheVariants.{Ok, Inserted, Found, Committed, Refused}
use Rattle.gx_machine.specs.declared.reply.Asked.TheVariants.{Now, Open}
use Rattle.gx_machine.specs.Keys.{Keys}
use Rattle.gx_machine.specs.Sessions.{Changes, Idle}
use Rattle.gx_machine.specs.Machine.{Machine}
use Rattle.gx_machine.specs.Runs.{Step, Asks, Answers, Seals, Durable, Crashes}

-- numbers as keys, which overlap and lie in one another if they are the same
abbrev pub number_keys : Keys ℕ
number_keys = record { cmp = nat_cmp; overlaps = λ a b. a == b; within = λ a b. a == b }

abbrev pub first_entry : Entry ℕ
first_entry = record { row = 7; key = 1 }

abbrev pub second_entry : Entry ℕ
second_entry = record { row = 8; key = 2 }

abbrev pub first_added : Changes ℕ
first_added = record { added = first_entry ∷ []; taken = [] }

-- both sessions begin, and the first inserts an entry
abbrev pub beginning : List (Step ℕ)
beginning = Asks 1 Begin (Now Ok) ∷ Asks 2 Begin (Now Ok) ∷ Asks 1 (Insert first_entry) Open ∷ []

-- the second is kept from searching for it, as long as the first hasn't sealed its commit
abbrev pub kept_off : List (Step ℕ)
kept_off = Asks 2 (Search (Overlap 1)) (Now (Refused (Busy 1))) ∷ Asks 1 Commit Open ∷ []

-- then it searches and finds it; the first commit is durable and acknowledged; the second inserts another and commits
abbrev pub going_on : List (Step ℕ)
going_on =
    Asks 2 (Search (Overlap 1)) Open ∷ Answers 2 (Found (first_entry ∷ [])) ∷ Durable 1 ∷ Answers 1 (Committed 1)
    ∷ Asks 2 (Insert second_entry) Open ∷ Answers 2 Inserted ∷ Asks 2 Commit Open ∷ Seals 2 2 ∷ []

-- the crash leaves the first commit
abbrev pub worked_steps : List (Step ℕ)
worked_steps = beginning ++ (Answers 1 Inserted ∷ (kept_off ++ (Seals 1 1 ∷ (going_on ++ (Crashes 1 ∷ [])))))

abbrev pub worked_end : Machine ℕ
worked_end = record { older = []; latest = first_entry ∷ []; oldest = 1; sessions = replicate SESSIONS Idle; failed = false }
