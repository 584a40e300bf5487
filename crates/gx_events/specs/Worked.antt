-- An interleaving worked out: one session searches while another writes and commits, and then undoes what it deleted.
use Rattle.std.specs.Prelude.{ℕ, List, [], ◌∷◌, ◌++◌}
use Rattle.gx_geom.specs.declared.refusal.Refusal.TheVariants.{Busy}
use Rattle.gx_machine.specs.declared.entry.Entry.{Entry}
use Rattle.gx_machine.specs.declared.query.Query.TheVariants.{Overlap}
use Rattle.gx_machine.specs.declared.call.Call.TheVariants.{Begin, Insert, Delete, Search, Commit, Abort}
use Rattle.gx_machine.specs.declared.reply.Reply.TheVariants.{Ok, Refused}
use Rattle.gx_machine.specs.declared.reply.Asked.TheVariants.{Now, Open}
use Rattle.gx_machine.specs.Worked.{number_keys}
use Rattle.gx_events.specs.Engines.{Engine, opened_engine}
use Rattle.gx_events.specs.Happenings.{Happening, Asks, Inserts, Deletes, Finds, Seals, Durable, Acknowledges, Undoes, EndsUndo, Opens, Works}

-- two entries that the search matches, and one that it doesn't
abbrev pub sought : Entry ℕ
sought = record { row = 7; key = 1 }

abbrev pub passed_over : Entry ℕ
passed_over = record { row = 8; key = 2 }

abbrev pub sought_too : Entry ℕ
sought_too = record { row = 9; key = 1 }

-- the engine at first, and at the end
abbrev pub first_engine : Engine ℕ
first_engine = opened_engine number_keys 0 (sought ∷ [])

abbrev pub last_engine : Engine ℕ
last_engine = opened_engine number_keys 1 (sought ∷ passed_over ∷ [])

-- the search is open as the other session inserts
abbrev pub while_open : List (Happening ℕ)
while_open =
    Asks 1 Begin (Now Ok) ∷ Asks 2 Begin (Now Ok) ∷ Asks 1 (Search (Overlap 1)) Open ∷ Works ∷ Asks 2 (Insert passed_over) Open
    ∷ Inserts 2 passed_over ∷ Asks 2 (Delete sought) (Now (Refused (Busy 1))) ∷ Finds 1 (Overlap 1) (sought ∷ []) ∷ []

-- the predicate stays; the other commits; what the first deletes is live again once it is undone
abbrev pub afterwards : List (Happening ℕ)
afterwards =
    Asks 2 (Insert sought_too) (Now (Refused (Busy 1))) ∷ Asks 2 Commit Open ∷ Seals 2 (sought ∷ []) 1 ∷ Asks 1 (Delete sought) Open
    ∷ Deletes 1 sought ∷ Durable 1 ∷ Acknowledges 2 1 ∷ Asks 1 Abort Open ∷ Undoes 1 sought ∷ EndsUndo 1 ∷ Opens 1 ∷ []

abbrev pub worked_events : List (Happening ℕ)
worked_events = while_open ++ afterwards
