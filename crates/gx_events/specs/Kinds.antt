-- Kinds of events: whose they are, which change the committed set, which a failed engine may have.
use Rattle.std.specs.Prelude.{ℕ, ◌==◌, Bool, true, false, not}
use Rattle.gx_geom.specs.declared.refusal.Refusal.{Refusal}
use Rattle.gx_geom.specs.declared.refusal.Refusal.TheVariants as refusal
use Rattle.gx_events.specs.Happenings.{Happening, Asks, RefusesAsk, Inserts, Deletes, FindsPresent, FindsAbsent, Finds, Closes, Seals, Durable, Acknowledges, Undoes, EndsUndo, RefusesCall, Fails, Opens, Works}

-- the event isn't one of this session, and the engine isn't lost by it
abbrev pub is_of_another : {B : Type 0} → ℕ → Happening B → Bool
is_of_another s (Asks t call given) = not (t == s)
is_of_another s (RefusesAsk t call why) = not (t == s)
is_of_another s (Inserts t e) = not (t == s)
is_of_another s (Deletes t e) = not (t == s)
is_of_another s (FindsPresent t e) = not (t == s)
is_of_another s (FindsAbsent t e) = not (t == s)
is_of_another s (Finds t query entries) = not (t == s)
is_of_another s (Closes t call why) = not (t == s)
is_of_another s (Seals t set number) = not (t == s)
is_of_another s (Durable number) = true
is_of_another s (Acknowledges t number) = not (t == s)
is_of_another s (Undoes t e) = not (t == s)
is_of_another s (EndsUndo t) = not (t == s)
is_of_another s (RefusesCall t why) = not (t == s)
is_of_another s Fails = true
is_of_another s (Opens number) = false
is_of_another s Works = true

-- the events that change the committed set: a commit, and an opening
abbrev pub changes_what_stood : {B : Type 0} → Happening B → Bool
changes_what_stood (Asks s call given) = false
changes_what_stood (RefusesAsk s call why) = false
changes_what_stood (Inserts s e) = false
changes_what_stood (Deletes s e) = false
changes_what_stood (FindsPresent s e) = false
changes_what_stood (FindsAbsent s e) = false
changes_what_stood (Finds s query entries) = false
changes_what_stood (Closes s call why) = false
changes_what_stood (Seals s set number) = true
changes_what_stood (Durable number) = false
changes_what_stood (Acknowledges s number) = false
changes_what_stood (Undoes s e) = false
changes_what_stood (EndsUndo s) = false
changes_what_stood (RefusesCall s why) = false
changes_what_stood Fails = false
changes_what_stood (Opens number) = true
changes_what_stood Works = false

-- the refusal of what is asked of an engine that has failed
abbrev pub is_failed : Refusal → Bool
is_failed refusal.Failed = true
is_failed other = false

-- the events that a failed engine may have
abbrev pub may_follow_failure : {B : Type 0} → Happening B → Bool
may_follow_failure (Asks s call given) = false
may_follow_failure (RefusesAsk s call why) = is_failed why
may_follow_failure (Inserts s e) = false
may_follow_failure (Deletes s e) = false
may_follow_failure (FindsPresent s e) = false
may_follow_failure (FindsAbsent s e) = false
may_follow_failure (Finds s query entries) = false
may_follow_failure (Closes s call why) = false
may_follow_failure (Seals s set number) = false
may_follow_failure (Durable number) = false
may_follow_failure (Acknowledges s number) = false
may_follow_failure (Undoes s e) = false
may_follow_failure (EndsUndo s) = false
may_follow_failure (RefusesCall s why) = is_failed why
may_follow_failure Fails = true
may_follow_failure (Opens number) = true
may_follow_failure Works = true

-- an opening
abbrev pub is_opening : {B : Type 0} → Happening B → Bool
is_opening (Opens number) = true
is_opening other = false
