-- What a search finds after an opening, if nothing was inserted or deleted since.
use Rattle.std.specs.Prelude.{ℕ, ◌≡◌, ◌≤◌, ◌==◌, ◌&&◌, Bool, true, false, List, ◌∷◌, ◌++◌}
use Rattle.std.specs.List.{list_any}
use Rattle.gx_class.specs.Traits.{Traits}
use Rattle.gx_disk.specs.Device.{Device}
use Rattle.gx_engine.specs.States.{Parts}
use Rattle.gx_events.specs.declared.event.Event.TheVariants.{Ask, Move}
use Rattle.gx_events.specs.declared.outcome.Outcome.TheVariants.{More, Replied}
use Rattle.gx_glog.specs.declared.parameters.Parameters.{Parameters}
use Rattle.gx_machine.specs.declared.call.Call.TheVariants.{Search}
use Rattle.gx_machine.specs.declared.entry.Entry.{Entry}
use Rattle.gx_machine.specs.declared.query.Query.{Query}
use Rattle.gx_machine.specs.declared.reply.Reply.{Reply}
use Rattle.gx_machine.specs.declared.reply.Reply.TheVariants as reply
use Rattle.gx_machine.specs.Keys.{Keys, Members, keys_of, matches}
use Rattle.gx_machine.specs.Machine.{newest, set_of}
use Rattle.gx_machine.specs.Sets.{InOrder, has}
use Rattle.gx_lives.specs.Lives.{Lies, Lives, Stage, Turn, Works}
use Rattle.gx_lives.specs.Lives as life
use Rattle.gx_lives.specs.OneRun.{IsOneRun}

-- a reply that reports a change
abbrev pub is_change : {B : Type 0} → Reply B → Bool
is_change reply.Inserted = true
is_change reply.Deleted = true
is_change other = false

-- a turn in which an insert or a delete is answered as done
abbrev pub changes : {B : Type 0} → Turn B → Bool
changes (life.Happens event (Replied r)) = is_change r
changes other = false

-- a turn in which this session asks
abbrev pub asks : {B : Type 0} → ℕ → Turn B → Bool
asks s (life.Happens (Ask t call) outcome) = t == s
asks s other = false

-- Among these turns a session asks for a search, which is answered with these entries. From their first to the answer no insert and no delete is
-- answered as done, by any session; and between the ask and the answer this session asks nothing else.
pub record IsSearched {B : Type 0} (s : ℕ) (query : Query B) (entries : List (Entry B)) (turns : List (Turn B)) : Type 0 where
  pub before : List (Turn B)
  pub between : List (Turn B)
  pub after : List (Turn B)
  pub parts : turns ≡ before ++ life.Happens (Ask s (Search query)) More ∷ (between ++ life.Happens (Move s) (Replied (reply.Found entries)) ∷ after)
  pub unchanged : list_any changes before ≡ false
  pub unchanged_since : list_any changes between ≡ false
  pub asks_nothing : list_any (asks s) between ≡ false

-- these are the entries of the set that match, in order, each once
pub record AreMatching {B : Type 0} (k : Keys B) (query : Query B) (set entries : List (Entry B)) : Type 0 where
  pub in_order : InOrder k entries
  pub exact : (e : Entry B) → has k e entries ≡ (matches k query e && has k e set)

-- A device that turns led to was opened. The turns are one run, the opening has the set that the run's machine keeps under a number, and so each
-- search of a life from there finds just what matches in that set, while nothing is inserted or deleted.
pub record FindsOpened {B D : Type 0} (shape : Members B) (traits : Traits B) (state : D → Device) (p : Parameters)
    (turns : List (Turn B)) (closed : D) (engine : Parts B D) : Type 0 where
  pub run : IsOneRun shape traits state p turns (Lies closed)
  pub number : ℕ
  pub at_least : run.machine.oldest ≤ number
  pub at_most : number ≤ newest run.machine
  pub finds : (later : List (Turn B)) (now : Stage B D) → Lives shape traits state (Works engine) later now
      → (s : ℕ) (query : Query B) (entries : List (Entry B)) → IsSearched s query entries later
      → AreMatching (keys_of shape) query (set_of number run.machine) entries
