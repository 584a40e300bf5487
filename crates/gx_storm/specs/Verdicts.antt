-- The verdict on a storm, by its record and by the replies that its sessions got.
use Rattle.std.specs.Prelude.{ℕ, ◌≡◌, ◌⊎◌, ◌+◌, ◌<◌, List, None, Some, slice_get, length, vec_len}
use Rattle.gx_geom.specs.declared.refusal.Refusal.{Refusal}
use Rattle.gx_geom.specs.declared.refusal.Refusal.TheVariants as refusal
use Rattle.gx_machine.specs.declared.item.Item.{Item}
use Rattle.gx_machine.specs.Keys.{Keys}
use Rattle.gx_machine.specs.Machine.{Machine, fresh_machine}
use Rattle.gx_events.specs.declared.engine.Events.{Ghosts}
use Rattle.gx_events.specs.Replay.{ReplaysAs}
use Rattle.gx_shared.specs.Agreed.{replies_of}
use Rattle.gx_shared.specs.Books.{Stands}
use Rattle.gx_shared.specs.declared.record.TheConstants.{RECORD}
use Rattle.gx_storm.specs.Mismatches.{AreFaultless, StopsAt}
use Rattle.gx_storm.specs.Refusals.{least_given_up, least_told, lesser}
use Rattle.gx_storm.specs.declared.handed.Handed.{Handed}
use Rattle.gx_storm.specs.declared.threads.Storm.{Storm}
use Rattle.gx_storm.specs.declared.verdict.Verdict.{Verdict}
use Rattle.gx_storm.specs.declared.verdict.Verdict.TheVariants as verdict

-- The record has exactly the replies that a session got, and unless a call was given up, a reply to each of its calls.
pub record HasReplies {B : Type 0} (calls : ℕ) (items : List (Item B)) (s : ℕ) (h : Handed B) : Type 0 where
  pub same : replies_of s items ≡ h.replies.items
  pub each : h.given_up ≡ None → vec_len h.replies ≡ calls

-- this holds of each session; their numbers begin at 1
abbrev pub HasAll : {B : Type 0} → ℕ → List (Item B) → List (Handed B) → Type 0
HasAll {B} calls items all = (i : ℕ) (h : Handed B) → slice_get all i ≡ Some h → HasReplies calls items (i + 1) h

-- it doesn't hold of some session
pub record LacksReplies {B : Type 0} (calls : ℕ) (items : List (Item B)) (all : List (Handed B)) : Type 0 where
  pub place : ℕ
  pub handed : Handed B
  pub at : slice_get all place ≡ Some handed
  pub differs : HasReplies calls items (place + 1) handed → ⊥

-- The storm is sound: the replay of its record, from nothing committed, is defined; no fault was met and the record had
-- room; and the record has a reply to each call of each session, which is the one that the session got.
pub record IsSound {B : Type 0} (k : Keys B) (calls : ℕ) (items : List (Item B)) (all : List (Handed B)) : Type 0 where
  pub faultless : AreFaultless items
  pub end : Machine B
  pub replays : ReplaysAs k fresh_machine items end
  pub replies : HasAll calls items all
  pub none : least_given_up all ≡ None

-- The place is where the replay stops; or it is the record's length, and replies of a session aren't in the record.
abbrev pub IsMismatchAt : {B : Type 0} → Keys B → ℕ → List (Item B) → List (Handed B) → ℕ → Type 0
IsMismatchAt k calls items all place =
    (AreFaultless items → StopsAt k fresh_machine items place) ⊎ ((place ≡ length items) × LacksReplies calls items all)

-- Of the refusals that were answered this is the least, and the record has the replies of each session.
pub record IsLeast {B : Type 0} (calls : ℕ) (items : List (Item B)) (all : List (Handed B)) (why : Refusal) : Type 0 where
  pub least : lesser (least_told items) (least_given_up all) ≡ Some why
  pub replies : HasAll calls items all

-- what a verdict says
abbrev pub Says : {B : Type 0} → Keys B → ℕ → List (Item B) → List (Handed B) → Verdict → Type 0
Says k calls items all verdict.Sound = IsSound k calls items all
Says k calls items all (verdict.Mismatch place) = IsMismatchAt k calls items all place
Says k calls items all (verdict.Refused why) =
    (why ≡ refusal.Memory) ⊎ (((why ≡ refusal.HistoryFull) × (RECORD < length items)) ⊎ IsLeast calls items all why)

-- A storm over an engine has ended: there is a record of as many sessions as it has, of which the verdict says this. If
-- the engine's assumptions hold, replaying the record from the machine that the run starts at gives one that the engine
-- is seen as now.
pub record EndsStorm {B E : Type 0} (k : Keys B) (events : Ghosts E B) (starts : Machine B → Type 0) (storm : Storm)
    (said : Verdict) (engine : E) : Type 0 where
  pub items : List (Item B)
  pub all : List (Handed B)
  pub count : length all ≡ storm.sessions
  pub says : Says k storm.calls items all said
  pub stands : events.granted → Stands k events.sees starts engine items

-- the verdict if the replay of the record is defined
abbrev pub Agrees : {B : Type 0} → ℕ → List (Item B) → List (Handed B) → Verdict → Type 0
Agrees calls items all verdict.Sound = HasAll calls items all × (lesser (least_told items) (least_given_up all) ≡ None)
Agrees calls items all (verdict.Mismatch place) = (place ≡ length items) × LacksReplies calls items all
Agrees calls items all (verdict.Refused why) = IsLeast calls items all why
