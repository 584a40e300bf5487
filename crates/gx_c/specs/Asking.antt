-- What a session's call of an open index does, and what C gets of its reply.
use Rattle.std.specs.Prelude.{◌≡◌, ◌-◌, ℕ, List, [], slice_set, Option, None, Some, Result, Ok, Err, if◌then◌else◌, OnOk}
use Rattle.std.specs.List.{slice_index_or}
use Rattle.gx_class.specs.Traits.{Traits}
use Rattle.gx_disk.specs.Device.{Device}
use Rattle.gx_geom.specs.Rectangles.{Rectangle}
use Rattle.gx_geom.specs.Solids.{Solid}
use Rattle.gx_geom.specs.declared.refusal.Refusal.{Refusal}
use Rattle.gx_machine.specs.Keys.{Members}
use Rattle.gx_machine.specs.Machine.{is_session}
use Rattle.gx_machine.specs.declared.call.Call.{Call}
use Rattle.gx_machine.specs.declared.call.Call.TheVariants as call
use Rattle.gx_machine.specs.declared.entry.Entry.{Entry}
use Rattle.gx_machine.specs.declared.query.Query.{Query}
use Rattle.gx_machine.specs.declared.reply.Reply.{Reply}
use Rattle.gx_machine.specs.declared.reply.Reply.TheVariants.{Found}
use Rattle.gx_events.specs.declared.outcome.Outcome.TheVariants.{Replied}
use Rattle.gx_recovery.specs.Known.{Limits}
use Rattle.gx_engine.specs.Calls.{TellsAs, TellsWhy}
use Rattle.gx_engine.specs.Made.{Makes}
use Rattle.gx_engine.specs.Resting.{IsAtRest, KeepsSessions}
use Rattle.gx_queue_disk.specs.declared.disk.QueueDisk.{QueueDisk}
use Rattle.gx_restart.specs.Called.{CallsIndex, EndsWhereHeld}
use Rattle.gx_restart.specs.Setting.{RunsOnAs}
use Rattle.gx_restart.specs.Settled.{Settles}
use Rattle.gx_restart.specs.States.{State}
use Rattle.gx_c.specs.Sent.{IsBoxOf, IsSolidOf, IsTold, IsUntold, query_of, sent_entry, sent_entry3}
use Rattle.gx_c.specs.States.{Opened}
use Rattle.gx_c.specs.Statuses.{number_in, refused, replied, resulted}
use Rattle.gx_c.specs.Stages.{NOTHING, OfOpen, OfPlane, OfSpace}
use Rattle.gx_c.specs.declared.entries.Writing.{Writing}
use Rattle.gx_c.specs.declared.entries.Writing.TheVariants as writing
use Rattle.gx_c.specs.declared.sent.SentBox.{SentBox}
use Rattle.gx_c.specs.declared.sent.SentBox3.{SentBox3}
use Rattle.gx_c.specs.declared.sent.SentCount.{SentCount}
use Rattle.gx_c.specs.declared.sent.SentEntry.{SentEntry}
use Rattle.gx_c.specs.declared.sent.SentEntry3.{SentEntry3}
use Rattle.gx_c.specs.declared.held.Stage.{Stage}
use Rattle.gx_c.specs.declared.transactions.Word.{Word}
use Rattle.gx_c.specs.declared.transactions.Word.TheVariants.{Begin, Abort}

-- a call without a key
abbrev pub call_of : {B : Type 0} → Word → Call B
call_of Begin = call.Begin
call_of Abort = call.Abort

-- a call with an entry
abbrev pub writing_of : {B : Type 0} → Writing → Entry B → Call B
writing_of writing.Insert entry = call.Insert entry
writing_of writing.Delete entry = call.Delete entry

-- what sessions found, after a session's search with this reply
abbrev pub keeps_found : {B : Type 0} → ℕ → Reply B → List (List (Entry B)) → List (List (Entry B))
keeps_found session (Found entries) found = if is_session session then slice_set found (session - 1) entries else found
keeps_found session other found = found

-- what a session found
abbrev pub found_by : {B : Type 0} → ℕ → List (List (Entry B)) → List (Entry B)
found_by session found = if is_session session then slice_index_or found (session - 1) [] else []

-- Of what a session found, C gets the front, and of other sessions nothing changes.
pub record TellsOpen {B S : Type 0} (sent : Entry B → S) (session : ℕ) (old new : Opened B) (had out : List S) (count : SentCount) : Type 0 where
  pub tells : IsTold sent (found_by session old.found) (found_by session new.found) had out count
  pub index : new.index ≡ old.index
  pub others : (other : ℕ) → (other ≡ session → ⊥) → found_by other new.found ≡ found_by other old.found

module _ {B : Type 0} (shape : Members B) (traits : Traits B) (state : QueueDisk → Device) where
  -- A session's call of an index was given this reply.
  pub record Asks (session : ℕ) (asked : Call B) (old new : State B QueueDisk) (reply : Reply B) : Type 0 where
    pub calls : CallsIndex (Makes shape traits state) old session asked reply new
    pub told : TellsAs state old.engine new.engine (Replied reply)
    pub runs : RunsOnAs shape traits state old.engine new.engine
    pub ends : (l : Limits) → EndsWhereHeld shape traits state l old new

  -- C gets the status of its reply.
  pub record AsksOpen (session : ℕ) (asked : Call B) (old new : Opened B) (status : ℕ) : Type 0 where
    pub reply : Reply B
    pub asks : Asks session asked old.index new.index reply
    pub status_is : status ≡ replied reply
    pub same : new.found ≡ old.found

  -- and the number, of a commit
  pub record CommitsOpen (session had number : ℕ) (old new : Opened B) (status : ℕ) : Type 0 where
    pub reply : Reply B
    pub asks : Asks session call.Commit old.index new.index reply
    pub status_is : status ≡ replied reply
    pub number_is : number ≡ number_in reply had
    pub same : new.found ≡ old.found

  -- of an entry's insert or delete, where its key is one; else it isn't asked
  abbrev pub WritesOpen : Writing → ℕ → ℕ → Result B Refusal → Opened B → Opened B → ℕ → Type 0
  WritesOpen writing session row (Ok key) old new status =
      AsksOpen session (writing_of writing (record { row = row; key = key })) old new status
  WritesOpen writing session row (Err why) old new status = (status ≡ refused why) × (new ≡ old)

  -- A search was asked, and what it found is kept for its session.
  pub record KeepsOpen (session : ℕ) (query : Query B) (old new : Opened B) (status : ℕ) : Type 0 where
    pub reply : Reply B
    pub asks : Asks session (call.Search query) old.index new.index reply
    pub status_is : status ≡ replied reply
    pub keeps : new.found ≡ keeps_found session reply old.found

  -- A search was asked; if it was answered, C gets the front of what it found, else nothing.
  pub record SearchesOpen {S : Type 0} (sent : Entry B → S) (session : ℕ) (query : Query B) (had out : List S)
      (count : SentCount) (old new : Opened B) (status : ℕ) : Type 0 where
    pub middle : Opened B
    pub keeps : KeepsOpen session query old middle status
    pub answered : status ≡ 0 → TellsOpen sent session middle new had out count
    pub unanswered : (status ≡ 0 → ⊥) → IsUntold had out count × (new ≡ middle)

  -- where the query is of a kind
  abbrev pub SearchesKind : {S : Type 0} → (Entry B → S) → ℕ → Option (Query B) → List S → List S → SentCount → Opened B → Opened B → ℕ → Type 0
  SearchesKind sent session (Some query) had out count old new status = SearchesOpen sent session query had out count old new status
  SearchesKind sent session None had out count old new status = (status ≡ NOTHING) × (IsUntold had out count × (new ≡ old))

  -- and its key is one
  abbrev pub SearchesFor : {S : Type 0} → (Entry B → S) → ℕ → ℕ → Result B Refusal → List S → List S → SentCount → Opened B → Opened B → ℕ → Type 0
  SearchesFor sent session kind (Ok key) had out count old new status = SearchesKind sent session (query_of kind key) had out count old new status
  SearchesFor sent session kind (Err why) had out count old new status = (status ≡ refused why) × (IsUntold had out count × (new ≡ old))

  -- All that is logged was gated.
  pub record SettlesOpen (old new : Opened B) (status : ℕ) : Type 0 where
    pub result : Result (Unit {0}) Refusal
    pub settles : Settles (Makes shape traits state) old.index result new.index
    pub told : TellsWhy state old.index.engine new.index.engine result
    pub runs : RunsOnAs shape traits state old.index.engine new.index.engine
    pub rests : OnOk result (IsAtRest new.index.engine)
    pub keeps : KeepsSessions old.index.engine new.index.engine
    pub status_is : status ≡ resulted result
    pub same : new.found ≡ old.found

module _ (box : Members Rectangle) (boxes : Traits Rectangle) (solid : Members Solid) (solids : Traits Solid)
    (state : QueueDisk → Device) where
  -- a call without a key, of whatever index is open
  abbrev pub AsksEach : Word → ℕ → Stage → Stage → ℕ → Type 0
  AsksEach word session =
      OfOpen (AsksOpen box boxes state session (call_of word)) (AsksOpen solid solids state session (call_of word))

  abbrev pub CommitsEach : ℕ → ℕ → ℕ → Stage → Stage → ℕ → Type 0
  CommitsEach session had number =
      OfOpen (CommitsOpen box boxes state session had number) (CommitsOpen solid solids state session had number)

  abbrev pub SettlesEach : Stage → Stage → ℕ → Type 0
  SettlesEach = OfOpen (SettlesOpen box boxes state) (SettlesOpen solid solids state)

-- of an entry of the plane
module _ (shape : Members Rectangle) (traits : Traits Rectangle) (state : QueueDisk → Device) where
  pub record WritesBox (session : ℕ) (writing : Writing) (row : ℕ) (sent : SentBox) (old new : Opened Rectangle) (status : ℕ) : Type 0 where
    pub key : Result Rectangle Refusal
    pub is : IsBoxOf sent key
    pub writes : WritesOpen shape traits state writing session row key old new status

  abbrev pub WritesPlane : ℕ → Writing → ℕ → SentBox → Stage → Stage → ℕ → Type 0
  WritesPlane session writing row sent = OfPlane (WritesBox session writing row sent)

  pub record SearchesBox (session kind : ℕ) (sent : SentBox) (had out : List SentEntry) (count : SentCount) (old new : Opened Rectangle) (status : ℕ) : Type 0 where
    pub key : Result Rectangle Refusal
    pub is : IsBoxOf sent key
    pub searches : SearchesFor shape traits state sent_entry session kind key had out count old new status

  abbrev pub SearchesPlane : (session kind : ℕ) → SentBox → (had out : List SentEntry) → SentCount → Stage → Stage → ℕ → Type 0
  SearchesPlane session kind sent had out count = OfPlane (SearchesBox session kind sent had out count)

-- of an entry of space
module _ (shape : Members Solid) (traits : Traits Solid) (state : QueueDisk → Device) where
  pub record WritesSolid (session : ℕ) (writing : Writing) (row : ℕ) (sent : SentBox3) (old new : Opened Solid) (status : ℕ) : Type 0 where
    pub key : Result Solid Refusal
    pub is : IsSolidOf sent key
    pub writes : WritesOpen shape traits state writing session row key old new status

  abbrev pub WritesSpace : ℕ → Writing → ℕ → SentBox3 → Stage → Stage → ℕ → Type 0
  WritesSpace session writing row sent = OfSpace (WritesSolid session writing row sent)

  pub record SearchesSolid (session kind : ℕ) (sent : SentBox3) (had out : List SentEntry3) (count : SentCount) (old new : Opened Solid) (status : ℕ) : Type 0 where
    pub key : Result Solid Refusal
    pub is : IsSolidOf sent key
    pub searches : SearchesFor shape traits state sent_entry3 session kind key had out count old new status

  abbrev pub SearchesSpace : (session kind : ℕ) → SentBox3 → (had out : List SentEntry3) → SentCount → Stage → Stage → ℕ → Type 0
  SearchesSpace session kind sent had out count = OfSpace (SearchesSolid session kind sent had out count)

-- C gets more of what a session found.
abbrev pub TellsMore : {B S : Type 0} → (Entry B → S) → ℕ → List S → List S → SentCount → Opened B → Opened B → ℕ → Type 0
TellsMore sent session had out count old new status = (status ≡ 0) × TellsOpen sent session old new had out count
