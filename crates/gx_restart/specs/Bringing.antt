-- A page that is brought, after the events that free a frame for it.
use Rattle.std.specs.Prelude.{ℕ, zero, suc, ◌≡◌, ◌≤◌, ◌<◌, ◌⊎◌, Bool, true, false, length, Result, Ok, Err, List, [], ◌∷◌}
use Rattle.gx_geom.specs.declared.refusal.Refusal.{Refusal}
use Rattle.gx_class.specs.Traits.{Traits, own}
use Rattle.gx_disk.specs.Device.{Device}
use Rattle.gx_machine.specs.Keys.{Members}
use Rattle.gx_node.specs.Reading.{format_of, is_node}
use Rattle.gx_recovery.specs.Known.{Limits}
use Rattle.gx_durable.specs.Classes.{class_of, reading_of}
use Rattle.gx_node.specs.Store.{Stays}
use Rattle.gx_store.specs.Standing.{store_of}
use Rattle.gx_store.specs.State.{IsSteady}
use Rattle.gx_events.specs.declared.outcome.Need.{Need}
use Rattle.gx_events.specs.declared.outcome.Outcome.{Outcome}
use Rattle.gx_events.specs.declared.outcome.Outcome.TheVariants.{Replied, More, Help, Nothing, Refused}
use Rattle.gx_events.specs.Steps.{IsSync}
use Rattle.gx_engine.specs.Ending.{SparesSo}
use Rattle.gx_engine.specs.Holds.{Leads}
use Rattle.gx_engine.specs.Lending.{BringPageComes}
use Rattle.gx_engine.specs.States.{IsOrderly, Parts}
use Rattle.gx_engine.specs.Sweeping.{bring_events}
use Rattle.gx_engine.specs.Helping.{HelpComes}
use Rattle.gx_restart.specs.declared.text.stop.Stop.{Stop}
use Rattle.gx_restart.specs.declared.text.stop.Stop.TheVariants as stop

module _ {B D : Type 0} (shape : Members B) (traits : Traits B) (state : D → Device) where
  -- A page was to be brought, with this result, as the contract of an engine has it.
  pub record Brings (page : ℕ) (old : Parts B D) (result : Result (Unit {0}) (Outcome B)) (new : Parts B D) : Type 0 where
    pub comes : BringPageComes (is_node (format_of (own traits))) (state old.volume.shelf.disk) (state new.volume.shelf.disk) old new old.sessions.failed result
    pub stays : Stays (IsSteady (state old.volume.shelf.disk) old.volume.shelf.frames) (store_of (format_of (own traits)) (state old.volume.shelf.disk).seen old.volume.shelf)
        (store_of (format_of (own traits)) (state new.volume.shelf.disk).seen new.volume.shelf)
    pub leads : (l : Limits) → Leads (class_of shape traits.is_proper l) (reading_of traits.said (format_of (own traits))) (format_of (own traits)) (is_node (format_of (own traits)))
        (state old.volume.shelf.disk) (state new.volume.shelf.disk) old new (bring_events result)
    pub order : IsOrderly old × IsOrderly new

  -- The event that was named was made, with this outcome, as the contract of an engine has it.
  pub record Helps (named : Need) (old : Parts B D) (outcome : Outcome B) (new : Parts B D) : Type 0 where
    pub comes : HelpComes (state old.volume.shelf.disk) (state new.volume.shelf.disk) named old new outcome
    pub spares : (l : Limits) → SparesSo (class_of shape traits.is_proper l) (reading_of traits.said (format_of (own traits))) (format_of (own traits)) (is_node (format_of (own traits)))
        (state old.volume.shelf.disk) (state new.volume.shelf.disk) old new (IsSync old.sessions.failed outcome)

-- an event that was not refused
abbrev pub IsMade : {B : Type 0} → Outcome B → Type 0
IsMade (Replied reply) = Unit {0}
IsMade More = Unit {0}
IsMade (Help named) = Unit {0}
IsMade Nothing = Unit {0}
IsMade (Refused why) = ⊥

-- the event that was named was made, or refused
abbrev pub IsHelped : {B D : Type 0} → (Need → Parts B D → Outcome B → Parts B D → Type 0) → Need → Parts B D → Result (Unit {0}) Refusal → Parts B D → Type 0
IsHelped {B} helps named old (Ok done) new = (outcome : Outcome B) × helps named old outcome new × IsMade outcome
IsHelped helps named old (Err why) new = helps named old (Refused why) new

module _ {B D : Type 0} (brings : Parts B D → Result (Unit {0}) (Outcome B) → Parts B D → Type 0) (helps : Need → Parts B D → Outcome B → Parts B D → Type 0) where
  -- A turn: the page found no frame, and the event that was named was made.
  pub record IsTurn (old new : Parts B D) : Type 0 where
    pub named : Need
    pub middle : Parts B D
    pub outcome : Outcome B
    pub waits : brings old (Err (Help named)) middle
    pub helped : helps named middle outcome new
    pub made : IsMade outcome

  -- The page found no frame, and the event that was named was refused.
  pub record IsUnhelped (old : Parts B D) (why : Refusal) (new : Parts B D) : Type 0 where
    pub named : Need
    pub middle : Parts B D
    pub waits : brings old (Err (Help named)) middle
    pub refused : helps named middle (Refused why) new

  abbrev pub IsRefused : Parts B D → Refusal → Parts B D → Type 0
  IsRefused old why new = brings old (Err (Refused why)) new ⊎ IsUnhelped old why new

  -- whether the page was brought, where nothing was refused
  abbrev pub IsTaken : Parts B D → Result Bool Refusal → Parts B D → Type 0
  IsTaken old (Ok true) new = brings old (Ok tt) new
  IsTaken old (Ok false) new = IsTurn old new
  IsTaken old (Err why) new = IsRefused old why new

  -- turns one after another, through these engines
  abbrev pub AreTurns : Parts B D → List (Parts B D) → Parts B D → Type 0
  AreTurns old [] new = new ≡ old
  AreTurns old (middle ∷ engines) new = IsTurn old middle × AreTurns middle engines new

  -- so many turns
  pub record HasTurned (old : Parts B D) (count : ℕ) (new : Parts B D) : Type 0 where
    pub engines : List (Parts B D)
    pub turns : AreTurns old engines new
    pub many : length engines ≡ count

  -- after fewer turns than 2^56
  pub record IsAfter (old : Parts B D) (Last : Parts B D → Type 0) : Type 0 where
    pub count : ℕ
    pub middle : Parts B D
    pub turned : HasTurned old count middle
    pub few : count < 72057594037927936
    pub last : Last middle

  -- A page was brought after turns; or was refused after turns; or 2^56 turns were made, and it wasn't brought.
  abbrev pub IsBrought : Parts B D → Result (Unit {0}) Stop → Parts B D → Type 0
  IsBrought old (Ok done) new = IsAfter old (λ middle. brings middle (Ok tt) new)
  IsBrought old (Err stop.Write) new = ⊥
  IsBrought old (Err (stop.Refused why)) new = IsAfter old (λ middle. IsRefused middle why new)
  IsBrought old (Err stop.GivenUp) new = HasTurned old 72057594037927936 new

module _ {B D : Type 0} (brings : ℕ → Parts B D → Result (Unit {0}) (Outcome B) → Parts B D → Type 0) (helps : Need → Parts B D → Outcome B → Parts B D → Type 0) where
  -- A page was brought and written; or it was brought, and the writer failed; or it wasn't brought.
  abbrev pub IsTold : ℕ → Parts B D → Result (Unit {0}) Stop → Parts B D → Type 0
  IsTold page old (Ok done) new = IsBrought (brings page) helps old (Ok tt) new
  IsTold page old (Err stop.Write) new = IsBrought (brings page) helps old (Ok tt) new
  IsTold page old (Err (stop.Refused why)) new = IsBrought (brings page) helps old (Err (stop.Refused why)) new
  IsTold page old (Err stop.GivenUp) new = IsBrought (brings page) helps old (Err stop.GivenUp) new

  -- the pages from 1 to a number were brought, one after another
  abbrev pub AreBrought : Parts B D → ℕ → Parts B D → Type 0
  AreBrought old zero new = new ≡ old
  AreBrought old (suc n) new = (middle : Parts B D) × AreBrought old n middle × IsBrought (brings (suc n)) helps middle (Ok tt) new

  -- Some were, and the next one wasn't.
  pub record AreBroughtTo (old : Parts B D) (stopped : Stop) (new : Parts B D) : Type 0 where
    pub count : ℕ
    pub more : count < old.volume.shelf.used
    pub middle : Parts B D
    pub brought : AreBrought old count middle
    pub next : IsBrought (brings (suc count)) helps middle (Err stopped) new

  -- All pages were brought; or some, and the writer failed; or some, and the next one wasn't.
  abbrev pub IsRead : Parts B D → Result (Unit {0}) Stop → Parts B D → Type 0
  IsRead old (Ok done) new = AreBrought old old.volume.shelf.used new
  IsRead old (Err stop.Write) new = (count : ℕ) × (count ≤ old.volume.shelf.used) × AreBrought old count new
  IsRead old (Err (stop.Refused why)) new = AreBroughtTo old (stop.Refused why) new
  IsRead old (Err stop.GivenUp) new = AreBroughtTo old stop.GivenUp new
