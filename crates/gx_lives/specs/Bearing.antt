-- What the stages of a life have of the set machine.
use Rattle.std.specs.Prelude.{ℕ, ◌≡◌, ◌≤◌, true, List, [], ◌∷◌}
use Rattle.gx_class.specs.Traits.{Traits, own}
use Rattle.gx_disk.specs.Device.{Device, MayLeave}
use Rattle.gx_durable.specs.Area.{area_of}
use Rattle.gx_durable.specs.Fitting.{AreGood, HasSizes}
use Rattle.gx_durable.specs.Head.{head_in}
use Rattle.gx_engine.specs.Holds.{Holds}
use Rattle.gx_engine.specs.States.{Parts}
use Rattle.gx_engine_events.specs.Crashes.{StandsForSet}
use Rattle.gx_events.specs.Engines.{SeenAs}
use Rattle.gx_events.specs.Happens as events
use Rattle.gx_format.specs.Formatting.{sectors_of}
use Rattle.gx_glog.specs.declared.parameters.Parameters.{Parameters}
use Rattle.gx_index_laws.specs.Classes.{Class, Page, known_of}
use Rattle.gx_index_laws.specs.States as index
use Rattle.gx_index_laws.specs.States.{engine_of}
use Rattle.gx_machine.specs.declared.entry.Entry.{Entry}
use Rattle.gx_machine.specs.Keys.{Keys, Members, keys_of}
use Rattle.gx_machine.specs.Machine.{Machine}
use Rattle.gx_machine.specs.Runs as runs
use Rattle.gx_node.specs.Reading.{format_of, is_node}
use Rattle.gx_opening.specs.Formatted.{head_of}
use Rattle.gx_opening.specs.Standing.{limits_of}
use Rattle.gx_durable.specs.Classes.{class_of, reading_of}
use Rattle.gx_recovery.specs.Damage.{records_of}
use Rattle.gx_recovery.specs.Records.{Record}
use Rattle.gx_lives.specs.Lives.{Lies, Stage, Turn, Works}
use Rattle.gx_lives.specs.Lives as life
use Rattle.gx_lives.specs.Told.{TellsUpkeep}

-- What a turn is of the machine: an event is what it does by its outcome; an opening is a crash of the machine, to a
-- set that it keeps; a reading makes commits durable at most, or meets a fault; nothing else changes the machine.
abbrev pub IsOf : {B : Type 0} → Keys B → Machine B → Turn B → Machine B → Type 0
IsOf k old (life.Happens event outcome) new = events.Happens k old event outcome new
IsOf k old life.Crashes new = new ≡ old
IsOf k old life.GivesUp new = new ≡ old
IsOf k old life.Opens new = (number : ℕ) × runs.IsStep k old (runs.Crashes number) new
IsOf k old (life.Refuses why) new = new ≡ old
IsOf {B} k old life.Reads new = (steps : List (runs.Step B)) × TellsUpkeep steps × runs.IsRun k old steps new

-- turn by turn
abbrev pub AreOf : {B : Type 0} → Keys B → Machine B → List (Turn B) → Machine B → Type 0
AreOf k old [] new = new ≡ old
AreOf {B} k old (turn ∷ turns) new = (middle : Machine B) × IsOf k old turn middle × AreOf k middle turns new

module _ {B D : Type 0} (shape : Members B) (traits : Traits B) (state : D → Device) (p : Parameters) where
  -- the class of keys within the limits of a format
  abbrev pub class_for : Class B
  class_for = class_of shape traits.is_proper (limits_of p)

  -- An image says what it was formatted for, and stands for the set that a machine keeps under its log's number, over pages that are good for
  -- the log; and bodies and pages can be read.
  pub record HasSet (m : Machine B) (image : List ℕ) : Type 0 where
    pub head : head_in image ≡ head_of p
    pub stands : StandsForSet class_for (reading_of traits.said (format_of (own traits))) m image
    pub sizes : HasSizes image
    pub good : AreGood (known_of class_for) (reading_of traits.said (format_of (own traits))) (area_of (reading_of traits.said (format_of (own traits))) p.pages image) (records_of stands.bodies)

  -- An engine holds an index that is seen as a machine.
  pub record IsSeen (m : Machine B) (e : Parts B D) : Type 0 where
    pub bodies : List (List (Record (Entry B) (Page B)))
    pub index : index.State B
    pub holds : Holds class_for (reading_of traits.said (format_of (own traits))) (format_of (own traits)) (is_node (format_of (own traits))) (state e.volume.shelf.disk) e bodies index
    pub seen : SeenAs (keys_of shape) (engine_of class_for index) m

  -- A device has the sectors of its pages, and whatever a crash may leave of it has a set of a machine.
  pub record HasSets (m : Machine B) (d : Device) : Type 0 where
    pub honest : d.honest ≡ true
    pub large : sectors_of p.pages ≤ d.sectors
    pub sets : (image : List ℕ) → MayLeave d image → HasSet m image

  -- so of either stage
  abbrev pub Bears : Machine B → Stage B D → Type 0
  Bears m (Works e) = IsSeen m e
  Bears m (Lies d) = HasSets m (state d)
