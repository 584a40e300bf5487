-- What clauses say of a class of keys and of a device, from what their traits say of them.
use Rattle.std.specs.Prelude.{◌≡◌, ℕ, ◌≤◌, List, Option, Result, IfErr}
use Rattle.gx_geom.specs.declared.refusal.Refusal.{Refusal}
use Rattle.gx_machine.specs.declared.entry.Entry.{Entry}
use Rattle.gx_machine.specs.Keys.{Members}
use Rattle.gx_class.specs.Traits.{Traits, own}
use Rattle.gx_class.specs.declared.class.KeyClass.{Ghosts}
use Rattle.gx_disk.specs.Device.{Device}
use Rattle.gx_glog.specs.declared.parameters.Parameters.{Parameters}
use Rattle.gx_node.specs.Keyed.{rules_of}
use Rattle.gx_node.specs.Reading.{format_of, is_node}
use Rattle.gx_recovery.specs.Analysis.{Analysis}
use Rattle.gx_recovery.specs.Known.{Limits}
use Rattle.gx_recovery.specs.Records.{Touch}
use Rattle.gx_durable.specs.Classes.{known_at, reading_by}
use Rattle.gx_store.specs.State.{Shelf}
use Rattle.gx_opening.specs.declared.damage.Damage.{Damage}
use Rattle.gx_opening.specs.declared.standing.Standing.{Standing}
use Rattle.gx_opening.specs.Shown.{Examines, Finds, FindsDamage, HoldsDamaged, IndexFinds, IsLack, LeavesDamaged, PagesShow, TreeShows}
use Rattle.gx_opening.specs.Sound.{AreSound, CanAllBeRead, IsShownSound, IsSoundStore, IsSteadyStore, shown_tree}
use Rattle.gx_opening.specs.Standing.{FindsInOrder, FoundStands, IsFormatted, IsStood, IsTested, SoundIsGood, Stands, StaysSafe}

-- a store's pages can be read, and their tree is legal and has what was touched in its place
abbrev pub IsSoundStoreAs : {C B D : Type 0} → Members B → Ghosts C B → (D → Device) → ℕ → List (Touch (Entry B)) → Shelf D → Type 0
IsSoundStoreAs shape class state most touched s =
    IsSoundStore (format_of class) (is_node (format_of class)) state (rules_of shape most) touched s

-- the outcome of a test of the tree that a store shows, whose pages can be read
abbrev pub TreeFinds : {C B D : Type 0} → Members B → Ghosts C B → (D → Device) → ℕ → List (Touch (Entry B)) → Shelf D → Result (Option Damage) Refusal → Type 0
TreeFinds shape class state most touched s result =
    IsSteadyStore (format_of class) (is_node (format_of class)) state s → CanAllBeRead (is_node (format_of class) s.pages) s.used (state s.disk).seen
    → Finds (IsShownSound (rules_of shape most) touched (shown_tree (format_of class) (is_node (format_of class)) state s))
    (TreeShows (format_of class) (rules_of shape most) touched (state s.disk).seen s) IsLack result

-- what may be reported of the pages of a device that reads so
abbrev pub PagesShowAs : {C B : Type 0} → Type 0 → Members B → Ghosts C B → ℕ → ℕ → Analysis (Entry B) → List ℕ → Damage → Type 0
PagesShowAs D shape class pages most told seen damage =
    PagesShow D (format_of class) (is_node (format_of class) pages) (rules_of shape most) pages told seen damage

module _ {B : Type 0} (shape : Members B) (traits : Traits B) where
  -- the pages of a device that reads so are sound
  abbrev pub AreSoundAs : Limits → ℕ → Analysis (Entry B) → List ℕ → Type 0
  AreSoundAs l pages told seen = AreSound (known_at shape traits.is_proper l) (reading_by traits.said (own traits)) (is_node (format_of (own traits)) pages) told seen

  -- the outcome of examining the pages of a device that reads so, by what its log gives
  abbrev pub PagesFind : Type 0 → Limits → ℕ → ℕ → Analysis (Entry B) → List ℕ → Result (Option Damage) Refusal → Type 0
  PagesFind D l pages most told seen result =
      Finds (AreSoundAs l pages told seen) (PagesShowAs D shape (own traits) pages most told seen) (λ why. IsLack why × (told.used ≤ pages)) result

  -- the outcome of examining a device that is formatted for an index of the class, and any device
  abbrev pub IndexFindsAs : Type 0 → Parameters → List ℕ → Result (Option Damage) Refusal → Type 0
  IndexFindsAs D parameters seen result = IndexFinds shape traits.is_proper traits.said (format_of (own traits)) D parameters seen result

  abbrev pub ExaminesAs : {D : Type 0} → (D → Device) → D → D → Result (Option Damage) Refusal → Type 0
  ExaminesAs {D} state old new result = Examines shape traits.is_proper traits.said (format_of (own traits)) D traits.CLASS (new ≡ old) (state old) result

  -- and of one that is damaged
  abbrev pub FindsDamageAs : {D : Type 0} → (D → Device) → D → D → Result (Option Damage) Refusal → Type 0
  FindsDamageAs {D} state old new result =
      HoldsDamaged shape traits.is_proper traits.said (format_of (own traits)) traits.CLASS (state old) → FindsDamage shape traits.is_proper traits.said (format_of (own traits)) D traits.CLASS (new ≡ old) (state old) result

module _ {B : Type 0} (shape : Members B) (traits : Traits B) where
  -- an image with the log that is found stands for what that keeps, over good pages; and sound pages are good
  abbrev pub FoundStandsAs : Parameters → Type 0
  FoundStandsAs p = FoundStands shape traits.is_proper traits.said (format_of (own traits)) p

  abbrev pub SoundIsGoodAs : {D : Type 0} → (D → Device) → Parameters → Type 0
  SoundIsGoodAs state p = SoundIsGood shape traits.is_proper traits.said (format_of (own traits)) state p

  -- a device is formatted for an index of the class; it has a sound index; one refused as damaged is left so
  abbrev pub IsFormattedAs : Device → Parameters → Type 0
  IsFormattedAs d p = IsFormatted shape traits.is_proper traits.said (format_of (own traits)) traits.CLASS d p

  abbrev pub IndexStands : Device → Device → Standing B → Type 0
  IndexStands d e s = Stands shape traits.is_proper traits.said (format_of (own traits)) traits.CLASS d e s

  abbrev pub LeftDamaged : Device → Refusal → Type 0
  LeftDamaged d why = LeavesDamaged shape traits.is_proper traits.said (format_of (own traits)) traits.CLASS d why

module _ {B D : Type 0} (shape : Members B) (traits : Traits B) (state : D → Device) where
  -- a crash leaves what it could before, or an index with the same log and pages
  abbrev pub StaysSafeAs : D → D → Type 0
  StaysSafeAs old new = StaysSafe shape traits.is_proper traits.said (format_of (own traits)) (state old) (state new)

  -- a sync comes before anything is written, and a device that isn't one of the class isn't written
  abbrev pub FindsInOrderAs : D → D → Result (Standing B) Refusal → Type 0
  FindsInOrderAs old new result = FindsInOrder shape traits.is_proper traits.said (format_of (own traits)) state (state old) (state new) result

  -- if it is refused as damaged, it is left so
  abbrev pub LeavesDamagedAs : D → Result (Standing B) Refusal → Type 0
  LeavesDamagedAs new result = IfErr result (LeavesDamaged shape traits.is_proper traits.said (format_of (own traits)) traits.CLASS (state new))

  -- the index that was found is laid, and its pages are sound
  abbrev pub IsStoodAs : D → D → Result (Standing B) Refusal → Type 0
  IsStoodAs old new result = IsStood shape traits.is_proper traits.said (format_of (own traits)) traits.CLASS (state old) (state new) result

  abbrev pub IsTestedAs : D → D → Result (Standing B) Refusal → Type 0
  IsTestedAs old new result = IsTested shape traits.is_proper traits.said (format_of (own traits)) traits.CLASS (new ≡ old) (state old) (state new) result
