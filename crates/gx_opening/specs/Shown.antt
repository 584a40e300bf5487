-- That what is reported of damage is true of a device's bytes.
use Rattle.std.specs.Prelude.{◌≡◌, ◌⊎◌, ℕ, ◌<◌, ◌≤◌, Bool, Option, Some, None, List, Result, Ok, Err}
use Rattle.gx_geom.specs.declared.refusal.Refusal.{Refusal}
use Rattle.gx_geom.specs.declared.refusal.Refusal.TheVariants as refusal
use Rattle.gx_disk.specs.Device as disk
use Rattle.gx_found_log.specs.Found.{IsFound}
use Rattle.gx_found_log.specs.declared.fault.LogFault.{LogFault}
use Rattle.gx_found_log.specs.declared.fault.LogFault.TheVariants.{Memory, Device, Damaged}
use Rattle.gx_found_log.specs.declared.found.FoundLog.{FoundLog}
use Rattle.gx_found_log.specs.Shown.{LogShows}
use Rattle.gx_glog.specs.declared.parameters.Parameters.{Parameters}
use Rattle.gx_legality.specs.Breaks.{Breaks}
use Rattle.gx_legality.specs.declared.fault.LegalityFault.{LegalityFault}
use Rattle.gx_legality.specs.declared.fault.LegalityFault.TheVariants as fault
use Rattle.gx_legality.specs.declared.fault.Rule.{Rule}
use Rattle.gx_legality.specs.declared.fault.Rule.TheVariants.{PairOutOfPlace}
use Rattle.gx_machine.specs.declared.entry.Entry.{Entry}
use Rattle.gx_machine.specs.Keys.{Members}
use Rattle.gx_node.specs.Reading.{Format, is_node}
use Rattle.gx_opening.specs.Formatted.{MaySettle}
use Rattle.gx_opening.specs.Sound.{AreSound, CanAllBeRead, refusal_of}
use Rattle.gx_opening.specs.Standing.{IsFormatted, known_for, reading}
use Rattle.gx_page.specs.Contents.{Contents}
use Rattle.gx_pool.specs.Area.{IsPassing, bytes_of}
use Rattle.gx_pool.specs.State.{kept}
use Rattle.gx_recovery.specs.Analysis.{Analysis}
use Rattle.gx_recovery.specs.Records.{Touch}
use Rattle.gx_store.specs.Standing.{store_of}
use Rattle.gx_store.specs.State.{Shelf}
use Rattle.gx_store.specs.declared.fault.StoreFault.{StoreFault}
use Rattle.gx_node.specs.Keyed.{rules_of}
use Rattle.gx_node.specs.Store.{tree_of}
use Rattle.gx_node.specs.Legal.{Legal}
use Rattle.gx_node.specs.Lists.{SomeOf}
use Rattle.gx_node.specs.Trees.{Rules, Tree}
use Rattle.gx_node.specs.Writes.{IsSeek}
use Rattle.gx_opening.specs.declared.damage.Damage.{Damage}
use Rattle.gx_opening.specs.declared.damage.Damage.TheVariants.{Log, TooManyPages, Unreadable, Broken}

-- How an examination ends: nothing is damaged, and this holds; or that is damaged; or it ends before it knows, for this
-- reason.
abbrev pub Finds : (sound : Type 0) → (Damage → Type 0) → (Refusal → Type 0) → Result (Option Damage) Refusal → Type 0
Finds sound shows Lacks (Ok None) = sound
Finds sound shows Lacks (Ok (Some damage)) = shows damage
Finds sound shows Lacks (Err why) = Lacks why

-- a call failed, or memory was refused
abbrev pub IsLack : Refusal → Type 0
IsLack why = (why ≡ refusal.Device) ⊎ (why ≡ refusal.Memory)

-- what is reported of a log that isn't read back
abbrev pub log_told_of : LogFault → Result (Option Damage) Refusal
log_told_of Memory = Err refusal.Memory
log_told_of Device = Err refusal.Device
log_told_of (Damaged damage) = Ok (Some (Log damage))

-- and of a tree that doesn't pass its test
abbrev pub tree_told_of : LegalityFault StoreFault → Result (Option Damage) Refusal
tree_told_of (fault.Broken page rule) = Ok (Some (Broken page rule))
tree_told_of why = Err (refusal_of why)

-- a page in use reads as none with its number that passes, and each before it can be read
pub record IsUnreadable (passes : Contents → Bool) (used : ℕ) (seen : List ℕ) (page : ℕ) : Type 0 where
  pub from : 1 ≤ page
  pub to : page ≤ used
  pub fails : IsPassing passes page (bytes_of seen page) → ⊥
  pub before : (q : ℕ) → 1 ≤ q → q < page → IsPassing passes q (bytes_of seen q)

-- this page is the leaf of an entry that an open transaction touched, and that is neither there nor to the right of it
abbrev pub IsLeftOut : {B : Type 0} → Rules B → List (Touch (Entry B)) → Tree B → ℕ → Type 0
IsLeftOut r touched t page = SomeOf (λ x. (x.leaf ≡ page) × ¬ IsSeek r t x.leaf x.entry.row x.entry.key) touched

-- a page of a tree doesn't keep a rule; or the tree is legal, and the page is the leaf of what was touched and left out
abbrev pub IsBroken : {B : Type 0} → Rules B → List (Touch (Entry B)) → Tree B → ℕ → Rule → Type 0
IsBroken r touched t page rule = Breaks r t page rule ⊎ (Legal r t × ((rule ≡ PairOutOfPlace) × IsLeftOut r touched t page))

-- what a test of a store's tree may report
abbrev pub TreeShows : {B D : Type 0} → Format B → Rules B → List (Touch (Entry B)) → List ℕ → Shelf D → Damage → Type 0
TreeShows f r touched seen s (Broken page rule) = IsBroken r touched (tree_of (store_of f seen s)) page rule
TreeShows f r touched seen s damage = ⊥

-- A store of so many pages, none of them in a frame, with the numbers that a log gives.
pub record Starts {B D : Type 0} (pages : ℕ) (told : Analysis (Entry B)) (s : Shelf D) : Type 0 where
  pub pages_are : s.pages ≡ pages
  pub used : s.used ≡ told.used
  pub counter : s.counter ≡ told.counter
  pub none : (page : ℕ) → kept s.frames page ≡ None

-- What may be reported of the pages of a device that reads so, by what its log gives, and in this order: more are in
-- use than the device has, one in use can't be read, or one breaks a rule in the tree of them.
abbrev pub PagesShow : {B : Type 0} → (D : Type 0) → Format B → (Contents → Bool) → Rules B → ℕ → Analysis (Entry B) → List ℕ → Damage → Type 0
PagesShow D f passes r pages told seen (Log damage) = ⊥
PagesShow D f passes r pages told seen (TooManyPages used) = (used ≡ told.used) × (pages < used)
PagesShow D f passes r pages told seen (Unreadable page) = (told.used ≤ pages) × IsUnreadable passes told.used seen page
PagesShow D f passes r pages told seen (Broken page rule) =
    (told.used ≤ pages) × (CanAllBeRead passes told.used seen × ((s : Shelf D) × Starts pages told s × IsBroken r told.touched (tree_of (store_of f seen s)) page rule))

module _ {B : Type 0} (shape : Members B) (is_key : B → Bool) (said : List ℕ → B) (f : Format B) where
  -- what may be reported of the pages of a device that is formatted for this and whose log is found
  abbrev pub FoundShows : (D : Type 0) → Parameters → List ℕ → Damage → FoundLog (Entry B) → Type 0
  FoundShows D p seen damage found =
      IsFound (known_for shape is_key said f p) (reading shape is_key said f) seen found × PagesShow D f (is_node f p.pages) (rules_of shape p.most) p.pages found.analysis.told seen damage

  -- what may be reported of a device that is formatted for this
  abbrev pub IndexShows : (D : Type 0) → Parameters → List ℕ → Damage → Type 0
  IndexShows D p seen (Log damage) = LogShows (known_for shape is_key said f p) (reading shape is_key said f) seen (Damaged damage)
  IndexShows D p seen damage = (found : FoundLog (Entry B)) × FoundShows D p seen damage found

  -- The log of a device that is formatted for this is found, and its pages are sound by what that gives.
  pub record IsSoundIndex (p : Parameters) (seen : List ℕ) : Type 0 where
    pub found : FoundLog (Entry B)
    pub is : IsFound (known_for shape is_key said f p) (reading shape is_key said f) seen found
    pub sound : AreSound (known_for shape is_key said f p) (reading shape is_key said f) (is_node f p.pages) found.analysis.told seen

  -- Its log is found, and no more pages are in use than the device has.
  pub record HasFittingLog (p : Parameters) (seen : List ℕ) : Type 0 where
    pub found : FoundLog (Entry B)
    pub is : IsFound (known_for shape is_key said f p) (reading shape is_key said f) seen found
    pub fits : found.analysis.told.used ≤ p.pages

  -- the outcome of examining it; memory is refused only after its log was read
  abbrev pub IndexFinds : (D : Type 0) → Parameters → List ℕ → Result (Option Damage) Refusal → Type 0
  IndexFinds D p seen result =
      Finds (IsSoundIndex p seen) (IndexShows D p seen) (λ why. (why ≡ refusal.Device) ⊎ ((why ≡ refusal.Memory) × HasFittingLog p seen)) result

  -- so of any device: it is formatted for an index of the class, and this is damaged
  pub record Shows (D : Type 0) (class : ℕ) (d : disk.Device) (damage : Damage) : Type 0 where
    pub parameters : Parameters
    pub formatted : IsFormatted shape is_key said f class d parameters
    pub shows : IndexShows D parameters d.seen damage

  -- or nothing is
  pub record HoldsSound (class : ℕ) (d : disk.Device) : Type 0 where
    pub parameters : Parameters
    pub formatted : IsFormatted shape is_key said f class d parameters
    pub index : IsSoundIndex parameters d.seen

  -- or its log at least isn't
  pub record HoldsLog (class : ℕ) (d : disk.Device) : Type 0 where
    pub parameters : Parameters
    pub formatted : IsFormatted shape is_key said f class d parameters
    pub log : HasFittingLog parameters d.seen

  -- Why a device isn't examined: by what it is formatted for; a call failed; or memory was refused, before any call,
  -- which leaves it the same, or after its log was read.
  abbrev pub IsUnexamined : (class : ℕ) (same : Type 0) → disk.Device → Refusal → Type 0
  IsUnexamined class same d why = MaySettle class d.sectors d.seen (Err why) ⊎ ((why ≡ refusal.Memory) × (same ⊎ HoldsLog class d))

  -- the outcome of examining a device
  abbrev pub Examines : (D : Type 0) (class : ℕ) (same : Type 0) → disk.Device → Result (Option Damage) Refusal → Type 0
  Examines D class same d result = Finds (HoldsSound class d) (Shows D class d) (IsUnexamined class same d) result

  -- It is formatted for an index of the class, and not both its log and its pages are sound.
  pub record HoldsDamaged (class : ℕ) (d : disk.Device) : Type 0 where
    pub parameters : Parameters
    pub formatted : IsFormatted shape is_key said f class d parameters
    pub unsound : IsSoundIndex parameters d.seen → ⊥

  -- so it is left if it was refused as damaged
  abbrev pub LeavesDamaged : (class : ℕ) → disk.Device → Refusal → Type 0
  LeavesDamaged class d why = why ≡ refusal.Damaged → HoldsDamaged class d

  -- the outcome of examining it then: damage, unless a call failed, or memory was refused as said
  abbrev pub FindsDamage : (D : Type 0) (class : ℕ) (same : Type 0) → disk.Device → Result (Option Damage) Refusal → Type 0
  FindsDamage D class same d result =
      Finds ⊥ (Shows D class d) (λ why. (why ≡ refusal.Device) ⊎ ((why ≡ refusal.Memory) × (same ⊎ HoldsLog class d))) result
