-- The calls that lay an index down, in three phases, and what a crash within each may leave.
use Rattle.std.specs.Prelude.{◌≡◌, ◌⊎◌, ℕ, ◌+◌, ◌*◌, ◌≤◌, ◌<◌, false, List, [], ◌∷◌, ◌++◌, length, replicate, Result, Ok, Err}
use Rattle.gx_node.specs.declared.items.TheConstants.{MAX_ENTRIES}
use Rattle.gx_geom.specs.declared.refusal.Refusal.{Refusal}
use Rattle.gx_geom.specs.declared.refusal.Refusal.TheVariants.{BadParameter, TooSmall, Memory, Device}
use Rattle.gx_disk.specs.declared.layout.TheConstants.{MAX_PAGES, PAGES_AT, PAGE_SECTORS, MIN_PAGES}
use Rattle.gx_disk.specs.Device as disk
use Rattle.gx_disk.specs.Sectors.{sector_of}
use Rattle.gx_page.specs.Contents.{Contents}
use Rattle.gx_page.specs.Edits.{blank}
use Rattle.gx_page.specs.Format.{image_of}
use Rattle.gx_glog.specs.declared.parameters.TheConstants.{PARAMETERS}
use Rattle.gx_glog.specs.declared.extent.TheConstants.{BODIES_A, BODY_SECTORS, GATES_A, GATES_B, PLACES, SELECTOR}
use Rattle.gx_glog.specs.First.{open_gate_bytes, closed_gates_bytes, selector_bytes, first_body_bytes}
use Rattle.gx_glog.specs.Parameters.{parameters_bytes}
use Rattle.gx_glog.specs.declared.parameters.Parameters.{Parameters}
use Rattle.gx_glog.specs.declared.extent.Extent.TheVariants.{A}
use Rattle.gx_format.specs.declared.fresh.TheConstants.{PAGE_2}
use Rattle.gx_format.specs.Calls.{Call, Write, Sync, HasRun, HasFailed}
use Rattle.gx_format.specs.Fresh.{magic_bytes, HasMagic, IsLaid, IsFresh}

-- the magic is taken away
abbrev pub clearing : List Call
clearing = Write 0 1 (replicate 512 0) ∷ Sync ∷ []

-- all but the magic is written, and settled before the first gate opens
abbrev pub laying : Parameters → Contents → List Call
laying parameters root =
    Write PARAMETERS 1 (parameters_bytes parameters ++ replicate 504 0) ∷ Write SELECTOR 1 (selector_bytes A) ∷ Write GATES_A PLACES closed_gates_bytes ∷ Write GATES_B PLACES closed_gates_bytes
    ∷ Write PAGES_AT PAGE_SECTORS (image_of root) ∷ Write PAGE_2 PAGE_SECTORS (image_of (blank 0 2)) ∷ Write BODIES_A BODY_SECTORS first_body_bytes ∷ Sync
    ∷ Write GATES_A 1 open_gate_bytes ∷ Sync ∷ []

-- the magic is written last
abbrev pub naming : List Call
naming = Write 0 1 (magic_bytes ++ replicate 504 0) ∷ Sync ∷ []

-- all calls of a format
abbrev pub formatting : Parameters → Contents → List Call
formatting parameters root = clearing ++ (laying parameters root ++ naming)

-- one of the images of the device before, except for sector 0
pub record IsOldBeside (old : disk.Device) (image : List ℕ) : Type 0 where
  pub size : length image ≡ length old.seen
  pub same : (s : ℕ) → 1 ≤ s → old.pending s ≡ false → sector_of image s ≡ sector_of old.seen s

-- the fresh index, or none
abbrev pub IsUnnamedOrFresh : Parameters → Contents → List ℕ → Type 0
IsUnnamedOrFresh parameters root image = HasMagic image → IsFresh parameters root image

-- what a crash at any moment of a format may leave: if it has the magic, an image of before except for sector 0, or the
-- fresh one
abbrev pub IsOldOrFresh : disk.Device → Parameters → Contents → List ℕ → Type 0
IsOldOrFresh old parameters root image = HasMagic image → IsOldBeside old image ⊎ IsFresh parameters root image

-- only the magic is missing: beyond sector 0 all is laid down and settled
pub record IsLaidDown (parameters : Parameters) (root : Contents) (d : disk.Device) : Type 0 where
  pub laid : IsLaid parameters root d.seen
  pub settled : (s : ℕ) → 1 ≤ s → d.pending s ≡ false

-- sector 0 is zeros, and a crash leaves it so
pub record IsCleared (d : disk.Device) : Type 0 where
  pub zeros : sector_of d.seen 0 ≡ replicate 512 0
  pub settled : d.pending 0 ≡ false

-- what an index may be formatted for
pub record AreInRange (pages most : ℕ) : Type 0 where
  pub least_pages : MIN_PAGES ≤ pages
  pub most_pages : pages ≤ MAX_PAGES
  pub least_entries : 4 ≤ most
  pub most_entries : most ≤ MAX_ENTRIES

-- how many sectors an index of so many pages takes
abbrev pub sectors_of : ℕ → ℕ
sectors_of pages = PAGES_AT + PAGE_SECTORS * pages

-- What a format comes to. Each refusal has its one cause, tested in this order, and only the device's own refuses what was begun.
abbrev pub Formats : {D : Type 0} → (D → disk.Device) → Parameters → Contents → D → D → Result (Unit {0}) Refusal → Type 0
Formats state parameters root old new (Ok x) =
    AreInRange parameters.pages parameters.most × ((sectors_of parameters.pages ≤ (state old).sectors) × HasRun state (formatting parameters root) old new)
Formats state parameters root old new (Err BadParameter) = (AreInRange parameters.pages parameters.most → ⊥) × (new ≡ old)
Formats state parameters root old new (Err TooSmall) = AreInRange parameters.pages parameters.most × (((state old).sectors < sectors_of parameters.pages) × (new ≡ old))
Formats state parameters root old new (Err Memory) = AreInRange parameters.pages parameters.most × ((sectors_of parameters.pages ≤ (state old).sectors) × (new ≡ old))
Formats state parameters root old new (Err Device) =
    AreInRange parameters.pages parameters.most × ((sectors_of parameters.pages ≤ (state old).sectors) × HasFailed state (formatting parameters root) old new)
Formats state parameters root old new (Err refusal) = ⊥
