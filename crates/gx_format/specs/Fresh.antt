-- The bytes of a fresh index on a device.
use Rattle.std.specs.Prelude.{◌≡◌, ℕ, ◌≤◌, ◌<◌, List, [], ◌∷◌, ◌++◌, take, replicate}
use Rattle.gx_format.specs.declared.fresh.TheConstants.{PAGE_2}
use Rattle.gx_disk.specs.declared.layout.TheConstants.{PAGES_AT}
use Rattle.gx_disk.specs.Sectors.{sector_of, span_of}
use Rattle.gx_page.specs.declared.block.TheConstants.{PAGE_SIZE}
use Rattle.gx_page.specs.Contents.{Contents}
use Rattle.gx_page.specs.Edits.{blank}
use Rattle.gx_page.specs.Format.{image_of}
use Rattle.gx_glog.specs.declared.extent.TheConstants.{BODIES_B, GATES_B}
use Rattle.gx_glog.specs.First.{HasFirstLog}
use Rattle.gx_glog.specs.Parameters.{parameters_bytes}
use Rattle.gx_glog.specs.declared.parameters.Parameters.{Parameters}
use Rattle.gx_node.specs.Trees.{Child}
use Rattle.gx_node.specs.Entries.{child_bytes}

-- the eight letters GISTRT02
abbrev pub magic_bytes : List ℕ
magic_bytes = 0x47 ∷ 0x49 ∷ 0x53 ∷ 0x54 ∷ 0x52 ∷ 0x54 ∷ 0x30 ∷ 0x32 ∷ []

-- those of version 1, GISTRT01
abbrev pub old_magic_bytes : List ℕ
old_magic_bytes = 0x47 ∷ 0x49 ∷ 0x53 ∷ 0x54 ∷ 0x52 ∷ 0x54 ∷ 0x30 ∷ 0x31 ∷ []

-- the first eight bytes say that it is an index: no other byte of sector 0 is read
abbrev pub HasMagic : List ℕ → Type 0
HasMagic image = take 8 (sector_of image 0) ≡ magic_bytes

-- that it is one of version 1
abbrev pub HasOldMagic : List ℕ → Type 0
HasOldMagic image = take 8 (sector_of image 0) ≡ old_magic_bytes

-- neither: no index
abbrev pub IsUnnamed : List ℕ → Type 0
IsUnnamed image = (HasMagic image → ⊥) × (HasOldMagic image → ⊥)

-- page 1 of a fresh tree: a root of level 1, whose one entry has the class's start key and names page 2
abbrev pub fresh_root : {B : Type 0} → (B → List ℕ) → B → Contents
fresh_root {B} spelling start =
    (let child : Child B = record { key = start; page = 2 } in record { level = 1; nsn = 0; right = 0; number = 1; items = child_bytes spelling child ∷ [] })

-- Beyond sector 0 the bytes are a fresh index's: its parameters, the first log, no gate open in extent B, the root, and an empty leaf.
pub record IsLaid (parameters : Parameters) (root : Contents) (seen : List ℕ) : Type 0 where
  pub told : sector_of seen 1 ≡ parameters_bytes parameters ++ replicate 504 0
  pub log : HasFirstLog seen
  pub closed : (s : ℕ) → GATES_B ≤ s → s < BODIES_B → sector_of seen s ≡ replicate 512 0
  pub page_1 : span_of seen PAGES_AT PAGE_SIZE ≡ image_of root
  pub page_2 : span_of seen PAGE_2 PAGE_SIZE ≡ image_of (blank 0 2)

-- the bytes are a fresh index
pub record IsFresh (parameters : Parameters) (root : Contents) (seen : List ℕ) : Type 0 where
  pub magic : HasMagic seen
  pub laid : IsLaid parameters root seen
