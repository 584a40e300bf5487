-- How a command over a device ends whose index is of boxes: of the plane, class 1, or of space, class 3.
use Rattle.std.specs.Prelude.{ℕ, ◌≡◌, ◌≢◌, ◌⊎◌, Option, None, Some, Result, Ok, Err}
use Rattle.gx_geom.specs.Rectangles.{Rectangle}
use Rattle.gx_geom.specs.Solids.{Solid}
use Rattle.gx_geom.specs.declared.refusal.Refusal.{Refusal}
use Rattle.gx_geom.specs.declared.refusal.Refusal.TheVariants.{BadParameter}
use Rattle.gx_machine.specs.Keys.{Members}
use Rattle.gx_script.specs.Corners.{rectangle_grammar, solid_grammar}
use Rattle.gx_class.specs.Traits.{traits_of}
use Rattle.gx_class.specs.Boxes as boxes
use Rattle.gx_class.specs.SolidKeys as solids
use Rattle.gx_class.specs.declared.class.KeyClass.{Ghosts}
use Rattle.gx_disk.specs.Device.{Device}
use Rattle.gx_restart.specs.Class.{ReadsClass}
use Rattle.gx_commands.specs.Dumping.{DumpsOver}
use Rattle.gx_commands.specs.Endings.{RunsOver}
use Rattle.gx_commands.specs.Refusing.{Refuses}
use Rattle.gx_commands.specs.Streams.{Outputs, Stream}
use Rattle.gx_commands.specs.Verifying.{VerifiesOver}
use Rattle.gx_commands.specs.declared.devices.Kind.{Kind}
use Rattle.gx_commands.specs.declared.devices.Kind.TheVariants.{Plane, Space}

-- the boxes of a class, if it is one of boxes
abbrev pub HasKind : ℕ → Option Kind → Type 0
HasKind class (Some Plane) = class ≡ 1
HasKind class (Some Space) = class ≡ 3
HasKind class None = (class ≢ 1) × (class ≢ 3)

-- why a device that holds no boxes is refused: BadParameter for intervals, or the refusal of reading its class
abbrev pub HasNoBoxes : Result ℕ Refusal → Refusal → Type 0
HasNoBoxes (Ok class) why = (class ≡ 2) × (why ≡ BadParameter)
HasNoBoxes (Err refusal) why = why ≡ refusal

-- A device was read for its class, and holds no boxes.
pub record FindsNone {D : Type 0} (state : D → Device) (old new : D) (why : Refusal) : Type 0 where
  pub class : Result ℕ Refusal
  pub read : ReadsClass state old new class
  pub because : HasNoBoxes class why

-- whether its index is of boxes of the plane or of space, by its class
abbrev pub FindsKind : {D : Type 0} → (D → Device) → D → D → Result Kind Refusal → Type 0
FindsKind state old new (Ok Plane) = ReadsClass state old new (Ok 1)
FindsKind state old new (Ok Space) = ReadsClass state old new (Ok 3)
FindsKind state old new (Err why) = FindsNone state old new why

-- A device was read for its class, which is this one, and what follows is done to it.
pub record IsOfClass {D : Type 0} (state : D → Device) (class : ℕ) (Follows : D → Type 0) (old : D) : Type 0 where
  pub middle : D
  pub read : ReadsClass state old middle (Ok class)
  pub follows : Follows middle

-- A device holds no boxes, which is reported, and nothing else is done to it.
pub record HoldsNoBoxes {D : Type 0} (state : D → Device) (old after : D) (from to : Outputs) (status : ℕ) : Type 0 where
  pub why : Refusal
  pub finds : FindsNone state old after why
  pub told : Refuses why from to status

module _ {C E D : Type 0} (plane : Members Rectangle) (plane_class : Ghosts C Rectangle) (space : Members Solid) (space_class : Ghosts E Solid) (state : D → Device) where
  -- a script was run on the index of boxes that a device holds; of one that holds none nothing was read
  abbrev pub RunsDevice : ℕ → D → D → Stream → Stream → Outputs → Outputs → ℕ → Type 0
  RunsDevice frames disk after had left from to status =
      IsOfClass state 1 (λ d. RunsOver rectangle_grammar plane (traits_of boxes.in_order boxes.corners_of plane_class) state 1 frames d after had left from to status) disk
      ⊎ (IsOfClass state 3 (λ d. RunsOver solid_grammar space (traits_of solids.in_order solids.corners_of space_class) state 3 frames d after had left from to status) disk
      ⊎ ((left ≡ had) × HoldsNoBoxes state disk after from to status))

  -- the tree of that index was written
  abbrev pub DumpsDevice : ℕ → D → D → Outputs → Outputs → ℕ → Type 0
  DumpsDevice frames disk after from to status =
      IsOfClass state 1 (λ d. DumpsOver rectangle_grammar plane (traits_of boxes.in_order boxes.corners_of plane_class) state 1 frames d after from to status) disk
      ⊎ (IsOfClass state 3 (λ d. DumpsOver solid_grammar space (traits_of solids.in_order solids.corners_of space_class) state 3 frames d after from to status) disk
      ⊎ HoldsNoBoxes state disk after from to status)

  -- it was verified
  abbrev pub VerifiesDevice : ℕ → D → D → Outputs → Outputs → ℕ → Type 0
  VerifiesDevice frames disk after from to status =
      IsOfClass state 1 (λ d. VerifiesOver plane (traits_of boxes.in_order boxes.corners_of plane_class) state 1 frames d after from to status) disk
      ⊎ (IsOfClass state 3 (λ d. VerifiesOver space (traits_of solids.in_order solids.corners_of space_class) state 3 frames d after from to status) disk
      ⊎ HoldsNoBoxes state disk after from to status)
