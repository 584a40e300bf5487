-- A file that a command has opened is kept as that left it.
use Rattle.std.proofs.Common.{◌≡◌, ◌≤◌, ℕ, List, refl, sym, subst}
use Rattle.std.specs.Prelude.{Ok, Some}
use Rattle.gx_disk.specs.Files.{IsOpened}
use Rattle.gx_disk.specs.declared.file.FileDisk.{FileDisk}
use Rattle.gx_commands.specs.Files.{Leaves, Uses}
use Rattle.gx_commands.specs.Opener.{Tries, is_writable}
use Rattle.gx_commands.specs.Streams.{Outputs}
use Rattle.gx_commands.specs.declared.opener.Access.{Access}
use Rattle.gx_commands.specs.declared.opener.Access.TheVariants.{Create}
use Rattle.gx_commands.specs.declared.opener.Opener.{Opener}

-- it was opened, and left behind what its command wrote
pub used : {F : Type 0} (file : List ℕ) (access : Access) (disk after : FileDisk) (old middle new : Opener F) (from to : Outputs)
    → Tries file access (Ok disk.sectors) old middle → IsOpened (is_writable access) disk
    → Leaves file after middle new from.person to.person → to.replies ≡ from.replies → Uses file old new access disk after from to
used {F} file access disk after old middle new from to tries opened leaves quiet =
    let left : Opener F = record middle { left = Some after } in
    let uses : Uses file old left access disk after from to = record {
      tries = record {
        opening = tries.opening;
        noted = tries.noted;
        path_is = tries.path_is;
        access_is = tries.access_is;
        ended_is = tries.ended_is;
        once = tries.once;
      };
      opened = opened;
      left = refl;
      quiet = quiet;
      cause = leaves.cause;
    } in
    subst (λ (o : Opener F). Uses file old o access disk after from to) (sym leaves.kept) uses

-- so if the file was extended for as many sectors
pub used_for : {F : Type 0} (file : List ℕ) (old new : Opener F) (n wanted : ℕ) (disk after : FileDisk) (from to : Outputs) → n ≡ wanted
    → Uses file old new (Create n) disk after from to → Uses file old new (Create wanted) disk after from to
used_for file old new n wanted disk after from to is uses = subst (λ (m : ℕ). Uses file old new (Create m) disk after from to) is uses

pub room_for : (n wanted sectors : ℕ) → n ≡ wanted → n ≤ sectors → wanted ≤ sectors
room_for n wanted sectors is room = subst (λ (m : ℕ). m ≤ sectors) is room
