-- What is read after all but the magic was laid down.
use Rattle.std.proofs.Common.{◌≡◌, refl, ℕ, ◌+◌, ◌-◌, ◌*◌, ◌≤◌, List, [], ◌∷◌, length, take, drop, true, arith}
use Rattle.gx_page.specs.declared.block.TheConstants.{PAGE_SIZE}
use Rattle.gx_glog.specs.declared.parameters.TheConstants.{PARAMETERS}
use Rattle.gx_glog.specs.declared.turn.TheConstants.{GATES_SIZE}
use Rattle.gx_glog.specs.declared.extent.TheConstants.{BODY_SIZE, BODIES_A, BODY_SECTORS, GATES_A, GATES_B, PLACES, SELECTOR}
use Rattle.gx_disk.specs.declared.layout.TheConstants.{MIN_SECTORS, PAGES_AT, PAGE_SECTORS}
use Rattle.gx_disk.specs.Device.{Device, IsSettled}
use Rattle.gx_disk.specs.Sectors.{span_of}
use Rattle.gx_format.specs.declared.fresh.TheConstants.{PAGE_2}
use Rattle.gx_format.specs.Calls.{Call, Write, Sync, HasRun}
use Rattle.gx_format.proofs.laws.Wrote.{wrote, wrote_all, synced}

-- the calls that lay these bytes down
abbrev pub laying_of : (told selector gates root leaf body gate : List ℕ) → List Call
laying_of told selector gates root leaf body gate =
    Write PARAMETERS 1 told ∷ Write SELECTOR 1 selector ∷ Write GATES_A PLACES gates ∷ Write GATES_B PLACES gates ∷ Write PAGES_AT PAGE_SECTORS root ∷ Write PAGE_2 PAGE_SECTORS leaf ∷ Write BODIES_A BODY_SECTORS body ∷ Sync ∷ Write GATES_A 1 gate ∷ Sync ∷ []

-- how many bytes an extent's gates have after the first one
abbrev pub later_size : ℕ
later_size = 512 * (PLACES - 1)

-- they are read back, but for the gate that was written twice
pub record AreRead (told selector gates root leaf body gate seen : List ℕ) : Type 0 where
  pub told_is : span_of seen 1 512 ≡ told
  pub selector_is : span_of seen 2 512 ≡ selector
  pub opened : span_of seen GATES_A 512 ≡ gate
  pub later : span_of seen (GATES_A + 1) later_size ≡ take later_size (drop 512 gates)
  pub others : span_of seen GATES_B GATES_SIZE ≡ gates
  pub page_1 : span_of seen PAGES_AT PAGE_SIZE ≡ root
  pub page_2 : span_of seen PAGE_2 PAGE_SIZE ≡ leaf
  pub body_is : span_of seen BODIES_A BODY_SIZE ≡ body

module _ {D : Type 0} (state : D → Device) (whole : (d : D) → (state d).honest ≡ true → length (state d).seen ≡ 512 * (state d).sectors)
    (told selector gates root leaf body gate : List ℕ) (old new : D) (honest : (state old).honest ≡ true) (room : MIN_SECTORS ≤ (state old).sectors)
    (run : HasRun state (laying_of told selector gates root leaf body gate) old new) where
  pub are_read : AreRead told selector gates root leaf body gate (state new).seen
  are_read = record {
    told_is = wrote_all state whole [] (drop 1 (laying_of told selector gates root leaf body gate)) 1 1 told old new run honest (omega (arith, room)) refl;
    selector_is = wrote_all state whole (take 1 (laying_of told selector gates root leaf body gate)) (drop 2 (laying_of told selector gates root leaf body gate)) 2 1 selector old new run honest (omega (arith, room)) refl;
    opened = wrote_all state whole (take 8 (laying_of told selector gates root leaf body gate)) (drop 9 (laying_of told selector gates root leaf body gate)) GATES_A 1 gate old new run honest (omega (arith, room)) refl;
    later = wrote state whole (take 2 (laying_of told selector gates root leaf body gate)) (drop 3 (laying_of told selector gates root leaf body gate)) GATES_A PLACES gates old new run honest (omega (arith, room)) 1 (PLACES - 1) (omega arith) refl;
    others = wrote_all state whole (take 3 (laying_of told selector gates root leaf body gate)) (drop 4 (laying_of told selector gates root leaf body gate)) GATES_B PLACES gates old new run honest (omega (arith, room)) refl;
    page_1 = wrote_all state whole (take 4 (laying_of told selector gates root leaf body gate)) (drop 5 (laying_of told selector gates root leaf body gate)) PAGES_AT PAGE_SECTORS root old new run honest (omega (arith, room)) refl;
    page_2 = wrote_all state whole (take 5 (laying_of told selector gates root leaf body gate)) (drop 6 (laying_of told selector gates root leaf body gate)) PAGE_2 PAGE_SECTORS leaf old new run honest (omega (arith, room)) refl;
    body_is = wrote_all state whole (take 6 (laying_of told selector gates root leaf body gate)) (drop 7 (laying_of told selector gates root leaf body gate)) BODIES_A BODY_SECTORS body old new run honest (omega (arith, room)) refl;
  }

  pub are_settled : IsSettled (state new)
  are_settled = synced state whole (take 9 (laying_of told selector gates root leaf body gate)) old new run honest
