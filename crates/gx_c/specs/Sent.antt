-- Keys and entries as C has them.
use Rattle.std.specs.Prelude.{◌≡◌, ◌↔◌, ◌≤ℤ◌, ◌≤◌, ◌<◌, ◌==◌, if◌then◌else◌, ℕ, List, ◌++◌, map, take, drop, length, Option, None, Some, Result, Err, IsOk, IfOk, OnErr}
use Rattle.gx_geom.specs.Rectangles.{Rectangle, rectangle_of}
use Rattle.gx_geom.specs.Solids.{Solid, solid_of}
use Rattle.gx_geom.specs.declared.refusal.Refusal.{Refusal}
use Rattle.gx_geom.specs.declared.refusal.Refusal.TheVariants.{BadBox}
use Rattle.gx_machine.specs.declared.entry.Entry.{Entry}
use Rattle.gx_machine.specs.declared.query.Query.{Query}
use Rattle.gx_machine.specs.declared.query.Query.TheVariants.{Overlap, Within, Equal, Covers}
use Rattle.gx_c.specs.declared.sent.SentBox.{SentBox}
use Rattle.gx_c.specs.declared.sent.SentBox3.{SentBox3}
use Rattle.gx_c.specs.declared.sent.SentCount.{SentCount}
use Rattle.gx_c.specs.declared.sent.SentEntry.{SentEntry}
use Rattle.gx_c.specs.declared.sent.SentEntry3.{SentEntry3}

-- the box of these corners; BadBox exactly if some are reversed
pub record IsBoxOf (sent : SentBox) (result : Result Rectangle Refusal) : Type 0 where
  pub ok : IsOk result ↔ ((sent.x1 ≤ℤ sent.x2) × (sent.y1 ≤ℤ sent.y2))
  pub corners : IfOk result (λ b. b ≡ rectangle_of sent.x1 sent.y1 sent.x2 sent.y2)
  pub refused : OnErr result (result ≡ Err BadBox)

pub record IsSolidOf (sent : SentBox3) (result : Result Solid Refusal) : Type 0 where
  pub ok : IsOk result ↔ ((sent.x1 ≤ℤ sent.x2) × (sent.y1 ≤ℤ sent.y2) × (sent.z1 ≤ℤ sent.z2))
  pub corners : IfOk result (λ b. b ≡ solid_of sent.x1 sent.y1 sent.z1 sent.x2 sent.y2 sent.z2)
  pub refused : OnErr result (result ≡ Err BadBox)

-- an entry as C has it
abbrev pub sent_box : Rectangle → SentBox
sent_box b = record { x1 = b.x1; y1 = b.y1; x2 = b.x2; y2 = b.y2 }

abbrev pub sent_entry : Entry Rectangle → SentEntry
sent_entry e = record { row = e.row; key = sent_box e.key }

abbrev pub sent_solid : Solid → SentBox3
sent_solid b = record { x1 = b.x1; y1 = b.y1; z1 = b.z1; x2 = b.x2; y2 = b.y2; z2 = b.z2 }

abbrev pub sent_entry3 : Entry Solid → SentEntry3
sent_entry3 e = record { row = e.row; key = sent_solid e.key }

-- the kinds of queries, by number
abbrev pub query_of : {B : Type 0} → ℕ → B → Option (Query B)
query_of kind key =
    if kind == 0 then Some (Overlap key) else if kind == 1 then Some (Within key) else if kind == 2 then Some (Equal key)
    else if kind == 3 then Some (Covers key) else None

-- C gets as many of these entries as there are places for, in front of what is there; the others are left. The count
-- has both numbers.
pub record IsTold {E S : Type 0} (sent : E → S) (entries left : List E) (had out : List S) (count : SentCount) : Type 0 where
  pub found : count.found ≡ length entries
  pub few : count.told ≤ length entries
  pub room : count.told ≤ length had
  pub all : count.told < length had → count.told ≡ length entries
  pub told : out ≡ map sent (take count.told entries) ++ drop count.told had
  pub rest : left ≡ drop count.told entries

-- there was nothing to write
pub record IsUntold {S : Type 0} (had out : List S) (count : SentCount) : Type 0 where
  pub found : count.found ≡ 0
  pub told : count.told ≡ 0
  pub same : out ≡ had
