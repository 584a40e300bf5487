-- Readings, one after another.
use Rattle.std.proofs.Common.{◌≡◌, ◌∙◌, ℕ, Result, Ok, Err, arith}
use Rattle.gx_geom.specs.declared.refusal.Refusal.{Refusal}
use Rattle.gx_disk.specs.Device.{Device}
use Rattle.gx_older.specs.Reads.{FaultsAre, OnlyReads}

faults_joined : {T : Type 0} (a b c : ℕ) (result : Result T Refusal) → b ≡ a → FaultsAre b c result → FaultsAre a c result
faults_joined a b c (Ok x) same faults = faults ∙ same
faults_joined a b c (Err why) same faults = omega (arith, same, faults)

-- a reading that succeeded, and then another, are one
pub reads_joined : {S T : Type 0} (a b c : Device) (x : S) (result : Result T Refusal) → OnlyReads a b (Ok x) → OnlyReads b c result → OnlyReads a c result
reads_joined a b c x result first then = record {
  sectors = then.sectors ∙ first.sectors;
  honest = then.honest ∙ first.honest;
  calls = then.calls ∙ first.calls;
  faults = faults_joined a.faults b.faults c.faults result first.faults then.faults;
}

-- a refusal is the same of any result
pub reads_refused : {S T : Type 0} (a b : Device) (why : Refusal) → OnlyReads {T = S} a b (Err why) → OnlyReads {T = T} a b (Err why)
reads_refused a b why reads = record { sectors = reads.sectors; honest = reads.honest; calls = reads.calls; faults = reads.faults }

-- so is a success
pub reads_told : {S T : Type 0} (a b : Device) (x : S) (y : T) → OnlyReads a b (Ok x) → OnlyReads a b (Ok y)
reads_told a b x y reads = record { sectors = reads.sectors; honest = reads.honest; calls = reads.calls; faults = reads.faults }
