-- What was laid down stands for what was found.
use Rattle.std.proofs.Common.{◌≡◌, ◌∙◌, sym, ap, refl, subst, inl, inr, ◌⊎◌, ℕ, ◌*◌, ◌<◌, ◌≤◌, Bool, true, List, [], ◌∷◌, ◌++◌, length, take, replicate, Result, Ok, Err, arith}
use Rattle.std.specs.Prelude.{OnOk}
use Rattle.std.proofs.lemmas.List.{take_at}
use Rattle.gx_geom.specs.declared.refusal.Refusal.{Refusal}
use Rattle.gx_geom.specs.declared.refusal.Refusal.TheVariants as refusal
use Rattle.gx_disk.specs.declared.layout.TheConstants.{MIN_SECTORS}
use Rattle.gx_disk.specs.Device as disk
use Rattle.gx_disk.specs.Device.{IsSettled}
use Rattle.gx_disk.proofs.Leaving.{leaves_weaker, nothing_leaves}
use Rattle.gx_machine.specs.declared.entry.Entry.{Entry}
use Rattle.gx_machine.specs.Keys.{Members}
use Rattle.gx_node.specs.Reading.{Format, is_node}
use Rattle.gx_glog.specs.declared.parameters.Parameters.{Parameters}
use Rattle.gx_glog.specs.Parameters.{parameters_bytes}
use Rattle.gx_recovery.specs.Analysis.{Analysis, analysis}
use Rattle.gx_recovery.specs.Damage.{records_of}
use Rattle.gx_recovery.specs.Known.{IsLawful}
use Rattle.gx_recovery.specs.Records.{Record}
use Rattle.gx_recovery.specs.Renewal.{head_of}
use Rattle.gx_recovery.specs.declared.TheConstants.{TOUCHED}
use Rattle.gx_recovery.proofs.DamageItems.{bodies_log}
use Rattle.gx_durable.specs.Area.{area_of}
use Rattle.gx_durable.specs.Fitting.{AreGood}
use Rattle.gx_durable.specs.Legal.{ReadsUsed}
use Rattle.gx_durable.specs.Spelled.{Reading, AreRecords}
use Rattle.gx_format.specs.Calls.{HasFailed, HasRun, Runs}
use Rattle.gx_format.specs.Formatting.{IsOldBeside, sectors_of}
use Rattle.gx_format.specs.Fresh.{HasMagic, IsUnnamed}
use Rattle.gx_index_laws.specs.Classes.{Page}
use Rattle.gx_opening.specs.declared.standing.Standing.{Standing}
use Rattle.gx_opening.specs.Standing.{Stands, known_for, reading}
use Rattle.gx_opening.proofs.Heads.{head_read}
use Rattle.gx_migrate.specs.Migrating.{IsBodyOf, Migrates, migrating}
use Rattle.gx_migrate.specs.Moved.{HasMoved, LeavesInPhases, StandsForFound}
use Rattle.gx_migrate.proofs.laying.LaidOut.{IsLaidOut, laid_bodies, laid_sizes}
use Rattle.gx_migrate.proofs.laying.Moments.{migration_leaves}
use Rattle.gx_migrate.proofs.laying.Renewing.{page_same, renewed_stands}

module _ {B : Type 0} (shape : Members B) (is_key : B → Bool) (said : List ℕ → B) (f : Format B) (class : ℕ) (d e : disk.Device) (s : Standing B)
    (lawful : IsLawful (known_for shape is_key said f s.parameters)) (reads : ReadsUsed (known_for shape is_key said f s.parameters))
    (stands : Stands shape is_key said f class d e s)
    (good : AreGood (known_for shape is_key said f s.parameters) (reading shape is_key said f) (area_of (reading shape is_key said f) s.parameters.pages d.seen) (records_of stands.laid.is.log.bodies)) where
  abbrev p : Parameters
  p = s.parameters

  abbrev log : List (Record (Entry B) (Page B))
  log = records_of stands.laid.is.log.bodies

  abbrev told : Analysis (Entry B)
  told = s.log.analysis.told

  told_is : told ≡ analysis (known_for shape is_key said f p) log
  told_is = stands.laid.is.kept.told

  -- an image that has the magic and is laid out stands for the set that was found
  laid_stands : (body image : List ℕ) → IsBodyOf (reading shape is_key said f) (head_of told) body → HasMagic image → IsLaidOut p e.seen told.used body image → StandsForFound shape is_key said f p d.seen image
  laid_stands body image is magic laid = record {
    log = stands.laid.is.log;
    stands =
        renewed_stands (known_for shape is_key said f p) lawful (reading shape is_key said f) reads (area_of (reading shape is_key said f) p.pages d.seen) log (analysis (known_for shape is_key said f p) log).next
        image is.head (bodies_log (known_for shape is_key said f p) stands.laid.is.log.bodies stands.laid.is.log.undamaged) good
        (λ page low high.
        page_same (reading shape is_key said f) p.pages image e.seen page (laid.pages page low (let same = ap (λ (a : Analysis (Entry B)). a.used) told_is in omega (arith, same, high)))
        ∙ stands.laid.area page)
        (head_read image p magic (ap (take 8) laid.told ∙ take_at (parameters_bytes p) (replicate 504 0) 8 refl))
        (laid_bodies p e.seen told.used is.head body image is.some is.few is.is laid)
        (laid_sizes p e.seen told.used is.head body image is.some is.few is.is laid)
        (subst (λ (a : Analysis (Entry B)). AreRecords (reading shape is_key said f) is.head (head_of a)) told_is is.are);
  }

  module _ {D : Type 0} (state : D → disk.Device) (whole : (x : D) → (state x).honest ≡ true → length (state x).seen ≡ 512 * (state x).sectors)
      (old new : D) (honest : (state old).honest ≡ true) (room : MIN_SECTORS ≤ (state old).sectors) (pages_room : sectors_of told.used ≤ (state old).sectors) where
    abbrev Left : Type 0
    Left = LeavesInPhases state (StandsForFound shape is_key said f p d.seen) old new

    -- at each moment of its calls, and in the end
    ran : (body : List ℕ) (result : Result (Unit {0}) Refusal) → IsBodyOf (reading shape is_key said f) (head_of told) body → Runs state (migrating p e.seen told.used body) old new result
        → Left × (result ≡ Ok tt → HasMoved shape is_key said f p d.seen (state new).seen × IsSettled (state new))
    ran body result is runs =
        let all = migration_leaves state whole p e.seen told.used body old honest room pages_room new result runs in
        let phases = all.0 in (
          record {
            cleared = phases.cleared;
            laid = phases.laid;
            first = phases.first;
            first_calls = phases.first_calls;
            middle = phases.middle;
            last =
                leaves_weaker (λ image. HasMagic image → IsLaidOut p e.seen told.used body image) (λ image. HasMagic image → StandsForFound shape is_key said f p d.seen image) (state phases.laid) (state new)
                (λ image laid magic. laid_stands body image is magic (laid magic)) phases.last;
            last_calls = phases.last_calls;
          },
          λ ok. (let named = all.1 ok in ((named.0, laid_stands body (state new).seen is named.0 named.1.0), named.1.1)),
        )

    -- the same, of bytes and of a number of pages that are those
    pub ran_over : (used : ℕ) (bytes body : List ℕ) (result : Result (Unit {0}) Refusal) → used ≡ told.used → e.seen ≡ bytes → IsBodyOf (reading shape is_key said f) (head_of told) body
        → Runs state (migrating p bytes used body) old new result
        → Left × (result ≡ Ok tt → HasMoved shape is_key said f p d.seen (state new).seen × IsSettled (state new))
    ran_over used bytes body result same seen is runs =
        ran body result is
        (subst (λ (n : ℕ). Runs state (migrating p e.seen n body) old new result) same (subst (λ (b : List ℕ). Runs state (migrating p b used body) old new result) (sym seen) runs))

-- if no call was made
pub nothing_in_phases : {D : Type 0} (state : D → disk.Device) (Has : List ℕ → Type 0) (d : D) → LeavesInPhases state Has d d
nothing_in_phases state Has d = record {
  cleared = d;
  laid = d;
  first = nothing_leaves (IsOldBeside (state d)) (state d);
  first_calls = omega arith;
  middle = nothing_leaves IsUnnamed (state d);
  last = nothing_leaves (λ image. HasMagic image → Has image) (state d);
  last_calls = omega arith;
}

-- what holds if it is Ok
pub on_ok : (result : Result (Unit {0}) Refusal) (X : Type 0) → (result ≡ Ok tt → X) → OnOk result X
on_ok (Ok done) X holds = holds refl
on_ok (Err why) X holds = tt

-- the calls of a migration are what it comes to
pub run_migrates : {E P D : Type 0} (r : Reading E P) (state : D → disk.Device) (parameters : Parameters) (told : Analysis E) (bytes body : List ℕ) (old new : D) (result : Result (Unit {0}) Refusal)
    → IsBodyOf r (head_of told) body → Runs state (migrating parameters bytes told.used body) old new result → Migrates r state parameters told bytes old new result
run_migrates r state parameters told bytes body old new (Ok x) is run = (body, (is, run))
run_migrates r state parameters told bytes body old new (Err why) is fails =
    subst (λ (w : Refusal). Migrates r state parameters told bytes old new (Err w)) (sym fails.0) (body, (is, fails.1))

-- the same, of a number of pages that is that
pub run_migrates_at : {E P D : Type 0} (r : Reading E P) (state : D → disk.Device) (parameters : Parameters) (a : Analysis E) (bytes body : List ℕ) (used : ℕ) (old new : D) (result : Result (Unit {0}) Refusal)
    → used ≡ a.used → IsBodyOf r (head_of a) body → Runs state (migrating parameters bytes used body) old new result → Migrates r state parameters a bytes old new result
run_migrates_at r state parameters a bytes body used old new result same is runs =
    run_migrates r state parameters a bytes body old new result is (subst (λ (n : ℕ). Runs state (migrating parameters bytes n body) old new result) same runs)

-- and if none was made
pub none_migrates : {E P D : Type 0} (r : Reading E P) (state : D → disk.Device) (parameters : Parameters) (told : Analysis E) (bytes : List ℕ) (d : D) (why : Refusal)
    → (why ≡ refusal.Memory) ⊎ ((why ≡ refusal.Damaged) × (TOUCHED < length told.touched)) → Migrates r state parameters told bytes d d (Err why)
none_migrates r state parameters told bytes d why (inl memory) = subst (λ (w : Refusal). Migrates r state parameters told bytes d d (Err w)) (sym memory) refl
none_migrates r state parameters told bytes d why (inr damaged) = subst (λ (w : Refusal). Migrates r state parameters told bytes d d (Err w)) (sym damaged.0) (damaged.1, refl)
