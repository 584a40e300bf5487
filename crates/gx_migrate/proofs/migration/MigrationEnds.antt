-- What a migration returns, by what it found in memory and laid down.
use Rattle.std.proofs.Common.{◌≡◌, ◌∙◌, sym, ap, refl, subst, inl, inr, ◌⊎◌, ℕ, ◌+◌, ◌*◌, ◌%◌, ◌<◌, ◌≤◌, Bool, true, List, length, take, Result, Ok, Err, arith}
use Rattle.std.proofs.Math.Nat.{mul-mod_right}
use Rattle.std.proofs.lemmas.Bool.{leb-true}
use Rattle.gx_geom.specs.declared.refusal.Refusal.{Refusal}
use Rattle.gx_disk.specs.declared.layout.TheConstants.{LEAST_SECTORS, MIN_PAGES}
use Rattle.gx_disk.specs.declared.memory.MemDisk.{MemDisk}
use Rattle.gx_disk.specs.Device as disk
use Rattle.gx_disk.specs.Sectors.{sector_of}
use Rattle.gx_durable.proofs.BodyLists.{bodies_one_way}
use Rattle.gx_format.specs.Formatting.{sectors_of}
use Rattle.gx_glog.specs.declared.parameters.Parameters.{Parameters}
use Rattle.gx_glog.proofs.Told.{told}
use Rattle.gx_machine.specs.declared.entry.Entry.{Entry}
use Rattle.gx_machine.specs.Keys.{Members}
use Rattle.gx_node.specs.Reading.{Format}
use Rattle.gx_index_laws.specs.Classes.{Page}
use Rattle.gx_older.specs.Renumbered.{older_sectors_of, renumbered}
use Rattle.gx_older.specs.Told.{IsOlder, MayBe, Tells}
use Rattle.gx_older.proofs.laws.KeptSectors.{is_renumbered}
use Rattle.gx_opening.specs.declared.standing.Standing.{Standing}
use Rattle.gx_opening.specs.Formatted.{IsAllowed, IsLarge, Says}
use Rattle.gx_opening.specs.Standing.{IsTested, MayStart, Stands, known_for, reading}
use Rattle.gx_recovery.specs.Analysis.{Analysis, analysis, number_of}
use Rattle.gx_recovery.specs.Damage.{records_of}
use Rattle.gx_recovery.specs.Known.{IsLawful}
use Rattle.gx_recovery.specs.Records.{Record}
use Rattle.gx_recovery.specs.declared.TheConstants.{TOUCHED}
use Rattle.gx_recovery.proofs.DamageItems.{bodies_log}
use Rattle.gx_recovery.proofs.Renewals.{log_fits}
use Rattle.gx_recovery.proofs.SoundRecords.{parts_of}
use Rattle.gx_migrate.specs.Migrated.{HasMovedBy, IsFound, IsHeld, IsMigrated, IsUnmigrated, memory_state, refusal_of_memory}
use Rattle.gx_migrate.specs.Migrating.{IsNotLaid}
use Rattle.gx_migrate.specs.Moved.{HasMoved, LeavesInPhases, StandsForFound}

-- so many sectors of bytes are whole ones
pub whole_sectors : (n m : ℕ) → n ≡ 512 * m → n % 512 ≡ 0
whole_sectors n m is = subst (λ k. k % 512 ≡ 0) (sym is) (mul-mod_right 512 m)

-- a device names the parameters of one index
pub tells_one : (seen : List ℕ) (p q : Parameters) → Tells seen p → Tells seen q → p ≡ q
tells_one seen p q one other = told p q one.fit other.fit (sym one.bytes ∙ other.bytes)

-- the bytes in memory say the same of it
pub says_same : (pages : ℕ) (seen bytes : List ℕ) (p q : Parameters) → 1 ≤ pages → 512 * older_sectors_of pages ≤ length seen → bytes ≡ renumbered pages seen → Tells seen p → Says bytes q → q ≡ p
says_same pages seen bytes p q some long is tells says =
    let first : sector_of bytes 1 ≡ sector_of seen 1 = ap (λ (xs : List ℕ). sector_of xs 1) is ∙ (is_renumbered pages seen some long).front 1 (omega arith) (omega arith) in
    told q p says.fit tells.fit (sym says.bytes ∙ ap (λ (sector : List ℕ). take 8 sector) first ∙ tells.bytes)

-- an index in memory has no more pages than its bytes have room for
pub held : {B : Type 0} (class pages : ℕ) (m e : MemDisk) (s : Standing B) → length m.bytes.items ≡ 512 * sectors_of pages → (memory_state e).sectors ≡ (memory_state m).sectors
    → IsAllowed class s.parameters × IsLarge (memory_state m).sectors s.parameters → MayStart s → IsHeld class pages (e, s)
held class pages m e s size same (allowed, large) starts =
    let its : length m.bytes.items ≡ 512 * m.sectors = m.whole in
    let others : length e.bytes.items ≡ 512 * e.sectors = e.whole in
    record {
      least = allowed.range.least_pages;
      most = allowed.range.most_pages;
      starts = starts;
      inside = omega (arith, size, its, large);
      bytes = omega (arith, others, same, large);
    }

-- a device with the sectors of its index has those of the smallest
pub large_enough : {class sectors : ℕ} (p : Parameters) → MayBe class p × (older_sectors_of p.pages ≤ sectors) → LEAST_SECTORS ≤ sectors
large_enough p allowed = (let least = allowed.0.range.least_pages in let fits = allowed.1 in omega (arith, least, fits))

module _ {B : Type 0} (shape : Members B) (is_key : B → Bool) (said : List ℕ → B) (f : Format B) where
  -- the numbers that are returned are those of the log that was found
  pub moved_by : (class : ℕ) (d e : disk.Device) (s : Standing B) (image : List ℕ) (commits used : ℕ) → Stands shape is_key said f class d e s → HasMoved shape is_key said f s.parameters d.seen image
      → commits ≡ s.log.analysis.told.number → used ≡ s.log.analysis.told.used → HasMovedBy shape is_key said f s.parameters d.seen image (commits, used)
  moved_by class d e s image commits used stands moved number greatest =
      let k = known_for shape is_key said f s.parameters in
      let r = reading shape is_key said f in
      let one = stands.laid.is.log.bodies in
      let other = moved.1.log.bodies in
      let same : one ≡ other = bodies_one_way r _ one other stands.laid.is.log.told moved.1.log.told in
      let is : s.log.analysis.told ≡ analysis k (records_of other) = stands.laid.is.kept.told ∙ ap (λ (bodies : List (List (Record (Entry B) (Page B)))). analysis k (records_of bodies)) same in
      record { moved = moved; commits = number ∙ ap (λ (a : Analysis (Entry B)). a.number) is; used = greatest ∙ ap (λ (a : Analysis (Entry B)). a.used) is }

  -- the same of the parameters and the bytes of the old device
  pub moved_so : (p q : Parameters) (xs ys image : List ℕ) (told : ℕ × ℕ) → p ≡ q → xs ≡ ys → HasMovedBy shape is_key said f p xs image told → HasMovedBy shape is_key said f q ys image told
  moved_so p q xs ys image told same bytes moved =
      subst (λ (zs : List ℕ). HasMovedBy shape is_key said f q zs image told) bytes (subst (λ (t : Parameters). HasMovedBy shape is_key said f t xs image told) same moved)

  -- what is found of bytes is found of the same bytes
  pub found_of : (class pages : ℕ) (xs ys : List ℕ) (result : Result (MemDisk × Standing B) Refusal) → xs ≡ ys → IsFound shape is_key said f class pages xs result
      → IsFound shape is_key said f class pages ys result
  found_of class pages xs ys result same found = subst (λ (zs : List ℕ). IsFound shape is_key said f class pages zs result) same found

  -- what was found in memory, of bytes that are these
  module _ (class pages : ℕ) (seen : List ℕ) (m e : MemDisk) (result : Result (Standing B) Refusal) (some : MIN_PAGES ≤ pages) (size : length m.bytes.items ≡ 512 * sectors_of pages)
      (bytes : m.bytes.items ≡ renumbered pages seen)
      (tested : LEAST_SECTORS ≤ (memory_state m).sectors → IsTested shape is_key said f class (e ≡ m) (memory_state m) (memory_state e) result) where
    large : LEAST_SECTORS ≤ (memory_state m).sectors
    large = (let its : length m.bytes.items ≡ 512 * m.sectors = m.whole in omega (arith, its, size, some))

    pub found_ok : (s : Standing B) → result ≡ Ok s → IsFound shape is_key said f class pages seen (Ok (e, s))
    found_ok s is = (m, (bytes, subst (λ (r : Result (Standing B) Refusal). IsTested shape is_key said f class (e ≡ m) (memory_state m) (memory_state e) r) is (tested large)))

    pub found_err : (cause why : Refusal) → result ≡ Err cause → why ≡ refusal_of_memory cause → IsFound shape is_key said f class pages seen (Err why)
    found_err cause why is told =
        inr (cause, (told, (m, (e, (bytes, subst (λ (r : Result (Standing B) Refusal). IsTested shape is_key said f class (e ≡ m) (memory_state m) (memory_state e) r) is (tested large))))))

  -- a log that was found has touched as few as an undamaged log may
  few_touched : (class : ℕ) (d e : disk.Device) (s : Standing B) → IsLawful (known_for shape is_key said f s.parameters) → Stands shape is_key said f class d e s
      → length s.log.analysis.told.touched ≤ TOUCHED
  few_touched class d e s lawful stands =
      let k = known_for shape is_key said f s.parameters in
      let log = records_of stands.laid.is.log.bodies in
      let few : length (analysis k log).touched ≤ TOUCHED =
      leb-true (length (analysis k log).touched) TOUCHED
      (parts_of k lawful (analysis k log) (log_fits k lawful log (bodies_log k stands.laid.is.log.bodies stands.laid.is.log.undamaged))).short in
      subst (λ (a : Analysis (Entry B)). length a.touched ≤ TOUCHED) (sym stands.laid.is.kept.told) few

  -- what comes of an index that was found, of an older device that has it
  module _ (class : ℕ) (d : disk.Device) (p : Parameters) (memory : MemDisk) (s : Standing B) (long : length d.seen ≡ 512 * d.sectors) (older : IsOlder class d.sectors d.seen (Ok p))
      (found : IsFound shape is_key said f class p.pages d.seen (Ok (memory, s))) where
    abbrev m : MemDisk
    m = found.0

    bytes : (memory_state m).seen ≡ renumbered p.pages d.seen
    bytes = found.1.0

    same : s.parameters ≡ p
    same =
        let least = older.1.1.0.range.least_pages in
        let large = older.1.1.1 in
        says_same p.pages d.seen (memory_state m).seen p s.parameters (omega (arith, least)) (omega (arith, large, long)) bytes older.1.0 found.1.1.formatted.says

    -- at each moment
    pub moves_in_phases : {E : Type 0} (other : E → disk.Device) (q : Parameters) (new laid : E) → Tells d.seen q
        → LeavesInPhases other (StandsForFound shape is_key said f s.parameters (memory_state m).seen) new laid
        → LeavesInPhases other (StandsForFound shape is_key said f q (renumbered q.pages d.seen)) new laid
    moves_in_phases other q new laid tells phases =
        subst (λ (t : Parameters). LeavesInPhases other (StandsForFound shape is_key said f t (renumbered t.pages d.seen)) new laid) (tells_one d.seen p q older.1.0 tells)
        (subst (λ (xs : List ℕ). LeavesInPhases other (StandsForFound shape is_key said f p xs) new laid) bytes
        (subst (λ (t : Parameters). LeavesInPhases other (StandsForFound shape is_key said f t (memory_state m).seen) new laid) same phases))

    -- and in the end
    pub is_migrated : (e : disk.Device) (commits used : ℕ) → sectors_of p.pages ≤ e.sectors → commits ≡ s.log.analysis.told.number → used ≡ s.log.analysis.told.used
        → HasMoved shape is_key said f s.parameters (memory_state m).seen e.seen × disk.IsSettled e → IsMigrated shape is_key said f class d e (commits, used)
    is_migrated e commits used room number greatest moved = record {
      parameters = p;
      older = older;
      large = room;
      moved = moved_so s.parameters p (memory_state m).seen (renumbered p.pages d.seen) e.seen (commits, used) same bytes
          (moved_by class (memory_state m) (memory_state memory) s e.seen commits used found.1.1 moved.0 number greatest);
      settled = moved.1;
    }

    -- or why it isn't laid down
    pub is_unmigrated : (sectors : ℕ) (why : Refusal) → sectors_of p.pages ≤ sectors → IsLawful (known_for shape is_key said f s.parameters) → IsNotLaid s.log.analysis.told why
        → IsUnmigrated shape is_key said f class d sectors why
    is_unmigrated sectors why room lawful (inl device) = inr (inr (p, (older, (room, inl (inl device)))))
    is_unmigrated sectors why room lawful (inr (inl memory)) = inr (inr (p, (older, (room, inl (inr memory)))))
    is_unmigrated sectors why room lawful (inr (inr damaged)) =
        absurd (let few = few_touched class (memory_state m) (memory_state memory) s lawful found.1.1 in let many = damaged.1 in omega (arith, few, many))
