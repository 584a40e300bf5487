-- What is reported of a damaged log is true, body by body.
use Rattle.std.proofs.Common.{◌≡◌, ℕ, ◌<◌, ◌≤◌, Bool, true, false, ◌⊎◌, inl, inr, List, refl, ap, sym, ◌∙◌, subst, arith}
use Rattle.std.specs.Prelude.{Result, Ok, Err, IfOk, IfErr, take, drop}
use Rattle.gx_geom.specs.declared.refusal.Refusal.{Refusal}
use Rattle.gx_geom.specs.declared.refusal.Refusal.TheVariants as refusals
use Rattle.gx_disk.specs.Device as disk
use Rattle.gx_glog.specs.declared.extent.TheConstants.{BODY_ROOM}
use Rattle.gx_glog.specs.declared.extent.Extent.{Extent}
use Rattle.gx_glog.specs.Layout.{selected_of, is_open, body_of, size_in, records_in}
use Rattle.gx_glog.specs.Reading.{IsSize, ReadsBody, CountsReads}
use Rattle.gx_recovery.specs.Known.{Known, IsLawful}
use Rattle.gx_recovery.specs.Damage.{records_of}
use Rattle.gx_durable.specs.Spelled.{Reading}
use Rattle.gx_found_log.specs.declared.gathered.Gathered.{Gathered}
use Rattle.gx_recovery.specs.declared.rule.LogRule.{LogRule}
use Rattle.gx_recovery.specs.declared.rule.LogRule.TheVariants.{FirstGate, BodySize}
use Rattle.gx_found_log.specs.declared.fault.LogDamage.{LogDamage}
use Rattle.gx_found_log.specs.declared.fault.LogFault.{LogFault}
use Rattle.gx_found_log.specs.declared.fault.LogFault.TheVariants.{Memory, Device, Damaged}
use Rattle.gx_found_log.specs.declared.part.Part.{Part}
use Rattle.gx_found_log.specs.Broken.{BytesBroken}
use Rattle.gx_found_log.specs.Faults.{refusal_of, refusing}
use Rattle.gx_found_log.specs.Found.{IsUnread, HasLimits, part_at, ReadSoFar, PlaceRead, ReadsAlone}
use Rattle.gx_found_log.specs.Shown.{BodyBreaks, PlaceShows, ExtentShows, LogShows}
use Rattle.gx_found_log.proofs.found.Extents.{read_as, begun_at, missized_there, nothing_read}

-- what a body that can't be read is refused by
pub two_ways : {T : Type 0} (old new : disk.Device) (refusal : Refusal) → CountsReads {T = T} old new (Err refusal) → (refusal ≡ refusals.Device) ⊎ (refusal ≡ refusals.Damaged)
two_ways old new refusals.Device counts = inl refl
two_ways old new refusals.Damaged counts = inr refl
two_ways old new refusal counts = absurd counts.faults

alone_at : {T U : Type 0} (old new : disk.Device) (refusal : Refusal) → CountsReads {T = T} old new (Err refusal) → ReadsAlone {T = U} old new (Err refusal)
alone_at old new refusals.Device counts = record { sectors = counts.sectors; honest = counts.honest; calls = counts.calls; faults = counts.faults }
alone_at old new refusals.Damaged counts = record { sectors = counts.sectors; honest = counts.honest; calls = counts.calls; faults = counts.faults }
alone_at old new refusal counts = absurd counts.faults

pub reads_alone : {T U : Type 0} (old new : disk.Device) (refusal why : Refusal) → why ≡ refusal → CountsReads {T = T} old new (Err refusal) → ReadsAlone {T = U} old new (Err why)
reads_alone {T} {U} old new refusal why is counts = subst (λ (w : Refusal). ReadsAlone {T = U} old new (Err w)) (sym is) (alone_at old new refusal counts)

pub refused_ok : (result : Result ℕ LogFault) (i : ℕ) → IfOk result (λ n. (1 ≤ n) × (n ≡ i)) → IfOk (refusing result) (λ n. (1 ≤ n) × (n ≡ i))
refused_ok (Ok n) i ok = ok
refused_ok (Err fault) i ok = tt

pub refused_err : (result : Result ℕ LogFault) (damage : LogDamage) (i : ℕ) → IfErr result (λ fault. (fault ≡ Damaged damage) × (i ≡ 0))
    → IfErr (refusing result) (λ refusal. (refusal ≡ refusals.Damaged) × (i ≡ 0))
refused_err (Ok n) damage i err = tt
refused_err (Err fault) damage i err = (ap refusal_of err.0, err.1)

module _ {E P : Type 0} (k : Known E P) (r : Reading E P) (l : IsLawful k) where
  unread_at : (seen : List ℕ) (extent : Extent) (i : ℕ) (body : List ℕ) (old new : Gathered E) (refusal : Refusal) → ReadsBody seen extent i body (Err refusal)
      → PlaceRead k r seen extent i old (Err refusal) new
  unread_at seen extent i body old new refusals.Damaged reads = (reads.0, λ so n less whole. missized_there k r l seen extent i reads.1 n less whole)
  unread_at seen extent i body old new refusal reads = tt

  pub place_unread : (seen : List ℕ) (extent : Extent) (i : ℕ) (body : List ℕ) (old new : Gathered E) (refusal why : Refusal) → why ≡ refusal
      → ReadsBody seen extent i body (Err refusal) → PlaceRead k r seen extent i old (Err why) new
  place_unread seen extent i body old new refusal why is reads =
      subst (λ (w : Refusal). PlaceRead k r seen extent i old (Err w) new) (sym is) (unread_at seen extent i body old new refusal reads)

  -- what is reported of a body whose size is out of range, or that the device doesn't give
  pub missized_shown : (seen : List ℕ) (extent : Extent) (i : ℕ) (body : List ℕ) (old : Gathered E) (refusal : Refusal) (fault : LogFault)
      → (refusal ≡ refusals.Device) ⊎ (refusal ≡ refusals.Damaged)
      → (refusal ≡ refusals.Damaged → fault ≡ Damaged (record { extent = extent; body = i; at = 0; rule = BodySize })) → (refusal ≡ refusals.Device → fault ≡ Device)
      → ReadsBody seen extent i body (Err refusal) → PlaceShows k r seen extent i old fault
  missized_shown seen extent i body old refusal fault (inl device) damaged failed reads = subst (λ (f : LogFault). PlaceShows k r seen extent i old f) (sym (failed device)) tt
  missized_shown seen extent i body old refusal fault (inr damage) damaged failed reads =
      let odd : ReadsBody seen extent i body (Err refusals.Damaged) = subst (λ (w : Refusal). ReadsBody seen extent i body (Err w)) damage reads in
      subst (λ (f : LogFault). PlaceShows k r seen extent i old f) (sym (damaged damage)) (refl, refl, odd.0, λ so. inl (refl, refl, odd.1))

  -- what is reported of a body whose records are refused
  pub misfit_shown : (seen : List ℕ) (extent : Extent) (i : ℕ) (old : Gathered E) (bytes body : List ℕ) (size : ℕ) (part : Part) (at : ℕ) (rule : LogRule) → part ≡ part_at i
      → (size ≤ BODY_ROOM → bytes ≡ take size (drop 4 body)) → is_open seen extent i ≡ true → body ≡ body_of seen extent i → size ≡ size_in body → IsSize size
      → BytesBroken part k r bytes old at rule → PlaceShows k r seen extent i old (Damaged (record { extent = extent; body = i; at = at; rule = rule }))
  misfit_shown seen extent i old bytes body size part at rule is cut_to gate read said fits broken = (
    refl,
    refl,
    gate,
    λ so. (
        let here : BytesBroken (part_at i) k r (records_in (body_of seen extent i)) old at rule =
        subst (λ (ys : List ℕ). BytesBroken (part_at i) k r ys old at rule) (read_as seen extent i bytes body size cut_to read said fits)
        (subst (λ (p : Part). BytesBroken p k r bytes old at rule) is broken) in
        inr (record {
          size = subst IsSize (said ∙ ap size_in read) fits;
          bodies = so.bodies;
          told = so.told;
          undamaged = so.undamaged;
          here = here (records_of so.bodies) (begun_at k r l seen extent i old so) so.gathered;
        })),
  )

  -- what is reported of an extent: of one whose first gate is closed, and of a place
  pub gate_shown : (seen : List ℕ) (extent : Extent) (i : ℕ) (mid new : Gathered E) (result : Result ℕ LogFault)
      → IfErr result (λ fault. (fault ≡ Damaged (record { extent = extent; body = 0; at = 0; rule = FirstGate })) × (i ≡ 0))
      → (answer : Bool) → answer ≡ false → PlaceRead k r seen extent i mid (Ok answer) new → IfErr result (λ fault. ExtentShows k r seen extent fault)
  gate_shown seen extent i mid new (Ok n) err answer shut place = tt
  gate_shown seen extent i mid new (Err fault) err answer shut place =
      let closed : PlaceRead k r seen extent i mid (Ok false) new = subst (λ (b : Bool). PlaceRead k r seen extent i mid (Ok b) new) shut place in
      subst (λ (f : LogFault). ExtentShows k r seen extent f) (sym err.0) (record {
        extent_is = refl;
        gates = λ j less. absurd (omega arith);
        breaks = inl (refl, refl, refl, ap (λ n. is_open seen extent n) (sym err.1) ∙ closed.0);
      })

  place_shown : (seen : List ℕ) (extent : Extent) (i : ℕ) (mid : Gathered E) (fault : LogFault) → PlaceShows k r seen extent i mid fault → ReadSoFar k r seen extent i mid
      → ExtentShows k r seen extent fault
  place_shown seen extent i mid Memory shows so = tt
  place_shown seen extent i mid Device shows so = tt
  place_shown seen extent i mid (Damaged damage) shows so = record {
    extent_is = shows.0;
    gates = λ j less. so.gates j (subst (λ n. j < n) shows.1 less);
    breaks = inr (subst (λ n. (is_open seen extent n ≡ true) × BodyBreaks k r seen extent n damage.at damage.rule) (sym shows.1) (shows.2, shows.3 so));
  }

  pub place_shows : (seen now_seen : List ℕ) (extent : Extent) (i : ℕ) (mid : Gathered E) (fault : LogFault) → now_seen ≡ seen → PlaceShows k r now_seen extent i mid fault
      → ReadSoFar k r seen extent i mid → ExtentShows k r seen extent fault
  place_shows seen now_seen extent i mid fault read shows so =
      place_shown seen extent i mid fault (subst (λ (s : List ℕ). PlaceShows k r s extent i mid fault) read shows) so

  pub log_shows : (seen now_seen : List ℕ) (extent : Extent) (old : Gathered E) (fault : LogFault) → now_seen ≡ seen → extent ≡ selected_of seen → IsUnread old → HasLimits k old
      → (ReadSoFar k r now_seen extent 0 old → ExtentShows k r now_seen extent fault) → LogShows k r seen fault
  log_shows seen now_seen extent old fault read selects start pages shows =
      subst (λ (e : Extent). ExtentShows k r seen e fault) selects
      (subst (λ (s : List ℕ). ExtentShows k r s extent fault) read (shows (nothing_read k r l now_seen extent old start pages)))
