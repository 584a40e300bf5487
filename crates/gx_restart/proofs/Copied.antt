-- What an opening reads of a device lies below the end of its pages: so what holds of a copy of these sectors holds of the device.
use Rattle.std.proofs.Common.{◌≡◌, ◌⊎◌, ◌∙◌, sym, ap, refl, subst, inl, inr, ℕ, zero, suc, ◌+◌, ◌*◌, ◌<◌, ◌≤◌, Bool, true, false, List, take, drop, arith}
use Rattle.std.specs.Prelude.{if◌then◌else◌, IfErr, IfOk, Result, Ok, Err}
use Rattle.std.proofs.Math.Path.{fun_ext}
use Rattle.std.proofs.lemmas.List.{drop-drop, drop-take, take-take}
use Rattle.gx_disk.specs.declared.layout.TheConstants.{MIN_SECTORS, PAGES_AT}
use Rattle.gx_glog.specs.declared.extent.TheConstants.{PLACES}
use Rattle.gx_geom.specs.declared.refusal.Refusal.{Refusal}
use Rattle.gx_geom.specs.declared.refusal.Refusal.TheVariants as refusal
use Rattle.gx_disk.specs.Device.{Device}
use Rattle.gx_disk.specs.Sectors.{sector_of, span_of}
use Rattle.gx_disk.proofs.Spans.{spans_same}
use Rattle.gx_glog.specs.declared.extent.Extent.{Extent}
use Rattle.gx_glog.specs.declared.parameters.Parameters.{Parameters}
use Rattle.gx_glog.specs.Cuts.{bodies_in}
use Rattle.gx_glog.specs.Layout.{body_of, is_open, open_run, selected_of, size_in}
use Rattle.gx_glog.specs.Reading.{IsSize}
use Rattle.gx_glog.proofs.Gates.{bodies_same, body_same, gate_same, placed, selector_same}
use Rattle.gx_pool.specs.Area.{first_of}
use Rattle.gx_recovery.specs.Known.{Known}
use Rattle.gx_recovery.specs.Damage.{records_of}
use Rattle.gx_recovery.specs.Redo.{redone}
use Rattle.gx_recovery.specs.Standing.{stands_for}
use Rattle.gx_durable.specs.Area.{HasPages, area_of}
use Rattle.gx_durable.specs.Bodies.{AreBodies}
use Rattle.gx_durable.specs.Fitting.{AreGood}
use Rattle.gx_durable.specs.Spelled.{Reading}
use Rattle.gx_durable.proofs.Areas.{page_same}
use Rattle.gx_found_log.specs.Found.{HasUndamaged, IsFound, opened}
use Rattle.gx_found_log.specs.declared.found.FoundLog.{FoundLog}
use Rattle.gx_index_laws.specs.Classes.{Page}
use Rattle.gx_machine.specs.declared.entry.Entry.{Entry}
use Rattle.gx_machine.specs.Keys.{Members}
use Rattle.gx_machine.specs.Sets.{IsSetOf}
use Rattle.gx_class.specs.Traits.{traits_of}
use Rattle.gx_class.specs.declared.class.KeyClass.{Ghosts}
use Rattle.gx_node.specs.Reading.{Format, format_of}
use Rattle.gx_format.specs.Formatting.{sectors_of}
use Rattle.gx_opening.specs.Formatted.{Counted, MaySettle, Says}
use Rattle.gx_opening.specs.Laid.{IsSpared}
use Rattle.gx_opening.proofs.Stood.{one_cause, one_saying}
use Rattle.gx_opening.specs.Sound.{IsCause}
use Rattle.gx_opening.specs.Standing.{IsFormatted, LaysSafely, known_for, limits_of, reading}
use Rattle.gx_opening.specs.Writing.{IsInOrder}
use Rattle.gx_durable.specs.Classes.{class_of}
use Rattle.gx_restart.specs.Beginning.{HasFailed, IsSameDevice}
use Rattle.gx_restart.specs.Copied.{AreEnough, IsCopy, IsFront, IsNoMore, refusal_of_copy}
use Rattle.gx_restart.specs.Opened.{IsRefused}
use Rattle.gx_restart.specs.Order.{RefusedInOrder}
use Rattle.gx_restart.specs.Verified.{HasDamagedLog, HasUnsoundPages, IsCopyOf, IsDamagedCopy, IsUncopied, IsUnverified, IsUnverifiedCopy, IsVerified}
use Rattle.gx_restart.specs.declared.verification.Report.{Report}

-- the sectors below a number read the same
abbrev pub ReadAlike : ℕ → List ℕ → List ℕ → Type 0
ReadAlike n xs ys = (s : ℕ) → s < n → sector_of xs s ≡ sector_of ys s

-- those of a front read as they do in the whole
pub front_alike : (n : ℕ) (xs : List ℕ) → ReadAlike n (span_of xs 0 (512 * n)) xs
unfolding span_of sector_of
front_alike n xs s less =
    let whole : List ℕ = drop (512 * 0) xs in
    let place : 512 * 0 + 512 * s ≡ 512 * s = omega arith in
    let cut : (zs : List ℕ) → take 512 (drop (512 * s) zs) ≡ drop (512 * s) (take (512 * s + 512) zs) = (λ zs. sym (drop-take (512 * s) 512 zs)) in
    cut (take (512 * n) whole) ∙ ap (drop (512 * s)) (take-take (512 * s + 512) (512 * n) whole (omega (arith, less))) ∙ sym (cut whole)
    ∙ ap (take 512) (drop-drop (512 * s) (512 * 0) xs ∙ ap (λ m. drop m xs) place)

-- the log of both is one, where its sectors are among these
module _ (n : ℕ) (xs ys : List ℕ) (enough : PAGES_AT ≤ n) (same : ReadAlike n xs ys) where
  pub selected_alike : selected_of xs ≡ selected_of ys
  selected_alike = selector_same xs ys (same 2 (omega (arith, enough)))

  gates_alike : (x : Extent) (k : ℕ) → k < PLACES → is_open xs x k ≡ is_open ys x k
  gates_alike x k less = gate_same x k xs ys (same _ (let at = placed x in omega (arith, enough, less, at.bodies, at.to)))

  bodies_alike : (x : Extent) (k : ℕ) → k < PLACES → body_of xs x k ≡ body_of ys x k
  bodies_alike x k less =
      body_same x k xs ys (λ s within. same s (let at = placed x in let below = within.below in omega (arith, enough, less, at.to, below)))

  run_alike : (x : Extent) (places k : ℕ) → k + places ≤ PLACES → open_run xs x k places ≡ open_run ys x k places
  unfolding open_run
  run_alike x zero k fits = refl
  run_alike x (suc places) k fits =
      ap (λ b. if b then suc (open_run xs x (k + 1) places) else 0) (gates_alike x k (omega (arith, fits)))
      ∙ ap (λ m. if is_open ys x k then suc m else 0) (run_alike x places (k + 1) (omega (arith, fits)))

  pub opened_alike : opened xs ≡ opened ys
  opened_alike = ap (λ x. open_run xs x 0 PLACES) selected_alike ∙ run_alike (selected_of ys) PLACES 0 (omega arith)

  few_by : (bytes : List ℕ) (x : Extent) (places k : ℕ) → open_run bytes x k places ≤ places
  unfolding open_run
  few_by bytes x zero k = omega arith
  few_by bytes x (suc places) k =
      elim (is_open bytes x k) as (λ b. (if b then suc (open_run bytes x (k + 1) places) else 0) ≤ suc places)
      [ true ↦ (let rest = few_by bytes x places (k + 1) in omega (arith, rest)) | false ↦ omega arith ]

  -- each body of the log, and all of them
  pub log_body : (j : ℕ) → j < opened ys → body_of xs (selected_of xs) j ≡ body_of ys (selected_of ys) j
  log_body j less =
      let few = few_by ys (selected_of ys) PLACES 0 in
      ap (λ x. body_of xs x j) selected_alike ∙ bodies_alike (selected_of ys) j (omega (arith, few, less))

  pub log_bodies : bodies_in xs (selected_of xs) (opened xs) ≡ bodies_in ys (selected_of ys) (opened ys)
  log_bodies =
      let few = few_by ys (selected_of ys) PLACES 0 in
      ap (λ x. bodies_in xs x (opened xs)) selected_alike ∙ ap (λ m. bodies_in xs (selected_of ys) m) opened_alike
      ∙ bodies_same (selected_of ys) (opened ys) xs ys (λ j less. bodies_alike (selected_of ys) j (omega (arith, few, less)))

  module _ {E P : Type 0} (k : Known E P) (r : Reading E P) where
    abbrev pub log_alike : HasUndamaged k r xs → HasUndamaged k r ys
    log_alike log = record {
      sizes = λ j less. subst (λ b. IsSize (size_in b)) (log_body j less) (log.sizes j (subst (λ m. j < m) (sym opened_alike) less));
      bodies = log.bodies;
      told = subst (λ b. AreBodies r b log.bodies) log_bodies log.told;
      undamaged = log.undamaged;
    }

    abbrev pub found_alike : (found : FoundLog E) → IsFound k r xs found → IsFound k r ys found
    found_alike found is = record {
      extent = is.extent ∙ selected_alike;
      bodies = is.bodies ∙ opened_alike;
      log = log_alike is.log;
      kept = is.kept;
      given = is.given;
    }

    -- and so are the pages
    pub area_alike : HasPages k.pages n → area_of r k.pages xs ≡ area_of r k.pages ys
    area_alike has =
        fun_ext (λ p. page_same r k.pages n has p xs ys
        (λ is. spans_same 8 (first_of p) xs ys (λ s within. same s (let below = within.below in let from = is.from in let inside = is.inside in omega (arith, below, from, inside)))))

module _ {B : Type 0} (shape : Members B) (is_key : B → Bool) (said : List ℕ → B) (f : Format B) (class : ℕ) (d e : Device) (copy : IsCopy d e) where
  abbrev k : Parameters → Known (Entry B) (Page B)
  k p = known_for shape is_key said f p

  abbrev r : Reading (Entry B) (Page B)
  r = reading shape is_key said f

  alike : ReadAlike e.sectors e.seen d.seen
  alike s less = ap (λ bytes. sector_of bytes s) copy.bytes ∙ front_alike e.sectors d.seen s less

  back : ReadAlike e.sectors d.seen e.seen
  back s less = sym (alike s less)

  enough : PAGES_AT ≤ e.sectors
  enough = let least = copy.least in omega (arith, least)

  says_there : (p : Parameters) → Says e.seen p → Says d.seen p
  says_there p says = record { bytes = ap (take 8) (back 1 (omega (arith, enough))) ∙ says.bytes; fit = says.fit }

  magic_there : take 8 (sector_of e.seen 0) ≡ take 8 (sector_of d.seen 0)
  magic_there = ap (take 8) (alike 0 (omega (arith, enough)))

  formatted_there : (p : Parameters) → IsFormatted shape is_key said f class e p → IsFormatted shape is_key said f class d p
  formatted_there p is = record {
    magic = sym magic_there ∙ is.magic;
    says = says_there p is.says;
    allowed = is.allowed;
    large = let inside = copy.inside in let large = is.large in omega (arith, inside, large);
  }

  pages_there : (p : Parameters) → IsFormatted shape is_key said f class e p → HasPages p.pages e.sectors
  pages_there p is = record { few = is.allowed.range.most_pages; inside = is.large }

  area_there : (p : Parameters) → IsFormatted shape is_key said f class e p → area_of r p.pages e.seen ≡ area_of r p.pages d.seen
  area_there p is = area_alike e.sectors e.seen d.seen enough alike (k p) r (pages_there p is)

  -- what a copy is verified to hold the device holds
  pub verified_there : (report : Report) → IsVerified shape is_key said f class e report → IsVerified shape is_key said f class d report
  verified_there report v =
      let p = v.parameters in
      let records = records_of v.found.log.bodies in
      let same = area_there p v.formatted in record {
        parameters = p;
        formatted = formatted_there p v.formatted;
        found = record {
          log = log_alike e.sectors e.seen d.seen enough alike (k p) r v.found.log;
          good = subst (λ (area : ℕ → Page B). AreGood (k p) r area records) same v.found.good;
        };
        set = v.set;
        is = subst (λ (area : ℕ → Page B). IsSetOf (class_of shape is_key (limits_of p)).keys (stands_for (k p) area records) v.set) same v.is;
        commits = v.commits;
        entries = v.entries;
        used = v.used;
      }

  damaged_there : HasDamagedLog shape is_key said f class e → HasDamagedLog shape is_key said f class d
  damaged_there is = record {
    parameters = is.parameters;
    formatted = formatted_there is.parameters is.formatted;
    damaged = λ log. is.damaged (log_alike e.sectors d.seen e.seen enough back (k is.parameters) r log);
  }

  unsound_there : HasUnsoundPages shape is_key said f class e → HasUnsoundPages shape is_key said f class d
  unsound_there is =
      let p = is.parameters in
      let records = records_of is.found.log.bodies in record {
        parameters = p;
        formatted = formatted_there p is.formatted;
        log = is.log;
        found = found_alike e.sectors e.seen d.seen enough alike (k p) r is.log is.found;
        laid = is.laid;
        area = λ q. is.area q ∙ ap (λ (area : ℕ → Page B). redone area records q) (area_there p is.formatted);
        unsound = is.unsound;
      }

  too_small : (p : Parameters) → AreEnough d.sectors e.sectors p → e.sectors < sectors_of p.pages → d.sectors < sectors_of p.pages
  too_small p (inl all) less = omega (arith, all, less)
  too_small p (inr some) less = absurd (omega (arith, some, less))

  settles_there : (why : Refusal) → MaySettle class e.sectors e.seen (Err why) → MaySettle class d.sectors d.seen (Err why)
  settles_there refusal.OldVersion old = sym magic_there ∙ old
  settles_there refusal.NotFormatted never = (λ magic. never.0 (magic_there ∙ magic), λ old. never.1 (magic_there ∙ old))
  settles_there refusal.BadParameter is = (sym magic_there ∙ is.0, (is.1.0, (says_there is.1.0 is.1.1.0, is.1.1.1)))
  settles_there refusal.TooSmall is =
      let p = is.1.0 in
      let says = says_there p is.1.1.0 in
      (sym magic_there ∙ is.0, (p, (says, (is.1.1.1.0, too_small p (copy.enough p says is.1.1.1.0.range) is.1.1.1.1))))
  settles_there refusal.Device is = tt
  settles_there other never = absurd never

  -- and what a copy isn't verified for, but as a failed call
  pub unverified_there : ((p : Parameters) × IsFormatted shape is_key said f class d p) → (why : Refusal) → (why ≡ refusal.Device → ⊥)
      → IsUnverifiedCopy shape is_key said f class e why → IsUnverified shape is_key said f class d why
  unverified_there there why other (inl settles) = inl (settles_there why settles)
  unverified_there there why other (inr (inl (is, inl log))) = inr (inl (is, inl (damaged_there log)))
  unverified_there there why other (inr (inl (is, inr pages))) = inr (inl (is, inr (unsound_there pages)))
  unverified_there there why other (inr (inr (inl device))) = absurd (other device)
  unverified_there there why other (inr (inr (inr memory))) = inr (inr (memory, there))

  -- what is left of it has no more sectors
  pub few_there : (now : Device) → IsDamagedCopy shape is_key said f e now → IsNoMore d.seen now.sectors
  few_there now left = λ p says. (let inside = left.inside in let few = copy.few p says in omega (arith, inside, few))

  -- what an opening left of a copy that is damaged it left of one of the device
  says_back : (p : Parameters) → Says d.seen p → Says e.seen p
  says_back p says = record { bytes = ap (take 8) (alike 1 (omega (arith, enough))) ∙ says.bytes; fit = says.fit }

  pub left_there : (now : Device) → IsDamagedCopy shape is_key said f e now → IsDamagedCopy shape is_key said f d now
  left_there now left =
      let inside = left.inside in
      let copied = copy.inside in record {
        honest = left.honest;
        least = left.least;
        inside = omega (arith, inside, copied);
        spares = λ p says s less spared.
            left.spares p (says_back p says) s less (λ log. spared (log_alike e.sectors e.seen d.seen enough alike (k p) r log))
            ∙ alike s (omega (arith, less, inside));
      }

-- what an opening left of a device that it refused as damaged
module _ {C B D : Type 0} (shape : Members B) (is_key : B → Bool) (said : List ℕ → B) (class : Ghosts C B) (state : D → Device) (d e : Device) (least : MIN_SECTORS ≤ d.sectors)
    (honest : d.honest ≡ true) (same : IsSameDevice d e) where
  abbrev Left : Type 0
  Left = IsDamagedCopy shape is_key said (format_of class) d e

  left_so : ((p : Parameters) → Says d.seen p → (s : ℕ) → IsSpared (known_for shape is_key said (format_of class) p) (reading shape is_key said (format_of class)) d.seen s
      → sector_of e.seen s ≡ sector_of d.seen s) → Left
  left_so spares =
      let sectors = same.0 in record {
        honest = same.1 ∙ honest;
        least = omega (arith, sectors, least);
        inside = omega (arith, sectors);
        spares = λ p says s less spared. spares p says s spared;
      }

  in_order : IsInOrder state (LaysSafely shape is_key said (format_of class)) d e → Left
  in_order (inl unwritten) = left_so (λ p says s spared. ap (λ bytes. sector_of bytes s) unwritten.only.rests.seen)
  in_order (inr syncs) =
      let seen = syncs.synced.only.rests.seen in
      left_so (λ p says s spared.
      (syncs.later.spares p (subst (λ bytes. Says bytes p) (sym seen) says)).now.same s
      (subst (λ bytes. IsSpared (known_for shape is_key said (format_of class) p) (reading shape is_key said (format_of class)) bytes s) (sym seen) spared)
      ∙ ap (λ bytes. sector_of bytes s) seen)

  unfailed : (why : Refusal) → refusal_of_copy why ≡ refusal.Damaged → HasFailed why → ⊥
  unfailed refusal.Device is failed = cc
  unfailed other is (inl device) = (let no : refusal.Damaged ≡ refusal.Device = sym is ∙ device in cc)
  unfailed other is (inr memory) = (let no : refusal.Damaged ≡ refusal.Memory = sym is ∙ memory in cc)

  pub damaged_left : (why : Refusal) → refusal_of_copy why ≡ refusal.Damaged → RefusedInOrder shape (traits_of is_key said class) state why d e → Left
  damaged_left why is refused = in_order (refused.laid (unfailed why is))

-- what an opening of a copy is refused for
module _ {B D : Type 0} (shape : Members B) (is_key : B → Bool) (said : List ℕ → B) (f : Format B) (state : D → Device) (class : ℕ) (old new : D) where
  abbrev d : Device
  d = state old

  abbrev Unverified : Refusal → Type 0
  Unverified = IsUnverifiedCopy shape is_key said f class d

  -- a failure of a copy is a lack of memory
  failed_so : (why : Refusal) → HasFailed why → Unverified (refusal_of_copy why)
  failed_so why (inl device) = subst (λ x. Unverified (refusal_of_copy x)) (sym device) (inr (inr (inr refl)))
  failed_so why (inr memory) = subst (λ x. Unverified (refusal_of_copy x)) (sym memory) (inr (inr (inr refl)))

  caused_so : (why : Refusal) → IsCause why → (why ≡ refusal.Damaged → HasDamagedLog shape is_key said f class d ⊎ HasUnsoundPages shape is_key said f class d)
      → Unverified (refusal_of_copy why)
  caused_so why (inl device) damage = failed_so why (inl device)
  caused_so why (inr (inl memory)) damage = failed_so why (inr memory)
  caused_so why (inr (inr damaged)) damage = subst (λ x. Unverified (refusal_of_copy x)) (sym damaged) (inr (inl (refl, damage damaged)))

  settles_so : (why : Refusal) → MaySettle class d.sectors d.seen (Err why) → Unverified (refusal_of_copy why)
  settles_so refusal.OldVersion is = inl is
  settles_so refusal.NotFormatted is = inl is
  settles_so refusal.BadParameter is = inl is
  settles_so refusal.TooSmall is = inl is
  settles_so refusal.Device is = inr (inr (inr refl))
  settles_so other never = absurd never

  pub refused_so : (why : Refusal) → IsRefused shape is_key said f state class old new why → Unverified (refusal_of_copy why)
  refused_so why (inl settles) = settles_so why settles
  refused_so why (inr (inl unlaid)) =
      caused_so why (one_cause why unlaid.cause) (λ is. inl (record { parameters = unlaid.parameters; formatted = unlaid.formatted; damaged = unlaid.damaged is }))
  refused_so why (inr (inr (inl unsound))) =
      caused_so why unsound.cause (λ is. inr (record {
        parameters = unsound.parameters;
        formatted = unsound.formatted;
        log = unsound.log;
        found = unsound.laid.is;
        laid = (state new).seen;
        area = unsound.laid.area;
        unsound = unsound.unsound is;
      }))
  refused_so why (inr (inr (inr (inl stopped)))) = failed_so why stopped.cause
  refused_so why (inr (inr (inr (inr room)))) = failed_so why (inr room.0)

-- why a copy is reported as damaged
pub damaged_as : (why : Refusal) → refusal_of_copy why ≡ refusal.Damaged → why ≡ refusal.Damaged
damaged_as refusal.Device is = cc
damaged_as other is = is

pub never_device : (why : Refusal) → refusal_of_copy why ≡ refusal.Device → ⊥
never_device refusal.Device is = cc
never_device other is = cc

-- the first sectors of a device that is formatted for an index, as many as that has, are a copy
module _ {B M : Type 0} (shape : Members B) (is_key : B → Bool) (said : List ℕ → B) (f : Format B) (class : ℕ) (state : M → Device) (d middle : Device) (p : Parameters)
    (formatted : IsFormatted shape is_key said f class d p) (same : middle.seen ≡ d.seen) where
  copy_so : (e : Device) → IsFront middle (sectors_of p.pages) e → IsCopyOf shape is_key said f class d e
  copy_so e front = (
    record {
      least = let is = front.sectors in let least = formatted.allowed.range.least_pages in omega (arith, is, least);
      inside = let is = front.sectors in let large = formatted.large in omega (arith, is, large);
      honest = front.honest;
      bytes = front.bytes ∙ ap (λ seen. span_of seen 0 (512 * sectors_of p.pages)) same ∙ ap (λ m. span_of d.seen 0 (512 * m)) (sym front.sectors);
      enough = λ q so range. inr (subst (λ (x : Parameters). sectors_of x.pages ≤ e.sectors) (one_saying d.seen p q formatted.says so) (let is = front.sectors in omega (arith, is)));
      few = λ q so. subst (λ (x : Parameters). e.sectors ≤ sectors_of x.pages) (one_saying d.seen p q formatted.says so) (let is = front.sectors in omega (arith, is));
    },
    (p, formatted),
  )

  pub copy_made : (result : Result M Refusal) → IfOk result (λ m. IsFront middle (sectors_of p.pages) (state m)) → IfOk result (λ m. IsCopyOf shape is_key said f class d (state m))
  copy_made (Ok m) front = copy_so (state m) front
  copy_made (Err why) front = tt

  -- where it is refused, a call failed, or memory was refused behind these tests
  uncopied_so : (why : Refusal) → HasFailed why → IsUncopied shape is_key said f class d why
  uncopied_so why (inl device) = subst (λ x. IsUncopied shape is_key said f class d x) (sym device) (inl tt)
  uncopied_so why (inr memory) = inr (memory, (p, formatted))

  pub copy_refused : (result : Result M Refusal) → IfErr result HasFailed → IfErr result (IsUncopied shape is_key said f class d)
  copy_refused (Ok m) failed = tt
  copy_refused (Err why) failed = uncopied_so why failed

-- what isn't copied isn't verified
pub uncopied_unverified : {B : Type 0} (shape : Members B) (is_key : B → Bool) (said : List ℕ → B) (f : Format B) (class : ℕ) (d : Device) (why : Refusal) → IsUncopied shape is_key said f class d why
    → IsUnverified shape is_key said f class d why
uncopied_unverified shape is_key said f class d why (inl settles) = inl settles
uncopied_unverified shape is_key said f class d why (inr lacks) = inr (inr lacks)

-- and what isn't copied isn't damaged
pub uncopied_undamaged : {B : Type 0} (shape : Members B) (is_key : B → Bool) (said : List ℕ → B) (f : Format B) (class : ℕ) (d : Device) (why : Refusal) → IsUncopied shape is_key said f class d why
    → why ≡ refusal.Damaged → ⊥
uncopied_undamaged shape is_key said f class d why (inl settles) is = subst (λ w. MaySettle class d.sectors d.seen (Err w)) is settles
uncopied_undamaged shape is_key said f class d why (inr lacks) is = (let no : refusal.Damaged ≡ refusal.Memory = sym is ∙ lacks.0 in cc)

pub large_enough : {M : Type 0} (state : M → Device) (n : ℕ) → MIN_SECTORS ≤ n → (result : Result M Refusal) → IfOk result (λ m. (state m).sectors ≡ n) → IfOk result (λ m. MIN_SECTORS ≤ (state m).sectors)
large_enough state n least (Ok m) is = omega (arith, is, least)
large_enough state n least (Err why) is = tt

-- calls that only read, one behind the other
pub counted_joined : {T U : Type 0} (a b e : Device) (x : T) (result : Result U Refusal) → Counted 0 a b (Ok x) → Counted 0 b e result → Counted 0 a e result
counted_joined a b e x (Ok y) first next =
    let from = first.from in
    let to = first.to in
    let since = next.from in
    let till = next.to in
    let before = first.faults in
    let after = next.faults in
    record { sectors = next.sectors ∙ first.sectors; honest = next.honest ∙ first.honest; from = omega (arith, from, since); to = omega (arith, to, till); faults = omega (arith, before, after) }
counted_joined a b e x (Err why) first next =
    let from = first.from in
    let to = first.to in
    let since = next.from in
    let till = next.to in
    let before = first.faults in
    let after = next.faults in
    record { sectors = next.sectors ∙ first.sectors; honest = next.honest ∙ first.honest; from = omega (arith, from, since); to = omega (arith, to, till); faults = omega (arith, before, after) }
