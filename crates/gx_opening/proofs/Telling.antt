-- How damage is reported, step by step.
use Rattle.std.proofs.Common.{◌≡◌, ◌⊎◌, inl, inr, ℕ, ◌<◌, ◌≤◌, Bool, List, [], ◌∷◌, Option, Some, None, Result, Ok, Err, length, refl, sym, subst, ⊎_elim, arith}
use Rattle.std.specs.declared.cmp.Ordering.{Ordering}
use Rattle.gx_disk.specs.Device.{Device}
use Rattle.gx_found_log.specs.declared.found.FoundLog.{FoundLog}
use Rattle.gx_found_log.specs.Faults as log
use Rattle.gx_found_log.specs.Found.{FaultsTold, IsFound}
use Rattle.gx_found_log.specs.declared.fault.LogFault.{LogFault}
use Rattle.gx_found_log.specs.declared.fault.LogFault.TheVariants as log_fault
use Rattle.gx_found_log.specs.Shown.{LogShows}
use Rattle.gx_geom.specs.declared.refusal.Refusal.{Refusal}
use Rattle.gx_geom.specs.declared.refusal.Refusal.TheVariants as refusal
use Rattle.gx_glog.specs.declared.parameters.Parameters.{Parameters}
use Rattle.gx_index_laws.specs.Classes.{Page}
use Rattle.gx_legality.specs.Owner.{IsFound as IsFoundBroken, IsWhyBehind}
use Rattle.gx_legality.specs.declared.fault.LegalityFault.{LegalityFault}
use Rattle.gx_legality.specs.declared.fault.LegalityFault.TheVariants as fault
use Rattle.gx_legality.specs.declared.fault.Rule.{Rule}
use Rattle.gx_legality.specs.declared.notes.NotedPair.{NotedPair}
use Rattle.gx_legality.specs.Placing.{BreaksOrLeavesOut, IsPlaced}
use Rattle.gx_legality.proofs.Slots.{some_slot}
use Rattle.gx_machine.specs.declared.entry.Entry.{Entry}
use Rattle.gx_machine.specs.Keys.{Members}
use Rattle.gx_node.specs.Reading.{Format, is_node}
use Rattle.gx_durable.specs.Spelled.{Reading}
use Rattle.gx_format.specs.Formatting.{sectors_of}
use Rattle.gx_disk.specs.declared.layout.TheConstants.{LEAST_SECTORS}
use Rattle.gx_opening.specs.Formatted.{IsAllowed, MaySettle}
use Rattle.gx_opening.proofs.Stood.{one_saying}
use Rattle.gx_opening.specs.Sound.{AreSound, CanAllBeRead, IsShownSound, shown_tree}
use Rattle.gx_opening.specs.Standing.{IsFormatted, known_for, reading}
use Rattle.gx_opening.specs.Noting.{AreNoted, AreOfOthers, IsOfOne}
use Rattle.gx_page.specs.Contents.{Contents}
use Rattle.gx_recovery.specs.Analysis.{Analysis}
use Rattle.gx_recovery.specs.Known.{Known, IsLawful}
use Rattle.gx_recovery.specs.Records.{Touch}
use Rattle.gx_store.specs.Faults as faults
use Rattle.gx_store.specs.Standing.{store_of}
use Rattle.gx_store.specs.State.{IsSteady, Shelf}
use Rattle.gx_store.specs.declared.fault.StoreFault.{StoreFault}
use Rattle.gx_store.specs.declared.fault.StoreFault.TheVariants as store_fault
use Rattle.gx_node.specs.Keyed.{rules_of}
use Rattle.gx_node.specs.Store.{tree_of}
use Rattle.gx_node.specs.Lists.{Each, SomeOf}
use Rattle.gx_node.specs.Trees.{Rules, Tree}
use Rattle.gx_node.specs.Writes.{IsSeek}
use Rattle.gx_opening.specs.declared.damage.Damage.{Damage}
use Rattle.gx_opening.specs.declared.damage.Damage.TheVariants.{Log, TooManyPages, Unreadable, Broken}
use Rattle.gx_opening.specs.Shown.{Examines, Finds, FindsDamage, FoundShows, HoldsDamaged, HasFittingLog, HoldsLog, HoldsSound, IndexFinds, IndexShows, IsBroken, IsLack, IsLeftOut, IsSoundIndex, IsUnexamined, PagesShow, Shows, Starts, TreeShows, log_told_of, tree_told_of}
use Rattle.gx_opening.proofs.Heads.{one_magic}
use Rattle.gx_opening.proofs.Others.{log_of_others}
use Rattle.gx_opening.proofs.Sounding.{can_be_read}

-- what an examination comes to, said of other things
pub finds_so : (S T : Type 0) (P Q : Damage → Type 0) (L M : Refusal → Type 0) (result : Result (Option Damage) Refusal) → (S → T) → ((damage : Damage) → P damage → Q damage) → ((why : Refusal) → L why → M why)
    → Finds S P L result → Finds T Q M result
finds_so S T P Q L M (Ok None) sound shows lacks finds = sound finds
finds_so S T P Q L M (Ok (Some damage)) sound shows lacks finds = shows damage finds
finds_so S T P Q L M (Err why) sound shows lacks finds = lacks why finds

-- a note that is out of its place is of an entry that was touched
module _ {B : Type 0} (r : Rules B) (t : Tree B) (cmp : Entry B → Entry B → Ordering) (touched : List (Touch (Entry B))) where
  one_left_out : (page n : ℕ) (notes : List (NotedPair (Entry B))) → Each (IsOfOne cmp touched n) notes → SomeOf (λ m. (m.leaf ≡ page) × (¬ IsPlaced r t m)) notes → IsLeftOut r touched t page
  one_left_out page n [] only some = absurd some
  one_left_out page n (m ∷ notes) only (inl here) =
      let one = only.0 in
      some_slot (λ x. (x.leaf ≡ page) × ¬ IsSeek r t x.leaf x.entry.row x.entry.key) touched one.at one.touch
      (subst (λ (x : NotedPair (Entry B)). (x.leaf ≡ page) × (¬ IsPlaced r t x)) one.same here) one.there
  one_left_out page n (m ∷ notes) only (inr some) = one_left_out page n notes only.1 some

  -- what a test of the whole finds is broken
  pub one_broken : (n page : ℕ) (rule : Rule) (notes : List (NotedPair (Entry B))) → AreNoted cmp touched n notes → BreaksOrLeavesOut r t notes page rule → IsBroken r touched t page rule
  one_broken n page rule notes noted (inl broken) = inl broken
  one_broken n page rule notes noted (inr out) = inr (out.0, (out.1.0, one_left_out page n notes noted.only out.1.1))

-- what a test of a store's tree found
module _ {B D : Type 0} (f : Format B) (passes : ℕ → Contents → Bool) (state : D → Device) (r : Rules B) (cmp : Entry B → Entry B → Ordering) (touched : List (Touch (Entry B))) (notes : List (NotedPair (Entry B))) (old new : Shelf D) where
  pub fault_told : (why : LegalityFault StoreFault) → AreNoted cmp touched (length touched) notes → IsWhyBehind old new (faults.IsWhy passes (state old.disk) (state new.disk) old new) why
      → IsFoundBroken (BreaksOrLeavesOut r (shown_tree f passes state old) notes) why → IsSteady (state old.disk) old.frames → CanAllBeRead (passes old.pages) old.used (state old.disk).seen
      → Finds (IsShownSound r touched (shown_tree f passes state old)) (TreeShows f r touched (state old.disk).seen old) IsLack (tree_told_of why)
  fault_told fault.Memory noted told found steady can = inr refl
  fault_told (fault.Pages store_fault.NoRoom) noted told found steady can = inr refl
  fault_told (fault.Pages (store_fault.TooFewFrames n)) noted told found steady can = inr refl
  fault_told (fault.Pages store_fault.Device) noted told found steady can = inl refl
  fault_told (fault.Pages store_fault.Damaged) noted told found steady can = absurd (told steady (can_be_read passes (state old.disk) old can))
  fault_told (fault.Broken page rule) noted told found steady can = one_broken r (shown_tree f passes state old) cmp touched (length touched) page rule notes noted found
  fault_told fault.Unsteady noted told found steady can = absurd found

-- a failed call is reported only if one failed
module _ {D : Type 0} (passes : ℕ → Contents → Bool) (state : D → Device) (old new : Shelf D) where
  pub fault_failed : (why : LegalityFault StoreFault) → IsWhyBehind old new (faults.IsWhy passes (state old.disk) (state new.disk) old new) why → tree_told_of why ≡ Err refusal.Device
      → (state old.disk).faults < (state new.disk).faults
  fault_failed fault.Memory told is = let no : ⊥ = cc in absurd no
  fault_failed (fault.Pages store_fault.NoRoom) told is = let no : ⊥ = cc in absurd no
  fault_failed (fault.Pages (store_fault.TooFewFrames n)) told is = let no : ⊥ = cc in absurd no
  fault_failed (fault.Pages store_fault.Device) told is = told
  fault_failed (fault.Pages store_fault.Damaged) told is = let no : ⊥ = cc in absurd no
  fault_failed (fault.Broken page rule) told is = let no : ⊥ = cc in absurd no
  fault_failed fault.Unsteady told is = let no : ⊥ = cc in absurd no

pub log_failed : (T : Type 0) (before now : ℕ) (why : LogFault) → FaultsTold {T = T} before now (Err (log.refusal_of why)) → log_told_of why ≡ Err refusal.Device → before < now
log_failed T before now log_fault.Memory told is = let no : ⊥ = cc in absurd no
log_failed T before now log_fault.Device told is = omega (arith, told)
log_failed T before now (log_fault.Damaged damage) told is = let no : ⊥ = cc in absurd no

-- so of the pages of a device
module _ {B D : Type 0} (f : Format B) (r : Rules B) (passes : Contents → Bool) (told : Analysis (Entry B)) (now seen : List ℕ) (pages : ℕ) (s : Shelf D) (starts : Starts pages told s) (same : now ≡ seen)
    (fits : told.used ≤ pages) (read : CanAllBeRead passes told.used seen) where
  shown_there : (damage : Damage) → TreeShows f r told.touched now s damage → PagesShow D f passes r pages told seen damage
  shown_there (Log damage) shows = shows
  shown_there (TooManyPages used) shows = absurd shows
  shown_there (Unreadable page) shows = absurd shows
  shown_there (Broken page rule) shows = (fits, (read, (s, starts, subst (λ (x : List ℕ). IsBroken r told.touched (tree_of (store_of f x s)) page rule) same shows)))

  pub pages_told : (here sound : Type 0) (result : Result (Option Damage) Refusal) → (here → sound) → Finds here (TreeShows f r told.touched now s) IsLack result
      → Finds sound (PagesShow D f passes r pages told seen) (λ why. IsLack why × (told.used ≤ pages)) result
  pages_told here sound result so finds = finds_so here sound (TreeShows f r told.touched now s) (PagesShow D f passes r pages told seen) IsLack (λ why. IsLack why × (told.used ≤ pages)) result so shown_there
      (λ why lack. (lack, fits)) finds

-- an index's pages, and a device's index
module _ {B : Type 0} (shape : Members B) (is_key : B → Bool) (said : List ℕ → B) (f : Format B) (D : Type 0) (p : Parameters) where
  abbrev k : Known (Entry B) (Page B)
  k = known_for shape is_key said f p

  abbrev r : Reading (Entry B) (Page B)
  r = reading shape is_key said f

  abbrev Told : List ℕ → FoundLog (Entry B) → Damage → Type 0
  Told seen found damage = PagesShow D f (is_node f p.pages) (rules_of shape p.most) p.pages found.analysis.told seen damage

  abbrev SoundOn : List ℕ → FoundLog (Entry B) → Type 0
  SoundOn seen found = AreSound k r (is_node f p.pages) found.analysis.told seen

  abbrev Lacks : List ℕ → Refusal → Type 0
  Lacks seen why = (why ≡ refusal.Device) ⊎ ((why ≡ refusal.Memory) × HasFittingLog shape is_key said f p seen)

  index_by : (damage : Damage) (seen : List ℕ) (found : FoundLog (Entry B)) → FoundShows shape is_key said f D p seen damage found → IndexShows shape is_key said f D p seen damage
  index_by (Log damage) seen found shows = absurd shows.1
  index_by (TooManyPages used) seen found shows = (found, shows)
  index_by (Unreadable page) seen found shows = (found, shows)
  index_by (Broken page rule) seen found shows = (found, shows)

  -- the touches of an undamaged log are of different entries
  pub found_of_others : IsLawful k → (seen : List ℕ) (found : FoundLog (Entry B)) → IsFound k r seen found → AreOfOthers k.cmp found.analysis.told.touched
  found_of_others lawful seen found is =
      subst (λ (x : Analysis (Entry B)). AreOfOthers k.cmp x.touched) (sym is.kept.told) (log_of_others k lawful is.log.bodies is.log.undamaged)

  lacks_there : (seen : List ℕ) (found : FoundLog (Entry B)) → IsFound k r seen found → (why : Refusal) → IsLack why × (found.analysis.told.used ≤ p.pages) → Lacks seen why
  lacks_there seen found is why lack = ⊎_elim (λ device. inl device) (λ memory. inr (memory, record { found = found; is = is; fits = lack.1 })) lack.0

  pub index_told : (result : Result (Option Damage) Refusal) (now seen : List ℕ) (found : FoundLog (Entry B)) → now ≡ seen → IsFound k r seen found
      → Finds (SoundOn now found) (Told now found) (λ why. IsLack why × (found.analysis.told.used ≤ p.pages)) result → IndexFinds shape is_key said f D p seen result
  index_told result now seen found same is finds = finds_so (SoundOn now found) (IsSoundIndex shape is_key said f p seen) (Told now found) (IndexShows shape is_key said f D p seen)
      (λ why. IsLack why × (found.analysis.told.used ≤ p.pages)) (Lacks seen) result
      (λ sound. record { found = found; is = is; sound = subst (λ (x : List ℕ). SoundOn x found) same sound })
      (λ damage shows. index_by damage seen found (is, subst (λ (x : List ℕ). Told x found damage) same shows))
      (lacks_there seen found is) finds

  pub log_told : (why : LogFault) (seen : List ℕ) → (why ≡ log_fault.Memory → ⊥) → LogShows k r seen why → IndexFinds shape is_key said f D p seen (log_told_of why)
  log_told log_fault.Memory seen behind shows = absurd (behind refl)
  log_told log_fault.Device seen behind shows = inl refl
  log_told (log_fault.Damaged damage) seen behind shows = shows

  -- any device
  module _ (class : ℕ) (same : Type 0) (d : Device) where
    unknown_there : IsFormatted shape is_key said f class d p → (why : Refusal) → Lacks d.seen why → IsUnexamined shape is_key said f class same d why
    unknown_there formatted why (inl device) = inl (subst (λ (w : Refusal). MaySettle class d.sectors d.seen (Err w)) (sym device) tt)
    unknown_there formatted why (inr memory) = inr (memory.0, inr (record { parameters = p; formatted = formatted; log = memory.1 }))

    pub device_told : (result : Result (Option Damage) Refusal) (now : List ℕ) → now ≡ d.seen → IsFormatted shape is_key said f class d p → IndexFinds shape is_key said f D p now result
        → Examines shape is_key said f D class same d result
    device_told result now is formatted finds = finds_so (IsSoundIndex shape is_key said f p d.seen) (HoldsSound shape is_key said f class d) (IndexShows shape is_key said f D p d.seen) (Shows shape is_key said f D class d)
        (Lacks d.seen) (IsUnexamined shape is_key said f class same d) result
        (λ sound. record { parameters = p; formatted = formatted; index = sound })
        (λ damage shows. record { parameters = p; formatted = formatted; shows = shows })
        (unknown_there formatted) (subst (λ (x : List ℕ). IndexFinds shape is_key said f D p x result) is finds)

-- a device that is damaged
module _ {B : Type 0} (shape : Members B) (is_key : B → Bool) (said : List ℕ → B) (f : Format B) (class : ℕ) (d : Device) (damaged : HoldsDamaged shape is_key said f class d) where
  not_settled : (why : Refusal) → MaySettle class d.sectors d.seen (Err why) → why ≡ refusal.Device
  not_settled refusal.OldVersion old = absurd (one_magic d.seen damaged.formatted.magic old)
  not_settled refusal.NotFormatted never = absurd (never.0 damaged.formatted.magic)
  not_settled refusal.BadParameter is =
      absurd (is.1.1.1 (subst (λ (q : Parameters). IsAllowed class q) (one_saying d.seen damaged.parameters is.1.0 damaged.formatted.says is.1.1.0) damaged.formatted.allowed))
  not_settled refusal.TooSmall is =
      let large : sectors_of is.1.0.pages ≤ d.sectors =
      subst (λ (q : Parameters). sectors_of q.pages ≤ d.sectors) (one_saying d.seen damaged.parameters is.1.0 damaged.formatted.says is.1.1.0) damaged.formatted.large in
      let small = is.1.1.1.1 in
      absurd (omega (arith, large, small))
  not_settled refusal.Device is = refl
  not_settled other never = absurd never

  never_sound : HoldsSound shape is_key said f class d → ⊥
  never_sound holds =
      damaged.unsound
      (subst (λ (q : Parameters). IsSoundIndex shape is_key said f q d.seen) (one_saying d.seen holds.parameters damaged.parameters holds.formatted.says damaged.formatted.says) holds.index)

  pub damage_found : (D same : Type 0) (result : Result (Option Damage) Refusal) → Examines shape is_key said f D class same d result → FindsDamage shape is_key said f D class same d result
  damage_found D same result examines = finds_so (HoldsSound shape is_key said f class d) ⊥ (Shows shape is_key said f D class d) (Shows shape is_key said f D class d) (IsUnexamined shape is_key said f class same d)
      (λ why. (why ≡ refusal.Device) ⊎ ((why ≡ refusal.Memory) × (same ⊎ HoldsLog shape is_key said f class d))) result never_sound (λ damage shows. shows)
      (λ why. ⊎_elim (λ settles. inl (not_settled why settles)) (λ memory. inr memory)) examines

  pub has_least : LEAST_SECTORS ≤ d.sectors
  has_least = let large = damaged.formatted.large in let least = damaged.formatted.allowed.range.least_pages in omega (arith, large, least)
