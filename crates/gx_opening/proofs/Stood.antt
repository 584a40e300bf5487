-- An index that was found on a device, from its calls.
use Rattle.std.proofs.Common.{◌≡◌, inl, inr, ℕ, Bool, true, List, Result, Ok, Err, ◌≤◌, refl, sym, subst, ap, ◌∙◌, ⊎_elim, arith}
use Rattle.gx_disk.specs.declared.layout.TheConstants.{LEAST_SECTORS}
use Rattle.gx_disk.specs.Device.{Device, MayLeave, Rests, SamePending}
use Rattle.gx_disk.specs.Moments.{Leaves}
use Rattle.gx_disk.proofs.Leaving.{call_leaves, leaves_joined, leaves_weaker, rested_image}
use Rattle.gx_pool.specs.Bringing.{OnlyRead}
use Rattle.gx_glog.specs.declared.extent.TheConstants.{PLACES}
use Rattle.gx_glog.specs.declared.parameters.Parameters.{Parameters}
use Rattle.gx_glog.proofs.Told.{told}
use Rattle.gx_geom.specs.declared.refusal.Refusal.{Refusal}
use Rattle.gx_geom.specs.declared.refusal.Refusal.TheVariants as refusal
use Rattle.gx_machine.specs.declared.entry.Entry.{Entry}
use Rattle.gx_machine.specs.Keys.{Members}
use Rattle.gx_node.specs.Reading.{Format, is_node}
use Rattle.gx_found_log.specs.declared.found.FoundLog.{FoundLog}
use Rattle.gx_found_log.specs.Found.{FaultsTold, HasUndamaged, IsFound}
use Rattle.gx_index_laws.specs.Classes.{Page}
use Rattle.gx_recovery.specs.Known.{Known, IsLawful}
use Rattle.gx_durable.specs.Spelled.{Reading}
use Rattle.gx_opening.specs.Formatted.{MaySettle, OnlyRests, Says, Settles, head_of}
use Rattle.gx_durable.specs.Head.{head_in}
use Rattle.gx_format.specs.Fresh.{HasMagic}
use Rattle.gx_opening.specs.Laid.{HasFoundLog, IsKeptOrFound, IsLaid, LaysLog, StaysBehind}
use Rattle.gx_opening.specs.Sound.{AreSound, IsCause, IsFaultOrDamage, Tells}
use Rattle.gx_opening.specs.Standing.{IsFormatted, IsTested, IsUnlaid, MayStart, Stands, StaysSafe, known_for, reading, told_with}
use Rattle.gx_opening.specs.Noting.{AreOfOthers}
use Rattle.gx_opening.specs.declared.standing.Standing.{Standing}
use Rattle.gx_opening.specs.Shown.{LeavesDamaged}
use Rattle.gx_opening.proofs.Found.{bodies_are}
use Rattle.gx_opening.proofs.Heads.{formatted_head, head_magic, head_says}
use Rattle.gx_opening.proofs.Others.{log_of_others}
use Rattle.gx_glog.specs.Cuts.{open_bodies}
use Rattle.gx_durable.specs.Bodies.{AreBodies}
use Rattle.gx_durable.proofs.BodyLists.{bodies_one_way}
use Rattle.gx_recovery.specs.Records.{Record}
use Rattle.std.specs.Prelude.{IfOk, IfErr}
use Rattle.gx_recovery.specs.Analysis.{Analysis, analysis}
use Rattle.gx_recovery.specs.Damage.{records_of}
use Rattle.gx_recovery.specs.Redo.{redone}
use Rattle.gx_found_log.specs.Redone.{HasSamePages}
use Rattle.gx_durable.specs.Area.{area_of}

-- an image says one thing
pub one_saying : (image : List ℕ) (p q : Parameters) → Says image p → Says image q → p ≡ q
one_saying image p q this that = told p q this.fit that.fit (sym this.bytes ∙ that.bytes)

module _ {E P : Type 0} (k : Known E P) (r : Reading E P) where
  -- a device that only rests keeps what it could leave
  pub rests_safe : (a b : Device) → OnlyRests a b → Leaves (IsKeptOrFound k r a) a b
  rests_safe a b only = leaves_weaker (MayLeave a) (IsKeptOrFound k r a) a b (λ image may. inl may) only.leaves

  found_since : (a b : List ℕ) (image : List ℕ) → b ≡ a → HasFoundLog k r b image → HasFoundLog k r a image
  found_since a b image same has = subst (λ (s : List ℕ). HasFoundLog k r s image) same has

  -- so what is laid after it is safe since before
  pub laid_safe : (a b c : Device) → OnlyRests a b → Leaves (IsKeptOrFound k r b) b c → Leaves (IsKeptOrFound k r a) a c
  laid_safe a b c only next =
      leaves_joined (IsKeptOrFound k r a) a b c (rests_safe a b only)
      (leaves_weaker (IsKeptOrFound k r b) (IsKeptOrFound k r a) b c
      (λ image has. ⊎_elim (λ may. inl (rested_image a b only.rests image may)) (λ found. inr (found_since a.seen b.seen image only.rests.seen found)) has) next)

  -- what may be left now was so left at some moment since
  module _ {D : Type 0} (state : D → Device)
      (counts_now : (d : D) (t : ℕ) (image : List ℕ) → (state d).honest ≡ true → t ≤ (state d).moment → MayLeave (state d) image → (state d).left_since t image)
      (only_now : (d : D) (image : List ℕ) → (state d).honest ≡ true → (state d).left_since (state d).moment image → MayLeave (state d) image) where
    left_now : (a b : D) → (state a).honest ≡ true → (state b).honest ≡ true → Leaves (IsKeptOrFound k r (state a)) (state a) (state b) → (image : List ℕ) → MayLeave (state b) image
        → IsKeptOrFound k r (state a) image
    left_now a b one other leaves image may =
        ⊎_elim (λ left. inl (only_now a image one left)) (λ has. has)
        (leaves.only (state a).moment image (omega arith) (counts_now b (state a).moment image other leaves.later may))

    -- and reading after that is safe too
    pub read_safe : (a b c : D) → (state a).honest ≡ true → (state b).honest ≡ true → Leaves (IsKeptOrFound k r (state a)) (state a) (state b) → OnlyRead (state b) (state c)
        → Leaves (IsKeptOrFound k r (state a)) (state a) (state c)
    read_safe a b c one other first read =
        leaves_joined (IsKeptOrFound k r (state a)) (state a) (state b) (state c) first
        (call_leaves (IsKeptOrFound k r (state a)) (state b) (state c) (read.time other)
        (λ image may. left_now a b one other first image (rested_image (state b) (state c) (read.rests other) image may)))

-- ---- why a reading is refused

pub told_cause : (T : Type 0) (before now : ℕ) (why : Refusal) → (why ≡ refusal.Memory → ⊥) → FaultsTold {T = T} before now (Err why) → IsFaultOrDamage why
told_cause T before now refusal.Device behind is = inl refl
told_cause T before now refusal.Memory behind is = absurd (behind refl)
told_cause T before now refusal.Damaged behind is = inr refl
told_cause T before now (refusal.Busy n) behind is = absurd is
told_cause T before now refusal.NoTransaction behind is = absurd is
told_cause T before now refusal.InTransaction behind is = absurd is
told_cause T before now refusal.Present behind is = absurd is
told_cause T before now refusal.Absent behind is = absurd is
told_cause T before now refusal.BadBox behind is = absurd is
told_cause T before now refusal.PagesFull behind is = absurd is
told_cause T before now refusal.ClaimsFull behind is = absurd is
told_cause T before now refusal.PredicatesFull behind is = absurd is
told_cause T before now refusal.Failed behind is = absurd is
told_cause T before now refusal.NotFormatted behind is = absurd is
told_cause T before now refusal.BadSession behind is = absurd is
told_cause T before now refusal.CallOpen behind is = absurd is
told_cause T before now refusal.TooSmall behind is = absurd is
told_cause T before now refusal.BadParameter behind is = absurd is
told_cause T before now refusal.NoCall behind is = absurd is
told_cause T before now refusal.HistoryFull behind is = absurd is
told_cause T before now refusal.OldVersion behind is = absurd is

-- so it is a cause
pub one_cause : (why : Refusal) → IsFaultOrDamage why → IsCause why
one_cause why (inl device) = inl device
one_cause why (inr damaged) = inr (inr damaged)

-- nothing is refused as damaged for what it is formatted for
pub never_damaged : (class sectors : ℕ) (seen : List ℕ) (why : Refusal) → MaySettle class sectors seen (Err why) → why ≡ refusal.Damaged → ⊥
never_damaged class sectors seen why may is = subst (λ (w : Refusal). MaySettle class sectors seen (Err w)) is may

module _ {B : Type 0} (shape : Members B) (is_key : B → Bool) (said : List ℕ → B) (f : Format B) (class : ℕ) (a b : Device) where
  -- what was read after a settling
  pub formatted_so : (p : Parameters) → LEAST_SECTORS ≤ a.sectors → Settles class a b (Ok p) → IsFormatted shape is_key said f class a p
  formatted_so p large settles =
      let t = settles.told large in
      record { magic = t.0; says = t.1.0; allowed = t.1.1.0; large = t.1.1.1 }

  -- what was refused before the log was read is safe
  pub settled_safe : OnlyRests a b → StaysSafe shape is_key said f a b
  settled_safe only = λ p says. rests_safe (known_for shape is_key said f p) (reading shape is_key said f) a b only

  module _ (c : Device) (p : Parameters) (says : Says a.seen p) (only : OnlyRests a b) where
    abbrev k : Known (Entry B) (Page B)
    k = known_for shape is_key said f p

    abbrev r : Reading (Entry B) (Page B)
    r = reading shape is_key said f

    -- what was read and laid is safe
    pub stood_safe : Leaves (IsKeptOrFound k r b) b c → StaysSafe shape is_key said f a c
    stood_safe leaves = λ q so. subst (λ (x : Parameters). Leaves (IsKeptOrFound (known_for shape is_key said f x) r a) a c) (one_saying a.seen p q says so) (laid_safe k r a b c only leaves)

    pub laid_so : (log : FoundLog (Entry B)) → LaysLog k r b c (Ok log) → IsLaid k r a.seen c log
    laid_so log lays = subst (λ (s : List ℕ). IsLaid k r s c log) only.rests.seen lays.log

    pub unlaid_so : (why : Refusal) → (why ≡ refusal.Memory → ⊥) → IsFormatted shape is_key said f class a p → FaultsTold {T = FoundLog (Entry B)} b.faults c.faults (Err why) → LaysLog k r b c (Err why)
        → IsUnlaid shape is_key said f class a why
    unlaid_so why behind formatted faults lays = record {
      parameters = p;
      formatted = formatted;
      cause = told_cause (FoundLog (Entry B)) b.faults c.faults why behind faults;
      damaged = λ is log. (lays.log is).1 (subst (λ (s : List ℕ). HasUndamaged k r s) (sym only.rests.seen) log);
    }

    -- and if its log is damaged it is left so
    pub unlaid_left : (why : Refusal) → c.sectors ≡ a.sectors → IsFormatted shape is_key said f class a p → LaysLog k r b c (Err why) → LeavesDamaged shape is_key said f class c why
    unlaid_left why sectors formatted lays = λ is.
        (let left = lays.log is in
        let same : c.seen ≡ a.seen = left.0 ∙ only.rests.seen in
        let large = formatted.large in record {
          parameters = p;
          formatted = record {
            magic = subst (λ (s : List ℕ). HasMagic s) (sym same) formatted.magic;
            says = subst (λ (s : List ℕ). Says s p) (sym same) says;
            allowed = formatted.allowed;
            large = omega (arith, large, sectors);
          };
          unsound = λ index. left.1 (subst (λ (s : List ℕ). HasUndamaged k r s) left.0 index.is.log);
        })

module _ {B : Type 0} (shape : Members B) (is_key : B → Bool) (said : List ℕ → B) (f : Format B) (class : ℕ) (a b c : Device) (s : Standing B) where
  abbrev known_there : Known (Entry B) (Page B)
  known_there = known_for shape is_key said f s.parameters

  abbrev reading_there : Reading (Entry B) (Page B)
  reading_there = reading shape is_key said f

  abbrev sound_on : List ℕ → Type 0
  sound_on seen = AreSound known_there reading_there (is_node f s.parameters.pages) s.log.analysis.told seen

  -- what was cut off is of others
  pub cut_off_others : IsLawful known_there → IsLaid known_there reading_there a.seen b s.log → AreOfOthers known_there.cmp s.log.analysis.told.touched
  cut_off_others lawful laid =
      subst (λ (x : Analysis (Entry B)). AreOfOthers known_there.cmp x.touched) (sym laid.is.kept.told) (log_of_others known_there lawful laid.is.log.bodies laid.is.log.undamaged)

  module _ (formatted : IsFormatted shape is_key said f class a s.parameters) (laid : IsLaid known_there reading_there a.seen b s.log) (rests : Rests b c) (pending : SamePending b c) where
    -- what is laid stays so when the device is read
    laid_read : IsLaid known_there reading_there a.seen c s.log
    laid_read = record {
      is = laid.is;
      settled = λ n. pending n ∙ laid.settled n;
      area = subst (λ (x : List ℕ). (p : ℕ) → area_of reading_there known_there.pages x p ≡ redone (area_of reading_there known_there.pages a.seen) (records_of laid.is.log.bodies) p) (sym rests.seen) laid.area;
      same = subst (λ (x : List ℕ). HasSamePages known_there reading_there a.seen (records_of laid.is.log.bodies) x) (sym rests.seen) laid.same;
      stays = subst (λ (x : List ℕ). StaysBehind known_there reading_there a.seen x laid.is.log.bodies) (sym rests.seen) laid.stays;
    }

    -- the log that is found there gives the same
    same_told : (found : FoundLog (Entry B)) → IsFound known_there reading_there c.seen found → found.analysis.told ≡ s.log.analysis.told
    same_told found is =
        let bytes : open_bodies c.seen ≡ open_bodies a.seen = laid_read.same.bodies in
        let here : AreBodies reading_there (open_bodies a.seen) is.log.bodies =
        subst (λ (x : List (List ℕ)). AreBodies reading_there x is.log.bodies) (sym (bodies_are c.seen) ∙ bytes) is.log.told in
        let there : AreBodies reading_there (open_bodies a.seen) laid.is.log.bodies =
        subst (λ (x : List (List ℕ)). AreBodies reading_there x laid.is.log.bodies) (sym (bodies_are a.seen)) laid.is.log.told in
        let one : is.log.bodies ≡ laid.is.log.bodies = bodies_one_way reading_there (open_bodies a.seen) is.log.bodies laid.is.log.bodies here there in
        is.kept.told ∙ ap (λ (x : List (List (Record (Entry B) (Page B)))). analysis known_there (records_of x)) one ∙ sym laid.is.kept.told

    -- so if its pages aren't sound it is left so
    says_left : head_in c.seen ≡ head_of s.parameters
    says_left = laid_read.same.head ∙ formatted_head a.seen s.parameters formatted.magic formatted.says

    pub unsound_left : c.sectors ≡ a.sectors → (result : Result (Standing B) Refusal) → Tells {T = Standing B} (sound_on b.seen) result → IfErr result (LeavesDamaged shape is_key said f class c)
    unsound_left sectors (Ok x) unsound = tt
    unsound_left sectors (Err why) unsound = λ is.
        (let large = formatted.large in record {
          parameters = s.parameters;
          formatted = record {
            magic = head_magic c.seen s.parameters says_left;
            says = head_says c.seen s.parameters says_left formatted.says.fit;
            allowed = formatted.allowed;
            large = omega (arith, large, sectors);
          };
          unsound = λ index. unsound is (subst sound_on rests.seen
              (subst (λ (t : Analysis (Entry B)). AreSound known_there reading_there (is_node f s.parameters.pages) t c.seen) (same_told index.found index.is) index.sound));
        })

    -- its pages were tested
    pub tested_so : (unmoved : Type 0) (result : Result (Standing B) Refusal) → IfOk result (λ x. x ≡ s) → IfErr result IsCause → IfErr result (λ why. why ≡ refusal.Memory → s.log.analysis.told.used ≤ s.parameters.pages)
        → Tells {T = Standing B} (sound_on b.seen) result → IsTested shape is_key said f class unmoved a c result
    tested_so unmoved (Ok x) same cause fits sound = subst (λ (y : Standing B). Stands shape is_key said f class a c y) (sym same)
        (record { formatted = formatted; laid = laid_read; sound = subst sound_on (sym rests.seen) sound })
    tested_so unmoved (Err why) same cause fits unsound = inr (inr (inl (record {
      parameters = s.parameters;
      formatted = formatted;
      log = s.log;
      laid = laid_read;
      cause = cause;
      fits = fits;
      unsound = λ is sound. unsound is (subst sound_on rests.seen sound);
    })))

-- what a test passed leaves of what was found
module _ {T : Type 0} where
  pub with_same : (sound : Result (Unit {0}) Refusal) (x : T) → IfOk (told_with sound x) (λ y. y ≡ x)
  with_same (Ok done) x = refl
  with_same (Err why) x = tt

  pub with_cause : (sound : Result (Unit {0}) Refusal) (x : T) → IfErr sound IsCause → IfErr (told_with sound x) IsCause
  with_cause (Ok done) x cause = tt
  with_cause (Err why) x cause = cause

  pub with_why : (P : Refusal → Type 0) (sound : Result (Unit {0}) Refusal) (x : T) → IfErr sound P → IfErr (told_with sound x) P
  with_why P (Ok done) x why = tt
  with_why P (Err w) x why = why

  pub with_told : (P : Type 0) (sound : Result (Unit {0}) Refusal) (x : T) → Tells {T = Unit {0}} P sound → Tells {T = T} P (told_with sound x)
  with_told P (Ok done) x told = told
  with_told P (Err why) x told = told

  pub with_known : (P : T → Type 0) (sound : Result (Unit {0}) Refusal) (x : T) → IfOk sound (λ _. P x) → IfOk (told_with sound x) P
  with_known P (Ok done) x known = known
  with_known P (Err why) x known = tt

module _ {B : Type 0} where
  pub may_start : (tested : Result (Standing B) Refusal) (x : Standing B) → IfOk tested (λ y. y ≡ x) → (1 ≤ x.log.bodies) × (x.log.bodies ≤ PLACES)
      → IfOk tested (λ y. y.log.analysis.told.used ≤ y.parameters.pages) → IfOk tested MayStart
  may_start (Ok y) x same bodies fits =
      let there = subst (λ (z : Standing B). (1 ≤ z.log.bodies) × (z.log.bodies ≤ PLACES)) (sym same) bodies in
      record { some = there.0; few = there.1; fits = fits }
  may_start (Err why) x same bodies fits = tt
