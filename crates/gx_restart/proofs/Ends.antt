-- What an opening comes to, from its parts.
use Rattle.std.proofs.Common.{◌≡◌, ◌⊎◌, inl, inr, ℕ, zero, suc, ◌<◌, ◌≤◌, Bool, List, [], ◌∷◌, length, map, replicate, refl, ap, sym, ◌∙◌, subst, arith}
use Rattle.std.specs.Prelude.{IfErr, IfOk, MatchResult, Result, Ok, Err}
use Rattle.std.specs.List.{slice_index_or}
use Rattle.gx_disk.specs.declared.layout.TheConstants.{LEAST_SECTORS}
use Rattle.gx_geom.specs.declared.refusal.Refusal.{Refusal}
use Rattle.gx_geom.specs.declared.refusal.Refusal.TheVariants as refusal
use Rattle.gx_class.specs.declared.class.KeyClass.{Ghosts}
use Rattle.gx_disk.specs.Device.{Device, MayLeave}
use Rattle.gx_disk.specs.Moments.{Leaves}
use Rattle.gx_disk.proofs.Leaving.{leaves_joined, leaves_weaker, nothing_leaves}
use Rattle.gx_durable.specs.Head.{head_in}
use Rattle.gx_durable.proofs.Crashes.{crash_leaves}
use Rattle.gx_events.specs.declared.event.Event.{Event}
use Rattle.gx_events.specs.declared.outcome.Outcome.{Outcome}
use Rattle.gx_events.specs.Slots as slots
use Rattle.gx_events.specs.Slots.{Slot}
use Rattle.gx_events.specs.Engines.{session_of}
use Rattle.gx_engine.specs.declared.start.NotOpened.{NotOpened}
use Rattle.gx_engine.specs.States.{Parts}
use Rattle.gx_glog.specs.declared.parameters.Parameters.{Parameters}
use Rattle.gx_index_laws.specs.Classes.{Class, IsLawful}
use Rattle.gx_index_laws.specs.States.{engine_of}
use Rattle.gx_index_laws.proofs.Standing.{known_lawful}
use Rattle.gx_machine.specs.Keys.{Members}
use Rattle.gx_node.specs.Reading.{Format, format_of}
use Rattle.gx_opening.specs.declared.standing.Standing.{Standing}
use Rattle.gx_opening.specs.Formatted.{IsAllowed, IsLarge, Says, head_of}
use Rattle.gx_opening.specs.Laid.{IsKeptOrFound}
use Rattle.gx_opening.specs.Shown.{LeavesDamaged}
use Rattle.gx_opening.specs.Standing.{FoundStands, IsTested, Stands, StaysSafe, known_for, limits_of, reading}
use Rattle.gx_opening.proofs.Heads.{formatted_head}
use Rattle.gx_opening.proofs.Stood.{one_saying}
use Rattle.gx_phases.specs.declared.phase.Phase.{Phase}
use Rattle.gx_phases.specs.declared.phase.Phase.TheVariants as phase
use Rattle.gx_phases.specs.States.{phase_at, slot_of, slots_of}
use Rattle.gx_durable.specs.Classes.{class_of}
use Rattle.gx_txn.specs.Tables.{Held}
use Rattle.gx_restart.specs.Beginning.{CountsOpening, HasBegun, HasFailed, HasNotBegun, HoldsFound, IsSameDevice}
use Rattle.gx_restart.specs.Keeping.{ArePagesGood, IsKept, KeepsItsSet, OpensSafely, StandsForFound}
use Rattle.gx_restart.specs.Opened.{IsOpened, IsRefused}
use Rattle.gx_restart.specs.Undoing.{BeganWith, GoesBy, IsIdle}
use Rattle.gx_restart.proofs.Opened.{keeps_of, stands_so}

-- where none failed before
pub told_later : {B D : Type 0} (state : D → Device) (before middle : ℕ) → middle ≡ before → (result : Result (Parts B D) (NotOpened D)) → CountsOpening state middle result → CountsOpening state before result
told_later state before middle same (Ok engine) told = told ∙ same
told_later state before middle same (Err n) told = omega (arith, same, told)

-- a device that is the same since is the same since before
pub device_later : {P D : Type 0} (state : D → Device) (of : P → Device) (before middle : Device) → IsSameDevice before middle → (result : Result P (NotOpened D))
    → MatchResult result (λ x. IsSameDevice middle (of x)) (λ n. IsSameDevice middle (state n.disk)) → MatchResult result (λ x. IsSameDevice before (of x)) (λ n. IsSameDevice before (state n.disk))
device_later state of before middle first (Ok x) same = (same.0 ∙ first.0, same.1 ∙ first.1)
device_later state of before middle first (Err n) same = (same.0 ∙ first.0, same.1 ∙ first.1)

-- a failed call, and memory that was refused, aren't damage
never_failed : (why : Refusal) → HasFailed why → why ≡ refusal.Damaged → ⊥
never_failed why (inl device) is = (let no : refusal.Device ≡ refusal.Damaged = sym device ∙ is in cc)
never_failed why (inr memory) is = (let no : refusal.Memory ≡ refusal.Damaged = sym memory ∙ is in cc)

-- a list of free slots
pub free_place : {B W : Type 0} (phases : List (Phase B W)) (table : List (Held B)) (n : ℕ) → phase_at n phases ≡ phase.Free → slice_index_or (slots_of phases table) n slots.Free ≡ slots.Free
free_place [] table n is = refl
free_place (p ∷ phases) [] n is = refl
free_place (p ∷ phases) (h ∷ table) zero is = ap (λ q. slot_of q h) is
free_place (p ∷ phases) (h ∷ table) (suc n) is = free_place phases table n is

pub all_free : {B : Type 0} (xs : List (Slot B)) (n : ℕ) → length xs ≡ n → ((i : ℕ) → i < n → slice_index_or xs i slots.Free ≡ slots.Free) → xs ≡ replicate n slots.Free
all_free [] zero long each = refl
all_free [] (suc n) long each = absurd (omega (arith, long))
all_free (x ∷ xs) zero long each = absurd (omega (arith, long))
all_free (x ∷ xs) (suc n) long each =
    let first : x ≡ slots.Free = each 0 (omega arith) in
    let rest : xs ≡ replicate n slots.Free = all_free xs n (omega (arith, long)) (λ i below. each (suc i) (omega (arith, below))) in
    ap (λ y. y ∷ xs) first ∙ ap (λ (ys : List (Slot _)). slots.Free ∷ ys) rest

module _ {B : Type 0} (shape : Members B) (proper : B → Bool) (said : List ℕ → B) (f : Format B) where
  -- what is found is safe, and what was then done keeps the set
  pub safe_then : (d m e : Device) (p : Parameters) → Says d.seen p → StaysSafe shape proper said f d m → Leaves (StandsForFound shape proper said f p d.seen) m e
      → OpensSafely shape proper said f d e
  safe_then d m e p says safe leaves = λ q so.
      subst (λ (x : Parameters). Leaves (IsKept shape proper said f x d) d e) (one_saying d.seen p q says so)
      (leaves_joined (IsKept shape proper said f p d) d m e
      (leaves_weaker (IsKeptOrFound (known_for shape proper said f p) (reading shape proper said f) d) (IsKept shape proper said f p d) d m (λ image was. inl was) (safe p says))
      (leaves_weaker (StandsForFound shape proper said f p d.seen) (IsKept shape proper said f p d) m e (λ image stands. inr stands) leaves))

  pub safe_only : (d m : Device) → StaysSafe shape proper said f d m → OpensSafely shape proper said f d m
  safe_only d m safe = λ p says.
      leaves_weaker (IsKeptOrFound (known_for shape proper said f p) (reading shape proper said f) d) (IsKept shape proper said f p d) d m (λ image was. inl was) (safe p says)

  pub safe_nowhere : (d : Device) → OpensSafely shape proper said f d d
  safe_nowhere d = λ p says. nothing_leaves (IsKept shape proper said f p d) d

  kept_set : (d : Device) (p : Parameters) → FoundStands shape proper said f p → head_in d.seen ≡ head_of p → ArePagesGood shape proper said f p d.seen → (image : List ℕ) → IsKept shape proper said f p d image
      → MayLeave d image ⊎ StandsForFound shape proper said f p d.seen image
  kept_set d p law says good image (inl (inl may)) = inl may
  kept_set d p law says good image (inl (inr has)) = inr (record { log = has.log; stands = law d.seen image says has (good has.log) })
  kept_set d p law says good image (inr stands) = inr stands

  -- where the pages are good for the log
  pub keeps_set : (d e : Device) → ((p : Parameters) → FoundStands shape proper said f p) → OpensSafely shape proper said f d e → KeepsItsSet shape proper said f d e
  keeps_set d e law safe = λ p magic says good.
      leaves_weaker (IsKept shape proper said f p d) (λ image. MayLeave d image ⊎ StandsForFound shape proper said f p d.seen image) d e
      (kept_set d p (law p) (formatted_head d.seen p magic says) good) (safe p says)

  module _ {D : Type 0} (state : D → Device) (d : Device) where
    pub keeps_either : (result : Result (Parts B D) (NotOpened D)) → ((p : Parameters) → FoundStands shape proper said f p)
        → MatchResult result (λ engine. OpensSafely shape proper said f d (state engine.volume.shelf.disk)) (λ n. OpensSafely shape proper said f d (state n.disk))
        → MatchResult result (λ engine. KeepsItsSet shape proper said f d (state engine.volume.shelf.disk)) (λ n. KeepsItsSet shape proper said f d (state n.disk))
    keeps_either (Ok engine) law safe = keeps_set d (state engine.volume.shelf.disk) law safe
    keeps_either (Err n) law safe = keeps_set d (state n.disk) law safe

  module _ {D : Type 0} (state : D → Device) (p : Parameters) (seen : List ℕ) where
    abbrev Came : Device → Result (Parts B D) (NotOpened D) → Type 0
    Came m result = MatchResult result (λ engine. HasBegun shape proper said f p seen m (state engine.volume.shelf.disk) engine)
        (λ n. HasNotBegun shape proper said f p seen m (state n.disk) n.why)

    -- what is done later
    pub later : (m e : Device) (begun : Leaves (StandsForFound shape proper said f p seen) m e) (result : Result (Parts B D) (NotOpened D)) → Came e result → Came m result
    later m e begun (Ok engine) came =
        record { holds = came.holds; leaves = leaves_joined (StandsForFound shape proper said f p seen) m e (state engine.volume.shelf.disk) begun came.leaves }
    later m e begun (Err n) came = record { cause = came.cause; leaves = leaves_joined (StandsForFound shape proper said f p seen) m e (state n.disk) begun came.leaves }

module _ {C B D : Type 0} (shape : Members B) (proper : B → Bool) (said : List ℕ → B) (class : Ghosts C B) (state : D → Device) (number : ℕ) (a m : D) (s : Standing B)
    (st : Stands shape proper said (format_of class) number (state a) (state m) s) where
  abbrev f : Format B
  f = format_of class

  abbrev c : Class B
  c = class_of shape proper (limits_of s.parameters)

  abbrev CameTo : Result (Parts B D) (NotOpened D) → Type 0
  CameTo result = MatchResult result (λ engine. HasBegun shape proper said f s.parameters (state a).seen (state m) (state engine.volume.shelf.disk) engine)
      (λ n. HasNotBegun shape proper said f s.parameters (state a).seen (state m) (state n.disk) n.why)

  pub came_safe : StaysSafe shape proper said f (state a) (state m) → (result : Result (Parts B D) (NotOpened D)) → CameTo result
      → MatchResult result (λ engine. OpensSafely shape proper said f (state a) (state engine.volume.shelf.disk)) (λ n. OpensSafely shape proper said f (state a) (state n.disk))
  came_safe safe (Ok engine) came = safe_then shape proper said f (state a) (state m) (state engine.volume.shelf.disk) s.parameters st.formatted.says safe came.leaves
  came_safe safe (Err n) came = safe_then shape proper said f (state a) (state m) (state n.disk) s.parameters st.formatted.says safe came.leaves

  pub came_refused : (result : Result (Parts B D) (NotOpened D)) → CameTo result
      → IfErr result (λ n. IsRefused shape proper said f state number a n.disk n.why)
  came_refused (Ok engine) came = tt
  came_refused (Err n) came = inr (inr (inr (inl (record { middle = m; standing = s; stands = st; cause = came.cause }))))

  -- which isn't that it is damaged
  pub came_undamaged : (result : Result (Parts B D) (NotOpened D)) → CameTo result → IfErr result (λ n. LeavesDamaged shape proper said f number (state n.disk) n.why)
  came_undamaged (Ok engine) came = tt
  came_undamaged (Err n) came = λ is. absurd (never_failed n.why came.cause is)

  module _ (lc : IsLawful c) where
    opened_slots : (engine : Parts B D) (h : HoldsFound shape proper said f s.parameters (state a).seen (state engine.volume.shelf.disk) engine) → IsIdle engine
        → h.index.slots ≡ replicate 8 slots.Free
    opened_slots engine h idle =
        all_free h.index.slots 8 h.holds.whole.sound.eight
        (λ i below. ap (λ (xs : List (Slot B)). slice_index_or xs i slots.Free) h.holds.sessions.slots ∙ free_place engine.sessions.phases engine.sessions.table i (idle.free i below))

    opened_so : (engine : Parts B D) → IsIdle engine → HoldsFound shape proper said f s.parameters (state a).seen (state engine.volume.shelf.disk) engine
        → IsOpened shape proper said f number (state a) (state engine.volume.shelf.disk) engine
    opened_so engine idle h =
        let i = h.index in
        let free = opened_slots engine h idle in
        record {
          parameters = s.parameters;
          formatted = st.formatted;
          holds = h;
          seen = λ set is. record {
            sessions = sym (ap (λ (xs : List (Slot B)). map (session_of c.keys (engine_of c i).live) xs) free);
            latest = record { in_order = is.in_order; members = λ e. is.members e ∙ sym (h.set.stands e) };
            older = sym h.set.older;
            oldest = sym h.set.oldest;
            failed = sym (h.holds.sessions.failed ∙ idle.works.works);
          };
          stands = λ image may.
              stands_so shape proper said class state s.parameters (state a).seen lc h.found i (keeps_of shape proper said class state s.parameters (state a).seen lc engine h) image
              (crash_leaves (known_for shape proper said f s.parameters) (reading shape proper said f) (known_lawful c lc) _ _ _ _ h.bodies i.log image h.holds.keeps.runs.up may);
        }

    pub came_opened : (result : Result (Parts B D) (NotOpened D)) → IfOk result IsIdle → CameTo result
        → IfOk result (λ engine. IsOpened shape proper said f number (state a) (state engine.volume.shelf.disk) engine)
    came_opened (Ok engine) idle came = opened_so engine idle came.holds
    came_opened (Err n) idle came = tt

-- an engine that began with so many frames comes to another by events of an opening
pub began_with : {B D : Type 0} (makes : Parts B D → Event B → Outcome B → Parts B D → Type 0) (frames : ℕ) (first : Parts B D) (result : Result (Parts B D) (NotOpened D))
    → length first.volume.shelf.frames.marks ≡ frames → IfOk result (GoesBy makes first) → IfOk result (BeganWith makes frames)
began_with makes frames first (Ok engine) count goes = record { first = first; count = count; goes = goes }
began_with makes frames first (Err n) count goes = tt

-- a test that wasn't passed refuses
pub tested_refused : {C B D : Type 0} (shape : Members B) (proper : B → Bool) (said : List ℕ → B) (class : Ghosts C B) (state : D → Device) (number : ℕ) (old new : D) (why : Refusal)
    → IsTested shape proper said (format_of class) number (new ≡ old) (state old) (state new) (Err why) → IsRefused shape proper said (format_of class) state number old new why
tested_refused shape proper said class state number old new why (inl settles) = inl settles
tested_refused shape proper said class state number old new why (inr (inl unlaid)) = inr (inl unlaid)
tested_refused shape proper said class state number old new why (inr (inr (inl unsound))) = inr (inr (inl unsound))
tested_refused shape proper said class state number old new why (inr (inr (inr room))) = inr (inr (inr (inr room)))

-- what was found, and that the device has `LEAST_SECTORS` sectors
module _ {B : Type 0} (shape : Members B) (proper : B → Bool) (said : List ℕ → B) (f : Format B) (number : ℕ) (d m : Device) (result : Result (Standing B) Refusal) (s : Standing B)
    (is : result ≡ Ok s) where
  pub stands_of : (unmoved : Type 0) → IsTested shape proper said f number unmoved d m result → Stands shape proper said f number d m s
  stands_of unmoved tested = subst (λ (x : Result (Standing B) Refusal). IsTested shape proper said f number unmoved d m x) is tested

  pub enough_of : IfOk result (λ x. IsAllowed number x.parameters × IsLarge d.sectors x.parameters) → LEAST_SECTORS ≤ d.sectors
  enough_of allowed =
      let there = subst (λ (x : Result (Standing B) Refusal). IfOk x (λ y. IsAllowed number y.parameters × IsLarge d.sectors y.parameters)) is allowed in
      let least = there.0.range.least_pages in
      let large = there.1 in
      omega (arith, least, large)
