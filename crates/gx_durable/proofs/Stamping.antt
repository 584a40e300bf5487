-- The stamps of a pool over a step of the log.
use Rattle.std.proofs.Common.{◌≡◌, ◌∙◌, sym, ap, refl, subst, inl, inr, ℕ, ◌+◌, ◌-◌, ◌≤◌, true, List, [], ◌∷◌, ◌++◌, length, length-append, Option, None, Some, Result, Ok, Err, append_assoc, arith}
use Rattle.std.proofs.Math.Nat.{eq-or-lt_of_le}
use Rattle.std.proofs.lemmas.Bool.{le-leb}
use Rattle.std.proofs.lemmas.List.{append-nil}
use Rattle.gx_geom.specs.declared.refusal.Refusal.{Refusal}
use Rattle.gx_glog.specs.declared.stage.Stage.{Stage}
use Rattle.gx_glog.specs.declared.stage.Stage.TheVariants.{Body, BodySync, Gate, GateSync, Idle}
use Rattle.gx_glog.specs.State.{Log, in_flight, begun, after, Made, Goes, GoesFrom}
use Rattle.gx_pool.specs.Marks.{is_gated}
use Rattle.gx_pool.specs.State.{State, IsWritable, kept, kept_at, place_of, stamp_of}
use Rattle.gx_recovery.specs.Records.{Record}
use Rattle.gx_recovery.specs.Logged.{Logged, all_records, gate_synced}
use Rattle.gx_recovery.specs.Logged as logged
use Rattle.gx_durable.specs.Area.{is_given}
use Rattle.gx_durable.specs.Calls.{StaysPlaced}
use Rattle.gx_durable.specs.PoolLaws.{NoneWritableIsClean}
use Rattle.gx_durable.specs.Stamps.{Stamped, AllSaid, AllPlaced, IsPlaced, NoneLater}
use Rattle.gx_durable.specs.Steps.{with_batch, stepped, told, told_frames}
use Rattle.gx_durable.proofs.Moving.{given_more}

pub told_at : (stage : Stage) (used : ℕ) (new : Log) (frames frames' : State) → frames' ≡ told stage used frames → used ≡ new.used → frames' ≡ told_frames (Ok stage) new frames
told_at stage used new frames frames' is same = is ∙ ap (λ n. told stage n frames) same

kept_there : (s : State) (n : ℕ) (o : Option ℕ) → kept_at (record s { gated = n }) o ≡ kept_at s o
kept_there s n None = refl
kept_there s n (Some i) = refl

-- a pool in which a gated batch is noted keeps its pages
pub told_kept : (s : State) (n p : ℕ) → kept (record s { gated = n }) p ≡ kept s p
unfolding kept
told_kept s n p = kept_there s n (place_of s p)

told_stamp : (s : State) (n p place : ℕ) → stamp_of (kept (record s { gated = n }) p) ≡ Some place → stamp_of (kept s p) ≡ Some place
told_stamp s n p place is = sym (ap stamp_of (told_kept s n p)) ∙ is

module _ {E P : Type 0} (frames : State) where
  -- all records are those of before
  begun_records : (s : Logged E P) → s.flight ≡ [] → all_records (logged.begun s) ≡ all_records s
  begun_records s none =
      ap (λ (x : List (Record E P)). s.gated ++ x) (append-nil s.filling) ∙ sym (ap (λ (x : List (Record E P)). s.gated ++ (x ++ s.filling)) none)

  begun_said : (s : Logged E P) → s.flight ≡ [] → AllSaid frames s → AllSaid frames (logged.begun s)
  begun_said s none said p place is = ap (λ (x : List (Record E P)). is_given x p) (begun_records s none) ∙ said p place is

  begun_stamped : (old : Log) (s : Logged E P) → s.flight ≡ [] → Stamped old frames s → AllSaid frames s → Stamped (begun old) frames (logged.begun s)
  begun_stamped old s none stamped said = record {
    behind = stamped.behind;
    places = omega (arith, stamped.places);
    gated = stamped.gated;
    flight = λ p place is less. sym (ap (λ (x : List (Record E P)). is_given (s.gated ++ (x ++ s.filling)) p) none) ∙ said p place is;
  }

  synced_said : (s : Logged E P) (n : ℕ) → AllSaid frames s → AllSaid (record frames { gated = n }) (gate_synced s)
  synced_said s n said p place is = ap (λ (x : List (Record E P)). is_given x p) (append_assoc s.gated s.flight s.filling) ∙ said p place (told_stamp frames n p place is)

  synced_stamped : (due : Log) (s : Logged E P) → due.used ≡ due.gated + 1 → Stamped due frames s
      → Stamped (record due { gated = due.used; stage = Idle; flight = [] }) (record frames { gated = due.used - 1 }) (gate_synced s)
  synced_stamped due s places stamped = record {
    behind = omega (arith, places);
    places = omega arith;
    gated = λ p place is less. stamped.flight p place (told_stamp frames (due.used - 1) p place is) less;
    flight = λ p place is less. given_more (s.gated ++ s.flight) [] p (stamped.flight p place (told_stamp frames (due.used - 1) p place is) less);
  }

  -- a log with another stage
  staged : (due : Log) (stage : Stage) (tails : List ℕ) (s : Logged E P) → Stamped due frames s
      → Stamped (record due { stage = stage; tails = tails }) frames s
  staged due stage tails s stamped = record { behind = stamped.behind; places = stamped.places; gated = stamped.gated; flight = stamped.flight }

  by_stage : (due : Log) (stage : Stage) (s : Logged E P) → stage ≡ due.stage → in_flight due.stage ≡ 1 → due.used ≡ due.gated + 1 → Stamped due frames s
      → Stamped (after stage due) (told_frames (Ok stage) (after stage due) frames) (stepped (Ok stage) s)
  by_stage due Idle s is flying places stamped = stamped
  by_stage due Body s is flying places stamped = staged due BodySync due.tails s stamped
  by_stage due BodySync s is flying places stamped = staged due Gate (after BodySync due).tails s stamped
  by_stage due Gate s is flying places stamped = staged due GateSync due.tails s stamped
  by_stage due GateSync s is flying places stamped = synced_stamped due s places stamped

  made_stamped : (due new : Log) (result : Result Stage Refusal) (s : Logged E P) → Made due new result → in_flight due.stage ≡ 1 → due.used ≡ due.gated + 1 → Stamped due frames s
      → Stamped new (told_frames result new frames) (stepped result s)
  made_stamped due new (Ok stage) s made flying places stamped =
      let L : Log → Type 0 = λ x. Stamped x (told_frames (Ok stage) x frames) (stepped (Ok stage) s) in
      let goes : new ≡ after stage due = made.1 ∙ ap (λ t. after t due) (sym made.0) in
      subst L (sym goes) (by_stage due stage s made.0 flying places stamped)
  made_stamped due new (Err refusal) s made flying places stamped = let L : Log → Type 0 = λ x. Stamped x frames s in subst L (sym made.1) stamped

  result_said : (result : Result Stage Refusal) (new : Log) (s : Logged E P) → AllSaid frames s → AllSaid (told_frames result new frames) (stepped result s)
  result_said (Ok Idle) new s said = said
  result_said (Ok Body) new s said = said
  result_said (Ok BodySync) new s said = said
  result_said (Ok Gate) new s said = said
  result_said (Ok GateSync) new s said = synced_said s (new.used - 1) said
  result_said (Err refusal) new s said = said

  module _ (old new : Log) (s : Logged E P) (stamped : Stamped old frames s) (said : AllSaid frames s) (none : old.stage ≡ Idle → s.flight ≡ []) (places : old.used ≡ old.gated + in_flight old.stage) where
    pub step_said : (stage : Stage) (filling : List ℕ) (result : Result Stage Refusal) → stage ≡ old.stage → AllSaid (told_frames result new frames) (stepped result (with_batch stage filling s))
    step_said Idle [] result is = result_said result new s said
    step_said Idle (byte ∷ bytes) result is = result_said result new (logged.begun s) (begun_said s (none (sym is)) said)
    step_said Body filling result is = result_said result new s said
    step_said BodySync filling result is = result_said result new s said
    step_said Gate filling result is = result_said result new s said
    step_said GateSync filling result is = result_said result new s said

    pub step_stamped : (stage : Stage) (filling : List ℕ) (result : Result Stage Refusal) → stage ≡ old.stage → filling ≡ old.filling → GoesFrom stage old new result
        → Stamped new (told_frames result new frames) (stepped result (with_batch stage filling s))
    step_stamped Idle [] result is fills (inl (nothing, idle, same)) =
        let R : Result Stage Refusal → Type 0 = λ x. Stamped new (told_frames x new frames) (stepped x s) in
        let L : Log → Type 0 = λ x. Stamped x frames s in
        subst R (sym idle) (subst L (sym same) stamped)
    step_stamped Idle [] result is fills (inr (some, made)) = absurd (let nothing : 0 ≡ length old.filling = ap length fills in omega arith)
    step_stamped Idle (byte ∷ bytes) result is fills (inl (nothing, idle, same)) = absurd (let never : byte ∷ bytes ≡ [] = fills ∙ nothing in cc)
    step_stamped Idle (byte ∷ bytes) result is fills (inr (some, made)) =
        let rests : in_flight Idle ≡ in_flight old.stage = ap in_flight is in
        made_stamped (begun old) new result (logged.begun s) made refl (omega (arith, places, rests)) (begun_stamped old s (none (sym is)) stamped said)
    step_stamped Body filling result is fills made =
        let flies : in_flight Body ≡ in_flight old.stage = ap in_flight is in made_stamped old new result s made (sym flies) (omega (arith, places, flies)) stamped
    step_stamped BodySync filling result is fills made =
        let flies : in_flight BodySync ≡ in_flight old.stage = ap in_flight is in made_stamped old new result s made (sym flies) (omega (arith, places, flies)) stamped
    step_stamped Gate filling result is fills made =
        let flies : in_flight Gate ≡ in_flight old.stage = ap in_flight is in made_stamped old new result s made (sym flies) (omega (arith, places, flies)) stamped
    step_stamped GateSync filling result is fills made =
        let flies : in_flight GateSync ≡ in_flight old.stage = ap in_flight is in made_stamped old new result s made (sym flies) (omega (arith, places, flies)) stamped

-- ---- the places of what is dirty

-- no dirty page is of a batch after the one that fills
pub none_later : (log : Log) (frames : State) → AllPlaced log frames → NoneLater log.used frames
none_later log frames placed p place is = elim (placed p place is) [
  | inl began ↦ omega (arith, began)
  | inr fills ↦ omega (arith, fills.0)
]

-- a log that has the same number of places taken, and the same filling batch
pub same_placed : (old new : Log) (frames : State) → new.used ≡ old.used → new.filling ≡ old.filling → AllPlaced old frames → AllPlaced new frames
same_placed old new frames used filling placed p place is = elim (placed p place is) [
  | inl began ↦ inl (omega (arith, began, used))
  | inr fills ↦ inr (omega (arith, fills.0, used), (let long : length new.filling ≡ length old.filling = ap length filling in omega (arith, long, fills.1)))
]

-- a place up to that of the batch that fills
placed_at : (log : Log) (place : ℕ) → place ≤ log.used → 1 ≤ length log.filling → IsPlaced log place
placed_at log place last fills = elim (eq-or-lt_of_le last) [
  | inl same ↦ inr (same, fills)
  | inr began ↦ inl began
]

-- a log that fills with something more
pub longer_placed : (old new : Log) (bytes : List ℕ) (frames : State) → 1 ≤ length bytes → new.used ≡ old.used → new.filling ≡ old.filling ++ bytes → NoneLater old.used frames → AllPlaced new frames
longer_placed old new bytes frames some used filling last p place is =
    let long : length new.filling ≡ length (old.filling ++ bytes) = ap length filling in
    placed_at new place (omega (arith, last p place is, used)) (omega (arith, long, length-append old.filling bytes, some))

-- frames whose dirty pages were dirty with the same stamp
pub fewer_placed : (log : Log) (old new : State) → ((p place : ℕ) → stamp_of (kept new p) ≡ Some place → stamp_of (kept old p) ≡ Some place) → AllPlaced log old → AllPlaced log new
fewer_placed log old new dirty placed p place is = placed p place (dirty p place is)

after_used : (stage : Stage) (log : Log) → (after stage log).used ≡ log.used
after_used Body log = refl
after_used BodySync log = refl
after_used Gate log = refl
after_used GateSync log = refl
after_used Idle log = refl

after_filling : (stage : Stage) (log : Log) → (after stage log).filling ≡ log.filling
after_filling Body log = refl
after_filling BodySync log = refl
after_filling Gate log = refl
after_filling GateSync log = refl
after_filling Idle log = refl

module _ (frames : State) where
  made_placed : (due new : Log) (result : Result Stage Refusal) → Made due new result → AllPlaced due frames → AllPlaced new frames
  made_placed due new (Ok stage) made placed =
      same_placed due new frames (ap (λ (g : Log). g.used) made.1 ∙ after_used due.stage due) (ap (λ (g : Log). g.filling) made.1 ∙ after_filling due.stage due) placed
  made_placed due new (Err refusal) made placed = same_placed due new frames (ap (λ (g : Log). g.used) made.1) (ap (λ (g : Log). g.filling) made.1) placed

  -- the place of what filled is taken
  begun_placed : (old : Log) → AllPlaced old frames → AllPlaced (begun old) frames
  begun_placed old placed p place is = inl (omega (arith, none_later old frames placed p place is))

  goes_placed : (stage : Stage) (old new : Log) (result : Result Stage Refusal) → GoesFrom stage old new result → AllPlaced old frames → AllPlaced new frames
  goes_placed Idle old new result (inl (nothing, idle, same)) placed = same_placed old new frames (ap (λ (g : Log). g.used) same) (ap (λ (g : Log). g.filling) same) placed
  goes_placed Idle old new result (inr (some, made)) placed = made_placed (begun old) new result made (begun_placed old placed)
  goes_placed Body old new result made placed = made_placed old new result made placed
  goes_placed BodySync old new result made placed = made_placed old new result made placed
  goes_placed Gate old new result made placed = made_placed old new result made placed
  goes_placed GateSync old new result made placed = made_placed old new result made placed

  told_dirty : (result : Result Stage Refusal) (new : Log) (p place : ℕ) → stamp_of (kept (told_frames result new frames) p) ≡ Some place → stamp_of (kept frames p) ≡ Some place
  told_dirty (Ok Idle) new p place is = is
  told_dirty (Ok Body) new p place is = is
  told_dirty (Ok BodySync) new p place is = is
  told_dirty (Ok Gate) new p place is = is
  told_dirty (Ok GateSync) new p place is = told_stamp frames (new.used - 1) p place is
  told_dirty (Err refusal) new p place is = is

  pub step_placed : (old new : Log) (frames' : State) (result : Result Stage Refusal) → frames' ≡ told_frames result new frames → Goes old new result → StaysPlaced old new frames frames'
  step_placed old new frames' result tells goes placed =
      subst {A = State} (λ f. AllPlaced new f) (sym tells) (fewer_placed new frames (told_frames result new frames) (told_dirty result new) (goes_placed old.stage old new result goes placed))

-- where all that began is gated and nothing fills, a dirty page may be written
module _ {E P : Type 0} (log : Log) (frames : State) (s : Logged E P) (stamped : Stamped log frames s) (placed : AllPlaced log frames) (gated : log.used ≡ log.gated) (quiet : log.filling ≡ []) where
  place_gated : (p place : ℕ) → stamp_of (kept frames p) ≡ Some place → place ≤ frames.gated
  place_gated p place is = elim (placed p place is) [
    | inl began ↦ omega (arith, began, gated, stamped.behind)
    | inr fills ↦ absurd (let none : length log.filling ≡ 0 = ap length quiet in omega (arith, none, fills.1))
  ]

  dirty_writable : (p place : ℕ) → stamp_of (kept frames p) ≡ Some place → is_gated frames.gated (stamp_of (kept frames p)) ≡ true
  dirty_writable p place is = ap (is_gated frames.gated) is ∙ le-leb place frames.gated (place_gated p place is)

  none_by : (p : ℕ) (o : Option ℕ) → stamp_of (kept frames p) ≡ o → (IsWritable frames p → ⊥) → stamp_of (kept frames p) ≡ None
  none_by p None is none = is
  none_by p (Some place) is none = absurd (none (dirty_writable p place is))

pub none_writable : (E P : Type 0) → NoneWritableIsClean E P
none_writable E P log frames s stamped placed gated quiet none p = none_by log frames s stamped placed gated quiet p (stamp_of (kept frames p)) refl (none p)
