-- A log and a pool still run after a step of a turn; and a head that is put together.
use Rattle.std.proofs.Common.{◌≡◌, ◌∙◌, sym, ap, subst, ℕ, ◌+◌, ◌≤◌, Bool, true, false, List, [], ◌∷◌, ◌++◌, Option, None, Some, Result, Ok, Err, arith}
use Rattle.gx_geom.specs.declared.refusal.Refusal.{Refusal}
use Rattle.gx_disk.specs.Device.{Device, Counts}
use Rattle.gx_record.specs.Rec.{Rec}
use Rattle.gx_record.specs.Format.{IsInRange, spelling}
use Rattle.gx_glog.specs.declared.extent.TheConstants.{PLACES}
use Rattle.gx_glog.specs.declared.filling.Appended.{Appended}
use Rattle.gx_glog.specs.declared.filling.Appended.TheVariants.{At, NoRoom}
use Rattle.gx_glog.specs.declared.stage.Stage.{Stage}
use Rattle.gx_glog.specs.declared.stage.Stage.TheVariants.{Idle}
use Rattle.gx_glog.specs.declared.stage.Turn.{Turn}
use Rattle.gx_glog.specs.declared.stage.Turn.TheVariants as turn
use Rattle.gx_glog.specs.State.{Log, turning, after_turn}
use Rattle.gx_glog.specs.State as log_state
use Rattle.gx_glog.specs.Standing.{On, MayTurn}
use Rattle.gx_glog.specs.Turning.{PutsFirst, TurnCallFor, KeepsTurning}
use Rattle.gx_pool.specs.State.{State, kept, stamp_of, NoneDirty}
use Rattle.gx_recovery.specs.Known.{Known}
use Rattle.gx_recovery.specs.Records.{Record}
use Rattle.gx_recovery.specs.Logged.{Logged}
use Rattle.gx_durable.specs.Spelled.{Reading, record_read, AreRecords}
use Rattle.gx_durable.specs.Stamps.{Stamped}
use Rattle.gx_durable.specs.Standing.{batch_of, MayRenew, Carries, Up}
use Rattle.gx_durable.specs.Steps.{bodies_turned}
use Rattle.gx_durable.specs.Steps as steps
use Rattle.gx_durable.specs.Opening.{HeadStaysFound}
use Rattle.gx_durable.specs.Turns.{HeadGrows, HeadStaysUp, TurnKeepsRunning, Until, told_turn, told_result}
use Rattle.gx_durable.proofs.Moving.{settled_elsewhere}
use Rattle.gx_durable.proofs.Spellings.{spelling_adds}
use Rattle.gx_durable.proofs.Stamping.{told_kept}
use Rattle.gx_durable.proofs.Stepping.{call_stands}
use Rattle.gx_durable.proofs.Turning.{front_of, turn_carries, turn_goes}

module _ {E P : Type 0} (r : Reading E P) (x : Rec) (old new : Log) where
  pub head_grows : (result : Appended) → IsInRange x → PutsFirst (spelling x) old new result → HeadGrows r x old new result
  head_grows (At place) range puts head key is =
      let F : List ℕ → Type 0 = λ bytes. AreRecords r bytes (head ++ record_read r x ∷ []) in
      subst F (sym (ap (λ (g : Log). g.flight) puts.2)) (spelling_adds r old.flight head x is (record { in_range = range; has_key = key }))
  head_grows NoRoom range puts head key is = let F : List ℕ → Type 0 = λ bytes. AreRecords r bytes head in subst F (sym (ap (λ (g : Log). g.flight) puts.1)) is

  -- what the device carries is as before
  pub head_carries : (k : Known E P) (result : Appended) (sectors : ℕ) (seen : List ℕ) (pending : ℕ → Bool) (bodies : List (List (Record E P))) (s : Logged E P) → old.stage ≡ Idle
      → PutsFirst (spelling x) old new result → Carries k r old sectors seen pending bodies s → Carries k r new sectors seen pending bodies s
  head_carries k (At place) sectors seen pending bodies s idle puts c =
      let U : Log → Type 0 = λ g. Carries k r g sectors seen pending bodies s in
      let A : Stage → Type 0 = λ t. AreRecords r (batch_of t old.flight) s.flight in
      let B : Stage → Type 0 = λ t. AreRecords r (batch_of t (old.flight ++ spelling x)) s.flight in
      let rests : turning old.turn ≡ 0 = ap turning puts.3 in
      subst U (sym puts.2) (record {
        told = record { gated_bodies = c.told.gated_bodies; gated = c.told.gated; flight = subst B (sym idle) (subst A idle c.told.flight); filling = c.told.filling };
        undamaged = c.undamaged;
        healthy = c.healthy;
        fit = c.fit;
        has_pages = c.has_pages;
        head = c.head;
        area = c.area;
        settled = c.settled;
        turn = λ turns. absurd (omega (arith, rests, turns));
      })
  head_carries k NoRoom sectors seen pending bodies s idle puts c = let U : Log → Type 0 = λ g. Carries k r g sectors seen pending bodies s in subst U (sym puts.1) c

  pub head_up : (k : Known E P) (result : Appended) → old.stage ≡ Idle → PutsFirst (spelling x) old new result
      → ((seen : List ℕ) (pending : ℕ → Bool) → On old seen pending → On new seen pending) → HeadStaysUp k r old new
  head_up k result idle puts on sectors seen pending bodies s up =
      record { on = on seen pending up.on; carries = head_carries k result sectors seen pending bodies s idle puts up.carries }

  pub head_found : (k : Known E P) (result : Appended) → old.stage ≡ Idle → PutsFirst (spelling x) old new result
      → ((seen : List ℕ) (pending : ℕ → Bool) → MayTurn old seen pending → MayTurn new seen pending) → HeadStaysFound k r old new
  head_found k result idle puts may sectors seen pending bodies s up =
      record { may_turn = may seen pending up.may_turn; carries = head_carries k result sectors seen pending bodies s idle puts up.carries }

none_dirty : (frames : State) (p place : ℕ) {X : Type 0} → NoneDirty frames → stamp_of (kept frames p) ≡ Some place → X
none_dirty frames p place clean is = absurd (let never : ◌≡◌ {A = Option ℕ} None (Some place) = sym (clean p) ∙ is in cc)

-- where nothing is dirty, each stamp is a place
pub none_stamped : {E P : Type 0} → (log : Log) (frames : State) (s : Logged E P) → frames.gated + 1 ≡ log.gated → log.gated ≤ log.used → NoneDirty frames → Stamped log frames s
none_stamped log frames s behind places clean = record {
  behind = behind;
  places = places;
  gated = λ p place is less. none_dirty frames p place clean is;
  flight = λ p place is less. none_dirty frames p place clean is;
}

told_clean : (frames : State) (n : ℕ) → NoneDirty frames → NoneDirty (record frames { gated = n })
told_clean frames n clean p = ap stamp_of (told_kept frames n p) ∙ clean p

by_call : {E P : Type 0} → (log : Log) (frames : State) (s : Logged E P) (t : Turn) → frames.gated + 1 ≡ log.gated → log.gated ≤ log.used → NoneDirty frames → Stamped (after_turn t log) (told_turn t frames) s
by_call log frames s turn.Closed behind places clean = none_stamped (after_turn turn.Closed log) frames s behind places clean
by_call log frames s turn.Body behind places clean = none_stamped (after_turn turn.Body log) frames s behind places clean
by_call log frames s turn.BodySync behind places clean = none_stamped (after_turn turn.BodySync log) frames s behind places clean
by_call log frames s turn.Gate behind places clean = none_stamped (after_turn turn.Gate log) frames s behind places clean
by_call log frames s turn.GateSync behind places clean = none_stamped (after_turn turn.GateSync log) frames s behind places clean
by_call log frames s turn.Selector behind places clean = none_stamped (after_turn turn.Selector log) frames s behind places clean
by_call log frames s turn.Done behind places clean =
    none_stamped (after_turn turn.Done log) (record frames { gated = 0 }) s (omega arith) (omega arith) (told_clean frames 0 clean)

turned_stamped : {E P : Type 0} → (log new : Log) (frames : State) (s : Logged E P) (result : Result Turn Refusal) → log_state.Turns log new result → frames.gated + 1 ≡ log.gated → log.gated ≤ log.used → NoneDirty frames
    → Stamped new (told_result result frames) s
turned_stamped log new frames s (Ok t) turns behind places clean =
    let L : Log → Type 0 = λ g. Stamped g (told_turn t frames) s in
    let goes : new ≡ after_turn t log = turns.1 ∙ ap (λ u. after_turn u log) (sym turns.0) in
    subst L (sym goes) (by_call log frames s t behind places clean)
turned_stamped log new frames s (Err refusal) turns behind places clean =
    let L : Log → Type 0 = λ g. Stamped g frames s in subst L (sym turns.1) (none_stamped log frames s behind places clean)

-- the head is unchanged until the turn has ended
pub same_head : (log new : Log) (result : Result Turn Refusal) (X : List ℕ → Type 0) → log_state.Turns log new result → X log.flight → Until result (X new.flight)
same_head log new (Ok turn.Done) X turns x = tt
same_head log new (Ok turn.Closed) X turns x = subst X (sym (ap (λ (g : Log). g.flight) (turns.1 ∙ ap (λ u. after_turn u log) (sym turns.0)))) x
same_head log new (Ok turn.Body) X turns x = subst X (sym (ap (λ (g : Log). g.flight) (turns.1 ∙ ap (λ u. after_turn u log) (sym turns.0)))) x
same_head log new (Ok turn.BodySync) X turns x = subst X (sym (ap (λ (g : Log). g.flight) (turns.1 ∙ ap (λ u. after_turn u log) (sym turns.0)))) x
same_head log new (Ok turn.Gate) X turns x = subst X (sym (ap (λ (g : Log). g.flight) (turns.1 ∙ ap (λ u. after_turn u log) (sym turns.0)))) x
same_head log new (Ok turn.GateSync) X turns x = subst X (sym (ap (λ (g : Log). g.flight) (turns.1 ∙ ap (λ u. after_turn u log) (sym turns.0)))) x
same_head log new (Ok turn.Selector) X turns x = subst X (sym (ap (λ (g : Log). g.flight) (turns.1 ∙ ap (λ u. after_turn u log) (sym turns.0)))) x
same_head log new (Err refusal) X turns x = subst X (sym (ap (λ (g : Log). g.flight) turns.1)) x

pub told_call : (call : Turn) (frames frames' : State) → frames' ≡ told_turn call frames → frames' ≡ told_result (Ok call) frames
told_call call frames frames' is = is

module _ {E P : Type 0} (k : Known E P) (r : Reading E P) where
  -- a step of a turn, which is then noted in the pool
  pub turn_runs : (old new : Log) (frames frames' : State) (d e : Device) (result : Result Turn Refusal) → frames' ≡ told_result result frames → Counts 1 d e result → old.stage ≡ Idle → NoneDirty frames
      → log_state.Turns old new result → (d.honest ≡ true → TurnCallFor old.turn old d e result)
      → (d.honest ≡ true → On old d.seen d.pending → KeepsTurning old new d e result) → TurnKeepsRunning k r old new frames frames' d e result
  turn_runs old new frames frames' d e result tells counts idle clean turns call keeps bodies s l honest runs may =
      let kept_so = keeps honest runs.up.on in
      let f = front_of old.turn d e kept_so.touches in
      let t : Logged E P = steps.turned k may.next result s in
      let few : old.gated ≤ PLACES = omega (arith, runs.up.on.sound.places, runs.up.on.sound.few) in
      let C : ℕ → Type 0 = λ n. Up k r new n e.seen e.pending (bodies_turned k may.next result bodies s) t in
      let up = subst C (sym counts.sectors) (record { on = kept_so.on; carries = turn_carries k l r old d e bodies s runs.up.carries may idle f few new result turns (call honest) kept_so.gated }) in
      let goes = turn_goes k l r old d e bodies s runs.up.carries may idle f result in
      let S : State → Type 0 = λ g. Stamped new g t in
      let M : List ℕ → Type 0 = λ head. MayRenew k r head e.sectors e.pending s in
      let N : ℕ → Type 0 = λ n. MayRenew k r old.flight n e.pending s in
      record {
        runs = record { up = up; stamped = subst S (sym tells) (turned_stamped old new frames t result turns runs.stamped.behind runs.stamped.places clean) };
        goes_on = same_head old new result M turns (subst N (sym counts.sectors) (record {
          no_flight = may.no_flight;
          no_filling = may.no_filling;
          written = may.written;
          settled = settled_elsewhere f.first f.n d.sectors d e f.front f.touches (λ p. false) may.settled;
          next = may.next;
          covers = may.covers;
          head_is = may.head_is;
        }));
        safely = record { goes = goes; leaves = call_stands k l r new d e (bodies_turned k may.next result bodies s) s t kept_so.time goes up };
      }
