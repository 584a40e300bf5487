-- A log that is found on an image, up to the end of its turn.
use Rattle.std.proofs.Common.{◌≡◌, ◌∙◌, sym, ap, refl, subst, ⊎_elim, ℕ, zero, suc, ◌+◌, ◌<◌, ◌≤◌, Bool, true, false, List, Result, Ok, Err, arith}
use Rattle.std.proofs.lemmas.Bool.{cases_lt}
use Rattle.gx_geom.specs.declared.refusal.Refusal.{Refusal}
use Rattle.gx_disk.specs.Device.{Device, IsImage, Counts}
use Rattle.gx_disk.proofs.Leaving.{call_leaves}
use Rattle.gx_glog.specs.declared.extent.TheConstants.{PLACES}
use Rattle.gx_glog.specs.declared.extent.Extent.{Extent}
use Rattle.gx_glog.specs.declared.stage.Turn.{Turn}
use Rattle.gx_glog.specs.declared.stage.Turn.TheVariants as turn
use Rattle.gx_glog.specs.Layout.{selected_of, is_open, open_run}
use Rattle.gx_glog.specs.State.{Log}
use Rattle.gx_glog.specs.State as log_state
use Rattle.gx_glog.specs.Standing.{MayTurn}
use Rattle.gx_glog.specs.Turning.{TurnCallFor, GoesOnTurning, KeepsMayTurn}
use Rattle.gx_glog.proofs.Images.{turn_shows_bodies}
use Rattle.gx_glog.proofs.Keeping.{start_may_turn, on_may_turn}
use Rattle.gx_glog.specs.Cuts.{bodies_in, open_bodies}
use Rattle.gx_recovery.specs.Known.{Known, IsLawful}
use Rattle.gx_recovery.specs.Records.{Record}
use Rattle.gx_recovery.specs.Damage.{records_of}
use Rattle.gx_recovery.specs.Logged.{Logged}
use Rattle.gx_recovery.proofs.Moves.{found_as_state}
use Rattle.gx_recovery.proofs.DamageItems.{bodies_log}
use Rattle.gx_durable.specs.Spelled.{Reading}
use Rattle.gx_durable.specs.Bodies.{AreBodies}
use Rattle.gx_durable.specs.Area.{area_of}
use Rattle.gx_durable.specs.Standing.{MayRenew, Carries, Stands}
use Rattle.gx_durable.specs.Steps.{bodies_turned}
use Rattle.gx_durable.specs.Steps as steps
use Rattle.gx_durable.specs.Opening.{FoundIsUpToTurn, ACrashBeforeTheTurn, UpMayTurn, AfterCall, FirstTurnKeeps}
use Rattle.gx_durable.proofs.Crashes.{crash_leaves, shown_stands, stands_before}
use Rattle.gx_durable.proofs.Fitting.{found_fit}
use Rattle.gx_durable.proofs.Images.{bodies_shown}
use Rattle.gx_durable.proofs.Moving.{settled_elsewhere}
use Rattle.gx_durable.proofs.Sizes.{turn_sizes}
use Rattle.gx_durable.proofs.Spellings.{none_are}
use Rattle.gx_durable.proofs.TurnRunning.{same_head}
use Rattle.gx_durable.proofs.Turning.{front_of, turn_carries, turn_goes}

-- a run of open gates: how long it is at most, that each gate in it is open, and that the next one is closed
run_within : (bytes : List ℕ) (extent : Extent) (places k : ℕ) (b : Bool) → is_open bytes extent k ≡ b → open_run bytes extent k places ≤ places
unfolding open_run
run_within bytes extent zero k b is = omega arith
run_within bytes extent (suc places) k true is = rw is (let rest = run_within bytes extent places (k + 1) (is_open bytes extent (k + 1)) refl in omega (arith, rest))
run_within bytes extent (suc places) k false is = rw is (omega arith)

run_opened : (bytes : List ℕ) (extent : Extent) (places k j : ℕ) (b : Bool) → is_open bytes extent k ≡ b → k ≤ j → j < k + open_run bytes extent k places → is_open bytes extent j ≡ true
unfolding open_run
run_opened bytes extent zero k j b is from to = absurd (omega arith)
run_opened bytes extent (suc places) k j true is from to =
    let within : j < k + suc (open_run bytes extent (k + 1) places) = rw is at to in
    ⊎_elim (λ (later : k < j). run_opened bytes extent places (k + 1) j (is_open bytes extent (k + 1)) refl (omega (arith, later)) (omega (arith, within)))
    (λ (here : j ≤ k). (let same : j ≡ k = omega (arith, here, from) in ap (λ n. is_open bytes extent n) same ∙ is)) (cases_lt k j)
run_opened bytes extent (suc places) k j false is from to = absurd (let none : j < k + 0 = rw is at to in omega (arith, none, from))

run_ends : (bytes : List ℕ) (extent : Extent) (places k : ℕ) (b : Bool) → is_open bytes extent k ≡ b → open_run bytes extent k places < places → is_open bytes extent (k + open_run bytes extent k places) ≡ false
unfolding open_run
run_ends bytes extent zero k b is less = absurd (omega arith)
run_ends bytes extent (suc places) k true is less =
    let within : suc (open_run bytes extent (k + 1) places) < suc places = rw is at less in
    let rest = run_ends bytes extent places (k + 1) (is_open bytes extent (k + 1)) refl (omega (arith, within)) in
    let same : k + suc (open_run bytes extent (k + 1) places) ≡ (k + 1) + open_run bytes extent (k + 1) places = omega arith in
    rw is (ap (λ n. is_open bytes extent n) same ∙ rest)
run_ends bytes extent (suc places) k false is less = let here : k + 0 ≡ k = omega arith in rw is (ap (λ n. is_open bytes extent n) here ∙ is)

open_bodies_are : (seen : List ℕ) → open_bodies seen ≡ bodies_in seen (selected_of seen) (open_run seen (selected_of seen) 0 PLACES)
unfolding open_bodies
open_bodies_are seen = refl

module _ {E P : Type 0} (k : Known E P) (r : Reading E P) where
  pub found_up : FoundIsUpToTurn k r
  found_up sectors seen pending bodies settled size pages sizes told undamaged good says =
      let x = selected_of seen in
      let n = open_run seen x 0 PLACES in
      let first : is_open seen x 0 ≡ is_open seen x 0 = refl in
      let few : n ≤ PLACES = run_within seen x PLACES 0 (is_open seen x 0) first in
      let B : List (List ℕ) → Type 0 = λ b. AreBodies r b bodies in
      let start : 0 + n ≡ n = omega arith in
      record {
        may_turn = start_may_turn x n seen pending few (record { reads = refl; settled = settled 2 }) (record {
          size = size;
          opened = λ j less. record { reads = run_opened seen x PLACES 0 j (is_open seen x 0) first (omega arith) (omega (arith, less)); settled = settled _ };
          bodies = λ j less s within. settled s;
          sizes = sizes;
          ends = λ less. record { reads = sym (ap (λ m. is_open seen x m) start) ∙ run_ends seen x PLACES 0 (is_open seen x 0) first less; settled = settled _ };
        });
        carries = record {
          told = record { gated_bodies = subst B (open_bodies_are seen) told; gated = refl; flight = none_are r; filling = none_are r };
          undamaged = undamaged;
          healthy = found_as_state k (area_of r k.pages seen) (records_of bodies) (bodies_log k bodies undamaged) good.good;
          fit = found_fit k r (area_of r k.pages seen) (records_of bodies) good.fit;
          has_pages = pages;
          head = record { reads = says; magic = settled 0; parameters = settled 1 };
          area = λ p. refl;
          settled = λ p s is unnamed within. settled s;
          turn = λ turns. absurd (omega arith);
        };
      }

  pub up_may_turn : UpMayTurn k r
  up_may_turn log sectors seen pending bodies s idle up = record { may_turn = on_may_turn log seen pending idle up.on; carries = up.carries }

  pub crash_before : ACrashBeforeTheTurn k r
  crash_before l log sectors seen pending bodies s image up is =
      shown_stands k l r log sectors seen pending bodies s up.carries image is (turn_sizes log seen pending image up.may_turn is)
      (bodies_shown log seen image (turn_shows_bodies log seen pending image up.may_turn is))

  -- each image after a call stands for a kept set
  after_call : IsLawful k → (new : Log) (e : Device) (bodies : List (List (Record E P))) (s : Logged E P) (result : Result Turn Refusal) → AfterCall k r new e bodies s result
      → (image : List ℕ) → IsImage e.seen e.pending image → Stands k r s image
  after_call l new e bodies s (Ok turn.Done) up image is = crash_leaves k r l new e.sectors e.seen e.pending bodies s image up is
  after_call l new e bodies s (Ok turn.Closed) up image is = crash_before l new e.sectors e.seen e.pending bodies s image up is
  after_call l new e bodies s (Ok turn.Body) up image is = crash_before l new e.sectors e.seen e.pending bodies s image up is
  after_call l new e bodies s (Ok turn.BodySync) up image is = crash_before l new e.sectors e.seen e.pending bodies s image up is
  after_call l new e bodies s (Ok turn.Gate) up image is = crash_before l new e.sectors e.seen e.pending bodies s image up is
  after_call l new e bodies s (Ok turn.GateSync) up image is = crash_before l new e.sectors e.seen e.pending bodies s image up is
  after_call l new e bodies s (Ok turn.Selector) up image is = crash_before l new e.sectors e.seen e.pending bodies s image up is
  after_call l new e bodies s (Err refusal) up image is = crash_before l new e.sectors e.seen e.pending bodies s image up is

  stands_so : (new : Log) (e : Device) (bodies : List (List (Record E P))) (s : Logged E P) (result : Result Turn Refusal) → GoesOnTurning new e.seen e.pending result
      → Carries k r new e.sectors e.seen e.pending bodies s → AfterCall k r new e bodies s result
  stands_so new e bodies s (Ok turn.Done) stands carries = record { on = stands; carries = carries }
  stands_so new e bodies s (Ok turn.Closed) stands carries = record { may_turn = stands; carries = carries }
  stands_so new e bodies s (Ok turn.Body) stands carries = record { may_turn = stands; carries = carries }
  stands_so new e bodies s (Ok turn.BodySync) stands carries = record { may_turn = stands; carries = carries }
  stands_so new e bodies s (Ok turn.Gate) stands carries = record { may_turn = stands; carries = carries }
  stands_so new e bodies s (Ok turn.GateSync) stands carries = record { may_turn = stands; carries = carries }
  stands_so new e bodies s (Ok turn.Selector) stands carries = record { may_turn = stands; carries = carries }
  stands_so new e bodies s (Err refusal) stands carries = record { may_turn = stands; carries = carries }

  -- a step of the turn of a log that was found
  pub first_turn : (old new : Log) (d e : Device) (result : Result Turn Refusal) → Counts 1 d e result → log_state.Turns old new result
      → (d.honest ≡ true → TurnCallFor old.turn old d e result) → (d.honest ≡ true → MayTurn old d.seen d.pending → KeepsMayTurn old new d e result)
      → FirstTurnKeeps k r old new d e result
  first_turn old new d e result counts turns call keeps bodies s l honest up may =
      let kept_so = keeps honest up.may_turn in
      let f = front_of old.turn d e kept_so.touches in
      let t : Logged E P = steps.turned k may.next result s in
      let few : old.gated ≤ PLACES = omega (arith, up.may_turn.sound.places, up.may_turn.sound.few) in
      let C : ℕ → Type 0 = λ n. Carries k r new n e.seen e.pending (bodies_turned k may.next result bodies s) t in
      let carries = subst C (sym counts.sectors) (turn_carries k l r old d e bodies s up.carries may up.may_turn.idle f few new result turns (call honest) kept_so.gated) in
      let after = stands_so new e (bodies_turned k may.next result bodies s) t result kept_so.stands carries in
      let goes = turn_goes k l r old d e bodies s up.carries may up.may_turn.idle f result in
      let M : List ℕ → Type 0 = λ head. MayRenew k r head e.sectors e.pending s in
      let N : ℕ → Type 0 = λ n. MayRenew k r old.flight n e.pending s in
      record {
        stands = after;
        goes_on = same_head old new result M turns (subst N (sym counts.sectors) (record {
          no_flight = may.no_flight;
          no_filling = may.no_filling;
          written = may.written;
          settled = settled_elsewhere f.first f.n d.sectors d e f.front f.touches (λ p. false) may.settled;
          next = may.next;
          covers = may.covers;
          head_is = may.head_is;
        }));
        safely = record {
          goes = goes;
          leaves = call_leaves (Stands k r s) d e kept_so.time
              (λ image is. stands_before k r s t image goes (after_call l new e (bodies_turned k may.next result bodies s) t result after image is));
        };
      }
