-- A write's move whose pages were refused, and that logged nothing: it waits for another event, or the engine has failed.
use Rattle.std.proofs.Common.{◌≡◌, refl, sym, subst, inr, ℕ, ◌-◌, ◌≤◌, Bool, true, false, List, [], ◌∷◌}
use Rattle.gx_geom.specs.declared.refusal.Refusal.TheVariants as refusal
use Rattle.gx_machine.specs.declared.entry.Entry.{Entry}
use Rattle.gx_machine.specs.declared.call.Call.TheVariants.{Insert}
use Rattle.gx_machine.specs.declared.reply.Reply.TheVariants.{Refused as RefusedCall}
use Rattle.gx_machine.specs.Keys.{Keys}
use Rattle.gx_machine.specs.Machine.{is_session}
use Rattle.gx_disk.specs.Device.{Device}
use Rattle.gx_page.specs.Contents.{Contents}
use Rattle.gx_pool.specs.Bringing.{OnlyRead}
use Rattle.gx_node.specs.Reading.{Format}
use Rattle.gx_recovery.specs.Records.{Record}
use Rattle.gx_events.specs.Happenings.{RefusesCall}
use Rattle.gx_index_laws.specs.Classes.{Class, IsLawful, Page, known_of}
use Rattle.gx_index_laws.specs.States as index
use Rattle.gx_index_laws.proofs.Standing.{known_lawful}
use Rattle.gx_durable.specs.Spelled.{Reading}
use Rattle.gx_events.specs.declared.outcome.Need.{Need}
use Rattle.gx_events.specs.declared.outcome.Outcome.{Outcome}
use Rattle.gx_events.specs.declared.outcome.Outcome.TheVariants.{Replied, Help}
use Rattle.gx_phases.specs.declared.phase.Phase.TheVariants as phase
use Rattle.gx_phases.specs.Moves.{failed_state}
use Rattle.gx_phases.specs.States.{IsKept, phase_at}
use Rattle.gx_store.specs.declared.fault.StoreFault.{StoreFault}
use Rattle.gx_store.specs.Faults as faults
use Rattle.gx_record.specs.declared.sizes.TheConstants.{SPLIT_RECORD}
use Rattle.gx_storage.specs.Changes.{begun}
use Rattle.gx_storage.specs.Keeps.{KeepsTheSame, StaysSame}
use Rattle.gx_storage.specs.State.{Volume}
use Rattle.gx_engine.specs.declared.work.Work.{Work}
use Rattle.gx_engine.specs.Holds.{Holds}
use Rattle.gx_engine.specs.Moves.{Moves}
use Rattle.gx_engine.specs.Refusals.{IsRefused, StampsStay}
use Rattle.gx_engine.specs.States.{Parts, is_due}
use Rattle.gx_engine.specs.Writes.{WriteBy, write_events}
use Rattle.gx_engine.proofs.Brought.{as_brought, by_refusal}
use Rattle.gx_engine.proofs.writes.descents.Ending.{always_early}
use Rattle.gx_engine.proofs.LookMoves.{fails, waits}
use Rattle.gx_engine.proofs.Serving.{StaysSettled, of_reads}

-- What it comes to.
module _ {B D : Type 0} (Asks : ℕ → Type 0) (Lacks : Type 0) (Goes : Device → Parts B D → Type 0) (k : Keys B) (passes : ℕ → Contents → Bool) (state : D → Device) (old : Parts B D) (s : ℕ) (entry : Entry B) (w : Volume D)
    (most : w.most ≡ old.volume.most) (same_log : w.log ≡ old.volume.log) (imaged : w.imaged ≡ old.volume.imaged) where
  abbrev Comes : Parts B D → Outcome B → Type 0
  Comes new o = WriteBy Asks Lacks Goes k passes (state old.volume.shelf.disk) (state new.volume.shelf.disk) s (Insert entry) old new o

  pub stopped_comes : is_due old ≡ false → StampsStay old.volume.shelf w.shelf → (size : ℕ) → Asks size → size ≤ SPLIT_RECORD → (n : StoreFault) → faults.IsWhy passes (state old.volume.shelf.disk) (state w.shelf.disk) (begun old.volume size) w.shelf n
      → (new : Parts B D) (o : Outcome B) → IsRefused n (record old { volume = w }) new o → Comes new o
  stopped_comes early stay size asks small n why new o is =
      by_refusal (λ x. Replied (RefusedCall x)) (record old { volume = w }) new o Comes n is
      (λ can found helps. ((size, asks, small, inr (record { fault = n; can = can; why = why; help = found; helps = helps; is = refl; stamps = stay }, always_early n (is_due old) early)), as_brought old w old.sessions same_log most imaged))
      (λ device. (
        subst (λ (x : StoreFault). faults.IsWhy passes (state old.volume.shelf.disk) (state w.shelf.disk) (begun old.volume size) w.shelf x) device why,
        as_brought old w (failed_state old.sessions) same_log most imaged,
      ))
      (λ lies. as_brought old w (failed_state old.sessions) same_log most imaged)

  pub lost_comes : (new : Parts B D) (o : Outcome B) → o ≡ Replied (RefusedCall refusal.Damaged) → new ≡ record old { volume = w; sessions = failed_state old.sessions } → Comes new o
  lost_comes new o one other =
      subst (λ (y : Outcome B). Comes new y) (sym one)
      (subst (λ (x : Parts B D). Comes x (Replied (RefusedCall refusal.Damaged))) (sym other) (as_brought old w (failed_state old.sessions) same_log most imaged))

-- What it does to an index.
module _ {B D : Type 0} (c : Class B) (lawful : 4 ≤ c.rules.most → IsLawful c) (r : Reading (Entry B) (Page B)) (f : Format B) (passes : ℕ → Contents → Bool)
    (state : D → Device) (old : Parts B D) (kept : IsKept c.keys old.sessions) (works : old.sessions.failed ≡ false) (s : ℕ) (is : is_session s ≡ true) (entry : Entry B) (was : Work B)
    (at : phase_at (s - 1) old.sessions.phases ≡ phase.Open (Insert entry) was) (w : Volume D) (most : w.most ≡ old.volume.most) (same_log : w.log ≡ old.volume.log)
    (reads : OnlyRead (state old.volume.shelf.disk) (state w.shelf.disk)) (keeps : KeepsTheSame (known_of c) r f passes (state old.volume.shelf.disk) (state w.shelf.disk) old.volume w) where
  abbrev d : Device
  d = state old.volume.shelf.disk

  abbrev e : Device
  e = state w.shelf.disk

  module _ (bodies : List (List (Record (Entry B) (Page B)))) (i : index.State B) (h : Holds c r f passes d old bodies i) where
    pub settled : StaysSettled d e
    settled = of_reads d e reads h.keeps.steady.honest

    pub stays : StaysSame (known_of c) r f passes d e w bodies i.log
    stays = keeps bodies i.log (known_lawful c (lawful h.some)) h.keeps

  waits_moves : (n : Need) → Moves c r f passes d e s old (record old { volume = w }) (Help n) []
  waits_moves n bodies i h = waits c (lawful h.some) r f passes d old kept s is (Insert entry) was at bodies i h e w most same_log (settled bodies i h) (stays bodies i h) n

  fails_moves : Moves c r f passes d e s old (record old { volume = w; sessions = failed_state old.sessions }) (Replied (RefusedCall refusal.Device)) (RefusesCall s refusal.Device ∷ [])
  fails_moves bodies i h = fails c (lawful h.some) r f passes d old kept s is (Insert entry) was at bodies i h e w most same_log (settled bodies i h) (stays bodies i h) works

  pub stopped_moves : (size : ℕ) (n : StoreFault) → faults.IsWhy passes d e (begun old.volume size) w.shelf n → (new : Parts B D) (o : Outcome B)
      → IsRefused n (record old { volume = w }) new o → Moves c r f passes d (state new.volume.shelf.disk) s old new o (write_events s (Insert entry) o)
  stopped_moves size n why new o is =
      by_refusal (λ x. Replied (RefusedCall x)) (record old { volume = w }) new o
      (λ x y. Moves c r f passes d (state x.volume.shelf.disk) s old x y (write_events s (Insert entry) y)) n is
      (λ can found helps. waits_moves _)
      (λ device. fails_moves)
      (λ lies bodies i h.
      absurd (subst (λ (x : StoreFault). faults.IsWhy passes d e (begun old.volume size) w.shelf x) lies why h.keeps.steady h.keeps.readable))
