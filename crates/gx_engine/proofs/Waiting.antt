-- A session's move whose pages were only read: it waits for another event, or a fault has ended the engine.
use Rattle.std.proofs.Common.{◌≡◌, ◌∙◌, refl, ℕ, Bool, true, false, List, [], ◌∷◌}
use Rattle.gx_geom.specs.declared.refusal.Refusal.TheVariants.{Device as DeviceRefusal}
use Rattle.gx_machine.specs.declared.entry.Entry.{Entry}
use Rattle.gx_disk.specs.Device.{Device}
use Rattle.gx_page.specs.Contents.{Contents}
use Rattle.gx_pool.specs.Bringing.{OnlyRead}
use Rattle.gx_node.specs.Reading.{Format}
use Rattle.gx_recovery.specs.Records.{Record}
use Rattle.gx_events.specs.Happenings.{RefusesCall}
use Rattle.gx_events.specs.Slots.{is_unanswered, slot_at}
use Rattle.gx_index_laws.specs.Classes.{Class, IsLawful, Page, known_of}
use Rattle.gx_index_laws.specs.Happening as happening
use Rattle.gx_index_laws.specs.States as index
use Rattle.gx_index_laws.proofs.AskedCalls.{faulted}
use Rattle.gx_index_laws.proofs.Quiet.{as_it_is}
use Rattle.gx_durable.specs.Spelled.{Reading}
use Rattle.gx_phases.specs.Moves.{failed_state}
use Rattle.gx_storage.specs.Keeps.{StaysSame}
use Rattle.gx_storage.specs.State.{Volume}
use Rattle.gx_engine.specs.Holds.{Holds, Led, Sits}
use Rattle.gx_engine.specs.States.{Parts}
use Rattle.gx_engine.proofs.Growing.{stayed_led}
use Rattle.gx_engine.proofs.Serving.{StaysSettled, of_reads}

-- the sessions of an engine that holds an index
pub sits_of : {B D : Type 0} (c : Class B) (r : Reading (Entry B) (Page B)) (f : Format B) (passes : ℕ → Contents → Bool) (d : Device) (old : Parts B D)
    (bodies : List (List (Record (Entry B) (Page B)))) (i : index.State B) → Holds c r f passes d old bodies i → Sits c old.sessions i
sits_of c r f passes d old bodies i h = record { of = h.sessions; at = h.at; told = h.told }

module _ {B D : Type 0} (c : Class B) (r : Reading (Entry B) (Page B)) (f : Format B) (passes : ℕ → Contents → Bool) (d e : Device) (old : Parts B D)
    (bodies : List (List (Record (Entry B) (Page B)))) (i : index.State B) (h : Holds c r f passes d old bodies i)
    (w : Volume D) (most : w.most ≡ old.volume.most) (same_log : w.log ≡ old.volume.log) (reads : OnlyRead d e) (stays : StaysSame (known_of c) r f passes d e w bodies i.log) where
  pub settled : StaysSettled d e
  settled = of_reads d e reads h.keeps.steady.honest

  -- nothing happened
  pub waits_led : Led c r f passes d e (record old { volume = w }) i []
  waits_led = stayed_led c r f passes d e old bodies i h w most same_log settled stays [] i refl h.whole refl old.sessions (sits_of c r f passes d old bodies i h) refl (λ works. works)

  -- a fault has ended the engine, while a session's call wasn't answered
  pub fails_led : IsLawful c → old.sessions.failed ≡ false → (s : ℕ) → is_unanswered (slot_at s i.slots) ≡ true
      → Led c r f passes d e (record old { volume = w; sessions = failed_state old.sessions }) i (RefusesCall s DeviceRefusal ∷ [])
  fails_led l works s unanswered =
      let j : index.State B = happening.failed_state i in
      let now = faulted c l i h.whole (RefusesCall s DeviceRefusal) (unanswered, (h.sessions.failed ∙ works, as_it_is (index.engine_of c j))) refl in
      stayed_led c r f passes d e old bodies i h w most same_log settled stays (RefusesCall s DeviceRefusal ∷ []) j (j, now, refl) now.whole refl (failed_state old.sessions)
      (record {
        of = record { slots = h.sessions.slots; transactions = h.sessions.transactions; next = h.sessions.next; oldest = h.sessions.oldest; failed = refl };
        at = h.at;
        told = h.told;
      })
      refl (λ works. absurd (let never : true ≡ false = works in cc))
