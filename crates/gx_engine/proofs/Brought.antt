-- An engine whose pages may have been brought, in events of no session; and what an event comes to that brings first.
use Rattle.std.proofs.Common.{◌≡◌, ◌≤◌, ◌∙◌, sym, ap, refl, subst, ℕ, Bool, true, false, List, [], ◌∷◌, Option}
use Rattle.gx_geom.specs.declared.refusal.Refusal.{Refusal}
use Rattle.gx_geom.specs.declared.refusal.Refusal.TheVariants.{Damaged as DamagedRefusal, Device as DeviceRefusal}
use Rattle.gx_machine.specs.declared.entry.Entry.{Entry}
use Rattle.gx_disk.specs.Device.{Device}
use Rattle.gx_disk.specs.Moments.{Leaves}
use Rattle.gx_disk.proofs.Leaving.{leaves_joined}
use Rattle.gx_page.specs.Contents.{Contents}
use Rattle.gx_record.specs.Rec.{Rec}
use Rattle.gx_node.specs.Reading.{Format}
use Rattle.gx_pool.specs.Bringing.{OnlyRead}
use Rattle.gx_glog.specs.State.{Log}
use Rattle.gx_recovery.specs.Known.{Known, Limits}
use Rattle.gx_recovery.specs.Records.{Record}
use Rattle.gx_events.specs.Happenings.{Happening, Fails}
use Rattle.gx_index_laws.specs.Classes.{Class, IsLawful, Page, known_of}
use Rattle.gx_index_laws.specs.Happening as happening
use Rattle.gx_index_laws.specs.Happening.{AreHappening}
use Rattle.gx_index_laws.specs.States as index
use Rattle.gx_index_laws.proofs.AskedCalls.{faulted}
use Rattle.gx_index_laws.proofs.Quiet.{as_it_is}
use Rattle.gx_index_laws.proofs.Standing.{known_lawful}
use Rattle.gx_durable.specs.Spelled.{Reading}
use Rattle.gx_durable.specs.Standing.{Stands}
use Rattle.gx_events.specs.declared.outcome.Outcome.{Outcome}
use Rattle.gx_events.specs.declared.outcome.Outcome.TheVariants.{Help, Refused}
use Rattle.gx_events.specs.declared.outcome.Need.{Need}
use Rattle.gx_phases.specs.Moves.{failed_state}
use Rattle.gx_phases.specs.States.{State}
use Rattle.gx_store.specs.declared.fault.StoreFault.{StoreFault}
use Rattle.gx_store.specs.declared.fault.StoreFault.TheVariants as fault
use Rattle.gx_store.specs.Faults as faults
use Rattle.gx_store.specs.Since.{GoesOn}
use Rattle.gx_store.specs.State.{Shelf}
use Rattle.gx_store.proofs.Going.{as_it_was_joined, goes_on_joined, why_later}
use Rattle.gx_storage.specs.Bringing.{bringing}
use Rattle.gx_storage.specs.Changes.{IsLogged, IsUnlogged, begun, has_room}
use Rattle.gx_storage.specs.Flushing.{Helps}
use Rattle.gx_storage.specs.Keeps.{KeepsTheSame, StaysSame}
use Rattle.gx_storage.specs.State.{Volume}
use Rattle.gx_engine.specs.declared.work.Work.{Work}
use Rattle.gx_engine.specs.Holds.{Holds, Led, Leads}
use Rattle.gx_engine.specs.Refusals.{CanBeHelped, IsEarly, IsHelp, IsRefusedAs, IsTurnedAway, StampsStay, need_of}
use Rattle.gx_engine.specs.States.{Parts, runs}
use Rattle.gx_engine.specs.Sweeping.{sweep_events}
use Rattle.gx_engine.proofs.Growing.{stayed_led}
use Rattle.gx_engine.proofs.Serving.{StaysSettled, of_reads}

-- An engine that holds an index, with pages that were brought since.
module _ {B D : Type 0} (c : Class B) (r : Reading (Entry B) (Page B)) (f : Format B) (passes : ℕ → Contents → Bool) (d e : Device) (old : Parts B D)
    (bodies : List (List (Record (Entry B) (Page B)))) (i : index.State B) (h : Holds c r f passes d old bodies i)
    (w : Volume D) (most : w.most ≡ old.volume.most) (log : w.log ≡ old.volume.log) (settled : StaysSettled d e) (stays : StaysSame (known_of c) r f passes d e w bodies i.log) where
  pub brought_led : Led c r f passes d e (record old { volume = w }) i []
  brought_led = stayed_led c r f passes d e old bodies i h w most log settled stays [] i refl h.whole refl old.sessions (record { of = h.sessions; at = h.at; told = h.told }) refl (λ works. works)

  -- a fault has ended the engine
  pub lost_led : IsLawful c → Led c r f passes d e (record old { volume = w; sessions = failed_state old.sessions }) i (Fails ∷ [])
  lost_led l =
      let j : index.State B = happening.failed_state i in
      let now = faulted c l i h.whole Fails (as_it_is (index.engine_of c j)) refl in
      stayed_led c r f passes d e old bodies i h w most log settled stays (Fails ∷ []) j (j, now, refl) now.whole refl (failed_state old.sessions)
      (record {
        of = record { slots = h.sessions.slots; transactions = h.sessions.transactions; next = h.sessions.next; oldest = h.sessions.oldest; failed = refl };
        at = h.at;
        told = h.told;
      })
      refl (λ works. absurd (let never : true ≡ false = works in cc))

-- whatever index the engine held
module _ {B D : Type 0} (c : Class B) (lawful : 4 ≤ c.rules.most → IsLawful c) (r : Reading (Entry B) (Page B)) (f : Format B) (passes : ℕ → Contents → Bool) (d e : Device) (old : Parts B D)
    (w : Volume D) (most : w.most ≡ old.volume.most) (log : w.log ≡ old.volume.log) (reads : OnlyRead d e) (keeps : KeepsTheSame (known_of c) r f passes d e old.volume w) where
  pub brought_leads : Leads c r f passes d e old (record old { volume = w }) []
  brought_leads bodies i h =
      brought_led c r f passes d e old bodies i h w most log (of_reads d e reads h.keeps.steady.honest) (keeps bodies i.log (known_lawful c (lawful h.some)) h.keeps)

  pub lost_leads : Leads c r f passes d e old (record old { volume = w; sessions = failed_state old.sessions }) (Fails ∷ [])
  lost_leads bodies i h =
      lost_led c r f passes d e old bodies i h w most log (of_reads d e reads h.keeps.steady.honest) (keeps bodies i.log (known_lawful c (lawful h.some)) h.keeps) (lawful h.some)

-- what no session notices, and what comes then
pub leads_joined : {B D : Type 0} (c : Class B) (r : Reading (Entry B) (Page B)) (f : Format B) (passes : ℕ → Contents → Bool) (d m e : Device) (old mid new : Parts B D) (events : List (Happening B))
    → Leads c r f passes d m old mid [] → Leads c r f passes m e mid new events → Leads c r f passes d e old new events
leads_joined {B} c r f passes d m e old mid new events first next bodies i h =
    let one = first bodies i h in
    let two = next one.bodies one.index one.holds in
    record {
      bodies = two.bodies;
      index = two.index;
      happening = subst (λ (j : index.State B). AreHappening c j events two.index) one.happening two.happening;
      holds = two.holds;
      leaves = leaves_joined (Stands (known_of c) r i.log) d m e one.leaves (subst (λ (j : index.State B). Leaves (Stands (known_of c) r j.log) m e) one.happening two.leaves);
    }

-- what follows if pages are refused, by the fault
pub by_refusal : {B D : Type 0} (told : Refusal → Outcome B) (was new : Parts B D) (outcome : Outcome B) (P : Parts B D → Outcome B → Type 0) (n : StoreFault) → IsRefusedAs told n was new outcome
    → (CanBeHelped n → (found : Option Need) → Helps was.volume.shelf n found → P was (Help (need_of (runs was.checkpoint) found)))
    → (n ≡ fault.Device → P (record was { sessions = failed_state was.sessions }) (told DeviceRefusal))
    → (n ≡ fault.Damaged → P (record was { sessions = failed_state was.sessions }) (told DamagedRefusal))
    → P new outcome
by_refusal {B} {D} told was new outcome P fault.NoRoom is waits fails lies =
    subst (λ (x : Parts B D). P x outcome) (sym is.3) (subst (λ (o : Outcome B). P was o) (sym is.2) (waits tt is.0 is.1))
by_refusal {B} {D} told was new outcome P (fault.TooFewFrames frames) is waits fails lies =
    subst (λ (x : Parts B D). P x outcome) (sym is.3) (subst (λ (o : Outcome B). P was o) (sym is.2) (waits tt is.0 is.1))
by_refusal {B} {D} told was new outcome P fault.Device is waits fails lies =
    subst (λ (x : Parts B D). P x outcome) (sym is.1) (subst (λ (o : Outcome B). P (record was { sessions = failed_state was.sessions }) o) (sym is.0) (fails refl))
by_refusal {B} {D} told was new outcome P fault.Damaged is waits fails lies =
    subst (λ (x : Parts B D). P x outcome) (sym is.1) (subst (λ (o : Outcome B). P (record was { sessions = failed_state was.sessions }) o) (sym is.0) (lies refl))

-- pages and log of which only the pages may be others
pub same_volume : {D : Type 0} (v w : Volume D) → w.log ≡ v.log → w.most ≡ v.most → w.imaged ≡ v.imaged → w ≡ record v { shelf = w.shelf }
same_volume {D} v w log most imaged =
    ap (λ (l : Log). record { log = l; shelf = w.shelf; most = w.most; imaged = w.imaged }) log
    ∙ ap (λ (n : ℕ). record { log = v.log; shelf = w.shelf; most = n; imaged = w.imaged }) most
    ∙ ap (λ (bits : List Bool). record { log = v.log; shelf = w.shelf; most = v.most; imaged = bits }) imaged

-- so of the engine
pub as_brought : {B D : Type 0} (old : Parts B D) (w : Volume D) (sessions : State B (Work B)) → w.log ≡ old.volume.log → w.most ≡ old.volume.most → w.imaged ≡ old.volume.imaged
    → ◌≡◌ {A = Parts B D} (record old { volume = w; sessions = sessions }) (record old { volume = record old.volume { shelf = w.shelf }; sessions = sessions })
as_brought old w sessions log most imaged =
    ap (λ (v : Volume _). record old { volume = v; sessions = sessions }) (same_volume old.volume w log most imaged)

-- Pages were refused to an event that begins with room in the log, or without, and that logs nothing then.
pub refused_leads : {B D : Type 0} (c : Class B) → (4 ≤ c.rules.most → IsLawful c) → (r : Reading (Entry B) (Page B)) (f : Format B) (passes : ℕ → Contents → Bool) (state : D → Device) (old : Parts B D) (w : Volume D)
    → w.most ≡ old.volume.most → w.log ≡ old.volume.log → OnlyRead (state old.volume.shelf.disk) (state w.shelf.disk)
    → KeepsTheSame (known_of c) r f passes (state old.volume.shelf.disk) (state w.shelf.disk) old.volume w
    → (room : Bool) (n : StoreFault) → faults.IsWhy passes (state old.volume.shelf.disk) (state w.shelf.disk) (record old.volume.shelf { batch = old.volume.log.used; has_room = room }) w.shelf n
    → (new : Parts B D) (outcome : Outcome B) → IsTurnedAway n (record old { volume = w }) new outcome
    → Leads c r f passes (state old.volume.shelf.disk) (state new.volume.shelf.disk) old new (sweep_events outcome)
refused_leads c lawful r f passes state old w most log reads keeps room n why new outcome is =
    let d = state old.volume.shelf.disk in
    let e = state w.shelf.disk in
    by_refusal Refused (record old { volume = w }) new outcome (λ x o. Leads c r f passes d (state x.volume.shelf.disk) old x (sweep_events o)) n is
    (λ can found helps. brought_leads c lawful r f passes d e old w most log reads keeps)
    (λ device. lost_leads c lawful r f passes d e old w most log reads keeps)
    (λ lies bodies i h.
    absurd (subst (λ (x : StoreFault). faults.IsWhy passes d e (record old.volume.shelf { batch = old.volume.log.used; has_room = room }) w.shelf x) lies why h.keeps.steady h.keeps.readable))

-- an event that begins after a page was brought, for which there is room or isn't
pub begun_on : {D : Type 0} (passes : ℕ → Contents → Bool) (d m : Device) (s t : Shelf D) (room : Bool) → GoesOn passes d m s t
    → GoesOn passes d m (record s { has_room = room }) (record t { batch = s.batch; has_room = room })
begun_on passes d m s t room on = record {
  device = on.device;
  faults = on.faults;
  used = on.used;
  counter = on.counter;
  pages = on.pages;
  batch = refl;
  has_room = refl;
  gated = on.gated;
  frames = on.frames;
  each = on.each;
  steady = on.steady;
  readable = on.readable;
}

-- what helps after a page was brought
pub help_later : {D : Type 0} (passes : ℕ → Contents → Bool) (d m e : Device) (running : Bool) (s t u : Shelf D) (n : Need) → GoesOn passes d m s t → StampsStay s t → IsHelp passes m e running t u n → IsHelp passes d e running s u n
help_later passes d m e running s t u n on stay is = record {
  fault = is.fault;
  can = is.can;
  why = why_later passes d m e s t u is.fault on is.why;
  help = is.help;
  helps = is.helps;
  is = is.is;
  stamps = λ page. is.stamps page ∙ stay page;
}

-- the same with the statement on a lack of room
pub help_early : {D : Type 0} (passes : ℕ → Contents → Bool) (d m e : Device) (running : Bool) (s t u : Shelf D) (n : Need) → GoesOn passes d m s t → StampsStay s t → (due : Bool) → (is : IsHelp passes m e running t u n)
    → IsEarly is.fault due → (now : IsHelp passes d e running s u n) × IsEarly now.fault due
unfolding help_later
help_early passes d m e running s t u n on stay due is early = (help_later passes d m e running s t u n on stay is, early)

-- what is logged after a page was brought
pub logged_later : {B D : Type 0} (known : Limits → Known (Entry B) (Page B)) (r : Reading (Entry B) (Page B)) (f : Format B) (passes : ℕ → Contents → Bool) (size : ℕ) (d m e : Device) (v : Volume D) (t : Shelf D) (w : Volume D) (x : Rec)
    → IsUnlogged known r f passes (bringing v) d m v (record v { shelf = t }) → IsLogged known r f passes size m e (record v { shelf = t }) w x → IsLogged known r f passes size d e v w x
logged_later known r f passes size d m e v t w x first next = record {
  logs = next.logs;
  keeps = λ l bodies s lawful keeps.
      let one = first.keeps l bodies s lawful keeps in
      let two = next.keeps l bodies s lawful one.keeps in
      record { shows = two.shows; keeps = two.keeps; leaves = leaves_joined (Stands (known l) r s) d m e one.leaves two.leaves };
  goes_on = goes_on_joined passes d m e (begun v size) (begun (record v { shelf = t }) size) w.shelf (begun_on passes d m (bringing v) t (has_room v.log size) (first.since 0).goes_on) next.goes_on;
  others = λ q none. as_it_was_joined d m e v.shelf.frames t.frames w.shelf.frames q (first.since q).goes_on.steady (first.since q).same (next.others q none);
  most = next.most;
  imaged = next.imaged;
}
