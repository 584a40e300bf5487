-- A write's move that has read pages first, and has logged nothing then: the outcome from there on is its outcome.
use Rattle.std.proofs.Common.{◌≡◌, ◌∙◌, ap, sym, subst, inl, inr, ⊎_elim, ℕ, ◌≤◌, Bool, List, length, arith}
use Rattle.gx_geom.specs.declared.refusal.Refusal.{Refusal}
use Rattle.gx_geom.specs.declared.refusal.Refusal.TheVariants as refusal
use Rattle.gx_machine.specs.declared.call.Call.TheVariants.{Insert}
use Rattle.gx_machine.specs.declared.entry.Entry.{Entry}
use Rattle.gx_machine.specs.declared.reply.Reply.TheVariants as reply
use Rattle.gx_machine.specs.Keys.{Keys}
use Rattle.gx_disk.specs.Device.{Device}
use Rattle.gx_disk.specs.Moments.{Leaves}
use Rattle.gx_disk.proofs.Leaving.{leaves_joined}
use Rattle.gx_page.specs.Contents.{Contents}
use Rattle.gx_pool.specs.Bringing.{OnlyRead}
use Rattle.gx_node.specs.Reading.{Format}
use Rattle.gx_node.specs.Store.{Store}
use Rattle.gx_recovery.specs.Known.{Known, Limits}
use Rattle.gx_events.specs.Happenings.{Happening}
use Rattle.gx_index_laws.specs.Classes.{Class, IsLawful, Page, known_of}
use Rattle.gx_index_laws.specs.Happening.{AreHappening}
use Rattle.gx_index_laws.specs.States as index
use Rattle.gx_durable.specs.Spelled.{Reading}
use Rattle.gx_durable.specs.Standing.{Stands}
use Rattle.gx_events.specs.declared.outcome.Outcome.{Outcome}
use Rattle.gx_events.specs.declared.outcome.Outcome.TheVariants.{Replied, More, Help}
use Rattle.gx_store.specs.Since.{GoesOn}
use Rattle.gx_store.specs.Standing.{standing_node, store_of}
use Rattle.gx_store.specs.State.{IsSteady, Shelf}
use Rattle.gx_store.proofs.Listed.{nodes_long}
use Rattle.gx_storage.specs.Changes.{IsUnlogged, begun, has_room}
use Rattle.gx_storage.specs.Keeps.{KeepsTheSame}
use Rattle.gx_storage.specs.State.{Volume}
use Rattle.gx_engine.specs.Moves.{Lowers, Moves}
use Rattle.gx_engine.specs.States.{Parts, is_due, runs}
use Rattle.gx_engine.specs.Writes.{LeftFew, WriteBy}
use Rattle.gx_engine.proofs.Brought.{as_brought, begun_on, brought_leads, help_early}

module _ {B D : Type 0} (k : Keys B) (known : Limits → Known (Entry B) (Page B)) (r : Reading (Entry B) (Page B)) (f : Format B) (passes : ℕ → Contents → Bool) (size : ℕ)
    (d m e : Device) (s : ℕ) (entry : Entry B) (old : Parts B D) where
  module _ (t : Shelf D) (first : IsUnlogged known r f passes (begun old.volume size) d m old.volume (record old.volume { shelf = t })) where
    abbrev mid : Parts B D
    mid = record old { volume = record old.volume { shelf = t } }

    on : GoesOn passes d m (begun old.volume size) t
    on = (first.since 0).goes_on

    module _ (same : IsSteady d old.volume.shelf.frames → store_of f m.seen t ≡ store_of f d.seen old.volume.shelf) where
      same_used : IsSteady d old.volume.shelf.frames → t.used ≡ old.volume.shelf.used
      same_used steady =
          sym (nodes_long (standing_node f t.frames m.seen) t.used) ∙ ap (λ (x : Store B). length x.nodes) (same steady)
          ∙ nodes_long (standing_node f old.volume.shelf.frames d.seen) old.volume.shelf.used

      -- no page has been taken
      few_there : (page : ℕ) → LeftFew m mid page → LeftFew d old page
      few_there page few steady =
          let low = few (on.steady steady) in
          let used = same_used steady in
          let pages = on.pages in
          omega (arith, low, used, pages)

    module _ (Asks : ℕ → Type 0) (Lacks Lacks' : Type 0) (lacks : Lacks → Lacks') (Goes Goes' : Device → Parts B D → Type 0) (goes : (x : Parts B D) → Goes e x → Goes' e x) where
      abbrev Comes : Type 0 → (Device → Parts B D → Type 0) → Device → Parts B D → Parts B D → Outcome B → Type 0
      Comes what does from was new o = WriteBy Asks what does k passes from e s (Insert entry) was new o

      refused_then : (new : Parts B D) (why : Refusal) → Comes Lacks Goes m mid new (Replied (reply.Refused why)) → Comes Lacks' Goes' d old new (Replied (reply.Refused why))
      refused_then new refusal.Present is = is
      refused_then new refusal.Absent is = is
      refused_then new refusal.Memory is = (record { work = is.0.work; at = is.0.at; looks = is.0.looks }, is.1)
      refused_then new refusal.PagesFull is = (lacks is.0, is.1)
      refused_then new refusal.Device is = ((let failed = is.0 in let before = on.faults in omega (arith, failed, before)), is.1)
      refused_then new refusal.Damaged is = is
      refused_then new why is = absurd is

      then_comes : (new : Parts B D) (o : Outcome B) → Comes Lacks Goes m mid new o → Comes Lacks' Goes' d old new o
      then_comes new More is = (is.0, is.1, is.2, goes new is.3)
      then_comes new (Replied reply.Inserted) is = is
      then_comes new (Replied reply.Deleted) is = is
      then_comes new (Replied (reply.Refused why)) is = refused_then new why is
      then_comes new (Help n) is = (
        (
          is.0.0,
          is.0.1,
          is.0.2,
          ⊎_elim
              (λ due. inl (due.0, due.1, due.2, λ q. due.3 q ∙ (first.since q).same.stamp))
              (λ room. inr
              (help_early passes d m e (runs old.checkpoint) (begun old.volume is.0.0) (begun mid.volume is.0.0) new.volume.shelf n
              (begun_on passes d m (begun old.volume size) t (has_room old.volume.log is.0.0) on) (λ q. (first.since q).same.stamp) (is_due old) room.0 room.1))
              is.0.3,
        ),
        is.1,
      )
      then_comes new other is = absurd is

  module _ (mid : Parts B D) (only : mid ≡ record old { volume = mid.volume }) (first : IsUnlogged known r f passes (begun old.volume size) d m old.volume mid.volume) where
    brought : mid ≡ record old { volume = record old.volume { shelf = mid.volume.shelf } }
    brought = only ∙ as_brought old mid.volume old.sessions first.log first.most first.imaged

    -- the outcome from there on is its outcome
    pub comes_then : (Asks : ℕ → Type 0) (Lacks Lacks' : Type 0) → (Lacks → Lacks') → (Goes Goes' : Device → Parts B D → Type 0) → ((x : Parts B D) → Goes e x → Goes' e x) → (new : Parts B D) (o : Outcome B)
        → WriteBy Asks Lacks Goes k passes m e s (Insert entry) mid new o → WriteBy Asks Lacks' Goes' k passes d e s (Insert entry) old new o
    comes_then Asks Lacks Lacks' lacks Goes Goes' goes new o is =
        subst
        (λ (x : Parts B D). IsUnlogged known r f passes (begun old.volume size) d m old.volume x.volume
        → WriteBy Asks Lacks Goes k passes m e s (Insert entry) x new o → WriteBy Asks Lacks' Goes' k passes d e s (Insert entry) old new o)
        (sym brought) (λ one is. then_comes mid.volume.shelf one Asks Lacks Lacks' lacks Goes Goes' goes new o is) first is

    -- no page has been taken
    pub few_then : (IsSteady d old.volume.shelf.frames → store_of f m.seen mid.volume.shelf ≡ store_of f d.seen old.volume.shelf)
        → (page : ℕ) → LeftFew m mid page → LeftFew d old page
    few_then same page few =
        subst
        (λ (x : Parts B D). IsUnlogged known r f passes (begun old.volume size) d m old.volume x.volume
        → (IsSteady d old.volume.shelf.frames → store_of f m.seen x.volume.shelf ≡ store_of f d.seen old.volume.shelf) → LeftFew m x page → LeftFew d old page)
        (sym brought) (λ one two is. few_there mid.volume.shelf one two page is) first same few

-- a move that goes on leaves less than before the pages were read
lowers_alike : {B D : Type 0} (c : Class B) (r : Reading (Entry B) (Page B)) (f : Format B) (passes : ℕ → Contents → Bool) (s : ℕ) (o : Outcome B) (old new : Parts B D) (w : Volume D)
    (i j : index.State B) → Lowers c r f passes s o (record old { volume = w }) new i j → Lowers c r f passes s o old new i j
lowers_alike c r f passes s More old new w i j low = low
lowers_alike c r f passes s other old new w i j low = tt

module _ {B D : Type 0} (c : Class B) (lawful : 4 ≤ c.rules.most → IsLawful c) (r : Reading (Entry B) (Page B)) (f : Format B) (passes : ℕ → Contents → Bool) (d m e : Device) (s : ℕ)
    (old : Parts B D) where
  module _ (w : Volume D) (most : w.most ≡ old.volume.most) (log : w.log ≡ old.volume.log) (reads : OnlyRead d m) (keeps : KeepsTheSame (known_of c) r f passes d m old.volume w) where
    then_moves : (new : Parts B D) (o : Outcome B) (events : List (Happening B)) → Moves c r f passes m e s (record old { volume = w }) new o events → Moves c r f passes d e s old new o events
    then_moves new o events next bodies i h =
        let one = brought_leads c lawful r f passes d m old w most log reads keeps bodies i h in
        let two = next one.bodies one.index one.holds in
        record {
          led = record {
            bodies = two.led.bodies;
            index = two.led.index;
            happening = subst (λ (j : index.State B). AreHappening c j events two.led.index) one.happening two.led.happening;
            holds = two.led.holds;
            leaves = leaves_joined (Stands (known_of c) r i.log) d m e one.leaves (subst (λ (j : index.State B). Leaves (Stands (known_of c) r j.log) m e) one.happening two.led.leaves);
          };
          lowers =
              lowers_alike c r f passes s o old new w i two.led.index
              (subst (λ (j : index.State B). Lowers c r f passes s o (record old { volume = w }) new j two.led.index) one.happening two.lowers);
        }

  pub moves_then : (mid : Parts B D) → mid ≡ record old { volume = mid.volume } → mid.volume.most ≡ old.volume.most → mid.volume.log ≡ old.volume.log → OnlyRead d m
      → KeepsTheSame (known_of c) r f passes d m old.volume mid.volume → (new : Parts B D) (o : Outcome B) (events : List (Happening B))
      → Moves c r f passes m e s mid new o events → Moves c r f passes d e s old new o events
  moves_then mid only most log reads keeps new o events next =
      then_moves mid.volume most log reads keeps new o events (subst (λ (x : Parts B D). Moves c r f passes m e s x new o events) only next)
