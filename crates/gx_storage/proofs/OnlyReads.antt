-- A step that only reads leaves the state.
use Rattle.std.proofs.Common.{◌≡◌, refl, sym, subst, ◌∙◌, ℕ, Bool}
use Rattle.gx_machine.specs.declared.entry.Entry.{Entry}
use Rattle.gx_disk.specs.Device.{Device}
use Rattle.gx_page.specs.Contents.{Contents}
use Rattle.gx_node.specs.Reading.{Format}
use Rattle.gx_node.specs.Store.{Stays}
use Rattle.gx_recovery.specs.Known.{Known, Limits}
use Rattle.gx_index_laws.specs.Classes.{Page}
use Rattle.gx_durable.specs.Spelled.{Reading}
use Rattle.gx_store.specs.Since.{IsSince}
use Rattle.gx_store.specs.Standing.{standing_node, store_of}
use Rattle.gx_store.specs.State.{Shelf, IsSteady}
use Rattle.gx_store.proofs.Going.{begins}
use Rattle.gx_store.proofs.Listed.{nodes_long}
use Rattle.gx_storage.specs.Changes.{IsUnlogged}
use Rattle.gx_storage.specs.State.{Volume}
use Rattle.gx_storage.proofs.Moving.{stays_same}

module _ {D : Type 0} (passes : ℕ → Contents → Bool) (state : D → Device) (v : Volume D) (t : Shelf D) where
  -- since an event began with that place and room, if this is since its pages are so
  pub since_begun : (u : Shelf D) (batch q : ℕ) (room : Bool) → u ≡ record v.shelf { batch = batch; has_room = room }
      → ((was : Shelf D) → IsSince passes (state was.disk) (state u.disk) was u q → IsSince passes (state was.disk) (state t.disk) was t q)
      → IsSince passes (state v.shelf.disk) (state t.disk) (record v.shelf { batch = batch; has_room = room }) t q
  since_begun u batch q room is keeps =
      let s : Shelf D = record v.shelf { batch = batch; has_room = room } in
      let from : (was : Shelf D) → IsSince passes (state was.disk) (state s.disk) was s q → IsSince passes (state was.disk) (state t.disk) was t q
      = subst {A = Shelf D} (λ x. ((was : Shelf D) → IsSince passes (state was.disk) (state x.disk) was x q → IsSince passes (state was.disk) (state t.disk) was t q)) is keeps in
      from s (begins passes (state v.shelf.disk) s q)

module _ {B D : Type 0} (known : Limits → Known (Entry B) (Page B)) (r : Reading (Entry B) (Page B)) (f : Format B) (passes : ℕ → Contents → Bool) (state : D → Device) (v : Volume D) (t : Shelf D) where
  -- whatever place and room the event was given
  pub begun_reads : (batch : ℕ) (room : Bool) → ((q : ℕ) → IsSince passes (state v.shelf.disk) (state t.disk) (record v.shelf { batch = batch; has_room = room }) t q)
      → Stays (IsSteady (state v.shelf.disk) v.shelf.frames) (store_of f (state v.shelf.disk).seen v.shelf) (store_of f (state t.disk).seen t)
      → IsUnlogged known r f passes (record v.shelf { batch = batch; has_room = room }) (state v.shelf.disk) (state t.disk) v (record { log = v.log; shelf = t; most = v.most; imaged = v.imaged })
  begun_reads batch room since stays = record {
    log = refl;
    keeps = λ l bodies s lawful keeps.
        stays_same (known l) r f passes (state v.shelf.disk) (state t.disk) v batch room t bodies s lawful keeps (since 0).goes_on v.most (λ q. (since q).same)
        (sym (nodes_long (standing_node f t.frames (state t.disk).seen) t.used) ∙ stays.used ∙ nodes_long (standing_node f v.shelf.frames (state v.shelf.disk).seen) v.shelf.used) stays.counter;
    since = since;
    most = refl;
    imaged = refl;
  }

  -- a step that begins no event
  pub only_reads : ((was : Shelf D) (q : ℕ) → IsSince passes (state was.disk) (state v.shelf.disk) was v.shelf q → IsSince passes (state was.disk) (state t.disk) was t q)
      → Stays (IsSteady (state v.shelf.disk) v.shelf.frames) (store_of f (state v.shelf.disk).seen v.shelf) (store_of f (state t.disk).seen t)
      → IsUnlogged known r f passes v.shelf (state v.shelf.disk) (state t.disk) v (record { log = v.log; shelf = t; most = v.most; imaged = v.imaged })
  only_reads since stays = begun_reads v.shelf.batch v.shelf.has_room (λ q. since v.shelf q (begins passes (state v.shelf.disk) v.shelf q)) stays
