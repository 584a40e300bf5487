-- A store whose device has given the calls in its queue shows each page as before.
use Rattle.std.proofs.Common.{◌≡◌, ◌∙◌, refl, sym, ap, subst, inl, ℕ, List, Bool, true, arith}
use Rattle.gx_disk.specs.Device.{Device}
use Rattle.gx_page.specs.Contents.{Contents}
use Rattle.gx_node.specs.Reading.{Format}
use Rattle.gx_node.specs.Store.{Stays}
use Rattle.gx_pool.specs.Bringing.{OnlyRead}
use Rattle.gx_pool.specs.Laws.{IsBacked}
use Rattle.gx_pool.specs.Readable.{IsReadable}
use Rattle.gx_pool.specs.State.{State}
use Rattle.gx_queue_disk.specs.Drains.{IsSame}
use Rattle.gx_store.specs.Faults.{CanBeRead, is_taken}
use Rattle.gx_store.specs.Since.{IsAsItWas, IsSince}
use Rattle.gx_store.specs.Standing.{standing, store_of}
use Rattle.gx_store.specs.State.{Shelf, IsSteady}
use Rattle.gx_store.proofs.Listed.{nodes_long}

module _ (d e : Device) (same : IsSame d e) where
  pub only_read : OnlyRead d e
  only_read = record { sectors = same.sectors; honest = same.honest; calls = same.calls; rests = same.rests; pending = same.pending; time = same.time }

  seen_same : d.honest ≡ true → e.seen ≡ d.seen
  seen_same honest = (same.rests honest).seen

  still_steady : (s : State) → IsSteady d s → IsSteady e s
  still_steady s steady = record {
    honest = same.honest ∙ steady.honest;
    backed = subst {A = List ℕ} (λ seen. IsBacked s seen) (sym (seen_same steady.honest)) steady.backed;
  }

  still_there : (s : State) (page : ℕ) → IsAsItWas d e s s page
  still_there s page = record { stamp = refl; dirty = λ is. refl; stands = λ steady. ap (λ seen. standing s seen page) (seen_same steady.honest) }

  module _ {D : Type 0} (passes : ℕ → Contents → Bool) (s : Shelf D) (disk : D) where
    still_read : IsSteady d s.frames → CanBeRead passes d s → CanBeRead passes e (record s { disk = disk })
    still_read steady readable =
        subst {A = List ℕ} (λ seen. IsReadable (passes s.pages) (is_taken s.used) s.frames seen) (sym (seen_same steady.honest)) readable

    pub drained_since : (page : ℕ) → IsSince passes d e s (record s { disk = disk }) page
    drained_since page = record {
      goes_on = record {
        device = only_read;
        faults = omega (arith, same.faults);
        used = omega arith;
        counter = omega arith;
        pages = refl;
        batch = refl;
        has_room = refl;
        gated = refl;
        frames = refl;
        each = λ page. inl (still_there s.frames page);
        steady = still_steady s.frames;
        readable = still_read;
      };
      same = still_there s.frames page;
    }

  pub drained_stays : {B D : Type 0} (f : Format B) (s : Shelf D) (disk : D) → Stays (IsSteady d s.frames) (store_of f d.seen s) (store_of f e.seen (record s { disk = disk }))
  drained_stays f s disk = record {
    nodes = λ steady. ap (λ seen. (store_of f seen s).nodes) (seen_same steady.honest);
    used = nodes_long _ s.used ∙ sym (nodes_long _ s.used);
    counter = refl;
    room = refl;
  }
