-- What a store that has gone on leaves of the state that its volume keeps.
use Rattle.std.proofs.Common.{◌≡◌, ◌∙◌, sym, ap, refl, subst, inl, inr, ⊎_elim, ℕ, ◌≤◌, Bool, false, List, Option, None, Some, IsSome, arith}
use Rattle.gx_machine.specs.declared.entry.Entry.{Entry}
use Rattle.gx_disk.specs.Device.{Device}
use Rattle.gx_page.specs.Contents.{Contents}
use Rattle.gx_page.specs.Format.{IsWellFormed}
use Rattle.gx_pool.specs.Area.{bytes_of}
use Rattle.gx_pool.specs.Edits.{later}
use Rattle.gx_pool.specs.Laws.{IsBacked}
use Rattle.gx_pool.specs.State.{Kept, kept, stamp_of}
use Rattle.gx_pool.proofs.Places.{some-injective}
use Rattle.gx_node.specs.Reading.{Format}
use Rattle.gx_recovery.specs.Known.{Known, IsLawful}
use Rattle.gx_recovery.specs.Records.{Record}
use Rattle.gx_recovery.specs.Logged.{Logged}
use Rattle.gx_index_laws.specs.Classes.{Page}
use Rattle.gx_durable.specs.Calls.{GoesSafely}
use Rattle.gx_durable.specs.Spelled.{Reading}
use Rattle.gx_durable.specs.Stamps.{NoneLater, OnlyLater, SaidBut, Stamped}
use Rattle.gx_durable.specs.Standing.{Up}
use Rattle.gx_durable.specs.Stored.{bytes_by, stored}
use Rattle.gx_durable.proofs.Reading.{later_stamps, reads_up}
use Rattle.gx_durable.proofs.Stamping.{fewer_placed, none_later}
use Rattle.gx_durable.proofs.Storing.{clean_bytes, stored_same}
use Rattle.gx_store.specs.Faults.{CanBeRead}
use Rattle.gx_store.specs.Since.{GoesOn, IsAsItWas, IsStamped}
use Rattle.gx_store.specs.State.{Shelf, IsSteady}
use Rattle.gx_storage.specs.Keeps.{Keeps, StaysSame}
use Rattle.gx_storage.specs.State.{Volume}

later_least : (batch : ℕ) (was : Option ℕ) → batch ≤ later batch was
later_least batch None = omega arith
later_least batch (Some stamp) = omega arith

later_most : (batch last : ℕ) (was : Option ℕ) → batch ≤ last → ((stamp : ℕ) → was ≡ Some stamp → stamp ≤ last) → later batch was ≤ last
later_most batch last None new old = new
later_most batch last (Some stamp) new old = omega (arith, new, old stamp refl)

module _ {B D : Type 0} (k : Known (Entry B) (Page B)) (r : Reading (Entry B) (Page B)) (f : Format B) (passes : ℕ → Contents → Bool)
    (d e : Device) (v : Volume D) (batch : ℕ) (room : Bool) (t : Shelf D) (bodies : List (List (Record (Entry B) (Page B)))) (s : Logged (Entry B) (Page B))
    (l : IsLawful k) (keeps : Keeps k r f passes d v bodies s) (on : GoesOn passes d e (record v.shelf { batch = batch; has_room = room }) t) where
  pub now_seen : e.seen ≡ d.seen
  now_seen = (on.device.rests keeps.steady.honest).seen

  pub now_steady : IsSteady e t.frames
  now_steady = on.steady keeps.steady

  pub now_readable : CanBeRead passes e t
  now_readable = on.readable keeps.steady keeps.readable

  pub now_up : Up k r v.log e.sectors e.seen e.pending bodies s × GoesSafely k r d e s s
  now_up = reads_up k r d e on.device v.log bodies s l keeps.steady.honest keeps.runs.up

  -- what is dirty was so, or was changed as of the batch that fills
  pub only_later : v.log.used ≤ batch → OnlyLater v.log.used v.shelf.frames t.frames
  only_later least p stamp is = ⊎_elim
      (λ (same : IsAsItWas d e v.shelf.frames t.frames p). inl (sym same.stamp ∙ is))
      (λ (changed : IsStamped batch v.shelf.frames t.frames p).
      (let now = some-injective (later batch (stamp_of (kept v.shelf.frames p))) stamp (sym changed ∙ is) in
      inr (omega (arith, now, least, later_least batch (stamp_of (kept v.shelf.frames p))))))
      (on.each p)

  -- and nothing was changed for a later one
  pub now_none_later : batch ≤ v.log.used → NoneLater v.log.used t.frames
  now_none_later most p stamp is =
      let before : (n : ℕ) → stamp_of (kept v.shelf.frames p) ≡ Some n → n ≤ v.log.used = λ n was. none_later v.log v.shelf.frames keeps.placed p n was in
      ⊎_elim (λ (same : IsAsItWas d e v.shelf.frames t.frames p). before stamp (sym same.stamp ∙ is))
      (λ (changed : IsStamped batch v.shelf.frames t.frames p).
      (let now = some-injective (later batch (stamp_of (kept v.shelf.frames p))) stamp (sym changed ∙ is) in
      omega (arith, now, later_most batch v.log.used (stamp_of (kept v.shelf.frames p)) most before)))
      (on.each p)

  pub now_stamped : OnlyLater v.log.used v.shelf.frames t.frames → Stamped v.log t.frames s
  now_stamped only = later_stamps v.log v.shelf.frames t.frames s on.gated only keeps.runs.stamped

  pub now_said : (named : ℕ → Bool) → ((q : ℕ) → named q ≡ false → IsAsItWas d e v.shelf.frames t.frames q) → SaidBut named t.frames s
  now_said named same p place is other = keeps.said p place (sym (same p other).stamp ∙ is)

  formed_by : (p : ℕ) (o : Option ℕ) (j : Kept) → kept t.frames p ≡ Some j → j.stamp ≡ o → IsAsItWas d e v.shelf.frames t.frames p → IsWellFormed j.page
  formed_by p None j is clean same =
      let has = now_steady.backed p j is clean in
      subst {A = Contents} IsWellFormed has.read has.image.well_formed
  formed_by p (Some stamp) j is dirty same =
      let was : stamp_of (kept v.shelf.frames p) ≡ Some stamp = sym same.stamp ∙ (ap stamp_of is ∙ dirty) in
      let some : IsSome (stamp_of (kept v.shelf.frames p)) = rw was refl in
      keeps.formed p j (sym (same.dirty some) ∙ is)

  -- a page that is unchanged has an image
  pub now_formed : (p : ℕ) (j : Kept) → kept t.frames p ≡ Some j → IsAsItWas d e v.shelf.frames t.frames p → IsWellFormed j.page
  now_formed p j is same = formed_by p j.stamp j is refl same

  backed_now : IsBacked v.shelf.frames e.seen
  backed_now = subst {A = List ℕ} (λ seen. IsBacked v.shelf.frames seen) (sym now_seen) keeps.steady.backed

  bytes_still : (p : ℕ) (o : Option ℕ) → stamp_of (kept v.shelf.frames p) ≡ o → IsAsItWas d e v.shelf.frames t.frames p
      → bytes_by (kept t.frames p) (bytes_of e.seen p) ≡ bytes_by (kept v.shelf.frames p) (bytes_of e.seen p)
  bytes_still p None was same =
      clean_bytes t.frames e.seen p (kept t.frames p) refl (same.stamp ∙ was) now_steady.backed
      ∙ sym (clean_bytes v.shelf.frames e.seen p (kept v.shelf.frames p) refl was backed_now)
  bytes_still p (Some stamp) was same =
      let some : IsSome (stamp_of (kept v.shelf.frames p)) = rw was refl in
      ap (λ (o : Option Kept). bytes_by o (bytes_of e.seen p)) (same.dirty some)

  -- and is stored unchanged
  pub now_stored : (p : ℕ) → IsAsItWas d e v.shelf.frames t.frames p → stored r k.pages t.frames e.seen p ≡ stored r k.pages v.shelf.frames d.seen p
  now_stored p same =
      stored_same r k.pages v.shelf.frames t.frames e.seen p (bytes_still p (stamp_of (kept v.shelf.frames p)) refl same)
      ∙ ap (λ (seen : List ℕ). stored r k.pages v.shelf.frames seen p) now_seen

  -- if each page is, and nothing was taken or counted, the volume keeps the same state
  pub stays_same : (most : ℕ) → ((q : ℕ) → IsAsItWas d e v.shelf.frames t.frames q) → t.used ≡ v.shelf.used → t.counter ≡ v.shelf.counter
      → StaysSame k r f passes d e (record { log = v.log; shelf = t; most = most; imaged = v.imaged }) bodies s
  stays_same most same used counter = record {
    keeps = record {
      runs = record { up = now_up.0; stamped = now_stamped (λ p stamp is. inl (sym (same p).stamp ∙ is)) };
      said = λ p place is. keeps.said p place (sym (same p).stamp ∙ is);
      placed = fewer_placed v.log v.shelf.frames t.frames (λ p place is. sym (same p).stamp ∙ is) keeps.placed;
      steady = now_steady;
      readable = now_readable;
      stored = λ p. now_stored p (same p) ∙ keeps.stored p;
      used = keeps.used ∙ sym used;
      counter = keeps.counter ∙ sym counter;
      pages = keeps.pages ∙ sym on.pages;
      formed = λ p j is. now_formed p j is (same p);
      imaged = keeps.imaged;
    };
    leaves = now_up.1.leaves;
  }
