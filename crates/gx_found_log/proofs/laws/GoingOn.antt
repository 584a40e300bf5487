-- A log that was read and redone goes on from where it ends.
use Rattle.std.proofs.Common.{◌≡◌, ◌∙◌, sym, ap, refl, subst, ℕ, List, Ok}
use Rattle.std.proofs.Math.Path.{fun_ext}
use Rattle.gx_geom.specs.declared.refusal.Refusal.{Refusal}
use Rattle.gx_disk.specs.Device.{Device}
use Rattle.gx_disk.specs.Looks.{Looks}
use Rattle.gx_glog.specs.declared.extent.Extent.{Extent}
use Rattle.gx_glog.specs.Cuts.{bodies_in, open_bodies}
use Rattle.gx_glog.specs.Later.{ClosesLaterOfRun}
use Rattle.gx_glog.specs.Layout.{selected_of}
use Rattle.gx_glog.specs.State.{Log}
use Rattle.gx_recovery.specs.Known.{Known}
use Rattle.gx_recovery.specs.Records.{Record}
use Rattle.gx_recovery.specs.Damage.{records_of}
use Rattle.gx_recovery.specs.Life.{AllWritten}
use Rattle.gx_recovery.specs.Renewal.{found}
use Rattle.gx_durable.specs.Spelled.{Reading}
use Rattle.gx_durable.specs.Bodies.{AreBodies}
use Rattle.gx_durable.specs.Area.{area_of, HasPages}
use Rattle.gx_durable.specs.Fitting.{AreGood}
use Rattle.gx_durable.specs.Head.{head_in}
use Rattle.gx_durable.specs.GoingOn.{opened, found_state, IsFoundGood, IsClosedFound}
use Rattle.gx_durable.proofs.GoingOn.{closing_keeps}
use Rattle.gx_found_log.specs.declared.found.FoundLog.{FoundLog}
use Rattle.gx_found_log.specs.Found.{IsFound}
use Rattle.gx_found_log.specs.Redone.{IsRedone}
use Rattle.gx_found_log.specs.GoingOn.{RedoneGoesOn}

-- an image's open bodies, as they were read
bodies_read : (seen : List ℕ) → open_bodies seen ≡ bodies_in seen (selected_of seen) (opened seen)
unfolding open_bodies
bodies_read seen = refl

module _ {E P : Type 0} (k : Known E P) (r : Reading E P) (d e b f : Device) (log : FoundLog E) (is : IsFound k r d.seen log) where
  abbrev bodies : List (List (Record E P))
  bodies = is.log.bodies

  -- the log that was read is on the device that its pages were laid on, and was only read since
  stands_there : head_in d.seen ≡ k.head → IsRedone k r d e bodies → Looks e b → HasPages k.pages b.sectors → AreGood k r (area_of r k.pages b.seen) (records_of bodies)
      → IsFoundGood k r b.sectors b.seen b.pending bodies
  stands_there says redone looks pages good =
      let B : List (List ℕ) → Type 0 = λ x. AreBodies r x bodies in
      let F : List ℕ → Type 0 = λ seen. IsFoundGood k r b.sectors seen b.pending bodies in
      let G : List ℕ → Type 0 = λ seen. AreGood k r (area_of r k.pages seen) (records_of bodies) in
      let good_there : G e.seen = subst G looks.rests.seen good in
      let up = redone.turn says good_there in
      subst F (sym looks.rests.seen) (record {
        settled = λ s. looks.pending s ∙ redone.settled s;
        head = redone.same.head ∙ says;
        size = up.may_turn.run.size;
        pages = pages;
        sizes = up.may_turn.run.sizes;
        told = subst B (sym (redone.same.bodies ∙ bodies_read d.seen)) is.log.told;
        undamaged = is.log.undamaged;
        good = good_there;
      })

  extent_there : IsRedone k r d e bodies → Looks e b → log.extent ≡ selected_of b.seen
  extent_there redone looks = is.extent ∙ sym (ap (λ (g : Log). g.extent) redone.glog) ∙ sym (ap selected_of looks.rests.seen)

  places_there : IsRedone k r d e bodies → Looks e b → log.bodies ≡ opened b.seen
  places_there redone looks = is.bodies ∙ sym (ap (λ (g : Log). g.gated) redone.glog) ∙ sym (ap opened looks.rests.seen)

  -- each page is written there
  written_there : IsRedone k r d e bodies → Looks e b → IsClosedFound k r b f bodies → AllWritten (found_state k r f.seen bodies)
  written_there redone looks closed =
      let W : (ℕ → P) → Type 0 = λ area. AllWritten (found area (records_of bodies)) in
      let same : (p : ℕ) → area_of r k.pages f.seen p ≡ area_of r k.pages e.seen p = λ p. closed.area p ∙ ap (λ (seen : List ℕ). area_of r k.pages seen p) looks.rests.seen in
      subst W (sym (fun_ext same)) redone.written

module _ {E P : Type 0} (k : Known E P) (r : Reading E P) where
  pub redone_goes_on : (d e b f : Device) → RedoneGoesOn k r d e b f
  redone_goes_on d e b f lawful honest settled says pages same_e same_b same_f log is redoes looks good closes =
      let redone = (redoes lawful honest settled is).redone.done in
      let S : ℕ → Type 0 = λ n. HasPages k.pages n in
      let X : Extent → Type 0 = λ extent. ClosesLaterOfRun {T = Unit {0}} {E = Refusal} extent log.bodies b f (Ok tt) in
      let N : ℕ → Type 0 = λ n. ClosesLaterOfRun {T = Unit {0}} {E = Refusal} (selected_of b.seen) n b f (Ok tt) in
      let extent = extent_there k r d e b f log is redone looks in
      let places = places_there k r d e b f log is redone looks in
      let there = stands_there k r d e b f log is says redone looks (subst S (sym (same_b.sectors ∙ same_e.sectors)) pages) good in
      let after = closing_keeps k r b f lawful (same_b.honest ∙ same_e.honest ∙ honest) same_f.sectors is.log.bodies (Ok tt) there (subst N places (subst X extent closes)) in
      let closed = after.done in
      record {
        found = closed.found;
        closed = closed.closed;
        written = written_there k r d e b f log is redone looks closed;
        extent = extent ∙ sym (ap (λ (g : Log). g.extent) closed.glog);
        places = places ∙ sym (ap (λ (g : Log). g.gated) closed.glog);
        kept = is.kept;
      }
