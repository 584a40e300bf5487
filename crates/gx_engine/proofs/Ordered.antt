-- What an engine keeps on any device stays so if pages were brought, nothing was logged and no commit got on.
use Rattle.std.proofs.Common.{◌≡◌, ◌≤◌, ◌∙◌, ap, subst, sym, ℕ, List, length}
use Rattle.gx_glog.specs.State.{Log}
use Rattle.gx_phases.specs.States.{State}
use Rattle.gx_storage.specs.State.{Volume}
use Rattle.gx_engine.specs.declared.checkpoint.Checkpoint.{Checkpoint}
use Rattle.gx_engine.specs.declared.checkpoint.Checkpoint.TheVariants.{Off, Running, Turning}
use Rattle.gx_engine.specs.declared.work.Work.{Work}
use Rattle.gx_engine.specs.Refusals.{StampsStay}
use Rattle.gx_engine.specs.States.{IsInOrder, Parts, StandsIn}

stands_on : {D : Type 0} (at : Checkpoint) (v w : Volume D) → w.log ≡ v.log → StampsStay v.shelf w.shelf → StandsIn at v → StandsIn at w
stands_on Off v w log stamps h = ap (λ (l : Log). l.turn) log ∙ h
stands_on Running v w log stamps h = ap (λ (l : Log). l.turn) log ∙ h
stands_on Turning v w log stamps h = record {
  idle = ap (λ (l : Log). l.stage) log ∙ h.idle;
  quiet = ap (λ (l : Log). l.filling) log ∙ h.quiet;
  head = subst (λ (l : Log). 1 ≤ length l.flight) (sym log) h.head;
  clean = λ page. stamps page ∙ h.clean page;
}

pub order_read : {B D : Type 0} (e : Parts B D) (keys : List B) → IsInOrder e keys → (w : Volume D) → w.log ≡ e.volume.log → w.most ≡ e.volume.most → StampsStay e.volume.shelf w.shelf
    → length w.shelf.frames.marks ≡ length e.volume.shelf.frames.marks
    → (sessions : State B (Work B)) → sessions.durable ≡ e.sessions.durable → sessions.latest ≡ e.sessions.latest → IsInOrder (record e { volume = w; sessions = sessions }) keys
order_read e keys h w log most stamps frames sessions durable latest = record {
  stands = stands_on e.checkpoint e.volume w log stamps h.stands;
  durable = subst (λ (n : ℕ). n ≤ e.in_flight) (sym durable) h.durable;
  sealed = subst (λ (n : ℕ). e.in_flight ≤ n) (sym latest) h.sealed;
  some = subst (λ (n : ℕ). 4 ≤ n) (sym most) h.some;
  space = h.space;
  frames = subst (λ (n : ℕ). 16 ≤ n) (sym frames) h.frames;
}

-- the same if the volume alone has changed
pub order_changed : {B D : Type 0} (e : Parts B D) (keys : List B) → IsInOrder e keys → (w : Volume D) → StandsIn e.checkpoint w → 4 ≤ w.most
    → length w.shelf.frames.marks ≡ length e.volume.shelf.frames.marks → IsInOrder (record e { volume = w }) keys
order_changed e keys h w stands some frames = record {
  stands = stands;
  durable = h.durable;
  sealed = h.sealed;
  some = some;
  space = h.space;
  frames = subst (λ (n : ℕ). 16 ≤ n) (sym frames) h.frames;
}
