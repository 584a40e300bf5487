-- A stage whose queue was drained has no call in its queue; those that it had, in their order, were drained.
use Rattle.std.proofs.Common.{◌≡◌, ℕ, true, false, List, [], ◌∷◌, ◌++◌, drop, Option, None, Some, is_some, refl, ap, sym, subst, ◌∙◌, append-nil, arith}
use Rattle.gx_class.specs.Traits.{Traits}
use Rattle.gx_disk.specs.Device as disk
use Rattle.gx_geom.specs.Rectangles.{Rectangle}
use Rattle.gx_geom.specs.Solids.{Solid}
use Rattle.gx_machine.specs.Keys.{Members}
use Rattle.gx_queue_disk.specs.Calls.{Call, Write, Sync}
use Rattle.gx_queue_disk.specs.Fronts.{IsFront, lent}
use Rattle.gx_queue_disk.specs.declared.disk.QueueDisk.{QueueDisk}
use Rattle.gx_queue_disk.specs.declared.queue.DeviceCall.{DeviceCall}
use Rattle.gx_queue_disk.specs.declared.queue.DeviceCall.TheVariants as device
use Rattle.gx_c.specs.Waiting.{DrainsBy, DrainsStage, Puts, Tells, queued_in}
use Rattle.gx_c.specs.declared.drain.SentCall.{SentCall}
use Rattle.gx_c.specs.declared.held.Stage.{Stage}
use Rattle.gx_c.specs.declared.held.Stage.TheVariants.{Empty, Bytes, Device, Plane, Space}

module _ (box : Members Rectangle) (boxes : Traits Rectangle) (solid : Members Solid) (solids : Traits Solid)
    (state : QueueDisk → disk.Device) where
  by_none : (old new : Stage) (calls : List Call) → DrainsBy box boxes solid solids state old new calls → queued_in new ≡ []
  by_none Empty new calls d = ap queued_in d.0
  by_none (Bytes bytes) new calls d = ap queued_in d.0
  by_none (Device old) (Device new) calls d = d.none
  by_none (Device old) new calls d = absurd d
  by_none (Plane old) (Plane new) calls d = d.drains.none
  by_none (Plane old) new calls d = absurd d
  by_none (Space old) (Space new) calls d = d.drains.none
  by_none (Space old) new calls d = absurd d

  by_taken : (old new : Stage) (calls : List Call) → DrainsBy box boxes solid solids state old new calls → calls ≡ queued_in old
  by_taken Empty new calls d = d.1
  by_taken (Bytes bytes) new calls d = d.1
  by_taken (Device old) (Device new) calls d = d.taken
  by_taken (Device old) new calls d = absurd d
  by_taken (Plane old) (Plane new) calls d = d.drains.taken
  by_taken (Plane old) new calls d = absurd d
  by_taken (Space old) (Space new) calls d = d.drains.taken
  by_taken (Space old) new calls d = absurd d

  pub drained_none : (old new : Stage) (calls : List Call) → DrainsStage box boxes solid solids state old new calls → queued_in new ≡ []
  drained_none old new calls d = by_none old new calls d.drains

  -- what waits is the same
  pub drained_waits : (old new : Stage) (calls : List Call) → DrainsStage box boxes solid solids state old new calls → calls ++ queued_in new ≡ queued_in old
  drained_waits old new calls d = ap (λ queue. calls ++ queue) (by_none old new calls d.drains) ∙ (append-nil calls ∙ by_taken old new calls d.drains)

not_told : (status : ℕ) → status ≡ 18 → status ≡ 0 → ⊥
not_told status told none = omega arith

not_empty : (call : Call) (rest : List Call) → call ∷ rest ≡ [] → ⊥
not_empty call rest none = cc

-- Of calls and those after them C gets the first, if there are none after no calls.
pub tells_all : (calls left behind : List Call) (call : SentCall) (had bytes : List ℕ) (status : ℕ) → (calls ≡ [] → behind ≡ []) → Tells calls left call had bytes status
    → Tells (calls ++ behind) (left ++ behind) call had bytes status
tells_all [] left behind call had bytes status none told =
    subst (λ (queue : List Call). Tells queue (left ++ queue) call had bytes status) (sym (none refl)) (told.0, told.1, told.2, told.3, told.4, append-nil left ∙ told.5)
tells_all (Sync ∷ rest) left behind call had bytes status none told =
    (told.0, told.1, told.2, told.3, told.4, ap (λ calls. calls ++ behind) told.5)
tells_all (Write first written ∷ rest) left behind call had bytes status none told = (
  told.0,
  told.1,
  told.2,
  (λ fits. ((told.3 fits).0, (told.3 fits).1, ap (λ calls. calls ++ behind) (told.3 fits).2)),
  (λ small. ((told.4 small).0, (told.4 small).1, ap (λ calls. calls ++ behind) (told.4 small).2)),
)

-- The call in front was put where C has room for it, and taken away if its bytes fit: C gets it.
pub tells_put : (calls left : List Call) (front : Option DeviceCall) (call : SentCall) (had bytes : List ℕ) (status : ℕ) → IsFront calls front → Puts front call had bytes status
    → (status ≡ 0 → left ≡ drop 1 calls) → ((status ≡ 0 → ⊥) → left ≡ calls) → Tells calls left call had bytes status
tells_put calls left None call had bytes status front put popped kept =
    subst (λ (calls : List Call). Tells calls left call had bytes status) (sym front) (put.0, put.1, put.2, put.3, put.4, popped put.0 ∙ ap (drop 1) front)
tells_put calls left (Some device.Sync) call had bytes status front put popped kept =
    subst (λ (calls : List Call). Tells calls left call had bytes status) (sym front.1) (put.0, put.1, put.2, put.3, put.4, popped put.0 ∙ ap (drop 1) front.1)
tells_put calls left (Some (device.Write first written)) call had bytes status front put popped kept =
    subst (λ (calls : List Call). Tells calls left call had bytes status) (sym front.1) (
      put.0,
      put.1,
      put.2,
      (λ fits. ((put.3 fits).0, (put.3 fits).1, popped (put.3 fits).0 ∙ ap (drop 1) front.1)),
      (λ small. ((put.4 small).0, (put.4 small).1, kept (λ none. not_told status (put.4 small).0 none) ∙ front.1)),
    )

-- whether there is a call in front
pub front_some : (calls : List Call) (front : Option DeviceCall) → IsFront calls front → is_some front ≡ true → calls ≡ [] → ⊥
front_some calls None front some none = cc
front_some calls (Some call) front some none = not_empty (lent call) front.0 (sym front.1 ∙ none)

pub front_none : (calls : List Call) (front : Option DeviceCall) → IsFront calls front → is_some front ≡ false → calls ≡ []
front_none calls None front none = front
front_none calls (Some call) front none = cc
