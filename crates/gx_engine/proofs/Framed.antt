-- A change of pages leaves as many frames.
use Rattle.std.proofs.Common.{◌≡◌, ℕ, Bool, true, false, Result, Ok, Err, IfOk, IfErr, OnErr, List, length}
use Rattle.gx_machine.specs.declared.entry.Entry.{Entry}
use Rattle.gx_disk.specs.Device.{Device}
use Rattle.gx_page.specs.Contents.{Contents}
use Rattle.gx_node.specs.Reading.{Format}
use Rattle.gx_tree.specs.declared.descent.Descended.{Descended}
use Rattle.gx_tree.specs.declared.seek.Sought.{Sought}
use Rattle.gx_tree.specs.declared.seek.Sought.TheVariants.{Here, Right}
use Rattle.gx_record.specs.Rec.{Rec}
use Rattle.gx_recovery.specs.Known.{Known, Limits}
use Rattle.gx_index_laws.specs.Classes.{Page}
use Rattle.gx_durable.specs.Spelled.{Reading}
use Rattle.gx_storage.specs.Changes.{DescentIsLogged, IsLoggedIf, IsUnlogged, MarkIsLogged, begun}
use Rattle.gx_storage.specs.Imaged.{is_imaged}
use Rattle.gx_storage.specs.Small.{mark_room}
use Rattle.gx_storage.specs.State.{Volume}
use Rattle.gx_storage.proofs.SmallWidens.{by_widened}
use Rattle.gx_storage.specs.Sweeping.{SweepIsLogged, SweepIsRefused}
use Rattle.gx_store.specs.declared.fault.StoreFault.{StoreFault}
use Rattle.gx_node.specs.declared.fault.StepFault.{StepFault}

module _ {B D : Type 0} (known : Limits → Known (Entry B) (Page B)) (r : Reading (Entry B) (Page B)) (f : Format B) (passes : ℕ → Contents → Bool) (d e : Device) (v w : Volume D) where
  abbrev Same : Type 0
  Same = length w.shelf.frames.marks ≡ length v.shelf.frames.marks

  logged_if : (size : ℕ) (x : Rec) (any : Bool) → IsLoggedIf known r f passes size d e v w x any → Same
  logged_if size x true is = is.goes_on.frames
  logged_if size x false is = (is.since 0).goes_on.frames

  -- one that may change nothing, or is refused
  pub changed_frames : {T E : Type 0} (size : ℕ) (x : Rec) (any : T → Bool) (result : Result T E) → IfOk result (λ did. IsLoggedIf known r f passes size d e v w x (any did))
      → OnErr result (IsUnlogged known r f passes (begun v size) d e v w) → Same
  changed_frames size x any (Ok did) logged unlogged = logged_if size x (any did) logged
  changed_frames size x any (Err fault) logged unlogged = (unlogged.since 0).goes_on.frames

  -- a step of a descent
  pub stepped_frames : {E : Type 0} (spelling : B → List ℕ) (key page size : ℕ) (result : Result (Descended B) E)
      → IfOk result (DescentIsLogged known r f passes spelling key page d e v w) → OnErr result (IsUnlogged known r f passes (begun v size) d e v w) → Same
  stepped_frames spelling key page size (Ok did) logged unlogged = by_widened _ _ Same (λ slot bound is. is.goes_on.frames) (λ is. (is.since 0).goes_on.frames) did logged
  stepped_frames spelling key page size (Err fault) logged unlogged = (unlogged.since 0).goes_on.frames

  -- the sweep of a leaf
  pub swept_frames : (IsTest : (Entry B → Bool) → Type 0) (page : ℕ) (result : Result Bool (StepFault StoreFault)) → IfOk result (SweepIsLogged known r f passes IsTest d e v w page)
      → IfErr result (SweepIsRefused known r f passes IsTest d e v w page) → Same
  swept_frames IsTest page (Ok any) logged refused = logged_if _ _ any logged.logged
  swept_frames IsTest page (Err fault) logged refused = (refused.unlogged.since 0).goes_on.frames

  mark_by : (spelling : B → List ℕ) (key transaction : ℕ) (entry : Entry B) (page : ℕ) (marked : Bool) (sought : Sought)
      → MarkIsLogged known r f passes spelling key transaction entry page marked d e v w sought → Same
  mark_by spelling key transaction entry page marked (Here slot before) is = is.goes_on.frames
  mark_by spelling key transaction entry page marked (Right next) is = (is.since 0).goes_on.frames

  -- a mark
  pub marked_frames : {E : Type 0} (spelling : B → List ℕ) (key transaction : ℕ) (entry : Entry B) (page : ℕ) (marked : Bool) (result : Result Sought E)
      → IfOk result (MarkIsLogged known r f passes spelling key transaction entry page marked d e v w) → OnErr result (IsUnlogged known r f passes (begun v (mark_room (is_imaged v.imaged page) key)) d e v w) → Same
  marked_frames spelling key transaction entry page marked (Ok sought) logged unlogged = mark_by spelling key transaction entry page marked sought logged
  marked_frames spelling key transaction entry page marked (Err fault) logged unlogged = (unlogged.since 0).goes_on.frames
