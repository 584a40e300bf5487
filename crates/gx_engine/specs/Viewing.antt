-- How an engine lends a page that it brings first.
use Rattle.std.specs.Prelude.{ℕ, ⊤, Bool, List, Result, Ok, Err, IfOk}
use Rattle.std.specs.Borrow.{Bor, Fml, MutBor, RattleType, follows_so}
use mathlib.Core.Option.{none}
use Rattle.gx_machine.specs.Keys.{Members}
use Rattle.gx_class.specs.Traits.{Traits, own, traits_of}
use Rattle.gx_class.specs.declared.class.KeyClass.{Ghosts}
use Rattle.gx_disk.specs.Device.{Device}
use Rattle.gx_disk.specs.declared.device.SectorDisk as disks
use Rattle.gx_page.specs.Contents.{Contents}
use Rattle.gx_storage.specs.Setting.{StaysAs}
use Rattle.gx_events.specs.declared.outcome.Outcome.{Outcome}
use Rattle.gx_events.specs.declared.outcome.Outcome.TheVariants.{Help, Refused}
use Rattle.gx_engine.specs.declared.pages.NotLent.{NotLent}
use Rattle.gx_engine.specs.declared.pages.NotLent.TheVariants as not_lent
use Rattle.gx_engine.specs.contracts.engine.Engine as engine
use Rattle.gx_engine.specs.Setting.{BringPageComesAs, IsLent, LeadsAs}
use Rattle.gx_engine.specs.States.{IsOrderly, Parts}
use Rattle.gx_engine.specs.Sweeping.{bring_events}

-- the outcome of bringing the page
abbrev pub brought_as : {B : Type 0} → Result (Bor Contents) NotLent → Result (Unit {0}) (Outcome B)
brought_as (Ok page) = Ok tt
brought_as (Err (not_lent.Help named)) = Err (Help named)
brought_as (Err (not_lent.Refused why)) = Err (Refused why)

-- a page was brought, with this result, and is lent with its present contents
pub record Views {B D : Type 0} (shape : Members B) (traits : Traits B) (state : D → Device) (page : ℕ) (old new : Parts B D)
    (result : Result (Bor Contents) NotLent) : Type 0 where
  pub comes : BringPageComesAs (own traits) state old new old.sessions.failed (brought_as result)
  pub stays : StaysAs (own traits) state old.volume.shelf new.volume.shelf
  pub leads : LeadsAs shape traits state old new (bring_events (brought_as result))
  pub order : IsOrderly old × IsOrderly new
  pub lent : IfOk result (λ r. IsLent (own traits) state page new r.now)

module _ (D C B : RattleType) (disk : disks.Ghosts D.Denot) (class : Ghosts C.Denot B.Denot) (said : List ℕ → B.Denot) (proper : B.Denot → Bool) (shape : Members B.Denot)
    (e : MutBor (Parts B.Denot D.Denot)) (page : ℕ) where
  -- the engine's own row
  abbrev row : RattleType
  row = engine.the_row D C B disk (record { said = said; is_proper = proper }) class (record { overlap = shape.overlap; inside = shape.inside }) (record { cmp = shape.cmp }) (record { eq = shape.eq })
      (record { partial_cmp = shape.partial_cmp })

  -- what the engine ends as once the page isn't read any more
  abbrev pub lends_page : Result (Bor Contents) NotLent → Fml
  lends_page r = follows_so row row e.ghost_name none (λ _ _. ⊤) (λ n. Views shape (traits_of proper said class) disk.state page e.now n r)
