-- A page's write keeps the log up and the pool's stamps.
use Rattle.std.proofs.Common.{◌≡◌, ◌∙◌, sym, ap, refl, subst, inl, inr, ℕ, ◌≤◌, Bool, true, List, ◌++◌, Option, None, Some, arith}
use Rattle.std.proofs.lemmas.Bool.{leb-true}
use Rattle.gx_disk.specs.declared.layout.TheConstants.{PAGE_SECTORS}
use Rattle.gx_disk.specs.Device.{Device, Elapses, Touches}
use Rattle.gx_glog.specs.declared.extent.TheConstants.{PLACES}
use Rattle.gx_glog.specs.State.{Log, turning}
use Rattle.gx_glog.specs.Standing.{LeavesLog}
use Rattle.gx_glog.proofs.Besides.{page_is_apart}
use Rattle.gx_glog.proofs.Gates.{placed}
use Rattle.gx_glog.proofs.Keeping.{on_kept, touched_leaves, body_kept}
use Rattle.gx_glog.specs.Cuts.{bodies_in}
use Rattle.gx_pool.specs.Area.{first_of, IsPage}
use Rattle.gx_pool.specs.Gated.{AgreesOutside, IsAreaSettled, KeepsArea, NamesGated}
use Rattle.gx_pool.specs.Marks.{is_gated}
use Rattle.gx_pool.specs.State.{State, kept, stamp_of}
use Rattle.gx_pool.specs.Writing.{contents_of}
use Rattle.gx_recovery.specs.Known.{Known, IsLawful}
use Rattle.gx_recovery.specs.Records.{Record}
use Rattle.gx_recovery.specs.Logged.{Logged, AgreesBeside}
use Rattle.gx_recovery.proofs.Lives.{written_healthy, written_stays}
use Rattle.gx_recovery.proofs.States.{redone_agrees}
use Rattle.gx_durable.specs.Spelled.{Reading}
use Rattle.gx_durable.specs.Bodies.{AreBodies}
use Rattle.gx_durable.specs.Area.{area_of, HasPages, is_given}
use Rattle.gx_durable.specs.Head.{HasHead}
use Rattle.gx_durable.specs.Stamps.{Stamped}
use Rattle.gx_durable.specs.Standing.{Up}
use Rattle.gx_durable.specs.Pages.{rewritten, PageKeepsRunning}
use Rattle.gx_durable.proofs.Fitting.{written_fit}
use Rattle.gx_durable.proofs.Areas.{page_same}
use Rattle.gx_durable.proofs.Heads.{touched_head}
use Rattle.gx_durable.proofs.BodyLists.{bodies_same}
use Rattle.gx_durable.proofs.Moving.{same_goes}
use Rattle.gx_durable.proofs.Reading.{later_stamps}
use Rattle.gx_durable.proofs.Recording.{write_stores}
use Rattle.gx_durable.proofs.Stepping.{call_stands}

-- a page that may be written has a stamp, up to the last batch that the pool has noted
stamp_up_to : (gated : ℕ) (stamp : Option ℕ) → is_gated gated stamp ≡ true → (place : ℕ) × (stamp ≡ Some place) × (place ≤ gated)
stamp_up_to gated None is = absurd cc
stamp_up_to gated (Some place) is = (place, refl, leb-true place gated is)

-- so it is one that gated records give
pub stamps_name : {E P : Type 0} → (log : Log) (frames : State) (s : Logged E P) → Stamped log frames s → NamesGated (is_given s.gated) frames
stamps_name log frames s stamped page may =
    let told = stamp_up_to frames.gated (stamp_of (kept frames page)) may in
    stamped.gated page told.0 told.1 (omega (arith, told.2, stamped.behind))

module _ {E P : Type 0} (k : Known E P) (r : Reading E P) (d e : Device) (log : Log) (bodies : List (List (Record E P))) (s : Logged E P) where
  body_is_kept : LeavesLog d.seen e.seen d.pending e.pending → log.gated ≤ PLACES → bodies_in e.seen log.extent log.gated ≡ bodies_in d.seen log.extent log.gated
  body_is_kept leaves few =
      let at = placed log.extent in
      bodies_same e.seen d.seen log.extent log.gated
      (λ j less. body_kept d.seen e.seen d.pending e.pending log.extent j
      (λ n within. leaves.kept n (inr (omega (arith, at.bodies, at.from, within.from), omega (arith, at.to, less, few, within.below)))))

  -- what agrees outside the pages that are given agrees beside them
  outside_beside : (up : Up k r log d.sectors d.seen d.pending bodies s) → AgreesOutside (is_given s.gated) d.sectors d.seen e.seen → AgreesBeside s.gated s.area (area_of r k.pages e.seen)
  outside_beside up agrees p unnamed =
      page_same r k.pages d.sectors up.carries.has_pages p e.seen d.seen (λ is. agrees p is unnamed) ∙ sym (up.carries.area p)

  pub page_up : IsLawful k → turning log.turn ≡ 0 → e.sectors ≡ d.sectors → LeavesLog d.seen e.seen d.pending e.pending → KeepsArea (is_given s.gated) d e → HasHead k.head e.seen e.pending
      → Up k r log d.sectors d.seen d.pending bodies s → Up k r log e.sectors e.seen e.pending bodies (rewritten r k.pages e.seen s)
  page_up l still sectors leaves keeps says up =
      let c = up.carries in
      let few : log.gated ≤ PLACES = omega (arith, up.on.sound.places, up.on.sound.few) in
      let B : List (List ℕ) → Type 0 = λ b. AreBodies r b bodies in
      let H : ℕ → Type 0 = λ n. HasPages k.pages n in
      record {
        on = on_kept d.seen e.seen d.pending e.pending log leaves up.on;
        carries = record {
          told = record { gated_bodies = subst B (sym (body_is_kept leaves few)) c.told.gated_bodies; gated = c.told.gated; flight = c.told.flight; filling = c.told.filling };
          undamaged = c.undamaged;
          healthy = written_healthy k s c.healthy l (area_of r k.pages e.seen) (outside_beside up keeps.seen);
          fit = written_fit k r l s (area_of r k.pages e.seen) (outside_beside up keeps.seen) c.fit;
          has_pages = subst H (sym sectors) c.has_pages;
          head = says;
          area = λ p. refl;
          settled = keeps.settled;
          turn = λ turns. absurd (omega (arith, still, turns));
        };
      }

-- a page's write, after which what is dirty was so with the same stamp
pub page_runs : {E P : Type 0} (k : Known E P) (r : Reading E P) (frames frames' : State) (d e : Device) (page : ℕ) → e.sectors ≡ d.sectors → (d.honest ≡ true → Touches (first_of page) PAGE_SECTORS d e) → (d.honest ≡ true → Elapses d e)
    → ((named : ℕ → Bool) → d.honest ≡ true → NamesGated named frames → IsAreaSettled named d → KeepsArea named d e) → frames'.gated ≡ frames.gated
    → ((q n : ℕ) → stamp_of (kept frames' q) ≡ Some n → stamp_of (kept frames q) ≡ Some n) → IsPage d.sectors page → ((q : ℕ) → contents_of (kept frames' q) ≡ contents_of (kept frames q))
    → (kept frames page ≡ None → e.seen ≡ d.seen) → PageKeepsRunning k r frames frames' d e
page_runs {E} {P} k r frames frames' d e page sectors touches time area gated dirty here contents rests log bodies s l honest closed runs =
    let still : turning log.turn ≡ 0 = ap turning closed in
    let leaves = touched_leaves (first_of page) PAGE_SECTORS d e (λ n of_log. page_is_apart (first_of page) PAGE_SECTORS n (omega arith) of_log) (touches honest) in
    let keeps = area (is_given s.gated) honest (stamps_name log frames s runs.stamped) runs.up.carries.settled in
    let says = touched_head k.head (first_of page) PAGE_SECTORS d e (omega arith) (touches honest) runs.up.carries.head in
    let up = page_up k r d e log bodies s l still sectors leaves keeps says runs.up in
    let now = rewritten r k.pages e.seen s in
    let beside = outside_beside k r d e log bodies s runs.up keeps.seen in
    let goes = same_goes k s now (written_stays k s runs.up.carries.healthy l (area_of r k.pages e.seen) beside) in
    let stamped = later_stamps log frames frames' s gated (λ p n is. inl (dirty p n is)) runs.stamped in
    record {
      runs = record { up = up; stamped = record { behind = stamped.behind; places = stamped.places; gated = stamped.gated; flight = stamped.flight } };
      said = λ said p n is. said p n (dirty p n is);
      stored = λ stored p.
          write_stores r k.pages frames frames' d e page runs.up.carries.has_pages here (touches honest) contents rests p ∙ stored p
          ∙ sym (ap (λ (area : ℕ → P). area p) (redone_agrees k l s.gated (s.flight ++ s.filling) s.area (area_of r k.pages e.seen) beside));
      beside = beside;
      safely = record { goes = goes; leaves = call_stands k l r log d e bodies s now (time honest) goes up };
    }
