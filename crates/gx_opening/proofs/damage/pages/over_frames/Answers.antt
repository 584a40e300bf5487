use Rattle.std.proofs.Common.{◌<◌, ap, sym, ◌∙◌, refl, subst}
use Rattle.gx_machine.specs.Keys.{Members, keys_of, entry_cmp}
use Rattle.gx_node.specs.Reading.{format_of, is_node}
use Rattle.gx_opening.specs.Noting.{AreOfOthers}
use Rattle.gx_opening.specs.Setting.{TreeFinds}
use Rattle.gx_opening.specs.Sound.{CanAllBeRead, IsShownSound, IsSteadyStore, shown_tree}
use Rattle.gx_opening.proofs.Bridging.{first_sound}
use Rattle.gx_opening.proofs.Sounding.{since_all}
use Rattle.gx_pool.specs.Bringing.{OnlyRead}
use Rattle.gx_pool.specs.State.{kept}
use Rattle.gx_store.specs.State.{Shelf}
use Rattle.gx_node.specs.Keyed.{rules_of}
use Rattle.gx_opening.proofs.Telling.{pages_told}
use Rattle.gx_opening.proofs.damage.pages.over_frames.Goals as goal

pub returns-clause-read : goal.returns-clause-read
returns-clause-read g c =
    let state = g.D.SectorDisk.state in
    let start = c.new-store.result in
    let new = c.in_tree-found.new.store in
    let f = format_of g.K.KeyClass in
    subst (λ (s : Shelf g.row.D.Denot). OnlyRead (state s.disk) (state c.into_disk.result)) c.new-store.ensures
    (subst (λ (d : g.row.D.Denot). OnlyRead (state start.disk) (state d)) (sym c.into_disk.ensures)
    (since_all f (is_node f) state start new c.in_tree-found.ensures.reads (λ page. c.going_on.ensures.begins start page) 1).goes_on.device)

pub returns-clause-failed : goal.returns-clause-failed
returns-clause-failed g c = λ is.
    let state = g.D.SectorDisk.state in
    subst (λ (s : Shelf g.row.D.Denot). (state s.disk).faults < (state c.into_disk.result).faults) c.new-store.ensures
    (subst (λ (d : g.row.D.Denot). (state c.new-store.result.disk).faults < (state d).faults) (sym c.into_disk.ensures) (c.in_tree-found.ensures.failed is))

pub returns-clause-finds : goal.returns-clause-finds
returns-clause-finds g c = λ l same most_is honest others can.
    (let shape : Members g.row.K-Key.Denot = record { partial_cmp = g.K.Key.PartialOrd.partial_cmp; eq = g.K.Key.PartialEq.eq; cmp = g.K.Key.Ord.cmp; overlap = g.K.Key.Shape.overlap; inside = g.K.Key.Shape.inside } in
    let f = format_of g.K.KeyClass in
    let passes = is_node f in
    let state = g.D.SectorDisk.state in
    let told = c.args.analysis.now.told in
    let s = c.new-store.result in
    let is = c.new-store.ensures in
    let none = c.in-Ok.ensures.0.none in
    let first = is ∙ rw (c.used.ensures, c.counter.ensures) refl in
    let steady = subst (λ (x : Shelf g.row.D.Denot). IsSteadyStore f passes state x) (sym is) (c.a_store_starts.ensures.steady c.args.disk c.in-Ok.pool.frames 16 c.in-Ok.ensures.0 honest) in
    let there = subst (λ (x : Shelf g.row.D.Denot). CanAllBeRead (passes x.pages) x.used (state x.disk).seen) (sym first) can in
    let finds = subst (λ touched. AreOfOthers (entry_cmp (keys_of shape)) touched → TreeFinds shape g.K.KeyClass state c.args.most touched s c.in_tree-found.result) c.touched.ensures c.in_tree-found.ensures.finds in
    pages_told f (rules_of shape c.args.most) (passes c.args.pages) told (state s.disk).seen (state c.args.disk).seen c.args.pages s
    (record { pages_are = ap (λ (x : Shelf g.row.D.Denot). x.pages) first; used = ap (λ (x : Shelf g.row.D.Denot). x.used) first; counter = ap (λ (x : Shelf g.row.D.Denot). x.counter) first; none = λ page. ap (λ (x : Shelf g.row.D.Denot). kept x.frames page) first ∙ none page })
    (ap (λ (x : Shelf g.row.D.Denot). (state x.disk).seen) first) c.requires.fits can
    (IsShownSound (rules_of shape c.args.most) told.touched (shown_tree f passes state s)) _ c.in_tree-found.result
    (first_sound shape g.K.ReadKeys.is_proper l g.K.ReadKeys.said f passes state c.args.disk c.in-Ok.pool.frames told none c.args.pages same c.args.most most_is c.requires.fits s first can)
    (finds others steady there))
