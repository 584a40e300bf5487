use Rattle.std.proofs.Common.{ℕ, List, Option, ◌∙◌, ap, sym, subst}
use Rattle.std.specs.Prelude.{MatchOption}
use Rattle.gx_node.specs.Reading.{format_of, is_node}
use Rattle.gx_machine.specs.Keys.{Members}
use Rattle.gx_class.specs.Traits.{traits_of}
use Rattle.gx_opening.specs.Setting.{PagesFind}
use Rattle.gx_opening.specs.Shown.{IsUnreadable}
use Rattle.gx_opening.specs.Sound.{CanAllBeRead}
use Rattle.gx_opening.proofs.damage.pages.in_pages.Goals as goal

pub returns-in-Ok-None-clause-finds : goal.returns-in-Ok-None-clause-finds
returns-in-Ok-None-clause-finds g c = λ l same most honest others.
    (let shape : Members g.row.K-Key.Denot = record { partial_cmp = g.K.Key.PartialOrd.partial_cmp; eq = g.K.Key.PartialEq.eq; cmp = g.K.Key.Ord.cmp; overlap = g.K.Key.Shape.overlap; inside = g.K.Key.Shape.inside } in
    let state = g.D.SectorDisk.state in
    let f = format_of g.K.KeyClass in
    let told = c.args.analysis.now.told in
    let start = state c.args.disk in
    let read = c.in-Ok-None.ensures.read in
    let seen = (read.rests honest).seen in
    let shows = subst (λ (o : Option ℕ). MatchOption o (CanAllBeRead (is_node f c.in-Ok.pool.test.pages) c.used-used.result start.seen) (IsUnreadable (is_node f c.in-Ok.pool.test.pages) c.used-used.result start.seen))
    c.in-Ok-None.field-0-is (c.in-Ok-None.ensures.shows honest) in
    let pages = ap (λ t. t.pages) c.in-Ok.ensures.1 ∙ c.new.ensures in
    let here : CanAllBeRead (is_node f c.args.pages) told.used start.seen =
    subst (λ n. CanAllBeRead (is_node f c.args.pages) n start.seen) c.used-used.ensures (subst (λ n. CanAllBeRead (is_node f n) c.used-used.result start.seen) pages shows) in
    let there = subst (λ (s : List ℕ). CanAllBeRead (is_node f c.args.pages) told.used s) (sym seen) here in
    subst (λ (s : List ℕ). PagesFind shape (traits_of g.K.ReadKeys.is_proper g.K.ReadKeys.said g.K.KeyClass) g.row.D.Denot l c.args.pages c.args.most told s c.over_frames.result.1) seen
    (c.over_frames.ensures.finds l same most (read.honest ∙ honest) others there))
