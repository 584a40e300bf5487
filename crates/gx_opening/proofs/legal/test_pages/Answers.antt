use Rattle.std.proofs.Common.{◌∙◌, refl, subst, arith}
use Rattle.gx_machine.specs.Keys.{Members, entry_cmp, keys_of}
use Rattle.gx_opening.specs.Formatted.{FaultsAre}
use Rattle.gx_opening.specs.Noting.{AreOfOthers}
use Rattle.gx_node.specs.Reading.{format_of, is_node}
use Rattle.gx_pool.specs.Bringing.{OnlyRead}
use Rattle.gx_store.specs.State.{Shelf}
use Rattle.gx_opening.proofs.Bridging.{first_told}
use Rattle.gx_opening.proofs.legal.test_pages.Goals as goal

pub returns-clause-read : goal.returns-clause-read
returns-clause-read g c =
    subst (λ (s : Shelf g.row.D.Denot). OnlyRead (g.D.SectorDisk.state s.disk) (g.D.SectorDisk.state c.test_over.result.0)) (c.new-reader.ensures ∙ c.new-store.ensures) c.test_over.ensures.read

pub returns-clause-tested : goal.returns-clause-tested
returns-clause-tested g c = λ l same most_is honest others.
    (let shape : Members g.row.K-Key.Denot = record { partial_cmp = g.K.Key.PartialOrd.partial_cmp; eq = g.K.Key.PartialEq.eq; cmp = g.K.Key.Ord.cmp; overlap = g.K.Key.Shape.overlap; inside = g.K.Key.Shape.inside } in
    let none = c.in-Ok.ensures.0.none in
    first_told shape g.K.ReadKeys.is_proper l g.K.ReadKeys.said (format_of g.K.KeyClass) (is_node (format_of g.K.KeyClass)) g.D.SectorDisk.state c.args.disk c.in-Ok.pool.frames c.args.analysis.now.told none
    c.args.pages same c.args.most most_is (omega (arith, c.used-used.ensures, c.if-pages-used.false)) c.new-reader.result c.test_over.result.1 (c.new-reader.ensures ∙ c.new-store.ensures ∙ rw (c.used-used.ensures, c.counter.ensures) refl)
    (c.a_store_starts.ensures.steady c.args.disk c.in-Ok.pool.frames 16 c.in-Ok.ensures.0 honest)
    (AreOfOthers (entry_cmp (keys_of shape))) c.touched.result.now c.touched.ensures others c.test_over.ensures.tested)

pub returns-clause-faults : goal.returns-clause-faults
returns-clause-faults g c =
    subst (λ (s : Shelf g.row.D.Denot). FaultsAre (g.D.SectorDisk.state s.disk).faults (g.D.SectorDisk.state c.test_over.result.0).faults c.test_over.result.1) (c.new-reader.ensures ∙ c.new-store.ensures)
    c.test_over.ensures.faults
