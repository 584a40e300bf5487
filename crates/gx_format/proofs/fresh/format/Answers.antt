use Rattle.std.proofs.Common.{refl, arith}
use Rattle.gx_format.specs.Fresh.{fresh_root}
use Rattle.gx_format.proofs.fresh.Refusing.{run_formats, on_ok, of_class}
use Rattle.gx_format.proofs.fresh.format.Goals as goal

pub returns-clause-formats : goal.returns-clause-formats
returns-clause-formats g c =
    let s = g.D.SectorDisk.state in
    let root = fresh_root g.K.KeyClass.spelling g.K.KeyClass.start_key in
    run_formats s (record { pages = c.args.pages; most = c.args.most; class = g.K.KeyClass.CLASS }) root c.args.disk.now c.make.new.disk (c.if-not-is_in_range.ensures.0 refl)
    (omega (arith, c.sectors.ensures, c.sectors_for.ensures, c.if-sectors-sectors_for.false)) c.make.result
    (of_class s c.args.pages c.args.most c.CLASS.result g.K.KeyClass.CLASS c.in_ok-page.page root c.args.disk.now c.make.new.disk c.make.result c.CLASS.ensures c.in_ok-page.ensures.page c.make.ensures)

pub returns-clause-moments : goal.returns-clause-moments
returns-clause-moments g c =
    let s = g.D.SectorDisk.state in
    let root = fresh_root g.K.KeyClass.spelling g.K.KeyClass.start_key in
    λ honest.
    (c.phases.ensures.all (record { pages = c.args.pages; most = c.args.most; class = g.K.KeyClass.CLASS }) root c.args.disk.now c.make.new.disk c.make.result honest
    (omega (arith, c.sectors.ensures, c.sectors_for.ensures, c.if-sectors-sectors_for.false, (c.if-not-is_in_range.ensures.0 refl).least_pages))
    (of_class s c.args.pages c.args.most c.CLASS.result g.K.KeyClass.CLASS c.in_ok-page.page root c.args.disk.now c.make.new.disk c.make.result c.CLASS.ensures c.in_ok-page.ensures.page c.make.ensures)).0

pub returns-clause-fresh : goal.returns-clause-fresh
returns-clause-fresh g c =
    let s = g.D.SectorDisk.state in
    let root = fresh_root g.K.KeyClass.spelling g.K.KeyClass.start_key in
    λ honest.
    on_ok c.make.result _
    (c.phases.ensures.all (record { pages = c.args.pages; most = c.args.most; class = g.K.KeyClass.CLASS }) root c.args.disk.now c.make.new.disk c.make.result honest
    (omega (arith, c.sectors.ensures, c.sectors_for.ensures, c.if-sectors-sectors_for.false, (c.if-not-is_in_range.ensures.0 refl).least_pages))
    (of_class s c.args.pages c.args.most c.CLASS.result g.K.KeyClass.CLASS c.in_ok-page.page root c.args.disk.now c.make.new.disk c.make.result c.CLASS.ensures c.in_ok-page.ensures.page c.make.ensures)).1

pub returns-clause-root : goal.returns-clause-root
returns-clause-root g c = on_ok c.make.result _ (λ is. c.in_ok-page.ensures.well_formed)
