use Rattle.std.proofs.Common.{◌≤◌, Ok, refl, arith}
use Rattle.gx_disk.specs.declared.layout.TheConstants.{MIN_SECTORS}
use Rattle.gx_format.specs.Formatting.{sectors_of}
use Rattle.gx_format.specs.Fresh.{fresh_root}
use Rattle.gx_machine.specs.Keys.{Members, keys_of}
use Rattle.gx_machine.specs.Machine.{fresh_machine}
use Rattle.gx_opening.specs.Formatted.{IsAllowed}
use Rattle.gx_lives.proofs.Beginning.{begins}
use Rattle.gx_lives.proofs.laws.an_index_lives_as_one_run.Goals as goal

pub returns : goal.returns
returns g c = λ p of_class disk new turns now lives.
    let shape : Members g.row.K-Key.Denot = record { partial_cmp = g.K.Key.PartialOrd.partial_cmp; eq = g.K.Key.PartialEq.eq; cmp = g.K.Key.Ord.cmp; overlap = g.K.Key.Shape.overlap; inside = g.K.Key.Shape.inside } in
    let proper = g.K.ReadKeys.is_proper in
    let said = g.K.ReadKeys.said in
    let class = g.K.KeyClass in
    let state = g.D.SectorDisk.state in
    let allowed : IsAllowed g.K.KeyClass.CLASS p = record { range = new.formats.0; class_is = of_class } in
    let enough : sectors_of p.pages ≤ (state new.before).sectors = new.formats.1.0 in
    let room : MIN_SECTORS ≤ (state new.before).sectors = (let least = allowed.range.least_pages in omega (arith, least, enough)) in
    let fresh = (c.phases.ensures.all p (fresh_root g.K.KeyClass.spelling g.K.KeyClass.start_key) new.before disk (Ok tt) new.honest room new.formats.1.1).1 refl in
    let bears = begins shape proper said class g.K.KeyClass.start_key state c.leaves.ensures.read c.inners.ensures.read g.met.K.KeyClass.start_is_key c.a_class_is_lawful.ensures
    p new.before disk new.honest (Ok tt) new.formats new.root fresh in
    c.a_life_is_one_run.ensures p allowed fresh_machine refl (c.kept_sets_stay_in_order.ensures.fresh (keys_of shape)) disk bears turns now lives
