use Rattle.std.proofs.Common.{◌≡◌, ◌*◌, ◌≤◌, ap, length, arith}
use Rattle.std.proofs.lemmas.Grind.{common_steps}
use Rattle.gx_disk.specs.declared.layout.TheConstants.{PAGES_AT}
use Rattle.gx_machine.specs.Keys.{Members}
use Rattle.gx_node.specs.Reading.{format_of}
use Rattle.gx_recovery.specs.Damage.{records_of}
use Rattle.gx_recovery.proofs.DamageItems.{bodies_log}
use Rattle.gx_store.specs.Faults.{refusal_fails}
use Rattle.gx_opening.specs.Standing.{known_for, limits_of}
use Rattle.gx_restart.proofs.opening.begin.Closing.{begun_so, not_begun, starts_quietly}
use Rattle.gx_restart.proofs.opening.begin.begin_engine.Goals as goal

pub returns-in-Err-clause-begun : goal.returns-in-Err-clause-begun
returns-in-Err-clause-begun g c = λ a honest st.
    (let shape : Members g.row.K-Key.Denot = (record { partial_cmp = g.K.Key.PartialOrd.partial_cmp; eq = g.K.Key.PartialEq.eq; cmp = g.K.Key.Ord.cmp; overlap = g.K.Key.Shape.overlap; inside = g.K.Key.Shape.inside }) in
    let proper = g.K.ReadKeys.is_proper in
    let said = g.K.ReadKeys.said in
    let f = format_of g.K.KeyClass in
    let state = g.D.SectorDisk.state in
    let s = c.args.standing.now in
    let m = state c.args.disk in
    let lc = c.a_class_is_lawful.ensures (limits_of s.parameters) st.formatted.allowed.range.least_entries in
    let good = c.what_is_found_stands.ensures.good s.parameters (state a).seen c.args.disk s.log st.laid st.sound in
    let whole = g.met.D.SectorDisk.whole c.args.disk honest in
    let inside = c.requires.inside in
    let size : 512 * PAGES_AT ≤ length m.seen = omega (arith, whole, inside) in
    not_begun shape proper said f _ (state a) m s st lc good (state c.close_later.new.disk) honest size inside c.in-Err.ensures.device.0 c.args.frames c.in-Ok.start c.in-Ok.ensures c.in-Err.why
    c.in-Err.ensures.refusal c.in-Err.ensures.closes)

pub returns-in-Ok-close_later-clause-begun : goal.returns-in-Ok-close_later-clause-begun
returns-in-Ok-close_later-clause-begun g c = λ a honest st.
    (let shape : Members g.row.K-Key.Denot = (record { partial_cmp = g.K.Key.PartialOrd.partial_cmp; eq = g.K.Key.PartialEq.eq; cmp = g.K.Key.Ord.cmp; overlap = g.K.Key.Shape.overlap; inside = g.K.Key.Shape.inside }) in
    let proper = g.K.ReadKeys.is_proper in
    let said = g.K.ReadKeys.said in
    let f = format_of g.K.KeyClass in
    let state = g.D.SectorDisk.state in
    let s = c.args.standing.now in
    let m = state c.args.disk in
    let lc = c.a_class_is_lawful.ensures (limits_of s.parameters) st.formatted.allowed.range.least_entries in
    let good = c.what_is_found_stands.ensures.good s.parameters (state a).seen c.args.disk s.log st.laid st.sound in
    let whole = g.met.D.SectorDisk.whole c.args.disk honest in
    let inside = c.requires.inside in
    let size : 512 * PAGES_AT ≤ length m.seen = omega (arith, whole, inside) in
    let bodies = st.laid.is.log.bodies in
    let cut = c.a_log_tells_who_was_cut_off.ensures _ lc (records_of bodies) (bodies_log (known_for shape proper said f s.parameters) bodies st.laid.is.log.undamaged) in
    begun_so shape proper said f _ (state a) m s st lc good state c.close_later.new.disk honest size inside c.in-Ok-close_later.ensures.device.0 c.in-Ok-close_later.ensures.device.1
    c.args.frames c.in-Ok.start c.in-Ok.ensures c.in-Ok-close_later.ensures.closes cut c.start.result c.start.ensures.started c.start.ensures.refused (c.start.ensures.holds (limits_of s.parameters)))

pub returns-in-Err-clause-faults : goal.returns-in-Err-clause-faults
returns-in-Err-clause-faults g c =
    let one : refusal_fails c.in-Err.why ≡ 1 = ap refusal_fails c.in-Err.ensures.refusal in
    let more = c.in-Err.ensures.faults in
    omega (arith, one, more)

pub returns-in-Ok-close_later-clause-faults : goal.returns-in-Ok-close_later-clause-faults
returns-in-Ok-close_later-clause-faults g c =
    starts_quietly g.D.SectorDisk.state _ c.in-Ok.start _ c.close_later.new.disk c.in-Ok-close_later.ensures.faults c.start.result c.start.ensures.started c.start.ensures.refused

pub close_later-requires-clause-bodies : goal.close_later-requires-clause-bodies
close_later-requires-clause-bodies g c = grind (arith, common_steps)

pub start-requires-clause-bodies : goal.start-requires-clause-bodies
start-requires-clause-bodies g c = grind (arith, common_steps)

pub start-requires-clause-inside : goal.start-requires-clause-inside
start-requires-clause-inside g c = grind (arith, common_steps)

pub start-requires-clause-fanout : goal.start-requires-clause-fanout
start-requires-clause-fanout g c = grind (arith, common_steps)

pub start-requires-clause-frames : goal.start-requires-clause-frames
start-requires-clause-frames g c = grind (arith, common_steps)
