use Rattle.std.proofs.lemmas.Grind.{common_steps}
use Rattle.std.proofs.Common.{◌∙◌, sym, ap, arith}
use Rattle.gx_pool.specs.Marks.{is_gated}
use Rattle.gx_pool.specs.State.{frame_at, stamp_of}
use Rattle.gx_pool.proofs.Gated.{rest_keeps_area, write_keeps_area}
use Rattle.gx_pool.proofs.Readable.{write_keeps_readable}
use Rattle.gx_pool.proofs.pool.Writing.{rest_at_most, write_at_most}
use Rattle.gx_pool.proofs.pool.Keeping.{rest_keeps_shown, write_keeps_passing, write_keeps_shown}
use Rattle.gx_pool.proofs.Places.{gated_stamp, kept_none, kept_some, placed_gated}
use Rattle.gx_pool.proofs.pool.Pool.write_page.Goals as goal

pub write_frame-requires-clause-dirty : goal.write_frame-requires-clause-dirty
write_frame-requires-clause-dirty g c =
    let s = c.args.self.now.frames in
    gated_stamp s.gated _ (sym (placed_gated s c.args.page c.in-Some.i c.in-Some.ensures.some.1) ∙ c.in-Some.ensures.some.0)

pub returns-in-Some-clause-written : goal.returns-in-Some-clause-written
returns-in-Some-clause-written g c = λ k is gated. c.write_frame.ensures.written k is

pub returns-in-Some-clause-area : goal.returns-in-Some-clause-area
returns-in-Some-clause-area g c = λ named honest names settled.
    let there = kept_some c.args.self.now.frames c.args.page c.in-Some.i c.in-Some.ensures.some.1 in
    write_keeps_area named _ _ _ _ c.args.page (frame_at c.args.self.now.frames c.in-Some.i) _ honest c.requires (names c.args.page c.in-Some.ensures.some.0) settled (c.write_frame.ensures.written _ there)

pub returns-in-Some-clause-shown : goal.returns-in-Some-clause-shown
returns-in-Some-clause-shown g c = λ honest backed.
    let s = c.args.self.now.frames in
    let there = kept_some s c.args.page c.in-Some.i c.in-Some.ensures.some.1 in
    write_keeps_shown (g.D.SectorDisk.state c.args.disk.now) _ s _ c.args.page (frame_at s c.in-Some.i) _ honest (g.met.D.SectorDisk.whole c.args.disk.now honest) c.requires (kept_none s 0 c.writable.ensures.sound.zero) there
    (ap (λ o. is_gated s.gated (stamp_of o)) (sym there) ∙ c.in-Some.ensures.some.0) (c.write_frame.ensures.written _ there) backed

pub returns-in-Some-clause-passing : goal.returns-in-Some-clause-passing
returns-in-Some-clause-passing g c = λ passed.
    let there = kept_some c.args.self.now.frames c.args.page c.in-Some.i c.in-Some.ensures.some.1 in
    write_keeps_passing _ _ _ _ _ c.args.page (frame_at c.args.self.now.frames c.in-Some.i) _ there (c.write_frame.ensures.written _ there) passed

pub returns-in-None-clause-area : goal.returns-in-None-clause-area
returns-in-None-clause-area g c = λ named honest names settled. rest_keeps_area named (g.D.SectorDisk.state c.args.disk.now) settled

pub returns-in-None-clause-shown : goal.returns-in-None-clause-shown
returns-in-None-clause-shown g c = λ honest backed. rest_keeps_shown (g.D.SectorDisk.state c.args.disk.now) c.args.self.now.frames backed

pub returns-in-Some-clause-device : goal.returns-in-Some-clause-device
returns-in-Some-clause-device g c =
    let wrote = c.write_frame.ensures.written _ (kept_some c.args.self.now.frames c.args.page c.in-Some.i c.in-Some.ensures.some.1) in
    (wrote.counts.sectors, wrote.counts.honest)

pub returns-in-Some-clause-faults : goal.returns-in-Some-clause-faults
returns-in-Some-clause-faults g c =
    let wrote = c.write_frame.ensures.written _ (kept_some c.args.self.now.frames c.args.page c.in-Some.i c.in-Some.ensures.some.1) in
    wrote.counts.faults

pub returns-in-Some-clause-at_most : goal.returns-in-Some-clause-at_most
returns-in-Some-clause-at_most g c =
    let there = kept_some c.args.self.now.frames c.args.page c.in-Some.i c.in-Some.ensures.some.1 in
    write_at_most _ _ c.args.self.now.frames _ c.args.page (frame_at c.args.self.now.frames c.in-Some.i) _ there (c.write_frame.ensures.written _ there)

pub returns-in-None-clause-at_most : goal.returns-in-None-clause-at_most
returns-in-None-clause-at_most g c = rest_at_most (g.D.SectorDisk.state c.args.disk.now) c.args.self.now.frames c.args.page

pub returns-in-Some-clause-readable : goal.returns-in-Some-clause-readable
returns-in-Some-clause-readable g c = λ used honest readable.
    let there = kept_some c.args.self.now.frames c.args.page c.in-Some.i c.in-Some.ensures.some.1 in
    write_keeps_readable _ used (g.D.SectorDisk.state c.args.disk.now) _ c.args.self.now.frames _ c.args.page (frame_at c.args.self.now.frames c.in-Some.i) _ honest c.requires there (c.write_frame.ensures.written _ there) readable

pub returns-in-None-clause-written : goal.returns-in-None-clause-written
returns-in-None-clause-written g c = grind (arith, common_steps)
