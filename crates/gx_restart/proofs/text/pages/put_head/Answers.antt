use Rattle.std.proofs.lemmas.Result.{err_from_is_err_and}
use Rattle.gx_script.proofs.WriteLemmas.{cut_more}
use Rattle.gx_restart.specs.Text.{head_line}
use Rattle.gx_restart.proofs.text.pages.put_head.Goals as goal

pub returns-in_err-make_room-clause-cut : goal.returns-in_err-make_room-clause-cut
returns-in_err-make_room-clause-cut g c =
    let p = err_from_is_err_and c.from_residual.result c.from_residual.ensures.1 in
    let cut = c.in_err-make_room.ensures.cut in
    rw (p.1, p.2) (
      cut.0,
      cut_more (g.W.Write.contents c.args.writer.now.inner) (g.W.Write.contents c.make_room.new.writer.inner) c.args.lines.now (head_line c.args.number c.args.used c.args.counter) cut.1,
    )
