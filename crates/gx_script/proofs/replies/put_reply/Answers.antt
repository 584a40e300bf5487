use Rattle.std.proofs.lemmas.Grind.{common_steps}
use Rattle.std.proofs.Common.{◌≡◌, ℕ, List, [], ◌++◌, ◌∙◌, refl, sym, ap, length, decimal, codes, arith}
use Rattle.std.specs.List.{flat_map}
use Rattle.std.proofs.lemmas.Result.{on_ok_weaker, err_from_is_err_and}
use Rattle.gx_machine.specs.declared.entry.Entry.{Entry}
use Rattle.gx_script.specs.Corners.{Grammar, grammar}
use Rattle.gx_script.specs.Replies.{reply_text, told_line, entry_line}
use Rattle.gx_script.specs.Writes.{IsPut}
use Rattle.gx_script.proofs.WriteLemmas.{put_nothing, put_more, put_then, put_cut, cut_more, cut_as}
use Rattle.gx_script.proofs.replies.put_reply.Goals as goal

pub returns-in_err-make_room-clause-cut : goal.returns-in_err-make_room-clause-cut
returns-in_err-make_room-clause-cut g c =
    let k = grammar g.B.Corners.COUNT g.B.Corners.corners g.B.Corners.fit g.B.Corners.made in
    let p = err_from_is_err_and c.from_residual.result c.from_residual.ensures.1 in
    let cut = c.in_err-make_room.ensures.cut in
    rw (p.1, p.2) (
      cut.0,
      cut_more (g.W.Write.contents c.args.writer.now.inner) (g.W.Write.contents c.make_room.new.writer.inner) c.args.output.now (reply_text k c.args.session c.args.reply.now)
          cut.1,
    )

-- the text of what was found, by the lent list
found_text : {B : Type 0} (k : Grammar B) (session : ℕ) (lent entries : List (Entry B)) → lent ≡ entries
    → told_line session (codes "found " ++ decimal (length entries)) ++ flat_map (entry_line k session) entries
    ≡ told_line session (codes "found " ++ decimal (length lent)) ++ flat_map (entry_line k session) lent
found_text k session lent entries e =
    ap (λ es. told_line session (codes "found " ++ decimal (length es)) ++ flat_map (entry_line k session) es) (sym e)

pub returns-in-Found-clause-ok : goal.returns-in-Found-clause-ok
returns-in-Found-clause-ok g c =
    let k = grammar g.B.Corners.COUNT g.B.Corners.corners g.B.Corners.fit g.B.Corners.made in
    let head : IsPut (g.W.Write.contents c.args.writer.now.inner) (g.W.Write.contents c.make_room.new.writer.inner) c.args.output.now
    (told_line c.args.session (codes "found " ++ decimal (length c.as_slice-found.result.now))) c.put_counted.new.self =
    put_more (g.W.Write.contents c.args.writer.now.inner) (g.W.Write.contents c.args.writer.now.inner) (g.W.Write.contents c.make_room.new.writer.inner) c.args.output.now []
    c.args.output.now c.make_room.new.self (told_line c.args.session (codes "found " ++ decimal (length c.as_slice-found.result.now))) _ c.put_counted.new.self
    (put_nothing (g.W.Write.contents c.args.writer.now.inner) c.args.output.now) c.in_ok-make_room.ensures.ok.1 c.put_counted.ensures refl in
    let text = ap (λ r. reply_text k c.args.session r) c.in-Found.is ∙ found_text k c.args.session c.as_slice-found.result.now c.in-Found.entries c.as_slice-found.ensures in
    on_ok_weaker c.put_entries.result
    (λ put.
    put_then (g.W.Write.contents c.args.writer.now.inner) (g.W.Write.contents c.make_room.new.writer.inner) (g.W.Write.contents c.put_entries.new.writer.inner)
    c.args.output.now _ c.put_counted.new.self _ _ c.put_entries.new.output head put text)
    c.put_entries.ensures.ok

pub returns-in-Found-clause-cut : goal.returns-in-Found-clause-cut
returns-in-Found-clause-cut g c =
    let k = grammar g.B.Corners.COUNT g.B.Corners.corners g.B.Corners.fit g.B.Corners.made in
    let head : IsPut (g.W.Write.contents c.args.writer.now.inner) (g.W.Write.contents c.make_room.new.writer.inner) c.args.output.now
    (told_line c.args.session (codes "found " ++ decimal (length c.as_slice-found.result.now))) c.put_counted.new.self =
    put_more (g.W.Write.contents c.args.writer.now.inner) (g.W.Write.contents c.args.writer.now.inner) (g.W.Write.contents c.make_room.new.writer.inner) c.args.output.now []
    c.args.output.now c.make_room.new.self (told_line c.args.session (codes "found " ++ decimal (length c.as_slice-found.result.now))) _ c.put_counted.new.self
    (put_nothing (g.W.Write.contents c.args.writer.now.inner) c.args.output.now) c.in_ok-make_room.ensures.ok.1 c.put_counted.ensures refl in
    let text = ap (λ r. reply_text k c.args.session r) c.in-Found.is ∙ found_text k c.args.session c.as_slice-found.result.now c.in-Found.entries c.as_slice-found.ensures in
    cut_as c.put_entries.result
    (λ cut.
    put_cut (g.W.Write.contents c.args.writer.now.inner) (g.W.Write.contents c.make_room.new.writer.inner) (g.W.Write.contents c.put_entries.new.writer.inner)
    c.args.output.now _ c.put_counted.new.self _ _ head cut text)
    c.put_entries.ensures.cut

pub returns-in-Committed-clause-ok : goal.returns-in-Committed-clause-ok
returns-in-Committed-clause-ok g c =
    let k = grammar g.B.Corners.COUNT g.B.Corners.corners g.B.Corners.fit g.B.Corners.made in
    put_more (g.W.Write.contents c.args.writer.now.inner) (g.W.Write.contents c.args.writer.now.inner) (g.W.Write.contents c.make_room.new.writer.inner) c.args.output.now []
    c.args.output.now c.make_room.new.self (told_line c.args.session (codes "committed " ++ decimal c.in-Committed.number)) _ c.put_counted-in-Committed.new.self
    (put_nothing (g.W.Write.contents c.args.writer.now.inner) c.args.output.now) c.in_ok-make_room.ensures.ok.1 c.put_counted-in-Committed.ensures
    (ap (λ r. reply_text k c.args.session r) c.in-Committed.is)

pub returns-in-Ok-clause-ok : goal.returns-in-Ok-clause-ok
returns-in-Ok-clause-ok g c = grind (arith, common_steps)

pub returns-in-Inserted-clause-ok : goal.returns-in-Inserted-clause-ok
returns-in-Inserted-clause-ok g c = grind (arith, common_steps)

pub returns-in-Deleted-clause-ok : goal.returns-in-Deleted-clause-ok
returns-in-Deleted-clause-ok g c = grind (arith, common_steps)

pub returns-in-Aborted-clause-ok : goal.returns-in-Aborted-clause-ok
returns-in-Aborted-clause-ok g c = grind (arith, common_steps)

pub returns-in-Refused-clause-ok : goal.returns-in-Refused-clause-ok
returns-in-Refused-clause-ok g c = grind (arith, common_steps)
