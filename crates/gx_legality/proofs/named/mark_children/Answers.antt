use Rattle.std.proofs.Common.{◌≡◌, Some, rules}
use Rattle.std.specs.Prelude.{slice_get}
use Rattle.std.proofs.lemmas.Result.{err_from_is_err_and}
use Rattle.gx_node.specs.Reading.{format_of}
use Rattle.gx_node.specs.Trees.{Child, child_pages}
use Rattle.gx_node.specs.Store.{node_of}
use Rattle.gx_legality.proofs.named.Naming.{page_at, is_named, marks_go, marks_twice}
use Rattle.gx_legality.proofs.named.mark_children.Goals as goal

pub returns-in_err-mark-clause-refused : goal.returns-in_err-mark-clause-refused
returns-in_err-mark-clause-refused g c =
    let node = node_of (format_of g.K.KeyClass) c.args.page.now in
    let child : Child g.row.K-Key.Denot = record { key = c.in-Some.entry.0; page = c.in-Some.entry.1 } in
    let at : slice_get node.children c.loop-slot.slot ≡ Some child = search rules in
    let p = err_from_is_err_and c.from_residual.result c.from_residual.ensures.1 in
    rw (p.1, p.2) (marks_twice (child_pages node) c.loop-slot.slot c.in-Some.entry.1 c.in_err-mark.field-0.0 c.args.marks.now c.loop-slot.marks
    (page_at node.children c.loop-slot.slot child at) c.loop-slot.invariant.0 c.loop-slot.invariant.1 c.in_err-mark.ensures.refused.0 c.in_err-mark.ensures.refused.1)

pub returns-in_err-mark-clause-named : goal.returns-in_err-mark-clause-named
returns-in_err-mark-clause-named g c =
    let node = node_of (format_of g.K.KeyClass) c.args.page.now in
    let child : Child g.row.K-Key.Denot = record { key = c.in-Some.entry.0; page = c.in-Some.entry.1 } in
    let at : slice_get node.children c.loop-slot.slot ≡ Some child = search rules in
    let p = err_from_is_err_and c.from_residual.result c.from_residual.ensures.1 in
    rw (p.1, p.2) (is_named (child_pages node) c.loop-slot.slot c.in-Some.entry.1 c.in_err-mark.field-0.0
    (page_at node.children c.loop-slot.slot child at) c.in_err-mark.ensures.refused.0)

pub loop-slot-preserved : goal.loop-slot-preserved
loop-slot-preserved g c =
    let node = node_of (format_of g.K.KeyClass) c.args.page.now in
    let child : Child g.row.K-Key.Denot = record { key = c.in-Some.entry.0; page = c.in-Some.entry.1 } in
    let at : slice_get node.children c.loop-slot.slot ≡ Some child = search rules in (
      search rules,
      marks_go (child_pages node) c.loop-slot.slot c.in-Some.entry.1 c.args.marks.now c.loop-slot.marks c.mark.new.marks
          (page_at node.children c.loop-slot.slot child at) c.loop-slot.invariant.1 c.in_ok-mark.ensures.marked.1,
    )
