use Rattle.std.proofs.Common.{◌-◌, ◌≤◌, [], length, refl, ap, sym, ◌∙◌, arith}
use Rattle.std.specs.List.{remove}
use Rattle.gx_page.specs.Contents.{Contents}
use Rattle.gx_page.specs.Edits.{with_items}
use Rattle.gx_node.proofs.Edited.{fall_room, falls_staying, falls_going, fall_begins, fall_ends}
use Rattle.gx_node.proofs.items.keep_staying.Goals as goal

pub loop-slot-init : goal.loop-slot-init
loop-slot-init c = record { rest = fall_begins c.args.sides.now c.args.page.now.items c.count-slot.result c.count-slot.ensures.count; header = refl }

pub remove-requires : goal.remove-requires
remove-requires c =
    let within : c.loop-slot.slot ≤ length c.args.page.now.items = omega arith in
    omega (arith, fall_room c.args.page.now.items _ c.loop-slot.page.items c.loop-slot.slot within c.loop-slot.invariant.rest)

pub loop-slot-preserved-then-sides-slot : goal.loop-slot-preserved-then-sides-slot
loop-slot-preserved-then-sides-slot c =
    let old = c.loop-slot.page in
    let m = c.loop-slot.slot in
    let is = c.remove.ensures in
    record {
      rest = ap (λ (p : Contents). p.items) is
          ∙ falls_going c.args.sides.now c.args.page.now.items old.items m (m - 1) [] c.requires (omega arith) (omega arith) c.loop-slot.invariant.rest c.if-sides-slot.true;
      header = is ∙ ap (λ (p : Contents). with_items p (remove old.items (m - 1))) c.loop-slot.invariant.header ∙ sym (ap (λ (p : Contents). with_items c.args.page.now p.items) is);
    }

pub loop-slot-preserved : goal.loop-slot-preserved
loop-slot-preserved c =
    let old = c.loop-slot.page in
    let m = c.loop-slot.slot in
    record {
      rest = falls_staying c.args.sides.now c.args.page.now.items old.items m (m - 1) [] c.requires (omega arith) (omega arith) c.loop-slot.invariant.rest c.if-sides-slot.false;
      header = c.loop-slot.invariant.header;
    }

pub returns : goal.returns
returns c =
    c.loop-slot.invariant.header
    ∙ ap (with_items c.args.page.now) (fall_ends c.args.sides.now c.args.page.now.items c.loop-slot.page.items c.loop-slot.slot (omega arith) c.loop-slot.invariant.rest)
