use Rattle.std.proofs.Common.{rules, ◌+◌, take, sym, ap, subst, ◌++◌, ◌∷◌, [], ◌∙◌}
use Rattle.gx_tree.specs.Splitting.{UnitesAny, Unites, on_side}
use Rattle.gx_tree.proofs.Parted.{side_here, side_past}
use Rattle.gx_tree.proofs.halves.union_of.Goals as goal
use Rattle.gx_tree.proofs.halves.union_of.Goals.{then-sides-slot, else-sides-slot}

pub loop-slot-preserved : goal.loop-slot-preserved
loop-slot-preserved g c =
    let inside = g.K.Key.Shape.inside in
    let side = c.args.side in
    let sides = c.args.sides.now in
    let keys = c.args.keys.now in
    let slot = c.loop-slot.slot in
    let before = on_side side (take slot sides) (take slot keys) in
    elim c.if-sides-slot.branch [
      | then-sides-slot w ↦ (
          let key = w.index-keys-slot.result in
          let more = side_here side sides keys slot key c.requires c.loop-slot-test.true (search rules) ∙ ap (λ k. before ++ k ∷ []) (sym w.index-keys-slot.is) in
          let now : Unites inside w.united.result (before ++ key ∷ []) = w.united.ensures before c.loop-slot.invariant in
          subst (λ u. UnitesAny inside u (on_side side (take (slot + 1) sides) (take (slot + 1) keys))) (sym w.union-is) (subst (Unites inside w.united.result) (sym more) now)
          )
      | else-sides-slot w ↦ (
          let past = side_past side sides keys slot g.K.KeyClass.start_key c.requires c.loop-slot-test.true (search rules) in
          subst (λ u. UnitesAny inside u (on_side side (take (slot + 1) sides) (take (slot + 1) keys))) (sym w.union-is)
          (subst (UnitesAny inside c.loop-slot.union) (sym past) c.loop-slot.invariant)
          )
    ]
