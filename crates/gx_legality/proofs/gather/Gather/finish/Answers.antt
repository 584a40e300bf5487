use Rattle.std.proofs.Common.{◌≡◌, ◌<◌, [], Some, None, Option, subst, rules}
use Rattle.gx_legality.specs.Gathered.{Gathered, Gathers, OnceBetween, IsAfter, Ascends, count}
use Rattle.gx_legality.proofs.Passes.{gathers_once, begun}
use Rattle.gx_legality.proofs.gather.Gather.finish.Goals as goal

pub returns-in_default : goal.returns-in_default
returns-in_default g c = λ all was.
    let inside = c.self.inside in
    let old : Gathered g.row.E.Denot = record { kept = inside.kept.items; above = inside.above; top = inside.top; half = inside.half } in
    let old_was : Gathers g.E.Ord.cmp old all [] = search rules in
    let above : inside.above ≡ c.args.self.now.above = search rules in
    let up : Ascends g.E.Ord.cmp c.put_in_order.new.items.items = search rules in
    subst (λ (above : Option g.row.E.Denot). OnceBetween g.E.Ord.cmp above None all) above
    (subst (λ (top : Option g.row.E.Denot). OnceBetween g.E.Ord.cmp old.above top all) c.in_default.is
    (gathers_once g.E.Ord.cmp g.met.E.Ord.total old all c.put_in_order.new.items.items old_was c.put_in_order.ensures.counts up))

pub returns : goal.returns
returns g c = λ all was.
    let inside = c.self.inside in
    let old : Gathered g.row.E.Denot = record { kept = inside.kept.items; above = inside.above; top = inside.top; half = inside.half } in
    let old_was : Gathers g.E.Ord.cmp old all [] = search rules in
    let above : inside.above ≡ c.args.self.now.above = search rules in
    let half : inside.half ≡ c.args.self.now.half = search rules in
    let b = c.in-Some.top in
    let up : Ascends g.E.Ord.cmp c.put_in_order.new.items.items = search rules in
    let bound : IsAfter g.E.Ord.cmp inside.above b × (0 < count g.E.Ord.cmp b all) = old_was.top b c.in-Some.is in (
      b,
      subst (λ (above : Option g.row.E.Denot). IsAfter g.E.Ord.cmp above b) above bound.0,
      bound.1,
      subst (λ (above : Option g.row.E.Denot). OnceBetween g.E.Ord.cmp above (Some b) all) above
          (subst (λ (top : Option g.row.E.Denot). OnceBetween g.E.Ord.cmp old.above top all) c.in-Some.is
          (gathers_once g.E.Ord.cmp g.met.E.Ord.total old all c.put_in_order.new.items.items old_was c.put_in_order.ensures.counts up)),
      begun c.clear.new.self.items inside.half c.args.self.now.half (Some b) c.clear.ensures.items half,
    )
