use Rattle.std.proofs.Common.{◌++◌, ◌∷◌, [], List, subst, sym, rules}
use Rattle.gx_legality.specs.Gathered.{Gathered, Gathers, Halves, StandsTwice, IsAfter, IsUpTo}
use Rattle.gx_legality.proofs.Passes.{gathers_more, gathers_half, gathers_twice}
use Rattle.gx_legality.proofs.gather.Gather.offer.Goals as goal

pub returns-then-len-self-clause-gathers : goal.returns-then-len-self-clause-gathers
returns-then-len-self-clause-gathers g c = λ all rest was.
    let inside = c.self.inside in
    let old : Gathered g.row.E.Denot = record { kept = inside.kept.items; above = inside.above; top = inside.top; half = inside.half } in
    let old_was : Gathers g.E.Ord.cmp old all (c.args.item ∷ rest) = search rules in
    let after : IsAfter g.E.Ord.cmp inside.above c.args.item = search rules in
    let low : IsUpTo g.E.Ord.cmp inside.top c.args.item = search rules in
    subst (λ (kept : List g.row.E.Denot). Gathers g.E.Ord.cmp (record { kept = kept; above = inside.above; top = inside.top; half = inside.half }) all rest)
    (sym c.append.ensures.items) (gathers_more g.E.Ord.cmp g.met.E.Ord.total old all rest c.args.item after low old_was)

pub returns-in-Some-clause-gathers : goal.returns-in-Some-clause-gathers
returns-in-Some-clause-gathers g c = λ all rest was.
    let inside = c.self.inside in
    let old : Gathered g.row.E.Denot = record { kept = inside.kept.items; above = inside.above; top = inside.top; half = inside.half } in
    let more : Gathered g.row.E.Denot = record { kept = inside.kept.items ++ c.args.item ∷ []; above = inside.above; top = inside.top; half = inside.half } in
    let old_was : Gathers g.E.Ord.cmp old all (c.args.item ∷ rest) = search rules in
    let after : IsAfter g.E.Ord.cmp inside.above c.args.item = search rules in
    let low : IsUpTo g.E.Ord.cmp inside.top c.args.item = search rules in
    let halves : Halves g.E.Ord.cmp more.kept c.halve.new.items.items c.in-Some.top =
    subst (λ (kept : List g.row.E.Denot). Halves g.E.Ord.cmp kept c.halve.new.items.items c.in-Some.top) c.append.ensures.items c.in-Some.ensures.halves in
    gathers_half g.E.Ord.cmp g.met.E.Ord.total more all rest c.halve.new.items.items c.in-Some.top halves
    (gathers_more g.E.Ord.cmp g.met.E.Ord.total old all rest c.args.item after low old_was)

pub returns-in-None-clause-gathers : goal.returns-in-None-clause-gathers
returns-in-None-clause-gathers g c = λ all rest was.
    let inside = c.self.inside in
    let old : Gathered g.row.E.Denot = record { kept = inside.kept.items; above = inside.above; top = inside.top; half = inside.half } in
    let more : Gathered g.row.E.Denot = record { kept = inside.kept.items ++ c.args.item ∷ []; above = inside.above; top = inside.top; half = inside.half } in
    let old_was : Gathers g.E.Ord.cmp old all (c.args.item ∷ rest) = search rules in
    let after : IsAfter g.E.Ord.cmp inside.above c.args.item = search rules in
    let low : IsUpTo g.E.Ord.cmp inside.top c.args.item = search rules in
    let twice : StandsTwice g.E.Ord.cmp more.kept = subst (λ (kept : List g.row.E.Denot). StandsTwice g.E.Ord.cmp kept) c.append.ensures.items c.in-None.ensures.halves in
    gathers_twice g.E.Ord.cmp g.met.E.Ord.total more all rest
    (gathers_more g.E.Ord.cmp g.met.E.Ord.total old all rest c.args.item after low old_was) twice
