use Rattle.std.proofs.lemmas.Grind.{common_steps}
use Rattle.std.proofs.Common.{◌≡◌, ◌<◌, ◌+◌, ℕ, List, ◌∷◌, ap, sym, ◌∙◌, drop, length, get_or, arith}
use Rattle.std.proofs.lemmas.List.{drop_more}
use Rattle.gx_machine.specs.declared.entry.Entry.{Entry}
use Rattle.gx_machine.specs.Keys.{Keys, keys}
use Rattle.gx_machine.specs.Sets.{including, including_all}
use Rattle.gx_machine.proofs.SetLemmas.{length-including}
use Rattle.gx_machine.proofs.sets.include_all.Goals as goal

-- adding the next entry first changes nothing of what is added in all
next : {B : Type 0} (k : Keys B) (more set new : List (Entry B)) (i : ℕ) (e : Entry B) → i < length more → e ≡ get_or more i e → new ≡ including k e set
    → including_all k (drop (i + 1) more) new ≡ including_all k (drop i more) set
next k more set new i e h is placed =
    ap (including_all k (drop (i + 1) more)) placed
    ∙ sym (ap (λ s. including_all k s set) (drop_more more i e h ∙ ap (λ x. x ∷ drop (i + 1) more) (sym is)))

pub include_within_capacity-requires : goal.include_within_capacity-requires
include_within_capacity-requires g c =
    omega (arith, length-including (keys g.B.Ord.cmp g.B.Shape.overlap g.B.Shape.inside) c.e-item.result c.loop-e.set.items)

pub loop-e-preserved : goal.loop-e-preserved
loop-e-preserved g c = record {
  items = next (keys g.B.Ord.cmp g.B.Shape.overlap g.B.Shape.inside) c.args.more.now c.loop-e.set.items c.include_within_capacity.new.set.items c.loop-e.e-index
      c.e-item.result c.loop-e-test.true c.e-item.is c.include_within_capacity.ensures.items
      ∙ c.loop-e.invariant.items;
  grown = omega arith;
  room = omega arith;
}

pub returns-clause-items : goal.returns-clause-items
returns-clause-items g c = grind (arith, common_steps)
