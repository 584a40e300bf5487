use Rattle.std.proofs.lemmas.Grind.{common_steps}
use Rattle.std.proofs.Common.{◌≡◌, List, [], not, ap, sym, ◌∙◌, drop, arith}
use Rattle.std.specs.List.{filter}
use Rattle.std.proofs.lemmas.List.{drop_all}
use Rattle.gx_machine.specs.declared.entry.Entry.{Entry}
use Rattle.gx_machine.specs.Keys.{Keys, keys, IsLawful, matches}
use Rattle.gx_machine.specs.Sets.{has, including_all, excluding_all, found, InOrder}
use Rattle.gx_machine.specs.declared.query.Query.{Query}
use Rattle.gx_machine.proofs.SetLaws.{filter_including_all, in_order_filter}
use Rattle.gx_plain.proofs.views.Filters.{filters_swap}
use Rattle.gx_plain.proofs.views.search.Goals as goal

-- at the loop's end nothing of added is left
ended : {B : Type 0} (k : Keys B) (l : IsLawful k) (q : Query B) (latest added taken first out : List (Entry B)) → InOrder k latest
    → first ≡ excluding_all k taken (found k q latest)
    → including_all k (filter (matches k q) []) out ≡ including_all k (filter (matches k q) added) first
    → out ≡ found k q (including_all k added (excluding_all k taken latest))
ended k l q latest added taken first out o f e =
    e ∙ ap (including_all k (filter (matches k q) added)) (f ∙ filters_swap (λ x. not (has k x taken)) (matches k q) latest)
    ∙ sym (filter_including_all k l (matches k q) added (excluding_all k taken latest) (in_order_filter k l _ latest o))

pub returns : goal.returns
returns g c =
    let k = keys g.B.Ord.cmp g.B.Shape.overlap g.B.Shape.inside in
    let none : drop c.loop-e.e-index c.args.added.now ≡ [] = drop_all c.loop-e.e-index c.args.added.now c.loop-e-test.false in
    ended k (record { total = g.met.B.Ord.total; exact = g.met.B.Shape.same }) c.args.query.now c.args.latest.now c.args.added.now c.args.taken.now
    c.in_ok-out.out.items c.loop-e.out.items c.requires.in_order c.in_ok-out.ensures
    (ap (λ s. including_all k (filter (matches k c.args.query.now) s) c.loop-e.out.items) (sym none) ∙ c.loop-e.invariant)

pub returns-in_err-include : goal.returns-in_err-include
returns-in_err-include g c = grind (arith, common_steps)

pub loop-e-preserved : goal.loop-e-preserved
loop-e-preserved g c = grind (arith, common_steps)
