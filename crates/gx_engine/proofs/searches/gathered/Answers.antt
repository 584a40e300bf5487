use Rattle.std.proofs.Common.{◌≡◌, List, [], ◌∷◌, map, refl, ap, ◌∙◌}
use Rattle.gx_machine.specs.declared.entry.Entry.{Entry}
use Rattle.gx_machine.specs.Keys.{Keys, keys}
use Rattle.gx_index_laws.specs.Classes.{entry_of}
use Rattle.gx_events.specs.Engines.{gathered}
use Rattle.gx_tree.specs.declared.found.Found.{Found}
use Rattle.gx_tree.specs.Found.{pairs_found}
use Rattle.gx_engine.proofs.searches.gathered.Goals as goal

-- the entries of what was found are those of its pairs
of_pairs : {B : Type 0} (found : List (Found B)) → map (λ (one : Found B). one.entry) found ≡ map entry_of (pairs_found found)
of_pairs [] = refl
of_pairs {B} (one ∷ found) = ap (λ (es : List (Entry B)). one.entry ∷ es) (of_pairs found)

put_in_order : {B : Type 0} (k : Keys B) (found : List (Found B)) (entries set : List (Entry B)) → entries ≡ map (λ (one : Found B). one.entry) found
    → set ≡ gathered k entries → set ≡ gathered k (map entry_of (pairs_found found))
put_in_order k found entries set are is = is ∙ ap (gathered k) (are ∙ of_pairs found)

pub returns : goal.returns
returns g c =
    put_in_order (keys g.B.Ord.cmp g.B.Shape.overlap g.B.Shape.inside) c.args.found.now _ _ c.in_ok-set.ensures c.put_in_order.ensures.items
