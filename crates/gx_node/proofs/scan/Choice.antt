-- The order of penalties, and a choice at work: what is left of the heap, and the best bound of the items before.
use Rattle.std.proofs.Common.{◌≡◌, ◌∙◌, ◌+◌, ◌<◌, ◌≤◌, ℕ, List, [], ap, sym, arith, map, length, drop, get_or, true, false}
use Rattle.std.specs.Cmp.{IsStrictWeakOrder}
use Rattle.std.specs.List.{IsFirstBest}
use Rattle.std.proofs.lemmas.Bool.Decides.{nat_tests}
use Rattle.std.proofs.lemmas.List.{get_or-map, length-map}
use Rattle.std.proofs.lemmas.List.MinMax.{IsFirstBest-none, IsFirstBest-keeps, IsFirstBest-takes}
use Rattle.gx_page.specs.Format.{heap}
use Rattle.gx_node.specs.Hits.{costs_less}

pub costs_rank : IsStrictWeakOrder costs_less
costs_rank = record {
  one_way = λ x y e. grind (arith, nat_tests);
  chain = λ x y z e h. grind (arith, nat_tests);
}

-- what is left of the heap is that of the items from a slot on, and the best of those before costs the least
pub record IsChoice (cost : List ℕ → ℕ × ℕ) (items : List (List ℕ)) (slot : ℕ) (rest : List ℕ) (slot_best : ℕ) (cost_best : ℕ × ℕ) : Type 0 where
  pub left : rest ≡ heap (drop slot items)
  pub best : IsFirstBest costs_less (map cost items) slot slot_best
  pub least : cost_best ≡ get_or (map cost items) slot_best cost_best

pub choice_begins : (cost : List ℕ → ℕ × ℕ) (items : List (List ℕ)) (rest item : List ℕ) (least : ℕ × ℕ)
    → rest ≡ heap (drop 1 items) → item ≡ get_or items 0 [] → 1 ≤ length items → least ≡ cost item → IsChoice cost items 1 rest 0 least
choice_begins cost items rest item least left first some is = record {
  left = left;
  best = IsFirstBest-none costs_rank (map cost items);
  least = is ∙ ap cost first ∙ sym (get_or-map cost items 0 [] least (omega arith));
}

pub choice_keeps : (cost : List ℕ → ℕ × ℕ) (items : List (List ℕ)) (slot : ℕ) (rest front item : List ℕ) (best : ℕ) (least penalty : ℕ × ℕ)
    → slot < length items → IsChoice cost items slot rest best least → front ≡ heap (drop (slot + 1) items) → item ≡ get_or items slot []
    → penalty ≡ cost item → costs_less penalty least ≡ false → IsChoice cost items (slot + 1) front best least
choice_keeps cost items slot rest front item best least penalty here choice left at is more = record {
  left = left;
  best = IsFirstBest-keeps costs_rank (map cost items) slot best penalty least choice.best (omega (arith, length-map items cost))
      (is ∙ ap cost at ∙ sym (get_or-map cost items slot [] penalty here)) choice.least more;
  least = choice.least;
}

pub choice_takes : (cost : List ℕ → ℕ × ℕ) (items : List (List ℕ)) (slot : ℕ) (rest front item : List ℕ) (best : ℕ) (least penalty : ℕ × ℕ)
    → slot < length items → IsChoice cost items slot rest best least → front ≡ heap (drop (slot + 1) items) → item ≡ get_or items slot []
    → penalty ≡ cost item → costs_less penalty least ≡ true → IsChoice cost items (slot + 1) front slot penalty
choice_takes cost items slot rest front item best least penalty here choice left at is less =
    let found = is ∙ ap cost at ∙ sym (get_or-map cost items slot [] penalty here) in
    record {
      left = left;
      best = IsFirstBest-takes costs_rank (map cost items) slot best penalty least choice.best (omega (arith, length-map items cost)) found choice.least less;
      least = found;
    }
