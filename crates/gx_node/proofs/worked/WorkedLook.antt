-- The search that was held is still a look once others have split its page.
use Rattle.std.proofs.Common.{refl, ◌≡◌, ℕ, zero, suc, ◌+◌, ◌≤◌, Bool, true, not, ◌&&◌, List, [], ◌∷◌, arith}
use Rattle.std.specs.Prelude.{◌==◌, nat_le}
use Rattle.std.proofs.lemmas.Bool.{and_parts, and_from, leb-true, le-leb}
use Rattle.gx_node.specs.Lists.{one_if, Each}
use Rattle.gx_node.specs.Trees.{Pair, Child, Used}
use Rattle.gx_node.specs.Reach.{ends, goes}
use Rattle.gx_node.specs.Looks.{ItemFits, IsLook, LeadsTo}
use Rattle.gx_node.specs.Writes.{IsSeek}
use Rattle.gx_node.specs.Worked.{Box, box, box_covers, boxes, held_end, near_origin, wanted_near_origin}
use Rattle.gx_node.proofs.Chains.{one_off}
use Rattle.gx_node.proofs.worked.WorkedSteps.{corners}

held_item : ItemFits held_end (record { page = 2; seen = 0 })
held_item = record {
  seen = omega arith;
  run = goes (omega arith, omega arith) (omega arith) (goes (omega arith, omega arith) (omega arith) (ends (omega arith, omega arith) (omega arith)));
}

off_once : (l : ℕ) → one_if (2 == l) + (one_if (4 == l) + (one_if (3 == l) + 0)) ≤ 1
off_once zero = omega arith
off_once (suc zero) = omega arith
off_once (suc (suc zero)) = omega arith
off_once (suc (suc (suc zero))) = omega arith
off_once (suc (suc (suc (suc zero)))) = omega arith
off_once (suc (suc (suc (suc (suc l))))) =
    let a = one_off 2 (suc (suc (suc (suc (suc l))))) (λ e. (omega (arith, e))) in
    let b = one_off 4 (suc (suc (suc (suc (suc l))))) (λ e. (omega (arith, e))) in
    let c = one_off 3 (suc (suc (suc (suc (suc l))))) (λ e. (omega (arith, e))) in
    omega (arith, a, b, c)

pub held_look : IsLook held_end wanted_near_origin (record { page = 2; seen = 0 } ∷ []) []
held_look = record {
  items = (held_item, tt);
  complete = λ test. omega arith;
  once = λ l. (let most = off_once l in omega (arith, most));
}

leads_by : (b k : Box) (w : Bool) → (w && near_origin k) ≡ true → box_covers b k ≡ true → near_origin b ≡ true
leads_by b k w wanted covers =
    let near = (and_parts w (near_origin k) wanted).1 in
    let parts = and_parts (nat_le k.x1 5) (nat_le k.y1 5) near in
    let p = leb-true k.x1 5 parts.0 in
    let q = leb-true k.y1 5 parts.1 in
    let c = corners b k covers in
    let x = c.0 in let y = c.1 in
    and_from (nat_le b.x1 5) (nat_le b.y1 5) (le-leb b.x1 5 (omega (arith, p, x))) (le-leb b.y1 5 (omega (arith, q, y)))

pub held_leads : LeadsTo boxes held_end wanted_near_origin near_origin
held_leads p u = every (held_end.node p).children
  where
    pairs_of : (b : Box) (xs : List (Pair Box)) → Each (λ x. wanted_near_origin x ≡ true → box_covers b x.key ≡ true → near_origin b ≡ true) xs
    pairs_of b [] = tt
    pairs_of b (x ∷ xs) = ((λ wanted covers. leads_by b x.key (not x.marked) wanted covers), pairs_of b xs)

    every : (cs : List (Child Box)) → Each (λ c. (q : ℕ) → Used held_end q
        → Each (λ x. wanted_near_origin x ≡ true → box_covers c.key x.key ≡ true → near_origin c.key ≡ true) (held_end.node q).pairs) cs
    every [] = tt
    every (c ∷ cs) = ((λ q taken. pairs_of c.key (held_end.node q).pairs), every cs)

pub held_seek : IsSeek boxes held_end 2 2 (box 0 0 1 1)
held_seek = record {
  chain =
      (refl, (omega arith, omega arith), refl, (refl, (omega arith, omega arith), refl, (refl, (omega arith, omega arith), refl, refl)));
  stands = omega arith;
}
