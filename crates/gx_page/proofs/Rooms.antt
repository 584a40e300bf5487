-- Few items of a bounded length fit.
use Rattle.std.proofs.Common.{◌≡◌, ℕ, suc, ◌+◌, ◌*◌, ◌<◌, ◌≤◌, List, [], ◌∷◌, length, subst, arith}
use Rattle.std.proofs.Math.Nat.{mul-suc, mul_comm, add-mul}
use Rattle.std.proofs.lemmas.Nat.{mul-le}
use Rattle.std.specs.List.{insert}
use Rattle.gx_page.specs.Format.{total, Fits}
use Rattle.gx_page.specs.Sizes.{NoneLonger}
use Rattle.gx_page.proofs.Steps.{inserted_size}

total_bound : (items : List (List ℕ)) (size : ℕ) → NoneLonger size items → total items ≤ size * length items
total_bound [] size all = omega arith
total_bound (x ∷ items) size all =
    let first : length x ≤ size = all 0 [] (omega arith) in
    let rest : total items ≤ size * length items = total_bound items size (λ k d l. all (suc k) d (omega arith)) in
    omega (arith, mul-suc size (length items))

pub few_fit : (items : List (List ℕ)) (item : List ℕ) (slot most size : ℕ) → slot ≤ length items → NoneLonger size items → length item ≤ size
    → length items < most → most * (4 + size) ≤ 4064 → Fits (insert items slot item)
few_fit items item slot most size h all short fewer room =
    let n = length items in
    let more : (4 + size) * suc n ≤ most * (4 + size) = subst (λ m. m ≤ most * (4 + size)) (mul_comm (suc n) (4 + size)) (mul-le (suc n) (4 + size) most (4 + size) (omega arith) (omega arith)) in
    let last : (4 + size) * suc n ≡ (4 + size) * n + (4 + size) = mul-suc (4 + size) n in
    let parts : (4 + size) * n ≡ 4 * n + size * n = add-mul 4 size n in
    omega (arith, inserted_size items slot item h, total_bound items size all)
