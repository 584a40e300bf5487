-- The split of a list in halves by slot.
use Rattle.std.proofs.Common.{◌≡◌, ℕ, zero, suc, ◌-◌, ◌*◌, ◌/◌, ◌≤◌, Bool, true, false, cond, not, refl, ap, arith, List, ◌++◌, replicate, count_by}
use Rattle.std.proofs.lemmas.List.{length-append, length-replicate}
use Rattle.std.proofs.lemmas.List.Sums.{sum_by-cons, sum_by-append}
use Rattle.gx_class.specs.Sides.{LeavesEach}

-- the first half of n slots, with the odd one, and then the other
abbrev pub halves : ℕ → List Bool
halves n = replicate (n - n / 2) false ++ replicate (n / 2) true

-- what a count of like sides comes to
counted : (p : Bool → Bool) (n : ℕ) (side t : Bool) → p side ≡ t → count_by p (replicate n side) ≡ cond t n 0
counted p zero side true h = refl
counted p zero side false h = refl
counted p (suc n) side true h =
    let first = sum_by-cons (λ s. cond (p s) 1 0) side (replicate n side) in
    let one : (let k : ℕ = cond (p side) 1 0 in k) ≡ 1 = ap (λ t. cond t 1 0) h in
    let rest = counted p n side true h in
    omega (arith, first, one, rest)
counted p (suc n) side false h =
    let first = sum_by-cons (λ s. cond (p s) 1 0) side (replicate n side) in
    let none : (let k : ℕ = cond (p side) 1 0 in k) ≡ 0 = ap (λ t. cond t 1 0) h in
    let rest = counted p n side false h in
    omega (arith, first, none, rest)

pub halves_leave_each : (n least : ℕ) → 2 * least ≤ n → LeavesEach n least (halves n)
halves_leave_each n least enough =
    let first = replicate (n - n / 2) false in
    let second = replicate (n / 2) true in
    let long = length-append first second in
    let long_first = length-replicate (n - n / 2) false in
    let long_second = length-replicate (n / 2) true in
    let all_not = sum_by-append (λ s. cond (not s) 1 0) first second in
    let all = sum_by-append (λ s. cond s 1 0) first second in
    let not_first = counted not (n - n / 2) false true refl in
    let yes_second = counted (λ s. s) (n / 2) true true refl in
    record {
      each_has_one = omega (arith, long, long_first, long_second);
      first_has = omega (arith, all_not, not_first);
      second_has = omega (arith, all, yes_second);
    }
