-- Lists of bytes cut, joined and written over.
use Rattle.std.proofs.Common.{◌≡◌, ℕ, zero, suc, ◌+◌, ◌-◌, ◌≤◌, Bool, true, false, ◌&&◌, List, [], ◌∷◌, ◌++◌, length, take, drop, replicate, refl, sym, ap, ◌∙◌, arith, append_assoc, length-append, length-take, length-drop, eqb}
use Rattle.std.proofs.lemmas.List.{take_at, drop_at, length-replicate, replicate-append-replicate, drop-drop}
use borrow.Rule.Slice.PartMut.{put_mid}
use Rattle.std.proofs.lemmas.Bool.{eqb-true}
use Rattle.gx_page.specs.Bytes.{zeros, all_zero, overwrite}

pub length-zeros : (n : ℕ) → length (zeros n) ≡ n
unfolding zeros
length-zeros n = length-replicate n 0

pub zeros-append : (n m : ℕ) → zeros n ++ zeros m ≡ zeros (n + m)
unfolding zeros
zeros-append n m = replicate-append-replicate n m 0

pub all_zero-zeros : (n : ℕ) → all_zero (zeros n) ≡ true
unfolding zeros
all_zero-zeros zero = refl
all_zero-zeros (suc n) = all_zero-zeros n

-- both of two tests that hold together
pub both : (a b : Bool) → (a && b) ≡ true → (a ≡ true) × (b ≡ true)
both true b h = (refl, h)
both false b h = cc

pub zeros-from : (bytes : List ℕ) → all_zero bytes ≡ true → bytes ≡ zeros (length bytes)
unfolding zeros
zeros-from [] h = refl
zeros-from (x ∷ bytes) h = let two = both (eqb x 0) (all_zero bytes) h in
    ap (λ (y : ℕ). y ∷ bytes) (eqb-true x 0 two.0) ∙ ap (λ (xs : List ℕ). 0 ∷ xs) (zeros-from bytes two.1)

-- a part in the middle is written over
pub overwrite_mid : (front old back new : List ℕ) (at : ℕ) → length front ≡ at → length old ≡ length new → overwrite (front ++ (old ++ back)) at new ≡ front ++ (new ++ back)
overwrite_mid front old back new at e f =
    let h : length (front ++ old) ≡ at + length new = omega (arith, length-append front old) in
    let t : take at (front ++ (old ++ back)) ≡ front = take_at front (old ++ back) at e in
    let d : drop (at + length new) (front ++ (old ++ back)) ≡ back = ap (λ (xs : List ℕ). drop (at + length new) xs) (sym (append_assoc front old back)) ∙ drop_at (front ++ old) back (at + length new) h in
    ap (λ (xs : List ℕ). xs ++ (new ++ drop (at + length new) (front ++ (old ++ back)))) t ∙ ap (λ (xs : List ℕ). front ++ (new ++ xs)) d

pub length-overwrite : (xs : List ℕ) (at : ℕ) (ys : List ℕ) → at + length ys ≤ length xs → length (overwrite xs at ys) ≡ length xs
length-overwrite xs at ys h = let rest = drop (at + length ys) xs in
    omega (arith, length-append (take at xs) (ys ++ rest), length-append ys rest, length-take at xs, length-drop (at + length ys) xs)

-- one write directly after another
pub overwrite_more : (xs p q : List ℕ) (at : ℕ) → at + length p ≤ length xs → overwrite (overwrite xs at p) (at + length p) q ≡ overwrite xs at (p ++ q)
overwrite_more xs p q at h =
    let front = take at xs in let n = at + length p in let m = n + length q in let rest = drop n xs in
    let whole : overwrite xs at p ≡ (front ++ p) ++ rest = sym (append_assoc front p rest) in
    let size : length (front ++ p) ≡ n = omega (arith, length-append front p, length-take at xs) in
    let behind : drop m ((front ++ p) ++ rest) ≡ drop m xs =
    sym (drop-drop (length q) n ((front ++ p) ++ rest)) ∙ ap (λ (zs : List ℕ). drop (length q) zs) (drop_at (front ++ p) rest n size) ∙ drop-drop (length q) n xs in
    let long : m ≡ at + length (p ++ q) = omega (arith, length-append p q) in
    ap (λ (zs : List ℕ). overwrite zs n q) whole ∙ ap (λ (zs : List ℕ). zs ++ (q ++ drop m ((front ++ p) ++ rest))) (take_at (front ++ p) rest n size) ∙ ap (λ (zs : List ℕ). (front ++ p) ++ (q ++ zs)) behind ∙
    append_assoc front p (q ++ drop m xs) ∙ ap (λ (zs : List ℕ). front ++ zs) (sym (append_assoc p q (drop m xs))) ∙ ap (λ (k : ℕ). front ++ ((p ++ q) ++ drop k xs)) long

-- a part filled with zeros, as a slice's own words say it
pub fill_zeros : (bytes part : List ℕ) (from to : ℕ) → from ≤ to → to ≤ length bytes → part ≡ replicate (to - from) 0 → put_mid from (to - from) bytes part ≡ overwrite bytes from (zeros (to - from))
unfolding zeros
fill_zeros bytes part from to h k e =
    let size : length (replicate (to - from) 0) ≡ to - from = length-replicate (to - from) 0 in
    ap (λ (xs : List ℕ). take from bytes ++ (xs ++ drop (to - from) (drop from bytes))) e ∙
    ap (λ (xs : List ℕ). take from bytes ++ (replicate (to - from) 0 ++ xs)) (drop-drop (to - from) from bytes ∙ ap (λ (n : ℕ). drop (from + n) bytes) (sym size))
