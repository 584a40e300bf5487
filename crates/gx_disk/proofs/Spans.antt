-- What is read of a list of bytes: spans, sectors, and what a write leaves of them.
use Rattle.std.proofs.Common.{◌≡◌, ◌∙◌, sym, ap, refl, ◌⊎◌, inl, inr, ℕ, zero, suc, ◌+◌, ◌*◌, ◌≤◌, List, ◌++◌, length, take, drop, false, Bool, arith}
use Rattle.std.proofs.lemmas.List.{take_at, drop_at, take-take, drop-drop, drop-take, take-append-le, take-append-drop, drop-append-le, length-take-le, length-drop, length-append}
use Rattle.std.proofs.lemmas.Slice.{drop-put_mid}
use Rattle.gx_disk.specs.Sectors.{span_of, sector_of, put, IsWithin, IsOutside}
use Rattle.gx_disk.specs.Device.{Device, IsImage, Touches}

-- a span of m + n bytes is one of m and one of n
pub take_two : (m n : ℕ) (xs : List ℕ) → take (m + n) xs ≡ take m xs ++ take n (drop m xs)
take_two m n xs = sym (take-append-drop m (take (m + n) xs)) ∙ rw (take-take m (m + n) xs (omega arith), drop-take m n xs) refl

-- a write keeps the length
pub length-put : (at : ℕ) (new xs : List ℕ) → at + length new ≤ length xs → length (put at new xs) ≡ length xs
unfolding put
length-put at new xs fits =
    let rest : List ℕ = drop (length new) (drop at xs) in
    omega (arith, length-append (take at xs) (new ++ rest), length-append new rest, length-drop (length new) (drop at xs), length-drop at xs, length-take-le at xs (omega arith))

-- what was written is read back
pub put_back : (at : ℕ) (new xs : List ℕ) → at + length new ≤ length xs → take (length new) (drop at (put at new xs)) ≡ new
unfolding put
put_back at new xs fits =
    let rest : List ℕ = drop (length new) (drop at xs) in
    rw (drop_at (take at xs) (new ++ rest) at (length-take-le at xs (omega arith))) (take_at new rest (length new) refl)

-- what lies before is unchanged
pub put_before : (at : ℕ) (new xs : List ℕ) (b n : ℕ) → b + n ≤ at → at ≤ length xs → take n (drop b (put at new xs)) ≡ take n (drop b xs)
unfolding put
put_before at new xs b n below fits =
    let rest : List ℕ = new ++ drop (length new) (drop at xs) in
    let front = take-append-le (b + n) (take at xs) rest (omega (arith, length-take-le at xs fits)) ∙ take-take (b + n) at xs below in
    sym (drop-take b n (take at xs ++ rest)) ∙ ap (drop b) front ∙ drop-take b n xs

-- what comes after is unchanged
pub put_behind : (at : ℕ) (new xs : List ℕ) (b : ℕ) → at + length new ≤ b → at ≤ length xs → drop b (put at new xs) ≡ drop b xs
unfolding put
put_behind at new xs b above fits = drop-put_mid at (length new) xs new b above fits refl

-- The first m bytes put back give the list back, if only they had changed, and bytes that were rewritten with the
-- same values.
pub put_restores : (at m : ℕ) (xs ys : List ℕ) → at + m ≤ length xs → take at ys ≡ take at xs → drop m (drop at ys) ≡ drop m (drop at xs) → put at (take m (drop at xs)) ys ≡ xs
unfolding put
put_restores at m xs ys fits front rest =
    let size : length (take m (drop at xs)) ≡ m = length-take-le m (drop at xs) (omega (arith, length-drop at xs)) in
    rw (size, front, rest, take-append-drop m (drop at xs)) (take-append-drop at xs)

-- spans of n sectors are the same if each of the sectors is
pub spans_same : (n first : ℕ) (xs ys : List ℕ) → ((s : ℕ) → IsWithin first n s → sector_of xs s ≡ sector_of ys s) → span_of xs first (512 * n) ≡ span_of ys first (512 * n)
unfolding span_of sector_of
spans_same zero first xs ys same = refl
spans_same (suc n) first xs ys same =
    let size : 512 * suc n ≡ 512 + 512 * n = omega arith in
    let place : 512 * suc first ≡ 512 * first + 512 = omega arith in
    let here = same first (record { from = omega arith; below = omega arith }) in
    let rest = spans_same n (suc first) xs ys (λ s within. same s (record { from = omega (arith, within.from); below = omega (arith, within.below) })) in
    let next : (zs : List ℕ) → drop 512 (drop (512 * first) zs) ≡ drop (512 * suc first) zs = λ zs. drop-drop 512 (512 * first) zs ∙ ap (λ k. drop k zs) (sym place) in
    rw size (take_two 512 (512 * n) (drop (512 * first) xs) ∙ rw (here, next xs, rest, ← next ys) (sym (take_two 512 (512 * n) (drop (512 * first) ys))))

-- an image has what is seen of sectors that are settled
pub image_span : (n first : ℕ) (seen : List ℕ) (pending : ℕ → Bool) (image : List ℕ) → IsImage seen pending image → ((s : ℕ) → IsWithin first n s → pending s ≡ false)
    → span_of image first (512 * n) ≡ span_of seen first (512 * n)
image_span n first seen pending image may settled = spans_same n first image seen (λ s within. may.settled s (settled s within))

-- the n sectors from first on are none of the m from other on
abbrev pub AreApart : ℕ → ℕ → ℕ → ℕ → Type 0
AreApart first n other m = (first + n ≤ other) ⊎ (other + m ≤ first)

-- a sector of one of two spans that are apart lies outside the other
pub apart_outside : (first n other m s : ℕ) → AreApart first n other m → IsWithin other m s → IsOutside first n s
apart_outside first n other m s (inl below) within = inr (omega (arith, within.from))
apart_outside first n other m s (inr above) within = inl (omega (arith, within.below))

-- a span that a call doesn't touch reads as before
pub touched_span : (first n other m : ℕ) (old new : Device) → Touches first n old new → AreApart first n other m → span_of new.seen other (512 * m) ≡ span_of old.seen other (512 * m)
touched_span first n other m old new touches apart = spans_same m other new.seen old.seen (λ s within. touches.bytes s (apart_outside first n other m s apart within))

-- an outside sector reads as before a write
pub put_outside : (first n s : ℕ) (new xs : List ℕ) → length new ≡ 512 * n → 512 * first + length new ≤ length xs → IsOutside first n s → sector_of (put (512 * first) new xs) s ≡ sector_of xs s
unfolding sector_of
put_outside first n s new xs size fits (inl below) = put_before (512 * first) new xs (512 * s) 512 (omega arith) (omega arith)
put_outside first n s new xs size fits (inr above) = ap (take 512) (put_behind (512 * first) new xs (512 * s) (omega arith) (omega arith))

-- a write whose last bytes are what was there is undone by the first m bytes that it overwrote
pub put_trimmed : (at m : ℕ) (new xs : List ℕ) → at + length new ≤ length xs → m ≤ length new → drop m (take (length new) (drop at xs)) ≡ drop m new → put at (take m (drop at xs)) (put at new xs) ≡ xs
unfolding put
put_trimmed at m new xs fits few same =
    let D : List ℕ = drop at xs in
    let rest : List ℕ = drop (length new) D in
    let front : take at (put at new xs) ≡ take at xs = take_at (take at xs) (new ++ rest) at (length-take-le at xs (omega arith)) in
    let behind : drop at (put at new xs) ≡ new ++ rest = drop_at (take at xs) (new ++ rest) at (length-take-le at xs (omega arith)) in
    let long : length (take (length new) D) ≡ length new = length-take-le (length new) D (omega (arith, length-drop at xs)) in
    let tail : drop m (drop at (put at new xs)) ≡ drop m D =
    ap (drop m) behind ∙ drop-append-le m new rest few ∙ ap (λ ys. ys ++ rest) (sym same)
    ∙ sym (drop-append-le m (take (length new) D) rest (omega arith)) ∙ ap (drop m) (take-append-drop (length new) D) in
    put_restores at m xs (put at new xs) (omega arith) front tail

-- lists that agree on k bytes from m on, and on those after them, agree from m on
pub rest_agrees : (m k n : ℕ) (xs ys : List ℕ) → n ≡ m + k → take k (drop m xs) ≡ take k (drop m ys) → drop n xs ≡ drop n ys → drop m xs ≡ drop m ys
rest_agrees m k n xs ys end here behind =
    let parts : (zs : List ℕ) → take k (drop m zs) ++ drop n zs ≡ drop m zs =
    λ zs. ap (λ rest. take k (drop m zs) ++ rest) (ap (λ j. drop j zs) end ∙ sym (drop-drop k m zs)) ∙ take-append-drop k (drop m zs) in
    sym (parts xs) ∙ rw (here, behind) refl ∙ parts ys
