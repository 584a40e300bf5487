-- What a buffer has after a record was put into it, and after it was cleared.
use Rattle.std.proofs.Common.{◌≡◌, ◌∙◌, sym, ap, refl, subst, ℕ, ◌+◌, ◌-◌, ◌^◌, ◌<◌, ◌≤◌, List, ◌++◌, length, take, drop, get_or, replicate, slice_set, ⊎_elim, arith}
use Rattle.std.proofs.lemmas.Bool.{cases_lt}
use Rattle.std.proofs.lemmas.List.{append-nil, drop_all, take_at, drop-append-le, length-take-le, length-drop, length-append, drop-take, drop-drop, append_assoc, get_or-take, get_or-drop, get_or_append_left, get_or-append_right, get_or-replicate, length-replicate, length-set, get_or-set_same, get_or-set_other, get_or_past}
use Rattle.gx_disk.specs.Sectors.{put}
use Rattle.gx_disk.proofs.Spans.{length-put, put_back, put_behind}
use Rattle.gx_record.specs.Bytes.{u32_bytes, u32_of}
use Rattle.gx_record.proofs.Numbers.{length-u32_bytes, u32_again}
use Rattle.gx_glog.specs.declared.extent.TheConstants.{BODY_SIZE}
use Rattle.gx_glog.specs.declared.extent.Extent.{Extent}
use Rattle.gx_glog.specs.declared.extent.Extent.TheVariants.{A, B}
use Rattle.gx_glog.specs.First.{selector_bytes}
use Rattle.gx_glog.specs.Layout.{size_in, records_in}
use Rattle.gx_glog.specs.Turning.{selector_of, IsSelector}
use Rattle.gx_glog.specs.Bodies.{IsZero, IsFilled, IsBody, IsOpenGate}

-- nothing comes after bytes that are put at a list's end
pub put_tail : (end n : ℕ) (xs new : List ℕ) → length xs ≤ end + n → (take end xs ++ (new ++ drop n (drop end xs))) ≡ take end xs ++ new
put_tail end n xs new le = ap (λ rest. take end xs ++ (new ++ rest)) (drop_all n (drop end xs) (omega (arith, length-drop end xs))) ∙ ap (λ ys. take end xs ++ ys) (append-nil new)

-- the bytes between the first four and the end, with a record's after them
pub put_fills : (end : ℕ) (new xs : List ℕ) → 4 ≤ end → end + length new ≤ length xs
    → (take (end + length new - 4) (drop 4 (put end new xs)) ≡ take (end - 4) (drop 4 xs) ++ new) × (length (put end new xs) ≡ length xs)
unfolding put
put_fills end new xs four fits =
    let rest : List ℕ = drop (length new) (drop end xs) in
    let front : List ℕ = take end xs in
    let size : length front ≡ end = length-take-le end xs (omega arith) in
    let split : end ≡ 4 + (end - 4) = omega arith in
    let head : drop 4 front ≡ take (end - 4) (drop 4 xs) = ap (λ k. drop 4 (take k xs)) split ∙ drop-take 4 (end - 4) xs in
    let there : drop 4 (front ++ (new ++ rest)) ≡ (drop 4 front ++ new) ++ rest = drop-append-le 4 front (new ++ rest) (omega arith) ∙ sym (append_assoc (drop 4 front) new rest) in
    let long : length (drop 4 front ++ new) ≡ end + length new - 4 = length-append (drop 4 front) new ∙ omega (arith, length-drop 4 front, size) in
    (ap (take (end + length new - 4)) there ∙ take_at (drop 4 front ++ new) rest (end + length new - 4) long ∙ ap (λ ys. ys ++ new) head, length-put end new xs fits)

-- what the size's four bytes say; nothing after them changes
pub sized : (at n : ℕ) (xs : List ℕ) → at ≡ 0 → n < 2 ^ 32 → 4 ≤ length xs
    → (length (put at (u32_bytes n) xs) ≡ length xs) × (size_in (put at (u32_bytes n) xs) ≡ n) × ((k : ℕ) → 4 ≤ k → drop k (put at (u32_bytes n) xs) ≡ drop k xs)
unfolding size_in u32_of
sized at n xs front small room =
    let four : length (u32_bytes n) ≡ 4 = length-u32_bytes n in
    let fits : at + length (u32_bytes n) ≤ length xs = omega arith in
    let here : drop 0 (put at (u32_bytes n) xs) ≡ drop at (put at (u32_bytes n) xs) = ap (λ k. drop k (put at (u32_bytes n) xs)) (sym front) in
    let first : take 4 (put at (u32_bytes n) xs) ≡ u32_bytes n =
    ap (take 4) here ∙ ap (λ k. take k (drop at (put at (u32_bytes n) xs))) (sym four) ∙ put_back at (u32_bytes n) xs fits in
    (length-put at (u32_bytes n) xs fits, rw first (u32_again n small), λ k from. put_behind at (u32_bytes n) xs k (omega arith) (omega arith))

-- if no byte from a place on is other than 0, none from a later one on is
pub later_zero : (end n : ℕ) (xs : List ℕ) → IsZero (drop end xs) → IsZero (drop (end + n) xs)
later_zero end n xs zeros k =
    ap (λ ys. get_or ys k 0) (sym (drop-drop n end xs)) ∙ get_or-drop n (drop end xs) k 0 ∙ zeros (n + k)

-- a buffer with a record and the new size is filled as far as the record goes, and has it after those that were there
pub pushed : (end size : ℕ) (new bytes put_there after : List ℕ) → IsFilled end bytes → size ≡ length new → end + length new ≤ length bytes
    → put_there ≡ put end new bytes → after ≡ put 0 (u32_bytes (end + size - 4)) put_there
    → IsFilled (end + size) after × (take (end + size - 4) (drop 4 after) ≡ take (end - 4) (drop 4 bytes) ++ new)
pushed end size new bytes put_there after filled is fits there behind =
    let long : length put_there ≡ BODY_SIZE = ap length there ∙ length-put end new bytes fits ∙ filled.whole in
    let size_put = sized 0 (end + size - 4) put_there refl (omega (arith, filled.whole)) (omega arith) in
    let tail : (k : ℕ) → 4 ≤ k → drop k after ≡ drop k put_there = λ k from. ap (drop k) behind ∙ size_put.2 k from in
    let rest : drop (end + size) put_there ≡ drop (end + size) bytes =
    ap (drop (end + size)) there ∙ put_behind end new bytes (end + size) (omega arith) (omega arith) in
    let zero : IsZero (drop (end + size) after) =
    (let Z : List ℕ → Type 0 = IsZero in subst Z (sym (tail (end + size) (omega (arith, filled.from)) ∙ rest)) (later_zero end size bytes filled.zeros)) in
    let fills : take (end + length new - 4) (drop 4 put_there) ≡ take (end - 4) (drop 4 bytes) ++ new =
    ap (λ ys. take (end + length new - 4) (drop 4 ys)) there ∙ (put_fills end new bytes filled.from fits).0 in (
      record {
        from = omega (arith, filled.from);
        to = omega (arith, filled.whole);
        whole = ap length behind ∙ size_put.0 ∙ long;
        size = ap size_in behind ∙ size_put.1;
        zeros = zero;
      },
      ap (λ n. take (end + n - 4) (drop 4 after)) is ∙ ap (take (end + length new - 4)) (tail 4 (omega arith)) ∙ fills,
    )

-- a buffer of zeros has no records
pub zero_filled : (bytes : List ℕ) → length bytes ≡ BODY_SIZE → IsZero bytes → IsFilled 4 bytes
unfolding size_in
zero_filled bytes whole zeros =
    let byte : (i : ℕ) → i < 4 → get_or (take 4 bytes) i 0 ≡ 0 = λ i less. get_or-take 4 bytes i 0 less ∙ zeros i in
    record {
      from = omega arith;
      to = omega arith;
      whole = whole;
      size = omega (arith, byte 0 (omega arith), byte 1 (omega arith), byte 2 (omega arith), byte 3 (omega arith));
      zeros = λ k. get_or-drop 4 bytes k 0 ∙ zeros (4 + k);
    }

-- a filled buffer is the body of its records
pub filled_body : (end : ℕ) (bytes : List ℕ) → IsFilled end bytes → IsBody (take (end - 4) (drop 4 bytes)) bytes
unfolding records_in
filled_body end bytes filled =
    let few : length (take (end - 4) (drop 4 bytes)) ≡ end - 4 = length-take-le (end - 4) (drop 4 bytes) (omega (arith, length-drop 4 bytes, filled.whole, filled.to)) in
    let there : 4 + length (take (end - 4) (drop 4 bytes)) ≡ end = omega (arith, filled.from) in
    record {
      whole = filled.whole;
      has = record { size = filled.size ∙ sym few; bytes = ap (λ n. take n (drop 4 bytes)) filled.size };
      zeros = (let Z : ℕ → Type 0 = λ k. IsZero (drop k bytes) in subst Z (sym there) filled.zeros);
    }

-- zeros, and then bytes of which none is other than 0
pub zeros_before : (n : ℕ) (part rest : List ℕ) → part ≡ replicate n 0 → IsZero rest → IsZero (part ++ rest)
zeros_before n part rest is zeros k =
    let long : length part ≡ n = ap length is ∙ length-replicate n 0 in
    ⊎_elim
    (λ (less : k < n). get_or_append_left part rest 0 k (omega arith) ∙ ap (λ (ys : List ℕ). get_or ys k 0) is ∙ get_or-replicate n k 0 0 less)
    (λ (from : n ≤ k). get_or-append_right part rest n k 0 long from ∙ zeros (k - n))
    (cases_lt k n)

-- no byte of zeros is other than 0
pub replicated_zero : (n k : ℕ) → get_or (replicate {A = ℕ} n 0) k 0 ≡ 0
replicated_zero n k =
    let size : length (replicate {A = ℕ} n 0) ≡ n = length-replicate {A = ℕ} n 0 in
    ⊎_elim (λ (less : k < n). get_or-replicate n k 0 0 less) (λ (from : n ≤ k). get_or_past (replicate n 0) k 0 (omega (arith, size))) (cases_lt k n)

-- a sector of zeros but for the first byte
record IsMarked (byte : ℕ) (bytes : List ℕ) : Type 0 where
  pub whole : length bytes ≡ 512
  pub first : get_or bytes 0 0 ≡ byte
  pub zeros : (k : ℕ) → 0 < k → get_or bytes k 0 ≡ 0

marked : (n byte : ℕ) (bytes : List ℕ) → n ≡ 512 → bytes ≡ slice_set (replicate n 0) 0 byte → IsMarked byte bytes
marked n byte bytes whole is =
    let size : length (replicate {A = ℕ} n 0) ≡ n = length-replicate {A = ℕ} n 0 in
    record {
      whole = ap length is ∙ length-set (replicate n 0) 0 byte ∙ size ∙ whole;
      first = ap (λ (ys : List ℕ). get_or ys 0 0) is ∙ get_or-set_same (replicate n 0) 0 byte 0 (omega (arith, size, whole));
      zeros = λ k from. ap (λ (ys : List ℕ). get_or ys k 0) is ∙ get_or-set_other (replicate n 0) 0 k byte 0 (λ same. absurd (omega arith)) ∙ replicated_zero n k;
    }

-- the sector of an open gate, and that of a selector
pub gate_is : (n : ℕ) (bytes : List ℕ) → n ≡ 512 → bytes ≡ slice_set (replicate n 0) 0 0xA7 → IsOpenGate bytes
gate_is n bytes whole is = let is_marked = marked n 0xA7 bytes whole is in record { whole = is_marked.whole; opens = is_marked.first; zeros = is_marked.zeros }

pub selector_is : (extent : Extent) (n byte : ℕ) (bytes : List ℕ) → n ≡ 512 → byte ≡ selector_of extent → bytes ≡ slice_set (replicate n 0) 0 byte → IsSelector extent bytes
selector_is extent n byte bytes whole selects is = let is_marked = marked n byte bytes whole is in record { whole = is_marked.whole; selects = is_marked.first ∙ selects; zeros = is_marked.zeros }

-- a selector's sector, byte by byte
pub selector_spelled : (extent : Extent) (byte : ℕ) → byte ≡ selector_of extent → slice_set (replicate 512 0) 0 byte ≡ selector_bytes extent
selector_spelled A byte is = rw is refl
selector_spelled B byte is = rw is refl

-- a part has as many bytes as lie between its ends
pub part_size : (from to : ℕ) (xs : List ℕ) → from ≤ to → to ≤ length xs → length (take (to - from) (drop from xs)) ≡ to - from
part_size from to xs order inside = length-take-le (to - from) (drop from xs) (omega (arith, length-drop from xs))

-- a buffer that was wiped up to its end has no records
pub wiped : (end : ℕ) (bytes after : List ℕ) → IsFilled end bytes → after ≡ put 0 (replicate (end - 0) 0) bytes → IsFilled 4 after
unfolding put
wiped end bytes after filled is =
    let n : ℕ = end - 0 in
    let size : length (replicate {A = ℕ} n 0) ≡ n = length-replicate {A = ℕ} n 0 in
    let same : n ≡ end = omega arith in
    let rest : drop (length (replicate {A = ℕ} n 0)) (drop 0 bytes) ≡ drop end bytes = ap (λ k. drop k bytes) (size ∙ same) in
    let zero : IsZero (drop (length (replicate {A = ℕ} n 0)) (drop 0 bytes)) = (let Z : List ℕ → Type 0 = IsZero in subst Z (sym rest) filled.zeros) in
    let all : IsZero after = (let Z : List ℕ → Type 0 = IsZero in subst Z (sym is) (zeros_before n (replicate {A = ℕ} n 0) (drop (length (replicate {A = ℕ} n 0)) (drop 0 bytes)) refl zero)) in
    zero_filled after (ap length is ∙ length-put 0 (replicate n 0) bytes (omega (arith, size, filled.to, filled.whole)) ∙ filled.whole) all
