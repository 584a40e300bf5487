-- Items of one length, cut from the end of their heap.
use Rattle.std.proofs.Common.{◌≡◌, ℕ, ◌+◌, ◌-◌, ◌*◌, ◌<◌, ◌≤◌, List, [], ◌++◌, length, take, drop, get_or, sym, ap, ◌∙◌, arith}
use Rattle.std.proofs.lemmas.List.{take_at, drop_at, take-append-drop, length-append, length-take}
use Rattle.std.proofs.lemmas.List.Elements.{All-take}
use Rattle.std.proofs.Math.Nat.{mul_comm}
use Rattle.gx_page.specs.Format.{heap}
use Rattle.gx_page.specs.Sizes.{AllOfLength}
use Rattle.gx_page.proofs.Changes.{heap-append}
use Rattle.gx_page.proofs.Images.{length-heap}
use Rattle.gx_page.proofs.Scans.{heap_goes_on, total_of_one_length}

-- the heap without its first items
pub heap_front : (items : List (List ℕ)) (size from : ℕ) → AllOfLength size items → from ≤ length items
    → (from * size ≤ length (heap items)) × (take (length (heap items) - from * size) (heap items) ≡ heap (drop from items))
heap_front items size from all h =
    let split : heap items ≡ heap (drop from items) ++ heap (take from items) =
    ap heap (sym (take-append-drop from items)) ∙ heap-append (take from items) (drop from items) in
    let count : length (take from items) ≡ from = omega (arith, length-take from items) in
    let behind : length (heap (take from items)) ≡ from * size =
    length-heap (take from items) ∙ total_of_one_length (take from items) size (All-take (λ item. length item ≡ size) from items all) ∙ ap (λ n. size * n) count ∙ mul_comm size from in
    let whole = ap length split ∙ length-append (heap (drop from items)) (heap (take from items)) in
    let front : length (heap (drop from items)) ≡ length (heap items) - from * size = omega arith in
    (omega arith, ap (λ l. take (length (heap items) - from * size) l) split ∙ take_at (heap (drop from items)) (heap (take from items)) (length (heap items) - from * size) front)

pub record IsCut (rest front item : List ℕ) (size : ℕ) : Type 0 where
  pub room : size ≤ length rest
  pub before : take (length rest - size) rest ≡ front
  pub behind : drop (length rest - size) rest ≡ item

-- one item more is cut off
pub cut_item : (items : List (List ℕ)) (size slot : ℕ) (rest : List ℕ) → AllOfLength size items → slot < length items → rest ≡ heap (drop slot items)
    → IsCut rest (heap (drop (slot + 1) items)) (get_or items slot []) size
cut_item items size slot rest all h is =
    let front = heap (drop (slot + 1) items) in
    let item = get_or items slot [] in
    let parts : rest ≡ front ++ item = is ∙ heap_goes_on items slot h in
    let long : length item ≡ size = all slot [] h in
    let whole = ap length parts ∙ length-append front item in
    let seam : length front ≡ length rest - size = omega arith in
    record {
      room = omega arith;
      before = ap (take (length rest - size)) parts ∙ take_at front item (length rest - size) seam;
      behind = ap (drop (length rest - size)) parts ∙ drop_at front item (length rest - size) seam;
    }

-- one item, by its place: what lies after it is cut off first
pub cut_at : (items : List (List ℕ)) (size slot : ℕ) (whole rest : List ℕ) → AllOfLength size items → slot < length items → whole ≡ heap items
    → rest ≡ take (length whole - slot * size) whole → (slot * size ≤ length whole) × IsCut rest (heap (drop (slot + 1) items)) (get_or items slot []) size
cut_at items size slot whole rest all h is front =
    let behind = heap_front items size slot all (omega (arith, h)) in
    (omega (arith, behind.0, ap length is), cut_item items size slot rest all h (front ∙ ap (λ l. take (length l - slot * size) l) is ∙ behind.1))
