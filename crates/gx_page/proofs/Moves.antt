-- One step of a directory's move, as the rest of the move says it.
use Rattle.std.proofs.Common.{◌≡◌, ℕ, suc, ◌+◌, ◌-◌, ◌*◌, ◌≤◌, List, ◌++◌, length, take, drop, refl, sym, ap, ◌∙◌, arith, append_assoc, length-append, length-take}
use Rattle.std.proofs.lemmas.List.{drop-drop, drop_at}
use Rattle.gx_page.specs.Bytes.{zeros, spell_16, number_16, number_16_at, overwrite}
use Rattle.gx_page.specs.Edits.{opened, closed, first_length}
use Rattle.gx_page.proofs.Pieces.{overwrite_more, length-overwrite}
use Rattle.gx_page.proofs.Slots.{number_here}

-- what lies after a write is unchanged
pub drop-overwrite : (xs : List ℕ) (at : ℕ) (ys : List ℕ) (n : ℕ) → n ≡ at + length ys → at ≤ length xs → drop n (overwrite xs at ys) ≡ drop n xs
drop-overwrite xs at ys n e h =
    let size : length (take at xs ++ ys) ≡ n = omega (arith, length-append (take at xs) ys, length-take at xs) in
    ap (λ (zs : List ℕ). drop n zs) (sym (append_assoc (take at xs) ys (drop (at + length ys) xs))) ∙ drop_at (take at xs ++ ys) (drop (at + length ys) xs) n size ∙ ap (λ (m : ℕ). drop m xs) (sym e)

-- a slot written: its place and its length
abbrev pub written : List ℕ → ℕ → ℕ → ℕ → List ℕ
written bytes at place size = overwrite (overwrite bytes at (spell_16 place)) (at + 2) (spell_16 size)

written_is : (bytes : List ℕ) (at place size : ℕ) → at + 4 ≤ length bytes → written bytes at place size ≡ overwrite bytes at (spell_16 place ++ spell_16 size)
written_is bytes at place size h = overwrite_more bytes (spell_16 place) (spell_16 size) at (omega arith)

pub length-written : (bytes : List ℕ) (at place size : ℕ) → at + 4 ≤ length bytes → length (written bytes at place size) ≡ length bytes
length-written bytes at place size h = ap length (written_is bytes at place size h) ∙ length-overwrite bytes at (spell_16 place ++ spell_16 size) (omega arith)

pub drop-written : (bytes : List ℕ) (at place size n : ℕ) → at + 4 ≤ length bytes → n ≡ at + 4 → drop n (written bytes at place size) ≡ drop n bytes
drop-written bytes at place size n h e = ap (λ (xs : List ℕ). drop n xs) (written_is bytes at place size h) ∙ drop-overwrite bytes at (spell_16 place ++ spell_16 size) n e (omega arith)

pub written_more : (bytes : List ℕ) (at place size next : ℕ) (rest : List ℕ) → at + 4 ≤ length bytes → next ≡ at + 4
    → overwrite (written bytes at place size) next rest ≡ overwrite bytes at (spell_16 place ++ (spell_16 size ++ rest))
written_more bytes at place size next rest h e =
    ap (λ (xs : List ℕ). overwrite xs next rest) (written_is bytes at place size h) ∙ ap (λ (m : ℕ). overwrite (overwrite bytes at (spell_16 place ++ spell_16 size)) m rest) e ∙
    overwrite_more bytes (spell_16 place ++ spell_16 size) rest at (omega arith)

first_length_at : (bytes : List ℕ) (at : ℕ) → first_length (drop at bytes) ≡ number_16_at bytes (at + 2)
first_length_at bytes at = ap (λ (xs : List ℕ). number_16 (take 2 xs)) (drop-drop 2 at bytes) ∙ sym (number_here bytes (at + 2))

-- what a move from slot i on leaves in the end
abbrev pub after_opening : List ℕ → ℕ → ℕ → ℕ → ℕ → List ℕ
after_opening bytes i n end size = overwrite bytes (32 + 4 * i) (opened n end size (drop (32 + 4 * i) bytes))

pub opened_step : (bytes : List ℕ) (i n end size : ℕ) → 32 + 4 * i + 4 ≤ length bytes
    → after_opening (written bytes (32 + 4 * i) (end - size) size) (i + 1) n (end - size) (number_16_at bytes (32 + 4 * i + 2)) ≡ after_opening bytes i (suc n) end size
unfolding opened
opened_step bytes i n end size h =
    let at = 32 + 4 * i in let next = 32 + 4 * (i + 1) in let on : next ≡ at + 4 = omega arith in let place = end - size in let moved = number_16_at bytes (at + 2) in
    let behind : drop next (written bytes at place size) ≡ drop 4 (drop at bytes) = drop-written bytes at place size next h on ∙ ap (λ (m : ℕ). drop m bytes) on ∙ sym (drop-drop 4 at bytes) in
    ap (λ (xs : List ℕ). overwrite (written bytes at place size) next (opened n place moved xs)) behind ∙
    ap (λ (m : ℕ). overwrite (written bytes at place size) next (opened n place m (drop 4 (drop at bytes)))) (sym (first_length_at bytes at)) ∙
    written_more bytes at place size next (opened n place (first_length (drop at bytes)) (drop 4 (drop at bytes))) h on

pub opened_last : (bytes : List ℕ) (i end size : ℕ) → 32 + 4 * i + 4 ≤ length bytes → written bytes (32 + 4 * i) (end - size) size ≡ after_opening bytes i 0 end size
unfolding opened
opened_last bytes i end size h = written_is bytes (32 + 4 * i) (end - size) size h

abbrev pub after_closing : List ℕ → ℕ → ℕ → ℕ → List ℕ
after_closing bytes i n end = overwrite bytes (32 + 4 * i) (closed n end (drop (36 + 4 * i) bytes))

pub closed_step : (bytes : List ℕ) (i n end : ℕ) → 32 + 4 * i + 8 ≤ length bytes
    → after_closing (written bytes (32 + 4 * i) (end - number_16_at bytes (32 + 4 * i + 4 + 2)) (number_16_at bytes (32 + 4 * i + 4 + 2))) (i + 1) n (end - number_16_at bytes (32 + 4 * i + 4 + 2)) ≡ after_closing bytes i (suc n) end
unfolding closed
closed_step bytes i n end h =
    let at = 32 + 4 * i in let next = 32 + 4 * (i + 1) in let on : next ≡ at + 4 = omega arith in let size = number_16_at bytes (at + 4 + 2) in let place = end - size in
    let there : 36 + 4 * i ≡ at + 4 = omega arith in
    let is : first_length (drop (36 + 4 * i) bytes) ≡ size = first_length_at bytes (36 + 4 * i) ∙ ap (λ (m : ℕ). number_16_at bytes (m + 2)) there in
    let behind : drop (36 + 4 * (i + 1)) (written bytes at place size) ≡ drop 4 (drop (36 + 4 * i) bytes) =
    ap (λ (m : ℕ). drop m (written bytes at place size)) (omega arith) ∙ sym (drop-drop 4 (at + 4) (written bytes at place size)) ∙ ap (λ (xs : List ℕ). drop 4 xs) (drop-written bytes at place size (at + 4) (omega arith) refl ∙ ap (λ (m : ℕ). drop m bytes) (sym there)) in
    ap (λ (xs : List ℕ). overwrite (written bytes at place size) next (closed n place xs)) behind ∙ written_more bytes at place size next (closed n place (drop 4 (drop (36 + 4 * i) bytes))) (omega arith) on ∙
    ap (λ (m : ℕ). overwrite bytes at (spell_16 (end - m) ++ (spell_16 m ++ closed n (end - m) (drop 4 (drop (36 + 4 * i) bytes))))) (sym is)

pub closed_last : (bytes : List ℕ) (i end at to : ℕ) → at ≡ 32 + 4 * i → to ≡ at + 4 → overwrite bytes at (zeros (to - at)) ≡ after_closing bytes i 0 end
unfolding closed zeros
closed_last bytes i end at to e f = let four : to - at ≡ 4 = omega arith in
    ap (λ (m : ℕ). overwrite bytes at (zeros m)) four ∙ ap (λ (m : ℕ). overwrite bytes m (zeros 4)) e

-- ---- the same steps, as the code makes them

slot_written : (b b₁ b₂ : List ℕ) (i at place place' size : ℕ) → at ≡ 32 + 4 * i → place' ≡ place → b₁ ≡ overwrite b at (spell_16 place') → b₂ ≡ overwrite b₁ (at + 2) (spell_16 size)
    → b₂ ≡ written b (32 + 4 * i) place size
slot_written b b₁ b₂ i at place place' size e f g h =
    h ∙ ap (λ (xs : List ℕ). overwrite xs (at + 2) (spell_16 size)) g ∙ ap (λ (m : ℕ). overwrite (overwrite b at (spell_16 m)) (at + 2) (spell_16 size)) f ∙ ap (λ (m : ℕ). written b m place size) e

pub opening_goes : (b b₁ b₂ : List ℕ) (i n k at above pending above' next : ℕ) (wanted : List ℕ) → length b ≡ 4096 → 36 + 4 * i ≤ 4096 → k ≡ suc n → at ≡ 32 + 4 * i → above' ≡ above - pending → next ≡ number_16_at b (at + 2)
    → b₁ ≡ overwrite b at (spell_16 above') → b₂ ≡ overwrite b₁ (at + 2) (spell_16 pending) → after_opening b i k above pending ≡ wanted
    → (length b₂ ≡ 4096) × (after_opening b₂ (i + 1) n above' next ≡ wanted)
opening_goes b b₁ b₂ i n k at above pending above' next wanted size room more e f g h₁ h₂ inv =
    let is : b₂ ≡ written b (32 + 4 * i) (above - pending) pending = slot_written b b₁ b₂ i at (above - pending) above' pending e f h₁ h₂ in
    let next_is : next ≡ number_16_at b (32 + 4 * i + 2) = g ∙ ap (λ (m : ℕ). number_16_at b (m + 2)) e in (
      ap length is ∙ length-written b (32 + 4 * i) (above - pending) pending (omega arith) ∙ size,
      ap (λ (xs : List ℕ). after_opening xs (i + 1) n above' next) is ∙ ap (λ (m : ℕ). after_opening (written b (32 + 4 * i) (above - pending) pending) (i + 1) n m next) f ∙
          ap (λ (m : ℕ). after_opening (written b (32 + 4 * i) (above - pending) pending) (i + 1) n (above - pending) m) next_is ∙ opened_step b i n above pending (omega arith) ∙
          ap (λ (m : ℕ). after_opening b i m above pending) (sym more) ∙ inv,
    )

pub opening_ends : (b b₁ b₂ : List ℕ) (i k at above pending above' : ℕ) (wanted : List ℕ) → length b ≡ 4096 → 36 + 4 * i ≤ 4096 → k ≡ 0 → at ≡ 32 + 4 * i → above' ≡ above - pending
    → b₁ ≡ overwrite b at (spell_16 above') → b₂ ≡ overwrite b₁ (at + 2) (spell_16 pending) → after_opening b i k above pending ≡ wanted → b₂ ≡ wanted
opening_ends b b₁ b₂ i k at above pending above' wanted size room none e f h₁ h₂ inv =
    slot_written b b₁ b₂ i at (above - pending) above' pending e f h₁ h₂ ∙ opened_last b i above pending (omega arith) ∙ ap (λ (m : ℕ). after_opening b i m above pending) (sym none) ∙ inv

pub closing_goes : (b b₁ b₂ : List ℕ) (i n k at above size above' : ℕ) (wanted : List ℕ) → length b ≡ 4096 → 40 + 4 * i ≤ 4096 → k ≡ suc n → at ≡ 32 + 4 * i → size ≡ number_16_at b (at + 4 + 2) → above' ≡ above - size
    → b₁ ≡ overwrite b at (spell_16 above') → b₂ ≡ overwrite b₁ (at + 2) (spell_16 size) → after_closing b i k above ≡ wanted
    → (length b₂ ≡ 4096) × (after_closing b₂ (i + 1) n above' ≡ wanted)
closing_goes b b₁ b₂ i n k at above size above' wanted full room more e g f h₁ h₂ inv =
    let there = number_16_at b (32 + 4 * i + 4 + 2) in
    let size_is : size ≡ there = g ∙ ap (λ (m : ℕ). number_16_at b (m + 4 + 2)) e in
    let place_is : above' ≡ above - there = f ∙ ap (λ (m : ℕ). above - m) size_is in
    let is : b₂ ≡ written b (32 + 4 * i) (above - there) there = slot_written b b₁ b₂ i at (above - there) above' size e place_is h₁ h₂ ∙ ap (λ (m : ℕ). written b (32 + 4 * i) (above - there) m) size_is in (
      ap length is ∙ length-written b (32 + 4 * i) (above - there) there (omega arith) ∙ full,
      ap (λ (xs : List ℕ). after_closing xs (i + 1) n above') is ∙ ap (λ (m : ℕ). after_closing (written b (32 + 4 * i) (above - there) there) (i + 1) n m) place_is ∙ closed_step b i n above (omega arith) ∙
          ap (λ (m : ℕ). after_closing b i m above) (sym more) ∙ inv,
    )
