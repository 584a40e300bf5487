-- Bytes copied one by one: what the list is after each, and what waits of a block while its bytes are written.
use Rattle.std.proofs.Common.{◌≡◌, ℕ, suc, ◌+◌, ◌-◌, ◌^◌, ◌<◌, ◌≤◌, List, [], ◌∷◌, ◌++◌, length, take, drop as drop-list, set, get_or, refl, sym, ap, ◌∙◌, arith, append_assoc, length-append, length-take, length-drop, w8}
use Rattle.std.proofs.lemmas.List.{get_or-take, get_or-drop}
use Rattle.std.proofs.lemmas.List.Edits.{drop-paste, paste_more}
use lib.ListN.{get_or-append}
use lib.Seq.{paste, take-suc, drop-cons, set_at}
use base.Fraction.{full_share}
use base.Logic.{SProp, ent, sep}
use base.Fml.{GName, Lft, Share, flft, fobor, fbor, fobs, fauth}
use types.SemTy.{Body}
use seplogic.Ra.Ura.{Ura}
use types.Logic.{Logic, sem}
use types.Kit.{Goal, Item, Step, step, ‵, ◌⊛◌, ◌$◌, ◌∵◌, !, qed, move, drop, split, split3, use1, use2, rewrite, updating, now, done}
use types.Mut.{close_ref}
use denote.Builtin.{u8}
use denote.Index.{row, others, place_byte, elem_put}
use denote.Laws.{Is}
use denote.Memory.{cell_at, mem, part_at, shares}
use denote.Plain.{uint_Makes}
use denote.RattleType.{RattleType}
use denote.Steps.{owned}
use mir.Val.{vint}
use denote.RawPtr.{block_ptr}
use Rattle.gx_page.specs.Lending.{with_bytes}
use Rattle.gx_page.specs.Ownership.{the_bytes}
use Rattle.gx_page.proofs.block.Opened.{Rest, Lie, closes_over, each_in}
use Rattle.gx_page.specs.contracts.block.Block as block

abbrev R : RattleType
R = block.the_row

-- a paste changes neither what lies before it nor what lies after it
pub paste_before : (d s : List ℕ) (at n k : ℕ) → k < at → at ≤ length d → get_or (paste d at s n) k 0 ≡ get_or d k 0
paste_before d s at n k low fits =
    let front = length-take at d in let both = length-append (take at d) (take n s) in
    get_or-append (take at d ++ take n s) (drop-list (at + n) d) 0 k (omega arith) ∙ get_or-append (take at d) (take n s) 0 k (omega arith) ∙ get_or-take at d k 0 low

pub paste_behind : (d s : List ℕ) (at n k : ℕ) → at + n ≤ k → at ≤ length d → n ≤ length s → get_or (paste d at s n) k 0 ≡ get_or d k 0
paste_behind d s at n k high fits full =
    let j : ℕ = k - (at + n) in let is : at + n + j ≡ k = omega arith in
    ap (λ (m : ℕ). get_or (paste d at s n) m 0) (sym is) ∙ sym (get_or-drop (at + n) (paste d at s n) j 0) ∙ ap (λ (xs : List ℕ). get_or xs j 0) (drop-paste d at s n fits full)
    ∙ get_or-drop (at + n) d j 0 ∙ ap (λ (m : ℕ). get_or d m 0) is

-- a paste goes on by one element at its front
pub paste_front : (d : List ℕ) (f g f' g' n n' : ℕ) → f' ≡ suc f → g' ≡ suc g → n' ≡ suc n → f < length d → g < length d
    → set (paste d g' (drop-list f' d) n) g (get_or d f 0) ≡ paste d g (drop-list f d) n'
paste_front d f g f' g' n n' is_f is_g is_n inside room =
    let a : List ℕ = take g d in let y : ℕ = get_or d g 0 in let x : ℕ = get_or d f 0 in let m : List ℕ = take n (drop-list (suc f) d) in let r : List ℕ = drop-list (suc g + n) d in
    let front : length a ≡ g = omega (arith, length-take g d) in
    let cut : paste d g' (drop-list f' d) n ≡ a ++ y ∷ (m ++ r) = ap (λ (k : ℕ). paste d k (drop-list f' d) n) is_g ∙ ap (λ (k : ℕ). paste d (suc g) (drop-list k d) n) is_f
    ∙ ap (λ (l : List ℕ). (l ++ m) ++ r) (take-suc d g 0 room) ∙ ap (λ (l : List ℕ). l ++ r) (append_assoc a (y ∷ []) m) ∙ append_assoc a (y ∷ m) r in
    let joined : (a ++ take (suc n) (drop-list f d)) ++ drop-list (suc g + n) d ≡ (a ++ x ∷ m) ++ r = ap (λ (l : List ℕ). (a ++ take (suc n) l) ++ r) (drop-cons d f 0 inside) in
    let end : g + n' ≡ suc g + n = omega (arith, is_n) in
    ap (λ (l : List ℕ). set l g x) cut ∙ set_at a y (m ++ r) x g front ∙ sym (append_assoc a (x ∷ m) r) ∙ sym joined
    ∙ ap (λ (k : ℕ). (a ++ take (suc n) (drop-list f d)) ++ drop-list k d) (sym end) ∙ ap (λ (k : ℕ). (a ++ take k (drop-list f d)) ++ drop-list (g + n') d) (sym is_n)

-- a copy to a place that isn't above goes from the first byte on, so that it reads ahead of what it wrote
pub down_more : (d : List ℕ) (from dest i : ℕ) → dest ≤ from → from + i < length d
    → set (paste d dest (drop-list from d) i) (dest + i) (get_or (paste d dest (drop-list from d) i) (from + i) 0) ≡ paste d dest (drop-list from d) (i + 1)
down_more d from dest i down inside =
    let rest = length-drop from d in
    ap (set (paste d dest (drop-list from d) i) (dest + i)) (paste_behind d (drop-list from d) dest i (from + i) (omega arith) (omega arith) (omega arith) ∙ sym (get_or-drop from d i 0))
    ∙ paste_more d dest (drop-list from d) i 0 (omega arith) (omega arith)

-- a copy to a place that isn't below goes from the last byte back: the bytes from the one at i on are copied
abbrev pub copied_back : List ℕ → ℕ → ℕ → ℕ → ℕ → List ℕ
copied_back d from dest count i = paste d (dest + i) (drop-list (from + i) d) (count - i)

pub up_more : (d : List ℕ) (from dest count i : ℕ) → from ≤ dest → 0 < i → i ≤ count → dest + count ≤ length d
    → set (copied_back d from dest count i) (dest + (i - 1)) (get_or (copied_back d from dest count i) (from + (i - 1)) 0) ≡ copied_back d from dest count (i - 1)
up_more d from dest count i up some within room =
    let j : ℕ = i - 1 in
    ap (set (copied_back d from dest count i) (dest + j)) (paste_before d (drop-list (from + i) d) (dest + i) (count - i) (from + j) (omega arith) (omega arith))
    ∙ paste_front d (from + j) (dest + j) (from + i) (dest + i) (count - i) (count - j) (omega arith) (omega arith) (omega arith) (omega arith) (omega arith)

-- a byte that was written behind the pointer goes back among the others
module _ {M : Type 1} {𝓤 : Ura M} {𝓛 : Logic 𝓤} {K : Type 0} {Γ : List (Item 𝓤)} {G : Goal 𝓤 𝓛.H} where
  pub byte_put : K → (bytes : List ℕ) (i x old b o : ℕ) → i < length bytes → x < 2 ^ 8
      → Step K 𝓛 (‵ (row u8 full_share (set bytes i x) b o) ∷ Γ) G (‵ (cell_at full_share u8.mir (vint w8 x ∷ []) b (i + o)) ∷ ‵ (u8.own_val old (vint w8 old ∷ [])) ∷ ‵ (others (shares u8) full_share bytes i b o) ∷ Γ) G
  byte_put t bytes i x old b o inside fits = step (λ s.
      rewrite t 0 (λ (p : ℕ). ‵ (cell_at full_share u8.mir (vint w8 x ∷ []) b p)) (sym (place_byte o i)) refl $ move t (1 ∷ []) $ drop t $
      owned t u8 (Is u8) (uint_Makes 𝓛 w8) x (vint w8 x ∷ []) (refl, fits) $ move t (1 ∷ 0 ∷ []) $ elem_put t u8 full_share bytes i x (vint w8 x ∷ []) b o inside $ s)

-- what waits while the bytes of a block at (b, o) are written: the rest of it, and its borrow, which is open
module _ {M : Type 1} {𝓤 : Ura M} (𝓛 : Logic 𝓤) (κ : Lft) (q : Share) (γ : GName) (d : R.Denot) (at : ℕ × ℕ) (b o : ℕ) where
  abbrev pub Waits : SProp 𝓤
  Waits = sep 𝓤 (sem 𝓛 (Rest d (block_ptr at.0 at.1) b o)) (sep 𝓤 (sem 𝓛 (fobor κ q (Body (mem R) b o γ))) (sep 𝓤 (sem 𝓛 (fobs γ (R.coded.code d))) (sem 𝓛 (fauth γ (R.coded.code d)))))

  -- with other bytes at their place the borrow is closed again
  pub written : Lie d at → (bytes : List ℕ) → length bytes ≡ 4096
      → ent 𝓤 (sep 𝓤 (sem 𝓛 (row u8 full_share bytes at.0 at.1)) Waits)
      (𝓛.H.⇛ (sep 𝓤 (sem 𝓛 (fobs γ (R.coded.code (with_bytes d bytes)))) (sep 𝓤 (sem 𝓛 (fbor κ (Body (mem R) b o γ))) (sem 𝓛 (flft κ q)))))
  written lie bytes size =
      qed 𝓛 (‵ (row u8 full_share bytes at.0 at.1) ∷ (‵ (Rest d (block_ptr at.0 at.1) b o) ⊛ ‵ (fobor κ q (Body (mem R) b o γ)) ⊛ ‵ (fobs γ (R.coded.code d)) ⊛ ‵ (fauth γ (R.coded.code d))) ∷ []) ∵ updating ! $
      use1 𝓛 (‵ (part_at the_bytes full_share bytes at.0 at.1)) (each_in 𝓛 full_share bytes at.0 at.1 size) $ move ! (1 ∷ []) $ split ! $ move ! (2 ∷ 0 ∷ []) $
      use2 𝓛 (‵ ((mem R).own_at (with_bytes d bytes) b o)) (closes_over 𝓛 d b o at.0 at.1 lie.0 bytes) $ move ! (1 ∷ []) $ split3 ! $ move ! (3 ∷ 0 ∷ 1 ∷ 2 ∷ []) $
      close_ref ! tt (mem R) (with_bytes d bytes) {b = b} {o = o} $ now ! $ done !
