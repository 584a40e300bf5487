-- Slots as bytes and back.
use Rattle.std.proofs.Common.{◌≡◌, ℕ, zero, suc, ◌+◌, ◌-◌, ◌*◌, ◌<◌, ◌≤◌, ◌&&◌, Bool, true, false, leb, List, [], ◌∷◌, ◌++◌, length, get_or, take, drop, Some, refl, sym, ap, ◌∙◌, arith}
use Rattle.std.specs.Prelude.{slice_get}
use Rattle.std.proofs.lemmas.Bool.{leb-true, le-leb, lt-leb}
use Rattle.std.proofs.lemmas.List.{length-append, length-take, length-drop, take_all}
use Rattle.gx_page.specs.Bytes.{AreBytes}
use Rattle.gx_page.proofs.Pieces.{both}
use Rattle.gx_record.specs.declared.sizes.TheConstants.{SLOT_NUMBER}
use Rattle.gx_record.specs.Bytes.{u16_bytes, u16_of}
use Rattle.gx_record.specs.Slots.{slots_bytes, slots_in, AreSlots, rise_from}
use Rattle.gx_record.proofs.Fields.{found}
use Rattle.gx_record.proofs.Numbers.{length-u16_bytes, u16_again, u16_back, u16_below}

-- two bytes a slot, and a last one alone at most
pub length-slots_in : (bytes : List ℕ) → (SLOT_NUMBER * length (slots_in bytes) ≤ length bytes) × (length bytes ≤ SLOT_NUMBER * length (slots_in bytes) + 1)
length-slots_in [] = (omega arith, omega arith)
length-slots_in (byte ∷ []) = (omega arith, omega arith)
length-slots_in (high ∷ low ∷ bytes) = let others = length-slots_in bytes in (omega (arith, others.0), omega (arith, others.1))

-- the slots of as many bytes as that many slots have
pub length-whole : (count : ℕ) (bytes : List ℕ) → length bytes ≡ SLOT_NUMBER * count → length (slots_in bytes) ≡ count
length-whole count bytes long = let two = length-slots_in bytes in omega (arith, two.0, two.1)

are-rest-2 : (high low : ℕ) (bytes : List ℕ) → AreBytes (high ∷ low ∷ bytes) → AreBytes bytes
are-rest-2 high low bytes are i = are (suc (suc i))

are-2 : (high low : ℕ) (bytes : List ℕ) → AreBytes (high ∷ low ∷ bytes) → AreBytes (high ∷ low ∷ [])
are-2 high low bytes are zero = are 0
are-2 high low bytes are (suc zero) = are 1
are-2 high low bytes are (suc (suc i)) = omega arith

-- the bytes of what bytes spell are these bytes, without a last one alone
pub slots_back : (bytes : List ℕ) → AreBytes bytes → slots_bytes (slots_in bytes) ≡ take (SLOT_NUMBER * length (slots_in bytes)) bytes
slots_back [] are = refl
slots_back (byte ∷ []) are = refl
slots_back (high ∷ low ∷ bytes) are =
    let one : u16_bytes (u16_of (high ∷ low ∷ [])) ≡ high ∷ low ∷ [] = u16_back (high ∷ low ∷ []) refl (are-2 high low bytes are) in
    let others = slots_back bytes (are-rest-2 high low bytes are) in
    let size : suc (suc (SLOT_NUMBER * length (slots_in bytes))) ≡ SLOT_NUMBER * suc (length (slots_in bytes)) = omega arith in
    ap (λ (l : List ℕ). l ++ slots_bytes (slots_in bytes)) one ∙ ap (λ (l : List ℕ). high ∷ low ∷ l) others
    ∙ ap (λ (n : ℕ). take n (high ∷ low ∷ bytes)) size

-- all of the bytes, if none is left over
pub slots_back_whole : (count : ℕ) (bytes : List ℕ) → AreBytes bytes → length bytes ≡ SLOT_NUMBER * count → slots_bytes (slots_in bytes) ≡ bytes
slots_back_whole count bytes are long =
    let size = length-whole count bytes long in
    slots_back bytes are ∙ take_all (SLOT_NUMBER * length (slots_in bytes)) bytes (omega (arith, size, long))

-- two bytes spell the first slot
spelled_again : (slot : ℕ) (first others : List ℕ) → length first ≡ 2 → u16_bytes slot ≡ first → slots_in (u16_bytes slot ++ others) ≡ u16_of (u16_bytes slot) ∷ slots_in others
spelled_again slot (high ∷ low ∷ []) others long e = rw e refl
spelled_again slot [] others long e = absurd (omega (arith, long))
spelled_again slot (byte ∷ []) others long e = absurd (omega (arith, long))
spelled_again slot (a ∷ b ∷ c ∷ bytes) others long e = absurd (omega (arith, long))

-- the slots that the bytes of slots spell
pub slots_again : (least : ℕ) (slots : List ℕ) → AreSlots least slots → slots_in (slots_bytes slots) ≡ slots
slots_again least [] are = refl
slots_again least (slot ∷ slots) are =
    spelled_again slot (u16_bytes slot) (slots_bytes slots) (length-u16_bytes slot) refl
    ∙ ap (λ (n : ℕ). n ∷ slots_in (slots_bytes slots)) (u16_again slot are.1)
    ∙ ap (λ (l : List ℕ). slot ∷ l) (slots_again (slot + 1) slots are.2)

pub length-slots_bytes : (slots : List ℕ) → length (slots_bytes slots) ≡ SLOT_NUMBER * length slots
length-slots_bytes [] = omega arith
length-slots_bytes (slot ∷ slots) = omega (arith, length-u16_bytes slot, length-slots_bytes slots, length-append (u16_bytes slot) (slots_bytes slots))

-- ---- slots that rise

pub rise_takes : (least : ℕ) (bytes : List ℕ) → AreBytes bytes → rise_from least (slots_in bytes) ≡ true → AreSlots least (slots_in bytes)
rise_takes least [] are e = tt
rise_takes least (byte ∷ []) are e = tt
rise_takes least (high ∷ low ∷ bytes) are e =
    let slot = u16_of (high ∷ low ∷ []) in
    let two = both (leb least slot) (rise_from (slot + 1) (slots_in bytes)) e in
    (leb-true _ _ two.0, u16_below (high ∷ low ∷ []) (are-2 high low bytes are), rise_takes (slot + 1) bytes (are-rest-2 high low bytes are) two.1)

pub rise_again : (least : ℕ) (slots : List ℕ) → AreSlots least slots → rise_from least slots ≡ true
rise_again least [] are = refl
rise_again least (slot ∷ slots) are = rw (le-leb _ _ are.0, rise_again (slot + 1) slots are.2) refl

pub two_bytes : (high low : ℕ) → u16_of (high ∷ low ∷ []) ≡ high * 256 + low
unfolding u16_of
two_bytes high low = omega arith

-- whether slots rise, by the first of them and those after it
pub rise_step : (least slot : ℕ) (bytes : List ℕ) → 2 ≤ length bytes → slot ≡ get_or bytes 0 0 * 256 + get_or bytes 1 0
    → rise_from least (slots_in bytes) ≡ leb least slot && rise_from (slot + 1) (slots_in (take (length bytes - 2) (drop 2 bytes)))
rise_step least slot [] some e = absurd (omega (arith, some))
rise_step least slot (byte ∷ []) some e = absurd (omega (arith, some))
rise_step least slot (high ∷ low ∷ bytes) some e =
    let all : take (length (high ∷ low ∷ bytes) - 2) bytes ≡ bytes = take_all _ bytes (omega arith) in
    rw (all, e, two_bytes high low) refl

-- the test of the first slot, and what it leaves to be tested
pub falls_here : (least slot : ℕ) (bytes : List ℕ) (whole : Bool) → 2 ≤ length bytes → slot ≡ get_or bytes 0 0 * 256 + get_or bytes 1 0 → slot < least
    → whole ≡ rise_from least (slots_in bytes) → false ≡ whole
falls_here least slot bytes whole some e falls so_far =
    let step = rise_step least slot bytes some e in
    sym (so_far ∙ step ∙ ap (λ b. b && rise_from (slot + 1) (slots_in (take (length bytes - 2) (drop 2 bytes)))) (lt-leb _ _ falls))

pub rises_here : (least slot : ℕ) (bytes : List ℕ) (whole : Bool) → 2 ≤ length bytes → slot ≡ get_or bytes 0 0 * 256 + get_or bytes 1 0 → least ≤ slot
    → whole ≡ rise_from least (slots_in bytes) → whole ≡ rise_from (slot + 1) (slots_in (take (length bytes - 2) (drop 2 bytes)))
rises_here least slot bytes whole some e rises so_far =
    so_far ∙ rise_step least slot bytes some e ∙ ap (λ b. b && rise_from (slot + 1) (slots_in (take (length bytes - 2) (drop 2 bytes)))) (le-leb _ _ rises)

pub fewer_left : (bytes : List ℕ) → 2 ≤ length bytes → length (take (length bytes - 2) (drop 2 bytes)) < length bytes
fewer_left bytes some = omega (arith, some, length-take (length bytes - 2) (drop 2 bytes), length-drop 2 bytes)

pub none_rise : (least : ℕ) (bytes : List ℕ) → length bytes < 2 → rise_from least (slots_in bytes) ≡ true
none_rise least [] few = refl
none_rise least (byte ∷ []) few = refl
none_rise least (high ∷ low ∷ bytes) few = absurd (omega (arith, few))

-- ---- the slot at a place

pub slot_at : (bytes : List ℕ) (place : ℕ) → place < length (slots_in bytes)
    → slice_get (slots_in bytes) place ≡ Some (get_or bytes (SLOT_NUMBER * place) 0 * 256 + get_or bytes (SLOT_NUMBER * place + 1) 0)
slot_at [] place within = absurd (omega (arith, within))
slot_at (byte ∷ []) place within = absurd (omega (arith, within))
slot_at (high ∷ low ∷ bytes) zero within = ap found (two_bytes high low)
slot_at (high ∷ low ∷ bytes) (suc place) within =
    let more = high ∷ low ∷ bytes in
    let here : SLOT_NUMBER * suc place ≡ suc (suc (SLOT_NUMBER * place)) = omega arith in
    let next : SLOT_NUMBER * suc place + 1 ≡ suc (suc (SLOT_NUMBER * place + 1)) = omega arith in
    let first : get_or more (SLOT_NUMBER * suc place) 0 ≡ get_or bytes (SLOT_NUMBER * place) 0 = ap (λ (n : ℕ). get_or more n 0) here in
    let second : get_or more (SLOT_NUMBER * suc place + 1) 0 ≡ get_or bytes (SLOT_NUMBER * place + 1) 0 = ap (λ (n : ℕ). get_or more n 0) next in
    slot_at bytes place (omega (arith, within)) ∙ ap (λ (n : ℕ). found (n * 256 + get_or bytes (SLOT_NUMBER * place + 1) 0)) (sym first)
    ∙ ap (λ (n : ℕ). found (get_or more (SLOT_NUMBER * suc place) 0 * 256 + n)) (sym second)
