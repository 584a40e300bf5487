-- Reading the slots of a sweep: what is read was spelled so, and what is spelled so is read.
use Rattle.std.proofs.Common.{◌≡◌, ℕ, ◌*◌, ◌≤◌, ◌||◌, Bool, true, false, cond, ltb, List, [], ◌∷◌, ◌++◌, length, Option, Some, None, refl, sym, ap, subst, ◌∙◌, arith}
use Rattle.std.proofs.lemmas.Bool.{ltb-false, le-ltb}
use Rattle.gx_page.specs.Bytes.{AreBytes}
use Rattle.gx_record.specs.declared.sizes.TheConstants.{SLOT_NUMBER}
use Rattle.gx_record.specs.Reading.{bytes_at, rising_slots_at, slots_at}
use Rattle.gx_record.specs.Slots.{slots_bytes, slots_in, AreSlots, rise_from}
use Rattle.gx_record.proofs.Fields.{are-rest, bind_some, provided, Takes, bytes_take, bytes_again}
use Rattle.gx_record.proofs.SlotBytes.{length-slots_bytes, length-whole, slots_back_whole, slots_again, rise_takes, rise_again}

pub record TakesSlots (bytes : List ℕ) (x : List ℕ × List ℕ) : Type 0 where
  pub takes : Takes bytes (length x.0 ∷ slots_bytes x.0) x.1
  pub some : 1 ≤ length x.0
  pub few : length x.0 ≤ 100
  pub slots : AreSlots 0 x.0

neither : (a b : Bool) → a || b ≡ false → (a ≡ false) × (b ≡ false)
neither false b e = (refl, e)
neither true b e = absurd cc

refused_or : {A : Type 0} (b : Bool) (o : Option A) (y : A) → cond b None o ≡ Some y → (b ≡ false) × (o ≡ Some y)
refused_or false o y e = (refl, e)
refused_or true o y e = absurd cc

-- slots after their count
counted : (count : ℕ) (rest : List ℕ) (x : List ℕ × List ℕ) → 1 ≤ count → count ≤ 100 → AreBytes rest → rising_slots_at count rest ≡ Some x → TakesSlots (count ∷ rest) x
unfolding rising_slots_at
counted count rest x some few are e =
    let b = bind_some (bytes_at (SLOT_NUMBER * count) rest) (λ front. cond (rise_from 0 (slots_in front.0)) (Some (slots_in front.0, front.1)) None) x e in
    let t = bytes_take (SLOT_NUMBER * count) rest b.0 are b.1 in
    let g = provided (rise_from 0 (slots_in b.0.0)) (slots_in b.0.0, b.0.1) x b.2 in
    let as_many : length (slots_in b.0.0) ≡ count = length-whole count b.0.0 t.long in
    let same : slots_bytes (slots_in b.0.0) ≡ b.0.0 = slots_back_whole count b.0.0 t.are t.long in
    let behind : count ∷ rest ≡ (length (slots_in b.0.0) ∷ slots_bytes (slots_in b.0.0)) ++ b.0.1 =
    ap (λ (l : List ℕ). count ∷ l) t.takes.parts ∙ ap (λ (n : ℕ). n ∷ (b.0.0 ++ b.0.1)) (sym as_many)
    ∙ ap (λ (l : List ℕ). length (slots_in b.0.0) ∷ (l ++ b.0.1)) (sym same)
    in
    let whole : TakesSlots (count ∷ rest) (slots_in b.0.0, b.0.1) = record {
      takes = record { parts = behind; rest_are = t.takes.rest_are };
      some = omega (arith, as_many);
      few = omega (arith, as_many);
      slots = rise_takes 0 b.0.0 t.are g.0;
    } in
    subst (λ (y : List ℕ × List ℕ). TakesSlots (count ∷ rest) y) g.1 whole

pub slots_take : (bytes : List ℕ) (x : List ℕ × List ℕ) → AreBytes bytes → slots_at bytes ≡ Some x → TakesSlots bytes x
unfolding slots_at
slots_take [] x are e = absurd cc
slots_take (count ∷ rest) x are e =
    let g = refused_or (ltb count 1 || ltb 100 count) (rising_slots_at count rest) x e in
    let two = neither (ltb count 1) (ltb 100 count) g.0 in
    counted count rest x (ltb-false _ _ two.0) (ltb-false _ _ two.1) (are-rest count rest are) g.1

pub slots_read : (slots rest : List ℕ) → 1 ≤ length slots → length slots ≤ 100 → AreSlots 0 slots → slots_at (length slots ∷ (slots_bytes slots ++ rest)) ≡ Some (slots, rest)
unfolding slots_at rising_slots_at
slots_read slots rest some few are =
    let enough : ltb (length slots) 1 ≡ false = le-ltb _ _ some in
    let fits : ltb 100 (length slots) ≡ false = le-ltb _ _ few in
    let front = bytes_again (SLOT_NUMBER * length slots) (slots_bytes slots) rest (length-slots_bytes slots) in
    rw (enough, fits, front, slots_again 0 slots are, rise_again 0 slots are) refl
