use Rattle.std.proofs.Common.{◌≡◌, ◌∙◌, sym, ap, ℕ, zero, suc, ◌+◌, ◌-◌, ◌*◌, ◌<◌, List, [], ◌∷◌, ◌++◌, length, take, get_or, arith}
use Rattle.std.proofs.lemmas.List.{append-nil, append_assoc}
use Rattle.std.proofs.lemmas.Slice.{take-put_mid}
use Rattle.gx_record.specs.Bytes.{u16_bytes}
use Rattle.gx_record.specs.Slots.{slots_bytes}
use Rattle.gx_record.specs.declared.sizes.TheConstants.{SLOT_NUMBER}
use Rattle.gx_storage.proofs.journal.sweep.spell_slots.Goals as goal

-- a slot more has its two bytes after the others
one_more : (slots : List ℕ) (k : ℕ) → k < length slots → slots_bytes (take (suc k) slots) ≡ slots_bytes (take k slots) ++ u16_bytes (get_or slots k 0)
one_more [] k low = absurd (omega arith)
one_more (slot ∷ slots) zero low = append-nil (u16_bytes slot)
one_more (slot ∷ slots) (suc k) low =
    ap (λ (l : List ℕ). u16_bytes slot ++ l) (one_more slots k (omega arith)) ∙ sym (append_assoc (u16_bytes slot) (slots_bytes (take k slots)) (u16_bytes (get_or slots k 0)))

pub loop-place-preserved : goal.loop-place-preserved
unfolding u16_bytes
loop-place-preserved c =
    let k = c.loop-place.place in
    let slots = c.args.slots.now in
    let bytes = c.loop-place.bytes in
    let two = c.copy_from_slice.new.self in
    let spelled : two ≡ u16_bytes (get_or slots k 0) = c.copy_from_slice.ensures.after ∙ c.to_be_bytes.ensures in
    let long : length two ≡ SLOT_NUMBER = ap length spelled in
    let later : suc k ≡ k + 1 = omega arith in
    take-put_mid (SLOT_NUMBER * k) (SLOT_NUMBER * k + SLOT_NUMBER - SLOT_NUMBER * k) bytes two (SLOT_NUMBER * (k + 1)) (omega (arith, long))
    (omega (arith, c.requires, c.loop-place.auto.bytes, c.loop-place-test.true))
    ∙ ap (λ (l : List ℕ). take (SLOT_NUMBER * k) bytes ++ l) spelled
    ∙ ap (λ (l : List ℕ). l ++ u16_bytes (get_or slots k 0)) c.loop-place.invariant
    ∙ sym (one_more slots k c.loop-place-test.true)
    ∙ ap (λ n. slots_bytes (take n slots)) later
