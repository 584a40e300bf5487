-- What a key's bytes say.
use Rattle.std.proofs.Common.{◌≡◌, ap, ℕ}
use Rattle.gx_machine.specs.declared.entry.Entry.{Entry}

-- of one row, the same key is the same entry
pub same_entry : {B : Type 0} (row : ℕ) (x y : B) → x ≡ y → ◌≡◌ {A = Entry B} (record { row = row; key = x }) (record { row = row; key = y })
same_entry {B} row x y same = ap (λ (key : B). (let entry : Entry B = record { row = row; key = key } in entry)) same
