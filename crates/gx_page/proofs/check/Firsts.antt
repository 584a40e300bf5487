-- Which fault the tests find first.
use Rattle.std.proofs.Common.{◌≡◌, ℕ, true, false, List, Some, None, inl, inr, length, eqb, eq-eqb}
use Rattle.std.proofs.lemmas.Bool.Decides.{eqb_tells}
use Rattle.gx_page.specs.declared.fault.PageFault.TheVariants.{Size, Reserved, Directory, Free}
use Rattle.gx_page.specs.Faults.{is_reserved_zero, is_directory, is_free_zero, fault_of}

pub first_size : (bytes : List ℕ) → (length bytes ≡ 4096 → ⊥) → Some Size ≡ fault_of bytes
first_size bytes other = let no : eqb (length bytes) 4096 ≡ false = elim (eqb_tells (length bytes) 4096) [ inl is ↦ absurd (other is.1) | inr is ↦ is.0 ] in rw no

pub first_reserved : (bytes : List ℕ) → length bytes ≡ 4096 → is_reserved_zero bytes ≡ false → Some Reserved ≡ fault_of bytes
first_reserved bytes size reserved = rw (eq-eqb (length bytes) 4096 size, reserved)

pub first_directory : (bytes : List ℕ) → length bytes ≡ 4096 → is_reserved_zero bytes ≡ true → is_directory bytes ≡ false → Some Directory ≡ fault_of bytes
first_directory bytes size reserved directory = rw (eq-eqb (length bytes) 4096 size, reserved, directory)

pub first_free : (bytes : List ℕ) → length bytes ≡ 4096 → is_reserved_zero bytes ≡ true → is_directory bytes ≡ true → is_free_zero bytes ≡ false → Some Free ≡ fault_of bytes
first_free bytes size reserved directory free = rw (eq-eqb (length bytes) 4096 size, reserved, directory, free)

pub no_fault : (bytes : List ℕ) → length bytes ≡ 4096 → is_reserved_zero bytes ≡ true → is_directory bytes ≡ true → is_free_zero bytes ≡ true → None ≡ fault_of bytes
no_fault bytes size reserved directory free = rw (eq-eqb (length bytes) 4096 size, reserved, directory, free)
