-- Parts that are read, one after another.
use Rattle.std.proofs.Common.{◌≡◌, ◌∙◌, sym, ap, refl, subst, ℕ, zero, suc, ◌+◌, ◌*◌, ◌<◌, ◌≤◌, List, [], ◌∷◌, length, drop, get_or, drop-cons, add-one, true, Ok, arith}
use Rattle.gx_disk.specs.declared.layout.TheConstants.{LOG_AT, PAGES_AT, PAGE_SECTORS}
use Rattle.gx_disk.specs.Device.{Device}
use Rattle.gx_disk.specs.Looks.{Looks}
use Rattle.gx_format.specs.Formatting.{sectors_of}
use Rattle.gx_older.specs.declared.layout.Part.{Part}
use Rattle.gx_older.specs.Reads.{OnlyReads}
use Rattle.gx_older.specs.Renumbered.{AllFit, Fits, older_sectors_of, parts_of, with_part, with_parts}

-- the parts of an index fit a device that has its sectors, and bytes that have this version's
pub parts_fit : (sectors size pages : ℕ) → 1 ≤ pages → older_sectors_of pages ≤ sectors → size ≡ 512 * sectors_of pages → AllFit sectors size (parts_of pages)
parts_fit sectors size pages some inside is = (
  record { some = omega arith; inside = omega (arith, inside); room = omega (arith, is) },
  (
    record { some = omega arith; inside = omega (arith, inside); room = omega (arith, is) },
    (
      record { some = omega arith; inside = omega (arith, inside); room = omega (arith, is) },
      (
        record { some = omega arith; inside = omega (arith, inside); room = omega (arith, is) },
        (
          record { some = omega arith; inside = omega (arith, inside); room = omega (arith, is) },
          (record { some = omega (arith, some); inside = omega (arith, inside); room = omega (arith, is) }, tt),
        ),
      ),
    ),
  ),
)

-- the parts from a place on begin with the one there
pub cut_at : (xs : List Part) (i : ℕ) (x : Part) → i < length xs → x ≡ get_or xs i x → drop i xs ≡ x ∷ drop (i + 1) xs
cut_at xs i x less at = drop-cons xs i x less ∙ ap (λ (y : Part). y ∷ drop (suc i) xs) (sym at) ∙ ap (λ j. x ∷ drop j xs) (sym (add-one i))

pub none_left : (xs : List Part) (i : ℕ) → length xs ≤ i → drop i xs ≡ []
none_left [] zero least = refl
none_left [] (suc i) least = refl
none_left (x ∷ xs) zero least = absurd (omega arith)
none_left (x ∷ xs) (suc i) least = none_left xs i (omega (arith, least))

-- The parts before a place are read: what is read so far, with the rest, is all.
pub record AreReadTo {D : Type 0} (state : D → Device) (old now : D) (parts : List Part) (at : ℕ) (before bytes : List ℕ) : Type 0 where
  pub only : OnlyReads {T = Unit {0}} (state old) (state now) (Ok tt)
  pub looks : (state old).honest ≡ true → Looks (state old) (state now)
  pub size : length bytes ≡ length before
  pub fit : AllFit (state old).sectors (length before) (drop at parts)
  pub reads : (state old).honest ≡ true → with_parts (state old).seen (drop at parts) bytes ≡ with_parts (state old).seen parts before
