-- Each sector of a device of the first version, in its place.
use Rattle.std.proofs.Common.{◌≡◌, ◌∙◌, sym, ap, refl, subst, inl, inr, ℕ, ◌+◌, ◌-◌, ◌*◌, ◌<◌, ◌≤◌, List, [], ◌∷◌, ◌++◌, length, take, drop, replicate, arith}
use Rattle.std.proofs.lemmas.List.{take-take, take-replicate, drop-replicate, length-take-le, length-drop, length-replicate}
use Rattle.gx_disk.specs.declared.layout.TheConstants.{LOG_AT, PAGES_AT, PAGE_SECTORS}
use Rattle.gx_disk.specs.Sectors.{put, sector_of, span_of, IsOutside}
use Rattle.gx_disk.proofs.Spans.{length-put, put_back, put_behind, put_outside}
use Rattle.gx_format.specs.Formatting.{sectors_of}
use Rattle.gx_format.specs.Fresh.{magic_bytes}
use Rattle.gx_format.proofs.laws.Wrote.{span_part}
use Rattle.gx_glog.specs.declared.extent.TheConstants.{BODIES_A, BODIES_B, GATES_A, GATES_B}
use Rattle.gx_older.specs.declared.layout.Part.{Part}
use Rattle.gx_older.specs.declared.layout.TheConstants.{OLDER_BODIES, OLDER_BODIES_A, OLDER_BODIES_B, OLDER_GATES_B, OLDER_PAGES_AT, OLDER_PLACES}
use Rattle.gx_older.specs.Laws.{HasSectors, HasZeros, IsRenumbered}
use Rattle.gx_older.specs.Renumbered.{AllFit, Fits, older_sectors_of, part, parts_of, renumbered, with_part, with_parts}
use Rattle.gx_older.proofs.reading.PartsRead.{parts_fit}

-- a span that lies within a list has its length
span_size : (seen : List ℕ) (first n : ℕ) → 512 * (first + n) ≤ length seen → length (span_of seen first (512 * n)) ≡ 512 * n
unfolding span_of
span_size seen first n inside = length-take-le (512 * n) (drop (512 * first) seen) (let rest = length-drop (512 * first) seen in omega (arith, rest, inside))

-- a sector as a span
as_span : (xs : List ℕ) (s : ℕ) → span_of xs s (512 * 1) ≡ sector_of xs s
unfolding span_of sector_of
as_span xs s = refl

-- what was written is read
read_back : (to m : ℕ) (new xs : List ℕ) → length new ≡ m → 512 * to + length new ≤ length xs → span_of (put (512 * to) new xs) to m ≡ new
unfolding span_of
read_back to m new xs same fits = ap (λ j. take j (drop (512 * to) (put (512 * to) new xs))) (sym same) ∙ put_back (512 * to) new xs fits

-- a sector is none of these parts'
abbrev AreBeside : ℕ → List Part → Type 0
AreBeside s [] = Unit {0}
AreBeside s (p ∷ parts) = IsOutside p.to p.sectors s × AreBeside s parts

module _ (sectors size : ℕ) (seen : List ℕ) (long : 512 * sectors ≤ length seen) where
  of_part : (p : Part) → Fits sectors size p → length (span_of seen p.from (512 * p.sectors)) ≡ 512 * p.sectors
  of_part p fits = (let inside = fits.inside in span_size seen p.from p.sectors (omega (arith, inside, long)))

  room : (p : Part) (bytes : List ℕ) → length bytes ≡ size → Fits sectors size p → 512 * p.to + length (span_of seen p.from (512 * p.sectors)) ≤ length bytes
  room p bytes is fits = (let short = of_part p fits in let room = fits.room in omega (arith, short, room, is))

  -- a part in its place leaves the length
  part_size : (p : Part) (bytes : List ℕ) → length bytes ≡ size → Fits sectors size p → length (with_part seen p bytes) ≡ size
  part_size p bytes is fits = length-put (512 * p.to) (span_of seen p.from (512 * p.sectors)) bytes (room p bytes is fits) ∙ is

  parts_size : (parts : List Part) (bytes : List ℕ) → length bytes ≡ size → AllFit sectors size parts → length (with_parts seen parts bytes) ≡ size
  parts_size [] bytes is fit = is
  parts_size (p ∷ parts) bytes is fit = parts_size parts (with_part seen p bytes) (part_size p bytes is fit.0) fit.1

  -- and its sectors are read there
  there : (p : Part) (bytes : List ℕ) (k : ℕ) → length bytes ≡ size → Fits sectors size p → k < p.sectors → sector_of (with_part seen p bytes) (p.to + k) ≡ sector_of seen (p.from + k)
  there p bytes k is fits below =
      let n = p.sectors in
      let short = of_part p fits in
      let new : List ℕ = with_part seen p bytes in
      let back : span_of new p.to (512 * n) ≡ span_of seen p.from (512 * n) = read_back p.to (512 * n) (span_of seen p.from (512 * n)) bytes short (room p bytes is fits) in
      sym (as_span new (p.to + k)) ∙ span_part new p.to k 1 n (omega (arith, below)) ∙ ap (λ (ys : List ℕ). take (512 * 1) (drop (512 * k) ys)) back
      ∙ sym (span_part seen p.from k 1 n (omega (arith, below))) ∙ as_span seen (p.from + k)

  -- other sectors are as before
  beside : (parts : List Part) (bytes : List ℕ) (s : ℕ) → length bytes ≡ size → AllFit sectors size parts → AreBeside s parts → sector_of (with_parts seen parts bytes) s ≡ sector_of bytes s
  beside [] bytes s is fit none = refl
  beside (p ∷ parts) bytes s is fit out =
      beside parts (with_part seen p bytes) s (part_size p bytes is fit.0) fit.1 out.1
      ∙ put_outside p.to p.sectors s (span_of seen p.from (512 * p.sectors)) bytes (of_part p fit.0) (room p bytes is fit.0) out.0

  -- a part's sectors are in their places, if no later part lies
  in_place : (before : List Part) (p : Part) (after : List Part) (bytes : List ℕ) (k : ℕ) → length bytes ≡ size → AllFit sectors size (before ++ p ∷ after) → k < p.sectors
      → AreBeside (p.to + k) after → sector_of (with_parts seen (before ++ p ∷ after) bytes) (p.to + k) ≡ sector_of seen (p.from + k)
  in_place [] p after bytes k is fit below out = beside after (with_part seen p bytes) (p.to + k) (part_size p bytes is fit.0) fit.1 out ∙ there p bytes k is fit.0 below
  in_place (q ∷ before) p after bytes k is fit below out = in_place before p after (with_part seen q bytes) k (part_size q bytes is fit.0) fit.1 below out

-- a sector of zeros
zero_there : (size s : ℕ) → s < size → sector_of (replicate (512 * size) 0) s ≡ replicate 512 0
unfolding sector_of
zero_there size s below = ap (take 512) (drop-replicate (512 * s) (512 * size) 0) ∙ take-replicate 512 (512 * size - 512 * s) 0 (omega (arith, below))

-- the magic leaves each sector but the first
beyond : (xs : List ℕ) (s : ℕ) → 1 ≤ s → sector_of (put 0 magic_bytes xs) s ≡ sector_of xs s
unfolding sector_of
beyond xs s some = ap (take 512) (put_behind 0 magic_bytes xs (512 * s) (omega (arith, some)) (omega arith))

-- and is read in that
magic_read : (xs : List ℕ) → 8 ≤ length xs → take 8 (sector_of (put 0 magic_bytes xs) 0) ≡ magic_bytes
unfolding sector_of
magic_read xs long = take-take 8 512 (drop (512 * 0) (put 0 magic_bytes xs)) (omega arith) ∙ put_back 0 magic_bytes xs (omega (arith, long))

module _ (pages : ℕ) (seen : List ℕ) (some : 1 ≤ pages) (long : 512 * older_sectors_of pages ≤ length seen) where
  abbrev zeros : List ℕ
  zeros = replicate (512 * sectors_of pages) 0

  abbrev laid : List ℕ
  laid = with_parts seen (parts_of pages) zeros

  fit : AllFit (older_sectors_of pages) (512 * sectors_of pages) (parts_of pages)
  fit = parts_fit (older_sectors_of pages) (512 * sectors_of pages) pages some (omega arith) refl

  none_yet : length zeros ≡ 512 * sectors_of pages
  none_yet = length-replicate (512 * sectors_of pages) 0

  laid_size : length laid ≡ 512 * sectors_of pages
  laid_size = parts_size (older_sectors_of pages) (512 * sectors_of pages) seen long (parts_of pages) zeros none_yet fit

  -- a part's sector in its place, after some parts and before others
  placed : (before : List Part) (p : Part) (after : List Part) (k s t : ℕ) → parts_of pages ≡ before ++ p ∷ after → s ≡ p.to + k → t ≡ p.from + k → 1 ≤ s → k < p.sectors
      → AreBeside s after → sector_of (renumbered pages seen) s ≡ sector_of seen t
  placed before p after k s t are here was from below out =
      beyond laid s from ∙ ap (λ (ps : List Part). sector_of (with_parts seen ps zeros) s) are ∙ ap (sector_of (with_parts seen (before ++ p ∷ after) zeros)) here
      ∙ in_place (older_sectors_of pages) (512 * sectors_of pages) seen long before p after zeros k none_yet
      (subst (λ (ps : List Part). AllFit (older_sectors_of pages) (512 * sectors_of pages) ps) are fit) below (subst (λ j. AreBeside j after) here out)
      ∙ ap (sector_of seen) (sym was)

  -- a sector of no part
  closed : (s : ℕ) → 1 ≤ s → s < sectors_of pages → AreBeside s (parts_of pages) → sector_of (renumbered pages seen) s ≡ replicate 512 0
  closed s from below out =
      beyond laid s from ∙ beside (older_sectors_of pages) (512 * sectors_of pages) seen long (parts_of pages) zeros s none_yet fit out ∙ zero_there (sectors_of pages) s below

  -- the parts by their places
  abbrev front : Part
  front = part 0 0 LOG_AT

  abbrev gates_a : Part
  gates_a = part LOG_AT GATES_A OLDER_PLACES

  abbrev bodies_a : Part
  bodies_a = part OLDER_BODIES_A BODIES_A OLDER_BODIES

  abbrev gates_b : Part
  gates_b = part OLDER_GATES_B GATES_B OLDER_PLACES

  abbrev bodies_b : Part
  bodies_b = part OLDER_BODIES_B BODIES_B OLDER_BODIES

  abbrev last : Part
  last = part OLDER_PAGES_AT PAGES_AT (PAGE_SECTORS * pages)

  pub is_renumbered : IsRenumbered pages seen (renumbered pages seen)
  is_renumbered = record {
    size = length-put 0 magic_bytes laid (omega (arith, laid_size)) ∙ laid_size;
    magic = magic_read laid (omega (arith, laid_size));
    front = λ s from below.
        placed [] front (gates_a ∷ bodies_a ∷ gates_b ∷ bodies_b ∷ last ∷ []) s s s refl (omega arith) (omega arith) from below
        (inl (omega (arith, below)), (inl (omega (arith, below)), (inl (omega (arith, below)), (inl (omega (arith, below)), (inl (omega (arith, below)), tt)))));
    gates_a = λ k below.
        placed (front ∷ []) gates_a (bodies_a ∷ gates_b ∷ bodies_b ∷ last ∷ []) k (GATES_A + k) (LOG_AT + k) refl refl refl (omega arith) below
        (inl (omega (arith, below)), (inl (omega (arith, below)), (inl (omega (arith, below)), (inl (omega (arith, below)), tt))));
    closed_a = λ s from below.
        closed s (omega (arith, from)) (omega (arith, below))
        (inr (omega (arith, from)), (inr (omega (arith, from)), (inl (omega (arith, below)), (inl (omega (arith, below)), (inl (omega (arith, below)), (inl (omega (arith, below)), tt))))));
    bodies_a = λ k below.
        placed (front ∷ gates_a ∷ []) bodies_a (gates_b ∷ bodies_b ∷ last ∷ []) k (BODIES_A + k) (OLDER_BODIES_A + k) refl refl refl (omega arith) below
        (inl (omega (arith, below)), (inl (omega (arith, below)), (inl (omega (arith, below)), tt)));
    gates_b = λ k below.
        placed (front ∷ gates_a ∷ bodies_a ∷ []) gates_b (bodies_b ∷ last ∷ []) k (GATES_B + k) (OLDER_GATES_B + k) refl refl refl (omega arith) below
        (inl (omega (arith, below)), (inl (omega (arith, below)), tt));
    closed_b = λ s from below.
        closed s (omega (arith, from)) (omega (arith, below))
        (inr (omega (arith, from)), (inr (omega (arith, from)), (inr (omega (arith, from)), (inr (omega (arith, from)), (inl (omega (arith, below)), (inl (omega (arith, below)), tt))))));
    bodies_b = λ k below.
        placed (front ∷ gates_a ∷ bodies_a ∷ gates_b ∷ []) bodies_b (last ∷ []) k (BODIES_B + k) (OLDER_BODIES_B + k) refl refl refl (omega arith) below
        (inl (omega (arith, below)), tt);
    pages_are = λ k below.
        placed (front ∷ gates_a ∷ bodies_a ∷ gates_b ∷ bodies_b ∷ []) last [] k (PAGES_AT + k) (OLDER_PAGES_AT + k) refl refl refl (omega arith) below tt;
  }
