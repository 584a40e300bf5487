-- One field written after another, and how long a spelling is.
use Rattle.std.proofs.Common.{◌≡◌, ℕ, ◌+◌, ◌*◌, ◌≤◌, List, [], ◌∷◌, ◌++◌, length, drop, ap, sym, ◌∙◌, arith, length-append, append_assoc, subst}
use Rattle.std.proofs.lemmas.List.{append-nil}
use Rattle.std.specs.List.{AllByRecursion}
use Rattle.gx_page.specs.Bytes.{overwrite}
use Rattle.gx_page.proofs.Pieces.{overwrite_more, length-overwrite}
use Rattle.gx_page.proofs.Parts.{image_size}
use Rattle.gx_record.specs.declared.sizes.TheConstants.{NUMBERED_IMAGE}
use Rattle.gx_record.specs.Bytes.{u64_bytes, u32_bytes, u16_bytes, mark_byte}
use Rattle.gx_record.specs.Rec.{Rec, Pages, Write, Commit, End, Counters, Note, Bit, Add, Widen, Sweep}
use Rattle.gx_record.specs.Format.{spelling, pages_bytes, entry_bytes, ArePages, IsInRange}
use Rattle.gx_record.specs.Writing.{Wrote, size_of, IsWhole, IsSized}
use Rattle.gx_record.specs.Slots.{slots_bytes}
use Rattle.gx_record.proofs.Numbers.{length-u64_bytes, length-u32_bytes, length-u16_bytes}
use Rattle.gx_record.proofs.SlotBytes.{length-slots_bytes}

-- a text after another one
pub then_wrote : {old now new : List ℕ} {at mid end : ℕ} {text more : List ℕ} → Wrote old now at text mid → Wrote now new mid more end → Wrote old new at (text ++ more) end
then_wrote {old = old} {now = now} {new = new} {at = at} {mid = mid} {end = end} {text = text} {more = more} h k =
    let long : length (text ++ more) ≡ length text + length more = length-append text more in
    let room : at + length text ≤ length old = omega (arith, h.ends, h.within) in
    let same : length now ≡ length old = ap length h.written ∙ length-overwrite old at text room in
    let one : new ≡ overwrite (overwrite old at text) (at + length text) more =
    k.written ∙ ap (λ (xs : List ℕ). overwrite xs mid more) h.written ∙ ap (λ (n : ℕ). overwrite (overwrite old at text) n more) h.ends
    in
    record { written = one ∙ overwrite_more old text more at room; ends = omega (arith, h.ends, k.ends); within = omega (arith, k.within) }

-- a page in front of others
pub then_page : {old now new : List ℕ} {at mid end : ℕ} {more : List ℕ} (page : ℕ) (image : List ℕ) → Wrote old now at (u32_bytes page ++ image) mid → Wrote now new mid more end
    → Wrote old new at (u32_bytes page ++ (image ++ more)) end
then_page {old = old} {new = new} {at = at} {end = end} {more = more} page image h k =
    subst (λ (text : List ℕ). Wrote old new at text end) (append_assoc (u32_bytes page) image more) (then_wrote h k)

-- the last page
pub last_page : {old new : List ℕ} {at end : ℕ} (page : ℕ) (image : List ℕ) → Wrote old new at (u32_bytes page ++ image) end → Wrote old new at (u32_bytes page ++ (image ++ [])) end
last_page {old = old} {new = new} {at = at} {end = end} page image h = subst (λ (text : List ℕ). Wrote old new at (u32_bytes page ++ text) end) (sym (append-nil image)) h

-- what is written over the front
pub front_wrote : (old new text : List ℕ) (end : ℕ) → Wrote old new 0 text end → new ≡ text ++ drop end old
front_wrote old new text end h = h.written ∙ ap (λ (n : ℕ). text ++ drop n old) (omega (arith, h.ends))

length-pages_bytes : (pages : List (ℕ × List ℕ)) → AllByRecursion IsWhole pages → length (pages_bytes pages) ≡ NUMBERED_IMAGE * length pages
length-pages_bytes [] whole = omega arith
length-pages_bytes (p ∷ pages) whole =
    omega (arith, whole.0, length-u32_bytes p.0, length-append (u32_bytes p.0) (p.1 ++ pages_bytes pages), length-append p.1 (pages_bytes pages), length-pages_bytes pages whole.1)

length-entry_bytes : (tx row : ℕ) (key : List ℕ) → length (entry_bytes tx row key) ≡ 16 + length key
length-entry_bytes tx row key =
    omega (arith, length-u64_bytes tx, length-u64_bytes row, length-append (u64_bytes tx) (u64_bytes row ++ key), length-append (u64_bytes row) key)

pub length-spelling : (r : Rec) → IsSized r → length (spelling r) ≡ size_of r
length-spelling (Pages counter used pages) sized =
    simp length-append (omega (arith, length-u64_bytes counter, length-u32_bytes used, length-pages_bytes pages sized))
length-spelling (Write tx row key before after leaf image) sized =
    omega (arith, length-append (entry_bytes tx row key) (mark_byte before ∷ mark_byte after ∷ (u32_bytes leaf ++ image)), length-append (u32_bytes leaf) image, length-u32_bytes leaf, length-entry_bytes tx row key)
length-spelling (Commit tx n) sized = simp length-append (omega (arith, length-u64_bytes tx, length-u64_bytes n))
length-spelling (End tx) sized = omega (arith, length-u64_bytes tx)
length-spelling (Counters n counter used next) sized =
    simp length-append (omega (arith, length-u64_bytes n, length-u64_bytes counter, length-u32_bytes used, length-u64_bytes next))
length-spelling (Note tx row key before leaf) sized =
    omega (arith, length-append (entry_bytes tx row key) (mark_byte before ∷ u32_bytes leaf), length-u32_bytes leaf, length-entry_bytes tx row key)
length-spelling (Bit tx row key before after leaf) sized =
    omega (arith, length-append (entry_bytes tx row key) (mark_byte before ∷ mark_byte after ∷ u32_bytes leaf), length-u32_bytes leaf, length-entry_bytes tx row key)
length-spelling (Add tx row key leaf) sized =
    omega (arith, length-append (entry_bytes tx row key) (u32_bytes leaf), length-u32_bytes leaf, length-entry_bytes tx row key)
length-spelling (Widen page slot key) sized =
    omega (arith, length-append (u32_bytes page) (u16_bytes slot ++ key), length-append (u16_bytes slot) key, length-u32_bytes page, length-u16_bytes slot)
length-spelling (Sweep page slots) sized =
    omega (arith, length-append (u32_bytes page) (length slots ∷ slots_bytes slots), length-u32_bytes page, length-slots_bytes slots)

pages_whole : (least : ℕ) (pages : List (ℕ × List ℕ)) → ArePages least pages → AllByRecursion IsWhole pages
pages_whole least [] are = tt
pages_whole least (p ∷ pages) are = (image_size p.1 are.1.image.image, pages_whole (p.0 + 1) pages are.2)

pub in_range_sized : (r : Rec) → IsInRange r → IsSized r
in_range_sized (Pages counter used pages) is = pages_whole 0 pages is.4
in_range_sized (Write tx row key before after leaf image) is = image_size image is.2.image.image
in_range_sized (Commit tx n) is = tt
in_range_sized (End tx) is = tt
in_range_sized (Counters n counter used next) is = tt
in_range_sized (Note tx row key before leaf) is = tt
in_range_sized (Bit tx row key before after leaf) is = tt
in_range_sized (Add tx row key leaf) is = tt
in_range_sized (Widen page slot key) is = tt
in_range_sized (Sweep page slots) is = is.2

-- the same of a record in range
pub spelling_size : (r : Rec) → IsInRange r → length (spelling r) ≡ size_of r
spelling_size r is = length-spelling r (in_range_sized r is)
