-- Whole records: what is read was spelled so, and what is spelled so is read.
use Rattle.std.proofs.Common.{◌≡◌, ℕ, ◌+◌, ◌-◌, ◌≤◌, Bool, true, false, cond, eqb, List, [], ◌∷◌, ◌++◌, length, drop, Option, Some, None, refl, sym, ap, subst, ◌∙◌, append_assoc, arith}
use Rattle.std.specs.List.{AllByRecursion}
use Rattle.std.proofs.lemmas.Bool.{eqb-true}
use Rattle.std.proofs.lemmas.List.{drop_at, length-append, length-drop}
use Rattle.gx_page.specs.Bytes.{AreBytes}
use Rattle.gx_page.specs.Contents.{Contents}
use Rattle.gx_page.specs.Format.{image_of, IsWellFormed}
use Rattle.gx_page.specs.Reading.{read_of}
use Rattle.gx_page.proofs.Images.{read-image}
use Rattle.gx_record.specs.declared.sizes.TheConstants.{SPLIT_RECORD, WIDEN_BESIDE_KEY}
use Rattle.gx_record.specs.Bytes.{u64_bytes, u32_bytes, u16_bytes, mark_byte}
use Rattle.gx_record.specs.Rec.{Rec, Pages, Write, Commit, End, Counters, Note, Bit, Add, Widen, Sweep}
use Rattle.gx_record.specs.Format.{IsRecord, IsImageOf, BeginsWith, spelling, spellings, pages_bytes, entry_bytes}
use Rattle.gx_record.specs.Slots.{slots_bytes}
use Rattle.gx_record.specs.Reading.{pages_at, write_at, commit_at, end_at, counters_at, note_at, bit_at, add_at, widen_at, sweep_at, fields_at, record_at}
use Rattle.gx_record.proofs.Fields.{are-rest, found, some_is, bytes_again, number_8_again, number_4_again, number_2_again, mark_again, page_again, numbered_again, images_again, entry_again}
use Rattle.gx_record.proofs.SlotFields.{slots_read}
use Rattle.gx_record.proofs.Writes.{spelling_size}
use Rattle.gx_record.proofs.ByKind.{TakesRecord, pages_take, write_takes, commit_takes, end_takes, counters_take, note_takes, bit_takes, add_takes, widen_takes, sweep_takes}

-- which way a test went
chosen : {A : Type 0} (b : Bool) (x y z : A) → cond b x y ≡ z → (b ≡ true → x ≡ z) × (b ≡ false → y ≡ z)
chosen true x y z e = (λ _. e, λ h. absurd cc)
chosen false x y z e = (λ h. absurd cc, λ _. e)

-- the kind of a byte, if it is that number
of_kind : (n : ℕ) (key tag : ℕ) (bytes : List ℕ) (x : Rec × List ℕ) → eqb tag n ≡ true → TakesRecord key n bytes x → TakesRecord key tag bytes x
of_kind n key tag bytes x e t = subst (λ (k : ℕ). TakesRecord key k bytes x) (sym (eqb-true tag n e)) t

-- a test for a kind, and what is read otherwise
kind_takes : (n : ℕ) (key tag : ℕ) (bytes : List ℕ) (x : Rec × List ℕ) (this others : Option (Rec × List ℕ)) → cond (eqb tag n) this others ≡ Some x
    → (this ≡ Some x → TakesRecord key n bytes x) → (others ≡ Some x → TakesRecord key tag bytes x) → TakesRecord key tag bytes x
kind_takes n key tag bytes x this others e first rest =
    let by : (b : Bool) → eqb tag n ≡ b → cond b this others ≡ Some x → TakesRecord key tag bytes x =
    λ b. elim b as (λ v. eqb tag n ≡ v → cond v this others ≡ Some x → TakesRecord key tag bytes x) [ true ↦ λ h f. of_kind n key tag bytes x h (first f) | false ↦ λ h f. rest f ] in
    by (eqb tag n) refl e

none_takes : (key tag : ℕ) (bytes : List ℕ) (x : Rec × List ℕ) (nothing : Option (Rec × List ℕ)) → nothing ≡ None → nothing ≡ Some x → TakesRecord key tag bytes x
none_takes key tag bytes x nothing e f = absurd cc

fields_take : (key tag : ℕ) (bytes : List ℕ) (x : Rec × List ℕ) → AreBytes bytes → fields_at key tag bytes ≡ Some x → TakesRecord key tag bytes x
unfolding fields_at
fields_take key tag bytes x are e =
    kind_takes 1 key tag bytes x _ _ e (pages_take key bytes x are) (λ e.
    kind_takes 2 key tag bytes x _ _ e (write_takes key bytes x are) (λ e.
    kind_takes 3 key tag bytes x _ _ e (commit_takes key bytes x are) (λ e.
    kind_takes 4 key tag bytes x _ _ e (end_takes key bytes x are) (λ e.
    kind_takes 5 key tag bytes x _ _ e (counters_take key bytes x are) (λ e.
    kind_takes 6 key tag bytes x _ _ e (note_takes key bytes x are) (λ e.
    kind_takes 7 key tag bytes x _ _ e (bit_takes key bytes x are) (λ e.
    kind_takes 8 key tag bytes x _ _ e (add_takes key bytes x are) (λ e.
    kind_takes 9 key tag bytes x _ _ e (widen_takes key bytes x are) (λ e.
    kind_takes 10 key tag bytes x _ _ e (sweep_takes key bytes x are) (none_takes key tag bytes x None refl))))))))))

pub record_takes : (key tag : ℕ) (rest : List ℕ) (x : Rec × List ℕ) → AreBytes (tag ∷ rest) → record_at key (tag ∷ rest) ≡ Some x → TakesRecord key tag rest x
unfolding record_at
record_takes key tag rest x are e = fields_take key tag rest x (are-rest tag rest are) e

pub record_again : (key : ℕ) (r : Rec) (rest : List ℕ) → IsRecord key r → record_at key (spelling r ++ rest) ≡ Some (r, rest)
unfolding record_at fields_at pages_at write_at commit_at end_at counters_at note_at bit_at add_at widen_at sweep_at
record_again key (Pages counter used pages) rest is =
    let p = is.in_range in
    let regrouped : (u64_bytes counter ++ (u32_bytes used ++ (length pages ∷ pages_bytes pages))) ++ rest ≡ u64_bytes counter ++ (u32_bytes used ++ (length pages ∷ (pages_bytes pages ++ rest))) = simp append_assoc in
    rw (regrouped, number_8_again counter _ p.0, number_4_again used _ p.1, images_again pages rest p.2 p.3 p.4) refl
record_again key (Write tx row k before after leaf image) rest is =
    let p = is.in_range in
    let behind = mark_byte before ∷ mark_byte after ∷ (u32_bytes leaf ++ (image ++ rest)) in
    let regrouped : (entry_bytes tx row k ++ (mark_byte before ∷ mark_byte after ∷ (u32_bytes leaf ++ image))) ++ rest ≡ entry_bytes tx row k ++ behind = simp append_assoc in
    rw (regrouped, entry_again key tx row k behind p.0 p.1 is.has_key, mark_again before _, mark_again after _, numbered_again 0 (leaf, image) rest (omega arith) p.2) refl
record_again key (Commit tx n) rest is =
    let p = is.in_range in
    let regrouped : (u64_bytes tx ++ u64_bytes n) ++ rest ≡ u64_bytes tx ++ (u64_bytes n ++ rest) = simp append_assoc in
    rw (regrouped, number_8_again tx _ p.0, number_8_again n rest p.1) refl
record_again key (End tx) rest is = rw (number_8_again tx rest is.in_range) refl
record_again key (Counters n counter used next) rest is =
    let p = is.in_range in
    let regrouped : (u64_bytes n ++ (u64_bytes counter ++ (u32_bytes used ++ u64_bytes next))) ++ rest ≡ u64_bytes n ++ (u64_bytes counter ++ (u32_bytes used ++ (u64_bytes next ++ rest))) = simp append_assoc in
    rw (regrouped, number_8_again n _ p.0, number_8_again counter _ p.1, number_4_again used _ p.2, number_8_again next rest p.3) refl
record_again key (Note tx row k before leaf) rest is =
    let p = is.in_range in
    let behind = mark_byte before ∷ (u32_bytes leaf ++ rest) in
    let regrouped : (entry_bytes tx row k ++ (mark_byte before ∷ u32_bytes leaf)) ++ rest ≡ entry_bytes tx row k ++ behind = simp append_assoc in
    rw (regrouped, entry_again key tx row k behind p.0 p.1 is.has_key, mark_again before _, page_again 0 leaf rest (omega arith) p.2) refl
record_again key (Bit tx row k before after leaf) rest is =
    let p = is.in_range in
    let behind = mark_byte before ∷ mark_byte after ∷ (u32_bytes leaf ++ rest) in
    let regrouped : (entry_bytes tx row k ++ (mark_byte before ∷ mark_byte after ∷ u32_bytes leaf)) ++ rest ≡ entry_bytes tx row k ++ behind = simp append_assoc in
    rw (regrouped, entry_again key tx row k behind p.0 p.1 is.has_key, mark_again before _, mark_again after _, page_again 1 leaf rest p.2.0 p.2.1) refl
record_again key (Add tx row k leaf) rest is =
    let p = is.in_range in
    let regrouped : (entry_bytes tx row k ++ u32_bytes leaf) ++ rest ≡ entry_bytes tx row k ++ (u32_bytes leaf ++ rest) = simp append_assoc in
    rw (regrouped, entry_again key tx row k (u32_bytes leaf ++ rest) p.0 p.1 is.has_key, page_again 1 leaf rest p.2.0 p.2.1) refl
record_again key (Widen page slot k) rest is =
    let p = is.in_range in
    let regrouped : (u32_bytes page ++ (u16_bytes slot ++ k)) ++ rest ≡ u32_bytes page ++ (u16_bytes slot ++ (k ++ rest)) = simp append_assoc in
    rw (regrouped, page_again 1 page _ p.0.0 p.0.1, number_2_again slot _ p.1, bytes_again key k rest is.has_key) refl
record_again key (Sweep page slots) rest is =
    let p = is.in_range in
    let regrouped : (u32_bytes page ++ (length slots ∷ slots_bytes slots)) ++ rest ≡ u32_bytes page ++ (length slots ∷ (slots_bytes slots ++ rest)) = simp append_assoc in
    rw (regrouped, page_again 1 page _ p.0.0 p.0.1, slots_read slots rest p.1 p.2 p.3) refl

-- ---- what is answered

pub rest_within : (key : ℕ) (bytes : List ℕ) (r : Rec) (rest : List ℕ) → AreBytes bytes → record_at key bytes ≡ Some (r, rest) → length (spelling r) + length rest ≡ length bytes
unfolding record_at
rest_within key [] r rest are e = absurd cc
rest_within key (tag ∷ tail) r rest are e =
    let t = record_takes key tag tail (r, rest) are e in
    omega (arith, ap length t.takes.parts, length-append (spelling r) rest)

pub answer_begins : (key : ℕ) (bytes : List ℕ) (r : Rec) (rest : List ℕ) → AreBytes bytes → record_at key bytes ≡ Some (r, rest) → BeginsWith key bytes r (length bytes - length rest)
unfolding record_at
answer_begins key [] r rest are e = absurd cc
answer_begins key (tag ∷ tail) r rest are e =
    let t = record_takes key tag tail (r, rest) are e in
    let bytes = tag ∷ tail in
    let size = rest_within key bytes r rest are e in
    let n : length (spelling r) ≡ length bytes - length rest = omega (arith, size) in
    let behind : drop (length bytes - length rest) bytes ≡ rest = ap (λ (l : List ℕ). drop (length bytes - length rest) l) t.takes.parts ∙ drop_at (spelling r) rest _ n in
    record {
      is_record = t.is_record;
      size = sym n;
      within = omega (arith, size);
      front = t.takes.parts ∙ ap (λ (l : List ℕ). spelling r ++ l) (sym behind);
    }

front_read : (key : ℕ) (bytes : List ℕ) (r : Rec) (n : ℕ) → BeginsWith key bytes r n → record_at key bytes ≡ Some (r, drop n bytes)
front_read key bytes r n b = ap (record_at key) b.front ∙ record_again key r (drop n bytes) b.is_record

pub only_answer : (key : ℕ) (bytes : List ℕ) (s : Rec) (rest : List ℕ) → record_at key bytes ≡ Some (s, rest)
    → (r : Rec) (n : ℕ) → BeginsWith key bytes r n → found {A = Rec × ℕ} (s, length bytes - length rest) ≡ found {A = Rec × ℕ} (r, n)
only_answer key bytes s rest e r n b =
    let answer : Rec × List ℕ = (s, rest) in
    let front : Rec × List ℕ = (r, drop n bytes) in
    let both : answer ≡ front = some_is answer front (sym e ∙ front_read key bytes r n b) in
    let same : s ≡ r = ap (λ (x : Rec × List ℕ). x.0) both in
    let behind : rest ≡ drop n bytes = ap (λ (x : Rec × List ℕ). x.1) both in
    let size : length bytes - length rest ≡ n = omega (arith, b.within, ap length behind, length-drop n bytes) in
    ap (λ (t : Rec). found {A = Rec × ℕ} (t, length bytes - length rest)) same ∙ ap (λ (k : ℕ). found {A = Rec × ℕ} (r, k)) size

pub none_begins : (key : ℕ) (bytes : List ℕ) → record_at key bytes ≡ None → (r : Rec) (n : ℕ) → BeginsWith key bytes r n → ⊥
none_begins key bytes e r n b = let read = front_read key bytes r n b in cc

-- ---- laws

pub no_spelling_begins_another : (key : ℕ) (r s : Rec) (x y : List ℕ) → IsRecord key r → IsRecord key s → spelling r ++ x ≡ spelling s ++ y → (r ≡ s) × (x ≡ y)
no_spelling_begins_another key r s x y p q e =
    let first : Rec × List ℕ = (r, x) in
    let second : Rec × List ℕ = (s, y) in
    let both : first ≡ second = some_is first second (sym (record_again key r x p) ∙ ap (record_at key) e ∙ record_again key s y q) in
    (ap (λ (z : Rec × List ℕ). z.0) both, ap (λ (z : Rec × List ℕ). z.1) both)

pub spelling_begins : (key : ℕ) (r : Rec) (rest : List ℕ) → IsRecord key r → BeginsWith key (spelling r ++ rest) r (length (spelling r)) × (drop (length (spelling r)) (spelling r ++ rest) ≡ rest)
spelling_begins key r rest is =
    let behind : drop (length (spelling r)) (spelling r ++ rest) ≡ rest = drop_at (spelling r) rest _ refl in
    let begins : BeginsWith key (spelling r ++ rest) r (length (spelling r)) = record {
      is_record = is;
      size = refl;
      within = omega (arith, length-append (spelling r) rest);
      front = ap (λ (l : List ℕ). spelling r ++ l) (sym behind);
    } in
    (begins, behind)

pub spelling_sizes : (key : ℕ) (r : Rec) → IsRecord key r → (WIDEN_BESIDE_KEY ≤ length (spelling r)) × (length (spelling r) ≤ SPLIT_RECORD + key)
spelling_sizes key (Pages counter used pages) is = let size = spelling_size (Pages counter used pages) is.in_range in let few = is.in_range.3 in (omega (arith, size), omega (arith, size, few))
spelling_sizes key (Write tx row k before after leaf image) is = let size = spelling_size (Write tx row k before after leaf image) is.in_range in (omega (arith, size), omega (arith, size, is.has_key))
spelling_sizes key (Commit tx n) is = let size = spelling_size (Commit tx n) is.in_range in (omega (arith, size), omega (arith, size))
spelling_sizes key (End tx) is = let size = spelling_size (End tx) is.in_range in (omega (arith, size), omega (arith, size))
spelling_sizes key (Counters n counter used next) is = let size = spelling_size (Counters n counter used next) is.in_range in (omega (arith, size), omega (arith, size))
spelling_sizes key (Note tx row k before leaf) is = let size = spelling_size (Note tx row k before leaf) is.in_range in (omega (arith, size), omega (arith, size, is.has_key))
spelling_sizes key (Bit tx row k before after leaf) is = let size = spelling_size (Bit tx row k before after leaf) is.in_range in (omega (arith, size), omega (arith, size, is.has_key))
spelling_sizes key (Add tx row k leaf) is = let size = spelling_size (Add tx row k leaf) is.in_range in (omega (arith, size), omega (arith, size, is.has_key))
spelling_sizes key (Widen page slot k) is = let size = spelling_size (Widen page slot k) is.in_range in (omega (arith, size), omega (arith, size, is.has_key))
spelling_sizes key (Sweep page slots) is = let size = spelling_size (Sweep page slots) is.in_range in let some = is.in_range.1 in let few = is.in_range.2 in (omega (arith, size, some), omega (arith, size, few))

pub spellings_join : (rs ss : List Rec) → spellings (rs ++ ss) ≡ spellings rs ++ spellings ss
spellings_join [] ss = refl
spellings_join (r ∷ rs) ss = ap (λ (l : List ℕ). spelling r ++ l) (spellings_join rs ss) ∙ sym (append_assoc (spelling r) (spellings rs) (spellings ss))

something : (key : ℕ) (r : Rec) (rest : List ℕ) → IsRecord key r → [] ≡ spelling r ++ rest → ⊥
something key r rest is e = omega (arith, ap length e, length-append (spelling r) rest, (spelling_sizes key r is).0)

pub spellings_tell : (key : ℕ) (rs ss : List Rec) → AllByRecursion (IsRecord key) rs → AllByRecursion (IsRecord key) ss → spellings rs ≡ spellings ss → rs ≡ ss
spellings_tell key [] [] p q e = refl
spellings_tell key [] (s ∷ ss) p q e = absurd (something key s (spellings ss) q.0 e)
spellings_tell key (r ∷ rs) [] p q e = absurd (something key r (spellings rs) p.0 (sym e))
spellings_tell key (r ∷ rs) (s ∷ ss) p q e =
    let first = no_spelling_begins_another key r s (spellings rs) (spellings ss) p.0 q.0 e in
    let others = spellings_tell key rs ss p.1 q.1 first.1 in
    ap (λ (t : Rec). t ∷ rs) first.0 ∙ ap (λ (l : List Rec). s ∷ l) others

pub image_of_page : (v : Contents) (page : ℕ) (bytes : List ℕ) → IsWellFormed v → v.number ≡ page → image_of v ≡ bytes → IsImageOf page bytes
image_of_page v page bytes well number image =
    let read : read_of bytes ≡ v = ap read_of (sym image) ∙ read-image v well in
    record {
      image = record { image = ap image_of read ∙ image; well_formed = subst (λ (w : Contents). IsWellFormed w) (sym read) well };
      number = ap (λ (w : Contents). w.number) read ∙ number;
    }
