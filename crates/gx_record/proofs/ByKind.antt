-- Reading the fields of each kind of record.
use Rattle.std.proofs.Common.{◌≡◌, ℕ, List, [], ◌∷◌, ◌++◌, length, Some, ap, subst}
use Rattle.gx_page.specs.Bytes.{AreBytes}
use Rattle.gx_record.specs.Bytes.{u64_bytes, u32_bytes, u16_bytes, mark_byte}
use Rattle.gx_record.specs.Rec.{Rec, Pages, Write, Commit, End, Counters, Note, Bit, Add, Widen, Sweep}
use Rattle.gx_record.specs.Format.{IsRecord, spelling, pages_bytes, entry_bytes}
use Rattle.gx_record.specs.Reading.{◌>>=◌, bytes_at, number_8_at, number_4_at, number_2_at, mark_at, page_at, numbered_at, images_at, slots_at, entry_at}
use Rattle.gx_record.specs.Reading.{pages_at, write_at, commit_at, end_at, counters_at, note_at, bit_at, add_at, widen_at, sweep_at}
use Rattle.gx_record.specs.Slots.{slots_bytes}
use Rattle.gx_record.proofs.Fields.{bind_some, some_is, Takes, takes-then, bytes_take, number_8_takes, number_4_takes, number_2_takes, mark_takes, page_takes, numbered_takes, images_take, entry_takes}
use Rattle.gx_record.proofs.SlotFields.{slots_take}

-- what was taken after the byte of a kind
pub record TakesRecord (key tag : ℕ) (bytes : List ℕ) (x : Rec × List ℕ) : Type 0 where
  pub takes : Takes (tag ∷ bytes) (spelling x.0) x.1
  pub is_record : IsRecord key x.0

-- the byte of a kind in front
tagged : (tag : ℕ) (bytes text rest : List ℕ) → Takes bytes text rest → Takes (tag ∷ bytes) (tag ∷ text) rest
tagged tag bytes text rest t = record { parts = ap (λ (l : List ℕ). tag ∷ l) t.parts; rest_are = t.rest_are }

pub pages_take : (key : ℕ) (bytes : List ℕ) (x : Rec × List ℕ) → AreBytes bytes → pages_at bytes ≡ Some x → TakesRecord key 1 bytes x
unfolding pages_at
pages_take key bytes x are e =
    let a = bind_some (number_8_at bytes) (λ counter. number_4_at counter.1 >>= λ used. images_at used.1 >>= λ pages. Some (Pages counter.0 used.0 pages.0, pages.1)) x e in
    let b = bind_some (number_4_at a.0.1) (λ used. images_at used.1 >>= λ pages. Some (Pages a.0.0 used.0 pages.0, pages.1)) x a.2 in
    let c = bind_some (images_at b.0.1) (λ pages. Some (Pages a.0.0 b.0.0 pages.0, pages.1)) x b.2 in
    let t = number_8_takes bytes a.0 are a.1 in
    let u = number_4_takes a.0.1 b.0 t.0.rest_are b.1 in
    let v = images_take b.0.1 c.0 u.0.rest_are c.1 in
    let behind = takes-then a.0.1 (u32_bytes b.0.0) b.0.1 (length c.0.0 ∷ pages_bytes c.0.0) c.0.1 u.0 v.takes in
    let all = takes-then bytes (u64_bytes a.0.0) a.0.1 (u32_bytes b.0.0 ++ (length c.0.0 ∷ pages_bytes c.0.0)) c.0.1 t.0 behind in
    let whole : TakesRecord key 1 bytes (Pages a.0.0 b.0.0 c.0.0, c.0.1) = record {
      takes = tagged 1 bytes _ c.0.1 all;
      is_record = record { in_range = (t.1, u.1, v.some, v.few, v.pages); has_key = tt };
    } in
    subst (λ (y : Rec × List ℕ). TakesRecord key 1 bytes y) (some_is _ _ c.2) whole

pub write_takes : (key : ℕ) (bytes : List ℕ) (x : Rec × List ℕ) → AreBytes bytes → write_at key bytes ≡ Some x → TakesRecord key 2 bytes x
unfolding write_at
write_takes key bytes x are e =
    let a = bind_some (entry_at key bytes) (λ entry. mark_at entry.1 >>= λ before. mark_at before.1 >>= λ after. numbered_at 0 after.1 >>= λ leaf. Some (Write entry.0.0 entry.0.1 entry.0.2 before.0 after.0 leaf.0.0 leaf.0.1, leaf.1)) x e in
    let b = bind_some (mark_at a.0.1) (λ before. mark_at before.1 >>= λ after. numbered_at 0 after.1 >>= λ leaf. Some (Write a.0.0.0 a.0.0.1 a.0.0.2 before.0 after.0 leaf.0.0 leaf.0.1, leaf.1)) x a.2 in
    let c = bind_some (mark_at b.0.1) (λ after. numbered_at 0 after.1 >>= λ leaf. Some (Write a.0.0.0 a.0.0.1 a.0.0.2 b.0.0 after.0 leaf.0.0 leaf.0.1, leaf.1)) x b.2 in
    let d = bind_some (numbered_at 0 c.0.1) (λ leaf. Some (Write a.0.0.0 a.0.0.1 a.0.0.2 b.0.0 c.0.0 leaf.0.0 leaf.0.1, leaf.1)) x c.2 in
    let t = entry_takes key bytes a.0 are a.1 in
    let u = mark_takes a.0.1 b.0 t.takes.rest_are b.1 in
    let v = mark_takes b.0.1 c.0 u.rest_are c.1 in
    let w = numbered_takes 0 c.0.1 d.0 v.rest_are d.1 in
    let leaf_bytes = u32_bytes d.0.0.0 ++ d.0.0.1 in
    let last = takes-then b.0.1 (mark_byte c.0.0 ∷ []) c.0.1 leaf_bytes d.0.1 v w.takes in
    let behind = takes-then a.0.1 (mark_byte b.0.0 ∷ []) b.0.1 (mark_byte c.0.0 ∷ leaf_bytes) d.0.1 u last in
    let all = takes-then bytes (entry_bytes a.0.0.0 a.0.0.1 a.0.0.2) a.0.1 (mark_byte b.0.0 ∷ mark_byte c.0.0 ∷ leaf_bytes) d.0.1 t.takes behind in
    let whole : TakesRecord key 2 bytes (Write a.0.0.0 a.0.0.1 a.0.0.2 b.0.0 c.0.0 d.0.0.0 d.0.0.1, d.0.1) = record {
      takes = tagged 2 bytes _ d.0.1 all;
      is_record = record { in_range = (t.tx, t.row, w.page); has_key = t.key };
    } in
    subst (λ (y : Rec × List ℕ). TakesRecord key 2 bytes y) (some_is _ _ d.2) whole

pub commit_takes : (key : ℕ) (bytes : List ℕ) (x : Rec × List ℕ) → AreBytes bytes → commit_at bytes ≡ Some x → TakesRecord key 3 bytes x
unfolding commit_at
commit_takes key bytes x are e =
    let a = bind_some (number_8_at bytes) (λ tx. number_8_at tx.1 >>= λ n. Some (Commit tx.0 n.0, n.1)) x e in
    let b = bind_some (number_8_at a.0.1) (λ n. Some (Commit a.0.0 n.0, n.1)) x a.2 in
    let t = number_8_takes bytes a.0 are a.1 in
    let u = number_8_takes a.0.1 b.0 t.0.rest_are b.1 in
    let all = takes-then bytes (u64_bytes a.0.0) a.0.1 (u64_bytes b.0.0) b.0.1 t.0 u.0 in
    let whole : TakesRecord key 3 bytes (Commit a.0.0 b.0.0, b.0.1) = record {
      takes = tagged 3 bytes _ b.0.1 all;
      is_record = record { in_range = (t.1, u.1); has_key = tt };
    } in
    subst (λ (y : Rec × List ℕ). TakesRecord key 3 bytes y) (some_is _ _ b.2) whole

pub end_takes : (key : ℕ) (bytes : List ℕ) (x : Rec × List ℕ) → AreBytes bytes → end_at bytes ≡ Some x → TakesRecord key 4 bytes x
unfolding end_at
end_takes key bytes x are e =
    let a = bind_some (number_8_at bytes) (λ tx. Some (End tx.0, tx.1)) x e in
    let t = number_8_takes bytes a.0 are a.1 in
    let whole : TakesRecord key 4 bytes (End a.0.0, a.0.1) = record {
      takes = tagged 4 bytes _ a.0.1 t.0;
      is_record = record { in_range = t.1; has_key = tt };
    } in
    subst (λ (y : Rec × List ℕ). TakesRecord key 4 bytes y) (some_is _ _ a.2) whole

pub counters_take : (key : ℕ) (bytes : List ℕ) (x : Rec × List ℕ) → AreBytes bytes → counters_at bytes ≡ Some x → TakesRecord key 5 bytes x
unfolding counters_at
counters_take key bytes x are e =
    let a = bind_some (number_8_at bytes) (λ n. number_8_at n.1 >>= λ counter. number_4_at counter.1 >>= λ used. number_8_at used.1 >>= λ next. Some (Counters n.0 counter.0 used.0 next.0, next.1)) x e in
    let b = bind_some (number_8_at a.0.1) (λ counter. number_4_at counter.1 >>= λ used. number_8_at used.1 >>= λ next. Some (Counters a.0.0 counter.0 used.0 next.0, next.1)) x a.2 in
    let c = bind_some (number_4_at b.0.1) (λ used. number_8_at used.1 >>= λ next. Some (Counters a.0.0 b.0.0 used.0 next.0, next.1)) x b.2 in
    let d = bind_some (number_8_at c.0.1) (λ next. Some (Counters a.0.0 b.0.0 c.0.0 next.0, next.1)) x c.2 in
    let t = number_8_takes bytes a.0 are a.1 in
    let u = number_8_takes a.0.1 b.0 t.0.rest_are b.1 in
    let v = number_4_takes b.0.1 c.0 u.0.rest_are c.1 in
    let w = number_8_takes c.0.1 d.0 v.0.rest_are d.1 in
    let last = takes-then b.0.1 (u32_bytes c.0.0) c.0.1 (u64_bytes d.0.0) d.0.1 v.0 w.0 in
    let behind = takes-then a.0.1 (u64_bytes b.0.0) b.0.1 (u32_bytes c.0.0 ++ u64_bytes d.0.0) d.0.1 u.0 last in
    let all = takes-then bytes (u64_bytes a.0.0) a.0.1 (u64_bytes b.0.0 ++ (u32_bytes c.0.0 ++ u64_bytes d.0.0)) d.0.1 t.0 behind in
    let whole : TakesRecord key 5 bytes (Counters a.0.0 b.0.0 c.0.0 d.0.0, d.0.1) = record {
      takes = tagged 5 bytes _ d.0.1 all;
      is_record = record { in_range = (t.1, u.1, v.1, w.1); has_key = tt };
    } in
    subst (λ (y : Rec × List ℕ). TakesRecord key 5 bytes y) (some_is _ _ d.2) whole

pub note_takes : (key : ℕ) (bytes : List ℕ) (x : Rec × List ℕ) → AreBytes bytes → note_at key bytes ≡ Some x → TakesRecord key 6 bytes x
unfolding note_at
note_takes key bytes x are e =
    let a = bind_some (entry_at key bytes) (λ entry. mark_at entry.1 >>= λ before. page_at 0 before.1 >>= λ leaf. Some (Note entry.0.0 entry.0.1 entry.0.2 before.0 leaf.0, leaf.1)) x e in
    let b = bind_some (mark_at a.0.1) (λ before. page_at 0 before.1 >>= λ leaf. Some (Note a.0.0.0 a.0.0.1 a.0.0.2 before.0 leaf.0, leaf.1)) x a.2 in
    let c = bind_some (page_at 0 b.0.1) (λ leaf. Some (Note a.0.0.0 a.0.0.1 a.0.0.2 b.0.0 leaf.0, leaf.1)) x b.2 in
    let t = entry_takes key bytes a.0 are a.1 in
    let u = mark_takes a.0.1 b.0 t.takes.rest_are b.1 in
    let v = page_takes 0 b.0.1 c.0 u.rest_are c.1 in
    let behind = takes-then a.0.1 (mark_byte b.0.0 ∷ []) b.0.1 (u32_bytes c.0.0) c.0.1 u v.takes in
    let all = takes-then bytes (entry_bytes a.0.0.0 a.0.0.1 a.0.0.2) a.0.1 (mark_byte b.0.0 ∷ u32_bytes c.0.0) c.0.1 t.takes behind in
    let whole : TakesRecord key 6 bytes (Note a.0.0.0 a.0.0.1 a.0.0.2 b.0.0 c.0.0, c.0.1) = record {
      takes = tagged 6 bytes _ c.0.1 all;
      is_record = record { in_range = (t.tx, t.row, v.fits); has_key = t.key };
    } in
    subst (λ (y : Rec × List ℕ). TakesRecord key 6 bytes y) (some_is _ _ c.2) whole

pub bit_takes : (key : ℕ) (bytes : List ℕ) (x : Rec × List ℕ) → AreBytes bytes → bit_at key bytes ≡ Some x → TakesRecord key 7 bytes x
unfolding bit_at
bit_takes key bytes x are e =
    let a = bind_some (entry_at key bytes) (λ entry. mark_at entry.1 >>= λ before. mark_at before.1 >>= λ after. page_at 1 after.1 >>= λ leaf. Some (Bit entry.0.0 entry.0.1 entry.0.2 before.0 after.0 leaf.0, leaf.1)) x e in
    let b = bind_some (mark_at a.0.1) (λ before. mark_at before.1 >>= λ after. page_at 1 after.1 >>= λ leaf. Some (Bit a.0.0.0 a.0.0.1 a.0.0.2 before.0 after.0 leaf.0, leaf.1)) x a.2 in
    let c = bind_some (mark_at b.0.1) (λ after. page_at 1 after.1 >>= λ leaf. Some (Bit a.0.0.0 a.0.0.1 a.0.0.2 b.0.0 after.0 leaf.0, leaf.1)) x b.2 in
    let d = bind_some (page_at 1 c.0.1) (λ leaf. Some (Bit a.0.0.0 a.0.0.1 a.0.0.2 b.0.0 c.0.0 leaf.0, leaf.1)) x c.2 in
    let t = entry_takes key bytes a.0 are a.1 in
    let u = mark_takes a.0.1 b.0 t.takes.rest_are b.1 in
    let v = mark_takes b.0.1 c.0 u.rest_are c.1 in
    let w = page_takes 1 c.0.1 d.0 v.rest_are d.1 in
    let last = takes-then b.0.1 (mark_byte c.0.0 ∷ []) c.0.1 (u32_bytes d.0.0) d.0.1 v w.takes in
    let behind = takes-then a.0.1 (mark_byte b.0.0 ∷ []) b.0.1 (mark_byte c.0.0 ∷ u32_bytes d.0.0) d.0.1 u last in
    let all = takes-then bytes (entry_bytes a.0.0.0 a.0.0.1 a.0.0.2) a.0.1 (mark_byte b.0.0 ∷ mark_byte c.0.0 ∷ u32_bytes d.0.0) d.0.1 t.takes behind in
    let whole : TakesRecord key 7 bytes (Bit a.0.0.0 a.0.0.1 a.0.0.2 b.0.0 c.0.0 d.0.0, d.0.1) = record {
      takes = tagged 7 bytes _ d.0.1 all;
      is_record = record { in_range = (t.tx, t.row, (w.from, w.fits)); has_key = t.key };
    } in
    subst (λ (y : Rec × List ℕ). TakesRecord key 7 bytes y) (some_is _ _ d.2) whole

pub add_takes : (key : ℕ) (bytes : List ℕ) (x : Rec × List ℕ) → AreBytes bytes → add_at key bytes ≡ Some x → TakesRecord key 8 bytes x
unfolding add_at
add_takes key bytes x are e =
    let a = bind_some (entry_at key bytes) (λ entry. page_at 1 entry.1 >>= λ leaf. Some (Add entry.0.0 entry.0.1 entry.0.2 leaf.0, leaf.1)) x e in
    let b = bind_some (page_at 1 a.0.1) (λ leaf. Some (Add a.0.0.0 a.0.0.1 a.0.0.2 leaf.0, leaf.1)) x a.2 in
    let t = entry_takes key bytes a.0 are a.1 in
    let u = page_takes 1 a.0.1 b.0 t.takes.rest_are b.1 in
    let all = takes-then bytes (entry_bytes a.0.0.0 a.0.0.1 a.0.0.2) a.0.1 (u32_bytes b.0.0) b.0.1 t.takes u.takes in
    let whole : TakesRecord key 8 bytes (Add a.0.0.0 a.0.0.1 a.0.0.2 b.0.0, b.0.1) = record {
      takes = tagged 8 bytes _ b.0.1 all;
      is_record = record { in_range = (t.tx, t.row, (u.from, u.fits)); has_key = t.key };
    } in
    subst (λ (y : Rec × List ℕ). TakesRecord key 8 bytes y) (some_is _ _ b.2) whole

pub widen_takes : (key : ℕ) (bytes : List ℕ) (x : Rec × List ℕ) → AreBytes bytes → widen_at key bytes ≡ Some x → TakesRecord key 9 bytes x
unfolding widen_at
widen_takes key bytes x are e =
    let a = bind_some (page_at 1 bytes) (λ page. number_2_at page.1 >>= λ slot. bytes_at key slot.1 >>= λ k. Some (Widen page.0 slot.0 k.0, k.1)) x e in
    let b = bind_some (number_2_at a.0.1) (λ slot. bytes_at key slot.1 >>= λ k. Some (Widen a.0.0 slot.0 k.0, k.1)) x a.2 in
    let c = bind_some (bytes_at key b.0.1) (λ k. Some (Widen a.0.0 b.0.0 k.0, k.1)) x b.2 in
    let t = page_takes 1 bytes a.0 are a.1 in
    let u = number_2_takes a.0.1 b.0 t.takes.rest_are b.1 in
    let v = bytes_take key b.0.1 c.0 u.0.rest_are c.1 in
    let behind = takes-then a.0.1 (u16_bytes b.0.0) b.0.1 c.0.0 c.0.1 u.0 v.takes in
    let all = takes-then bytes (u32_bytes a.0.0) a.0.1 (u16_bytes b.0.0 ++ c.0.0) c.0.1 t.takes behind in
    let whole : TakesRecord key 9 bytes (Widen a.0.0 b.0.0 c.0.0, c.0.1) = record {
      takes = tagged 9 bytes _ c.0.1 all;
      is_record = record { in_range = ((t.from, t.fits), u.1); has_key = v.long };
    } in
    subst (λ (y : Rec × List ℕ). TakesRecord key 9 bytes y) (some_is _ _ c.2) whole

pub sweep_takes : (key : ℕ) (bytes : List ℕ) (x : Rec × List ℕ) → AreBytes bytes → sweep_at bytes ≡ Some x → TakesRecord key 10 bytes x
unfolding sweep_at
sweep_takes key bytes x are e =
    let a = bind_some (page_at 1 bytes) (λ page. slots_at page.1 >>= λ slots. Some (Sweep page.0 slots.0, slots.1)) x e in
    let b = bind_some (slots_at a.0.1) (λ slots. Some (Sweep a.0.0 slots.0, slots.1)) x a.2 in
    let t = page_takes 1 bytes a.0 are a.1 in
    let u = slots_take a.0.1 b.0 t.takes.rest_are b.1 in
    let all = takes-then bytes (u32_bytes a.0.0) a.0.1 (length b.0.0 ∷ slots_bytes b.0.0) b.0.1 t.takes u.takes in
    let whole : TakesRecord key 10 bytes (Sweep a.0.0 b.0.0, b.0.1) = record {
      takes = tagged 10 bytes _ b.0.1 all;
      is_record = record { in_range = ((t.from, t.fits), u.some, u.few, u.slots); has_key = tt };
    } in
    subst (λ (y : Rec × List ℕ). TakesRecord key 10 bytes y) (some_is _ _ b.2) whole
