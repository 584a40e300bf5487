-- Reading a field: what is read was spelled so, and what is spelled so is read.
use Rattle.std.proofs.Common.{◌≡◌, ℕ, zero, suc, ◌+◌, ◌^◌, ◌<◌, ◌≤◌, Bool, true, false, cond, ltb, eqb, List, [], ◌∷◌, ◌++◌, length, take, drop, Option, Some, None, refl, sym, ap, subst, ◌∙◌, append_assoc, arith, inl, inr}
use Rattle.std.specs.Prelude.{is_none}
use Rattle.std.proofs.lemmas.Bool.{cases_lt, ltb-false, le-ltb, eqb-true, eq-eqb}
use Rattle.std.proofs.lemmas.List.{take_at, drop_at, take-append-drop, length-append, length-take, get_or-drop, get_or-take, get_or_past}
use Rattle.gx_page.specs.declared.block.TheConstants.{PAGE_SIZE}
use Rattle.gx_page.specs.Bytes.{AreBytes}
use Rattle.gx_page.specs.Faults.{fault_of}
use Rattle.gx_page.specs.Reading.{read_of}
use Rattle.gx_page.specs.declared.fault.PageFault.{PageFault}
use Rattle.gx_page.proofs.Parts.{image_size}
use Rattle.gx_page.proofs.Pieces.{both}
use Rattle.gx_page.proofs.Faultless.{is_image, image_faultless}
use Rattle.gx_record.specs.Bytes.{u64_bytes, u32_bytes, u16_bytes, u64_of, u32_of, u16_of, mark_byte}
use Rattle.gx_record.specs.Format.{IsImageOf, IsPage, ArePages, pages_bytes, entry_bytes}
use Rattle.gx_record.specs.Reading.{◌>>=◌, bytes_at, number_8_at, number_4_at, number_2_at, mark_at, page_at, is_image_of, image_at, numbered_at, rising_at, images_at, entry_at}
use Rattle.gx_record.proofs.Numbers.{length-u64_bytes, length-u32_bytes, length-u16_bytes, u64_again, u32_again, u16_again, u64_back, u32_back, u16_back, u64_below, u32_below, u16_below}

are-drop : (n : ℕ) (bytes : List ℕ) → AreBytes bytes → AreBytes (drop n bytes)
are-drop n bytes are i = rw get_or-drop (are (n + i))

are-take : (n : ℕ) (bytes : List ℕ) → AreBytes bytes → AreBytes (take n bytes)
are-take n bytes are i =
    elim (cases_lt i n) [
      | inl lt ↦ rw (get_or-take n bytes i 0 lt) (are i)
      | inr le ↦ rw (get_or_past (take n bytes) i 0 (omega (arith, length-take n bytes))) (omega arith)
    ]

pub are-rest : (byte : ℕ) (bytes : List ℕ) → AreBytes (byte ∷ bytes) → AreBytes bytes
are-rest byte bytes are i = are (suc i)

-- the value of a step that found one
pub bind_some : {A B : Type 0} (o : Option A) (f : A → Option B) (y : B) → (o >>= f) ≡ Some y → (x : A) × (o ≡ Some x) × (f x ≡ Some y)
bind_some (Some x) f y e = (x, refl, e)
bind_some None f y e = absurd cc

pub unless : {A : Type 0} (b : Bool) (x y : A) → cond b None (Some x) ≡ Some y → (b ≡ false) × (x ≡ y)
unless true x y e = absurd cc
unless false x y e = (refl, cc)

pub provided : {A : Type 0} (b : Bool) (x y : A) → cond b (Some x) None ≡ Some y → (b ≡ true) × (x ≡ y)
provided true x y e = (refl, cc)
provided false x y e = absurd cc

abbrev pub found : {A : Type 0} → A → Option A
found x = Some x

pub some_is : {A : Type 0} (x y : A) → found x ≡ found y → x ≡ y
some_is x y e = cc

-- what was taken from the front of bytes
pub record Takes (bytes text rest : List ℕ) : Type 0 where
  pub parts : bytes ≡ text ++ rest
  pub rest_are : AreBytes rest

pub takes-then : (a x b y c : List ℕ) → Takes a x b → Takes b y c → Takes a (x ++ y) c
takes-then a x b y c p q = record { parts = p.parts ∙ ap (λ (t : List ℕ). x ++ t) q.parts ∙ sym (append_assoc x y c); rest_are = q.rest_are }

-- ---- bytes

pub record TakesBytes (size : ℕ) (bytes : List ℕ) (x : List ℕ × List ℕ) : Type 0 where
  pub takes : Takes bytes x.0 x.1
  pub long : length x.0 ≡ size
  pub are : AreBytes x.0

pub bytes_take : (size : ℕ) (bytes : List ℕ) (x : List ℕ × List ℕ) → AreBytes bytes → bytes_at size bytes ≡ Some x → TakesBytes size bytes x
bytes_take size bytes x are e =
    let g = unless (ltb (length bytes) size) (take size bytes, drop size bytes) x e in
    let enough : size ≤ length bytes = ltb-false _ _ g.0 in
    let whole : TakesBytes size bytes (take size bytes, drop size bytes) = record {
      takes = record { parts = sym (take-append-drop size bytes); rest_are = are-drop size bytes are };
      long = omega (arith, length-take size bytes);
      are = are-take size bytes are;
    } in
    subst (λ (y : List ℕ × List ℕ). TakesBytes size bytes y) g.1 whole

pub bytes_again : (size : ℕ) (text rest : List ℕ) → length text ≡ size → bytes_at size (text ++ rest) ≡ Some (text, rest)
bytes_again size text rest long =
    let enough : ltb (length (text ++ rest)) size ≡ false = le-ltb _ _ (omega (arith, length-append text rest)) in
    rw (enough, take_at text rest size long, drop_at text rest size long) refl

-- ---- numbers

pub number_8_takes : (bytes : List ℕ) (x : ℕ × List ℕ) → AreBytes bytes → number_8_at bytes ≡ Some x → Takes bytes (u64_bytes x.0) x.1 × (x.0 < 2 ^ 64)
unfolding number_8_at
number_8_takes bytes x are e =
    let b = bind_some (bytes_at 8 bytes) (λ front. Some (u64_of front.0, front.1)) x e in
    let t = bytes_take 8 bytes b.0 are b.1 in
    let same : u64_bytes (u64_of b.0.0) ≡ b.0.0 = u64_back b.0.0 t.long t.are in
    let whole : Takes bytes (u64_bytes (u64_of b.0.0)) b.0.1 = rw same t.takes in
    subst (λ (y : ℕ × List ℕ). Takes bytes (u64_bytes y.0) y.1 × (y.0 < 2 ^ 64)) (some_is _ _ b.2) (whole, u64_below b.0.0 t.are)

pub number_8_again : (n : ℕ) (rest : List ℕ) → n < 2 ^ 64 → number_8_at (u64_bytes n ++ rest) ≡ Some (n, rest)
unfolding number_8_at
number_8_again n rest fits = rw (bytes_again 8 (u64_bytes n) rest (length-u64_bytes n), u64_again n fits) refl

pub number_4_takes : (bytes : List ℕ) (x : ℕ × List ℕ) → AreBytes bytes → number_4_at bytes ≡ Some x → Takes bytes (u32_bytes x.0) x.1 × (x.0 < 2 ^ 32)
unfolding number_4_at
number_4_takes bytes x are e =
    let b = bind_some (bytes_at 4 bytes) (λ front. Some (u32_of front.0, front.1)) x e in
    let t = bytes_take 4 bytes b.0 are b.1 in
    let same : u32_bytes (u32_of b.0.0) ≡ b.0.0 = u32_back b.0.0 t.long t.are in
    let whole : Takes bytes (u32_bytes (u32_of b.0.0)) b.0.1 = rw same t.takes in
    subst (λ (y : ℕ × List ℕ). Takes bytes (u32_bytes y.0) y.1 × (y.0 < 2 ^ 32)) (some_is _ _ b.2) (whole, u32_below b.0.0 t.are)

pub number_4_again : (n : ℕ) (rest : List ℕ) → n < 2 ^ 32 → number_4_at (u32_bytes n ++ rest) ≡ Some (n, rest)
unfolding number_4_at
number_4_again n rest fits = rw (bytes_again 4 (u32_bytes n) rest (length-u32_bytes n), u32_again n fits) refl

pub number_2_takes : (bytes : List ℕ) (x : ℕ × List ℕ) → AreBytes bytes → number_2_at bytes ≡ Some x → Takes bytes (u16_bytes x.0) x.1 × (x.0 < 2 ^ 16)
unfolding number_2_at
number_2_takes bytes x are e =
    let b = bind_some (bytes_at 2 bytes) (λ front. Some (u16_of front.0, front.1)) x e in
    let t = bytes_take 2 bytes b.0 are b.1 in
    let same : u16_bytes (u16_of b.0.0) ≡ b.0.0 = u16_back b.0.0 t.long t.are in
    let whole : Takes bytes (u16_bytes (u16_of b.0.0)) b.0.1 = rw same t.takes in
    subst (λ (y : ℕ × List ℕ). Takes bytes (u16_bytes y.0) y.1 × (y.0 < 2 ^ 16)) (some_is _ _ b.2) (whole, u16_below b.0.0 t.are)

pub number_2_again : (n : ℕ) (rest : List ℕ) → n < 2 ^ 16 → number_2_at (u16_bytes n ++ rest) ≡ Some (n, rest)
unfolding number_2_at
number_2_again n rest fits = rw (bytes_again 2 (u16_bytes n) rest (length-u16_bytes n), u16_again n fits) refl

-- ---- marks

pub mark_takes : (bytes : List ℕ) (x : Bool × List ℕ) → AreBytes bytes → mark_at bytes ≡ Some x → Takes bytes (mark_byte x.0 ∷ []) x.1
unfolding mark_at
mark_takes [] x are e = absurd cc
mark_takes (zero ∷ rest) x are e = subst (λ (y : Bool × List ℕ). Takes (0 ∷ rest) (mark_byte y.0 ∷ []) y.1) (some_is (false, rest) x e) (record { parts = refl; rest_are = are-rest 0 rest are })
mark_takes (suc zero ∷ rest) x are e = subst (λ (y : Bool × List ℕ). Takes (1 ∷ rest) (mark_byte y.0 ∷ []) y.1) (some_is (true, rest) x e) (record { parts = refl; rest_are = are-rest 1 rest are })
mark_takes (suc (suc byte) ∷ rest) x are e = absurd cc

pub mark_again : (mark : Bool) (rest : List ℕ) → mark_at (mark_byte mark ∷ rest) ≡ Some (mark, rest)
unfolding mark_at
mark_again false rest = refl
mark_again true rest = refl

-- ---- pages

pub record TakesPage (least : ℕ) (bytes : List ℕ) (x : ℕ × List ℕ) : Type 0 where
  pub takes : Takes bytes (u32_bytes x.0) x.1
  pub from : least ≤ x.0
  pub fits : x.0 < 2 ^ 32

pub page_takes : (least : ℕ) (bytes : List ℕ) (x : ℕ × List ℕ) → AreBytes bytes → page_at least bytes ≡ Some x → TakesPage least bytes x
unfolding page_at
page_takes least bytes x are e =
    let b = bind_some (number_4_at bytes) (λ page. cond (ltb page.0 least) None (Some page)) x e in
    let t = number_4_takes bytes b.0 are b.1 in
    let g = unless (ltb b.0.0 least) b.0 x b.2 in
    let whole : TakesPage least bytes b.0 = record { takes = t.0; from = ltb-false _ _ g.0; fits = t.1 } in
    subst (λ (y : ℕ × List ℕ). TakesPage least bytes y) g.1 whole

pub page_again : (least page : ℕ) (rest : List ℕ) → least ≤ page → page < 2 ^ 32 → page_at least (u32_bytes page ++ rest) ≡ Some (page, rest)
unfolding page_at
page_again least page rest from fits =
    let passes : ltb page least ≡ false = le-ltb _ _ from in
    rw (number_4_again page rest fits, passes) refl

none_is : (o : Option PageFault) → is_none o ≡ true → o ≡ None
none_is None e = refl
none_is (Some fault) e = absurd cc

image_passes : (page : ℕ) (image : List ℕ) → AreBytes image → is_image_of page image ≡ true → IsImageOf page image
unfolding is_image_of
image_passes page image are e =
    let two = both (is_none (fault_of image)) (eqb (read_of image).number page) e in
    record { image = is_image image are (none_is (fault_of image) two.0); number = eqb-true _ _ two.1 }

image_tests : (page : ℕ) (image : List ℕ) → IsImageOf page image → is_image_of page image ≡ true
unfolding is_image_of
image_tests page image i =
    let faultless : fault_of image ≡ None = ap fault_of (sym i.image.image) ∙ image_faultless (read_of image) i.image.well_formed in
    let same : eqb (read_of image).number page ≡ true = eq-eqb _ _ i.number in
    rw (faultless, same) refl

pub record TakesImage (page : ℕ) (bytes : List ℕ) (x : List ℕ × List ℕ) : Type 0 where
  pub takes : Takes bytes x.0 x.1
  pub image : IsImageOf page x.0

pub image_takes : (page : ℕ) (bytes : List ℕ) (x : List ℕ × List ℕ) → AreBytes bytes → image_at page bytes ≡ Some x → TakesImage page bytes x
unfolding image_at
image_takes page bytes x are e =
    let b = bind_some (bytes_at PAGE_SIZE bytes) (λ image. cond (is_image_of page image.0) (Some image) None) x e in
    let t = bytes_take PAGE_SIZE bytes b.0 are b.1 in
    let g = provided (is_image_of page b.0.0) b.0 x b.2 in
    let whole : TakesImage page bytes b.0 = record { takes = t.takes; image = image_passes page b.0.0 t.are g.0 } in
    subst (λ (y : List ℕ × List ℕ). TakesImage page bytes y) g.1 whole

pub image_again : (page : ℕ) (image rest : List ℕ) → IsImageOf page image → image_at page (image ++ rest) ≡ Some (image, rest)
unfolding image_at
image_again page image rest i = rw (bytes_again PAGE_SIZE image rest (image_size image i.image), image_tests page image i) refl

-- a page's bytes
abbrev pub numbered_bytes : ℕ × List ℕ → List ℕ
numbered_bytes p = u32_bytes p.0 ++ p.1

pub record TakesNumbered (least : ℕ) (bytes : List ℕ) (x : (ℕ × List ℕ) × List ℕ) : Type 0 where
  pub takes : Takes bytes (numbered_bytes x.0) x.1
  pub from : least ≤ x.0.0
  pub page : IsPage x.0

pub numbered_takes : (least : ℕ) (bytes : List ℕ) (x : (ℕ × List ℕ) × List ℕ) → AreBytes bytes → numbered_at least bytes ≡ Some x → TakesNumbered least bytes x
unfolding numbered_at
numbered_takes least bytes x are e =
    let a = bind_some (page_at least bytes) (λ page. image_at page.0 page.1 >>= λ image. Some ((page.0, image.0), image.1)) x e in
    let b = bind_some (image_at a.0.0 a.0.1) (λ image. Some ((a.0.0, image.0), image.1)) x a.2 in
    let p = page_takes least bytes a.0 are a.1 in
    let i = image_takes a.0.0 a.0.1 b.0 p.takes.rest_are b.1 in
    let whole : TakesNumbered least bytes ((a.0.0, b.0.0), b.0.1) = record {
      takes = takes-then bytes (u32_bytes a.0.0) a.0.1 b.0.0 b.0.1 p.takes i.takes;
      from = p.from;
      page = record { fits = p.fits; image = i.image };
    } in
    subst (λ (y : (ℕ × List ℕ) × List ℕ). TakesNumbered least bytes y) (some_is _ _ b.2) whole

pub numbered_again : (least : ℕ) (p : ℕ × List ℕ) (rest : List ℕ) → least ≤ p.0 → IsPage p → numbered_at least (u32_bytes p.0 ++ (p.1 ++ rest)) ≡ Some (p, rest)
unfolding numbered_at
numbered_again least p rest from is = rw (page_again least p.0 (p.1 ++ rest) from is.fits, image_again p.0 p.1 rest is.image) refl

pub record TakesRising (count least : ℕ) (bytes : List ℕ) (x : List (ℕ × List ℕ) × List ℕ) : Type 0 where
  pub takes : Takes bytes (pages_bytes x.0) x.1
  pub as_many : length x.0 ≡ count
  pub pages : ArePages least x.0

pub rising_takes : (count least : ℕ) (bytes : List ℕ) (x : List (ℕ × List ℕ) × List ℕ) → AreBytes bytes → rising_at count least bytes ≡ Some x → TakesRising count least bytes x
unfolding rising_at
rising_takes zero least bytes x are e =
    let whole : TakesRising 0 least bytes ([], bytes) = record { takes = record { parts = refl; rest_are = are }; as_many = refl; pages = tt } in
    subst (λ (y : List (ℕ × List ℕ) × List ℕ). TakesRising 0 least bytes y) (some_is _ _ e) whole
rising_takes (suc count) least bytes x are e =
    let a = bind_some (numbered_at least bytes) (λ first. rising_at count (first.0.0 + 1) first.1 >>= λ others. Some (first.0 ∷ others.0, others.1)) x e in
    let b = bind_some (rising_at count (a.0.0.0 + 1) a.0.1) (λ others. Some (a.0.0 ∷ others.0, others.1)) x a.2 in
    let p = numbered_takes least bytes a.0 are a.1 in
    let q = rising_takes count (a.0.0.0 + 1) a.0.1 b.0 p.takes.rest_are b.1 in
    let joined = takes-then bytes (numbered_bytes a.0.0) a.0.1 (pages_bytes b.0.0) b.0.1 p.takes q.takes in
    let whole : TakesRising (suc count) least bytes (a.0.0 ∷ b.0.0, b.0.1) = record {
      takes = rw (← append_assoc (u32_bytes a.0.0.0) a.0.0.1 (pages_bytes b.0.0)) joined;
      as_many = ap suc q.as_many;
      pages = (p.from, p.page, q.pages);
    } in
    subst (λ (y : List (ℕ × List ℕ) × List ℕ). TakesRising (suc count) least bytes y) (some_is _ _ b.2) whole

pub rising_again : (pages : List (ℕ × List ℕ)) (least : ℕ) (rest : List ℕ) → ArePages least pages → rising_at (length pages) least (pages_bytes pages ++ rest) ≡ Some (pages, rest)
unfolding rising_at
rising_again [] least rest are = refl
rising_again (p ∷ pages) least rest are =
    let regrouped : pages_bytes (p ∷ pages) ++ rest ≡ u32_bytes p.0 ++ (p.1 ++ (pages_bytes pages ++ rest)) = simp append_assoc in
    rw (regrouped, numbered_again least p (pages_bytes pages ++ rest) are.0 are.1, rising_again pages (p.0 + 1) rest are.2) refl

pub record TakesImages (bytes : List ℕ) (x : List (ℕ × List ℕ) × List ℕ) : Type 0 where
  pub takes : Takes bytes (length x.0 ∷ pages_bytes x.0) x.1
  pub some : 1 ≤ length x.0
  pub few : length x.0 ≤ 3
  pub pages : ArePages 0 x.0

-- pages after their count
counted : (count : ℕ) (rest : List ℕ) (x : List (ℕ × List ℕ) × List ℕ) → 1 ≤ count → count ≤ 3 → AreBytes rest → rising_at count 0 rest ≡ Some x → TakesImages (count ∷ rest) x
counted count rest x some few are e =
    let t = rising_takes count 0 rest x are e in
    let behind : count ∷ rest ≡ (length x.0 ∷ pages_bytes x.0) ++ x.1 = ap (λ (n : ℕ). n ∷ rest) (sym t.as_many) ∙ ap (λ (l : List ℕ). length x.0 ∷ l) t.takes.parts in
    record { takes = record { parts = behind; rest_are = t.takes.rest_are }; some = omega (arith, t.as_many); few = omega (arith, t.as_many); pages = t.pages }

pub images_take : (bytes : List ℕ) (x : List (ℕ × List ℕ) × List ℕ) → AreBytes bytes → images_at bytes ≡ Some x → TakesImages bytes x
unfolding images_at
images_take [] x are e = absurd cc
images_take (zero ∷ rest) x are e = absurd cc
images_take (suc zero ∷ rest) x are e = counted 1 rest x (omega arith) (omega arith) (are-rest 1 rest are) e
images_take (suc (suc zero) ∷ rest) x are e = counted 2 rest x (omega arith) (omega arith) (are-rest 2 rest are) e
images_take (suc (suc (suc zero)) ∷ rest) x are e = counted 3 rest x (omega arith) (omega arith) (are-rest 3 rest are) e
images_take (suc (suc (suc (suc count))) ∷ rest) x are e = absurd cc

pub images_again : (pages : List (ℕ × List ℕ)) (rest : List ℕ) → 1 ≤ length pages → length pages ≤ 3 → ArePages 0 pages → images_at (length pages ∷ (pages_bytes pages ++ rest)) ≡ Some (pages, rest)
unfolding images_at
images_again [] rest some few are = absurd (omega arith)
images_again (p ∷ []) rest some few are = rising_again (p ∷ []) 0 rest are
images_again (p ∷ q ∷ []) rest some few are = rising_again (p ∷ q ∷ []) 0 rest are
images_again (p ∷ q ∷ r ∷ []) rest some few are = rising_again (p ∷ q ∷ r ∷ []) 0 rest are
images_again (p ∷ q ∷ r ∷ s ∷ pages) rest some few are = absurd (omega arith)

-- ---- entries

pub record TakesEntry (size : ℕ) (bytes : List ℕ) (x : (ℕ × ℕ × List ℕ) × List ℕ) : Type 0 where
  pub takes : Takes bytes (entry_bytes x.0.0 x.0.1 x.0.2) x.1
  pub tx : x.0.0 < 2 ^ 64
  pub row : x.0.1 < 2 ^ 64
  pub key : length x.0.2 ≡ size

pub entry_takes : (size : ℕ) (bytes : List ℕ) (x : (ℕ × ℕ × List ℕ) × List ℕ) → AreBytes bytes → entry_at size bytes ≡ Some x → TakesEntry size bytes x
unfolding entry_at
entry_takes size bytes x are e =
    let a = bind_some (number_8_at bytes) (λ tx. number_8_at tx.1 >>= λ row. bytes_at size row.1 >>= λ key. Some ((tx.0, row.0, key.0), key.1)) x e in
    let b = bind_some (number_8_at a.0.1) (λ row. bytes_at size row.1 >>= λ key. Some ((a.0.0, row.0, key.0), key.1)) x a.2 in
    let c = bind_some (bytes_at size b.0.1) (λ key. Some ((a.0.0, b.0.0, key.0), key.1)) x b.2 in
    let t = number_8_takes bytes a.0 are a.1 in
    let u = number_8_takes a.0.1 b.0 t.0.rest_are b.1 in
    let v = bytes_take size b.0.1 c.0 u.0.rest_are c.1 in
    let whole : TakesEntry size bytes ((a.0.0, b.0.0, c.0.0), c.0.1) = record {
      takes = takes-then bytes (u64_bytes a.0.0) a.0.1 (u64_bytes b.0.0 ++ c.0.0) c.0.1 t.0 (takes-then a.0.1 (u64_bytes b.0.0) b.0.1 c.0.0 c.0.1 u.0 v.takes);
      tx = t.1;
      row = u.1;
      key = v.long;
    } in
    subst (λ (y : (ℕ × ℕ × List ℕ) × List ℕ). TakesEntry size bytes y) (some_is _ _ c.2) whole

pub entry_again : (size tx row : ℕ) (key rest : List ℕ) → tx < 2 ^ 64 → row < 2 ^ 64 → length key ≡ size → entry_at size (entry_bytes tx row key ++ rest) ≡ Some ((tx, row, key), rest)
unfolding entry_at
entry_again size tx row key rest t r k =
    let regrouped : entry_bytes tx row key ++ rest ≡ u64_bytes tx ++ (u64_bytes row ++ (key ++ rest)) = simp append_assoc in
    rw (regrouped, number_8_again tx (u64_bytes row ++ (key ++ rest)) t, number_8_again row (key ++ rest) r, bytes_again size key rest k) refl
