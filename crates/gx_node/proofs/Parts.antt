-- An entry's bytes, cut after its key.
use Rattle.std.proofs.Common.{◌≡◌, ℕ, ◌+◌, ◌-◌, ◌^◌, ◌<◌, List, [], ◌∷◌, ◌++◌, length, take, drop, refl, sym, ap, ◌∙◌, subst, inl, inr, arith, Option, Some, None, true}
use Rattle.std.specs.Prelude.{slice_index, is_some, unwrap_or}
use Rattle.std.proofs.lemmas.Bool.{cases_lt}
use Rattle.std.proofs.lemmas.List.{take_at, drop_at, take-append-drop, drop-drop, take_all, drop_all, drop_more, get_or-take, get_or-drop, get_or_past, get_or_at, append_assoc, length-take, length-drop, length-append}
use Rattle.std.proofs.lemmas.Nat.{be_bytes_4, be_bytes_8, from_be_bytes-to_be_bytes_4, from_be_bytes-to_be_bytes_8}
use Rattle.gx_page.specs.Bytes.{AreBytes, spell_32, spell_64, number_32, number_64, number_32_at, number_64_at}
use Rattle.gx_node.specs.Reading.{Format, has_key, key_of}

-- what a class owes to the reading of its keys
pub record IsLawful {B : Type 0} (IsKey : B → Type 0) (spelling : B → List ℕ) (f : Format B) : Type 0 where
  pub back : (k : B) → IsKey k → f.reading (spelling k) ≡ Some k
  pub only : (bytes : List ℕ) (k : B) → ((i : ℕ) → slice_index bytes i < 256) → f.reading bytes ≡ Some k → IsKey k × (bytes ≡ spelling k)
  pub size : (k : B) → IsKey k → length (spelling k) ≡ f.key

-- ---- bytes of bytes

pub small-take : (bytes : List ℕ) (n : ℕ) → AreBytes bytes → AreBytes (take n bytes)
small-take bytes n small i =
    elim (cases_lt i n) [
      | inl h ↦ subst (λ b. b < 256) (sym (get_or-take n bytes i 0 h)) (small i)
      | inr h ↦ subst (λ b. b < 256) (sym (get_or_past (take n bytes) i 0 (omega (arith, length-take n bytes)))) (omega arith)
    ]

pub small-drop : (bytes : List ℕ) (n : ℕ) → AreBytes bytes → AreBytes (drop n bytes)
small-drop bytes n small i = subst (λ b. b < 256) (sym (get_or-drop n bytes i 0)) (small (n + i))

-- ---- the key in front

pub key_in_front : {B : Type 0} (f : Format B) (bytes rest : List ℕ) (k : B) → length bytes ≡ f.key → f.reading bytes ≡ Some k
    → (has_key f (bytes ++ rest) ≡ true) × (key_of f (bytes ++ rest) ≡ k)
key_in_front f bytes rest k long e =
    let read : f.reading (take f.key (bytes ++ rest)) ≡ Some k = ap f.reading (take_at bytes rest f.key long) ∙ e in
    (ap is_some read, ap (λ o. unwrap_or o f.start) read)

some_key : {B : Type 0} (o : Option B) (d : B) → is_some o ≡ true → o ≡ Some (unwrap_or o d)
some_key None d e = cc
some_key (Some k) d e = refl

pub key_read : {B : Type 0} (IsKey : B → Type 0) (spelling : B → List ℕ) (f : Format B) → IsLawful IsKey spelling f → (item : List ℕ)
    → AreBytes item → has_key f item ≡ true → IsKey (key_of f item) × (take f.key item ≡ spelling (key_of f item))
key_read IsKey spelling f laws item small e =
    laws.only (take f.key item) (key_of f item) (small-take item f.key small) (some_key (f.reading (take f.key item)) f.start e)

-- ---- the numbers after it

pub page_behind : (key : List ℕ) (n page : ℕ) → length key ≡ n → page < 2 ^ 32 → number_32_at (key ++ spell_32 page) n ≡ page
page_behind key n page long fits =
    let four : n + 4 - n ≡ 4 = omega arith in
    ap (λ m. number_32 (take m (drop n (key ++ spell_32 page)))) four
    ∙ ap (λ l. number_32 (take 4 l)) (drop_at key (spell_32 page) n long) ∙ from_be_bytes-to_be_bytes_4 page fits

pub row_behind : (key rest : List ℕ) (n row : ℕ) → length key ≡ n → row < 2 ^ 64 → number_64_at (key ++ (spell_64 row ++ rest)) n ≡ row
row_behind key rest n row long fits =
    let eight : n + 8 - n ≡ 8 = omega arith in
    ap (λ m. number_64 (take m (drop n (key ++ (spell_64 row ++ rest))))) eight
    ∙ ap (λ l. number_64 (take 8 l)) (drop_at key (spell_64 row ++ rest) n long)
    ∙ ap number_64 (take_at (spell_64 row) rest 8 refl) ∙ from_be_bytes-to_be_bytes_8 row fits

pub mark_behind : (key rest : List ℕ) (n row mark : ℕ) → length key ≡ n → slice_index (key ++ (spell_64 row ++ mark ∷ rest)) (n + 8) ≡ mark
mark_behind key rest n row mark long =
    ap (λ l. slice_index l (n + 8)) (sym (append_assoc key (spell_64 row) (mark ∷ rest)))
    ∙ get_or_at (key ++ spell_64 row) mark rest 0 (n + 8) (omega (arith, length-append key (spell_64 row)))

number_32_small : (bytes : List ℕ) → AreBytes bytes → number_32 bytes < 2 ^ 32
number_32_small bytes small = omega (arith, small 0, small 1, small 2, small 3)

number_64_small : (bytes : List ℕ) → AreBytes bytes → number_64 bytes < 2 ^ 64
number_64_small bytes small = omega (arith, small 0, small 1, small 2, small 3, small 4, small 5, small 6, small 7)

-- the page's bytes after n others
pub page_written : (item : List ℕ) (n : ℕ) → AreBytes item → length item ≡ n + 4
    → (drop n item ≡ spell_32 (number_32_at item n)) × (number_32_at item n < 2 ^ 32)
page_written item n small long =
    let four : n + 4 - n ≡ 4 = omega arith in
    let four' : length (drop n item) ≡ 4 = omega (arith, length-drop n item) in
    let same : number_32_at item n ≡ number_32 (drop n item) =
    ap (λ m. number_32 (take m (drop n item))) four ∙ ap number_32 (take_all 4 (drop n item) (omega arith)) in (
      sym (be_bytes_4 (drop n item) (number_32 (drop n item)) four' (small-drop item n small) refl) ∙ ap spell_32 (sym same),
      subst (λ m. m < 2 ^ 32) (sym same) (number_32_small (drop n item) (small-drop item n small)),
    )

-- the row's bytes after n others, and the last byte
pub row_written : (item : List ℕ) (n : ℕ) → AreBytes item → length item ≡ n + 9
    → (drop n item ≡ spell_64 (number_64_at item n) ++ slice_index item (n + 8) ∷ []) × (number_64_at item n < 2 ^ 64)
row_written item n small long =
    let eight : n + 8 - n ≡ 8 = omega arith in
    let row = take 8 (drop n item) in
    let long' : length row ≡ 8 = omega (arith, length-take 8 (drop n item), length-drop n item) in
    let bytes : AreBytes row = small-take (drop n item) 8 (small-drop item n small) in
    let same : number_64_at item n ≡ number_64 row = ap (λ m. number_64 (take m (drop n item))) eight in
    let last : drop 8 (drop n item) ≡ slice_index item (n + 8) ∷ [] =
    drop-drop 8 n item ∙ drop_more item (n + 8) 0 (omega arith) ∙ ap (λ l. slice_index item (n + 8) ∷ l) (drop_all (n + 8 + 1) item (omega arith)) in (
      sym (take-append-drop 8 (drop n item)) ∙ ap (λ l. row ++ l) last
          ∙ ap (λ l. l ++ slice_index item (n + 8) ∷ []) (sym (be_bytes_8 row (number_64 row) long' bytes refl) ∙ ap spell_64 (sym same)),
      subst (λ m. m < 2 ^ 64) (sym same) (number_64_small row bytes),
    )
