-- Lines and words, met from the front.
use Rattle.std.proofs.Common.{◌≡◌, ℕ, ◌<◌, ◌≤◌, List, [], ◌∷◌, ◌++◌, Bool, true, false, cond, length, take, drop, refl, ap, sym, ◌∙◌, arith, eqb}
use Rattle.std.proofs.Common.{None, Some, inl, inr, ltb}
use Rattle.std.specs.Prelude.{not, position, ◌⊎◌, ◌||◌}
use Rattle.std.proofs.lemmas.List.{append-nil}
use Rattle.std.specs.List.{prefix_len, position_or_len, list_any}
use Rattle.std.proofs.lemmas.Bool.Decides.{nat_tests}
use Rattle.std.proofs.lemmas.List.Sums.{prefix_len-le-length}
use Rattle.std.proofs.Math.Numerals.{one-add}
use Rattle.gx_script.specs.Lines.{without_cr, onto_first}
use Rattle.gx_script.specs.Words.{is_separator, in_word, words, IsWord}

-- a carriage return at the end goes
pub without_cr-drops : (front : List ℕ) → without_cr (front ++ (13 ∷ [])) ≡ front
without_cr-drops [] = refl
without_cr-drops (b ∷ []) = refl
without_cr-drops (b ∷ c ∷ front) = ap (λ (bs : List ℕ). b ∷ bs) (without_cr-drops (c ∷ front))

-- another byte at the end stays
pub without_cr-keeps : (front : List ℕ) (b : ℕ) → eqb b 13 ≡ false → without_cr (front ++ (b ∷ [])) ≡ front ++ (b ∷ [])
without_cr-keeps [] b e = rw e
without_cr-keeps (a ∷ []) b e = rw e
without_cr-keeps (a ∷ c ∷ front) b e = ap (λ (bs : List ℕ). a ∷ bs) (without_cr-keeps (c ∷ front) b e)

skipped_case : (t : Bool) (b : ℕ) (bs : List ℕ) → is_separator b ≡ t → words bs ≡ words (drop (prefix_len is_separator bs) bs)
    → words (b ∷ bs) ≡ words (drop (prefix_len is_separator (b ∷ bs)) (b ∷ bs))
skipped_case true b bs e h = rw (e, one-add) h
skipped_case false b bs e h = rw e (rw e refl)

-- separators at the front make no word
pub words-skipped : (bs : List ℕ) → words bs ≡ words (drop (prefix_len is_separator bs) bs)
words-skipped [] = refl
words-skipped (b ∷ bs) = skipped_case (is_separator b) b bs refl (words-skipped bs)

-- if no byte passes, the first place is past the end
pub none-past : (n m : ℕ) → n ≤ m → cond (ltb n m) (Some n) None ≡ None → m ≡ n
none-past n m h e = grind (arith, nat_tests)

pub position-None : (p : ℕ → Bool) (bs : List ℕ) → position p bs ≡ None → length bs ≡ position_or_len p bs
position-None p bs e = none-past (position_or_len p bs) (length bs) (prefix_len-le-length (λ b. not (p b)) bs) e

not_not : (t : Bool) → not (not t) ≡ t
not_not true = refl
not_not false = refl

-- what the first place of a word's byte means, if it is looked for by its opposite
same_test : (b : ℕ) → not (not (is_separator b)) ≡ is_separator b
same_test b = not_not (is_separator b)

pub prefix-opposite : (bs : List ℕ) → prefix_len (λ b. not (not (is_separator b))) bs ≡ prefix_len is_separator bs
prefix-opposite bs = simp not_not

nonempty_in_word : (b : ℕ) (bs : List ℕ) → is_separator b ≡ false → in_word (b ∷ bs) ≡ true
nonempty_in_word b bs e = rw e refl

-- past the separators a word begins, or nothing is left
begins_case : (t : Bool) (b : ℕ) (bs : List ℕ) → is_separator b ≡ t → ((drop (prefix_len is_separator bs) bs ≡ []) ⊎ (in_word (drop (prefix_len is_separator bs) bs) ≡ true))
    → (drop (prefix_len is_separator (b ∷ bs)) (b ∷ bs) ≡ []) ⊎ (in_word (drop (prefix_len is_separator (b ∷ bs)) (b ∷ bs)) ≡ true)
begins_case true b bs e h = rw (e, one-add) h
begins_case false b bs e h = rw e (inr (nonempty_in_word b bs e))

pub begins : (bs : List ℕ) → (drop (prefix_len is_separator bs) bs ≡ []) ⊎ (in_word (drop (prefix_len is_separator bs) bs) ≡ true)
begins [] = inl refl
begins (b ∷ bs) = begins_case (is_separator b) b bs refl (begins bs)

sep_from : (t : Bool) → not t ≡ false → t ≡ true
sep_from true e = refl
sep_from false e = cc

not_from : (t : Bool) → not t ≡ true → t ≡ false
not_from true e = cc
not_from false e = refl

-- the bytes before the first separator are the first word
first_case : (t : Bool) (b : ℕ) (bs : List ℕ) → is_separator b ≡ false → in_word bs ≡ t
    → (in_word bs ≡ true → words bs ≡ take (position_or_len is_separator bs) bs ∷ words (drop (position_or_len is_separator bs) bs))
    → words (b ∷ bs) ≡ take (position_or_len is_separator (b ∷ bs)) (b ∷ bs) ∷ words (drop (position_or_len is_separator (b ∷ bs)) (b ∷ bs))
first_case true b bs e w h = rw (e, w, one-add) (rw (h w) refl)
first_case false b [] e w h = rw e refl
first_case false b (c ∷ bs) e w h = let s : is_separator c ≡ true = sep_from (is_separator c) w in rw (e, s) (rw s refl)

pub words-first : (bs : List ℕ) → in_word bs ≡ true → words bs ≡ take (position_or_len is_separator bs) bs ∷ words (drop (position_or_len is_separator bs) bs)
words-first [] e = cc
words-first (b ∷ bs) e = first_case (in_word bs) b bs (not_from (is_separator b) e) refl (words-first bs)

first_false : (s t : Bool) → (s || t) ≡ false → s ≡ false
first_false true t e = cc
first_false false t e = refl

second_false : (s t : Bool) → (s || t) ≡ false → t ≡ false
second_false true t e = cc
second_false false t e = e

in_front : (s : Bool) → s ≡ false → (b : ℕ) (ws : List (List ℕ)) → cond (not s) (onto_first b ws) ((b ∷ []) ∷ ws) ≡ onto_first b ws
in_front s e b ws = rw e refl

pub skip : (b : ℕ) (more : List ℕ) → is_separator b ≡ true → words (b ∷ more) ≡ words more
skip b more e = rw e refl

-- one word, and then a separator or nothing
word_then : (w t : List ℕ) → 0 < length w → list_any is_separator w ≡ false → in_word t ≡ false → words (w ++ t) ≡ w ∷ words t
word_then [] t some whole e = absurd (omega arith)
word_then (b ∷ []) t some whole e =
    let here = first_false (is_separator b) _ whole in
    rw here (rw e refl)
word_then (b ∷ c ∷ w) t some whole e =
    let here = first_false (is_separator b) _ whole in
    let later = second_false (is_separator b) _ whole in
    let next = first_false (is_separator c) _ later in
    let ends = word_then (c ∷ w) t (omega arith) later e in
    rw here (in_front (is_separator c) next b (words (c ∷ (w ++ t))) ∙ ap (λ ws. onto_first b ws) ends)

pub words-ended : (w more : List ℕ) (b : ℕ) → IsWord w → is_separator b ≡ true → words (w ++ (b ∷ more)) ≡ w ∷ words more
words-ended w more b is e =
    word_then w (b ∷ more) is.some is.whole (ap (λ (t : Bool). not t) e) ∙ ap (λ ws. w ∷ ws) (skip b more e)

pub words-last : (w : List ℕ) → IsWord w → words w ≡ w ∷ []
words-last w is = ap (λ v. words v) (sym (append-nil w)) ∙ word_then w [] is.some is.whole refl
