-- Lines, met from the front.
use Rattle.std.proofs.Common.{◌≡◌, ℕ, zero, suc, ◌+◌, ◌<◌, ◌≤◌, min, List, [], ◌∷◌, ◌++◌, Bool, true, false, cond, eqb, ltb, length, take, drop, refl, ap, sym, ◌∙◌, arith, inl, inr, length-append}
use Rattle.std.specs.Prelude.{map, ◌||◌}
use Rattle.std.specs.List.{position_or_len, list_any}
use Rattle.std.proofs.Math.Numerals.{one-add}
use Rattle.std.proofs.Math.Seq.{take-length, take-append-add}
use Rattle.std.proofs.lemmas.List.{append-nil, take-append-drop, length-take-le}
use Rattle.std.proofs.lemmas.List.Folds.{list_any-append}
use Rattle.std.proofs.lemmas.Bool.{eqb-true, lt-ltb, cases_lt}
use Rattle.gx_script.specs.declared.line.Line.{Line}
use Rattle.gx_script.specs.declared.line.Line.TheVariants.{Bad}
use Rattle.gx_script.specs.Corners.{Grammar}
use Rattle.gx_script.specs.Lines.{lines, without_cr, onto_first}
use Rattle.gx_script.specs.Requests.{line_of}
use Rattle.gx_script.specs.Scripts.{asked, IsUnended}
use Rattle.gx_script.specs.Steps.{kept}

module _ (p : ℕ → Bool) where
  before_case : (t : Bool) (b : ℕ) (bs : List ℕ) → p b ≡ t → list_any p (take (position_or_len p bs) bs) ≡ false
      → list_any p (take (position_or_len p (b ∷ bs)) (b ∷ bs)) ≡ false
  before_case true b bs e h = rw e refl
  before_case false b bs e h = rw (e, one-add) (rw e h)

  -- before the first place nothing passes
  pub none-before_first : (bs : List ℕ) → list_any p (take (position_or_len p bs) bs) ≡ false
  none-before_first [] = refl
  none-before_first (b ∷ bs) = before_case (p b) b bs refl (none-before_first bs)

  at_case : (t : Bool) (c : ℕ) (bs : List ℕ) (b : ℕ) (more : List ℕ) → p c ≡ t
      → (drop (position_or_len p bs) bs ≡ b ∷ more → p b ≡ true)
      → drop (position_or_len p (c ∷ bs)) (c ∷ bs) ≡ b ∷ more → p b ≡ true
  at_case true c bs b more e h d = let here : c ∷ bs ≡ b ∷ more = rw e at d in let same : c ≡ b = cc in ap p (sym same) ∙ e
  at_case false c bs b more e h d = h (rw (e, one-add) at d)

  -- at the first place a byte passes
  pub passes-at_first : (bs : List ℕ) (b : ℕ) (more : List ℕ) → drop (position_or_len p bs) bs ≡ b ∷ more → p b ≡ true
  passes-at_first [] b more d = cc
  passes-at_first (c ∷ bs) b more d = at_case (p c) c bs b more refl (passes-at_first bs b more) d

pub line-none : (bs : List ℕ) → drop (position_or_len (λ b. eqb b 10) bs) bs ≡ [] → IsUnended bs
line-none bs e =
    let all : take (position_or_len (λ b. eqb b 10) bs) bs ≡ bs =
    sym (append-nil _) ∙ ap (λ ds. take (position_or_len (λ b. eqb b 10) bs) bs ++ ds) (sym e) ∙ take-append-drop (position_or_len (λ b. eqb b 10) bs) bs in
    ap (λ xs. list_any (λ b. eqb b 10) xs) (sym all) ∙ none-before_first (λ b. eqb b 10) bs

pub line-found : (bs : List ℕ) (b : ℕ) (more : List ℕ) → drop (position_or_len (λ b. eqb b 10) bs) bs ≡ b ∷ more
    → bs ≡ take (position_or_len (λ b. eqb b 10) bs) bs ++ (10 ∷ more)
line-found bs b more e =
    let feed = eqb-true b 10 (passes-at_first (λ b. eqb b 10) bs b more e) in
    sym (take-append-drop (position_or_len (λ b. eqb b 10) bs) bs)
    ∙ ap (λ ds. take (position_or_len (λ b. eqb b 10) bs) bs ++ ds) (e ∙ ap (λ (x : ℕ). x ∷ more) feed)

-- bytes in front of a text's first line
prepend : List ℕ → List (List ℕ) → List (List ℕ)
prepend [] [] = []
prepend [] (p ∷ ps) = p ∷ ps
prepend (b ∷ u) [] = (b ∷ u) ∷ []
prepend (b ∷ u) (p ∷ ps) = (b ∷ (u ++ p)) ∷ ps

prepend-nil : (ps : List (List ℕ)) → prepend [] ps ≡ ps
unfolding prepend
prepend-nil [] = refl
prepend-nil (p ∷ ps) = refl

onto-prepend : (b : ℕ) (u : List ℕ) (ps : List (List ℕ)) → onto_first b (prepend u ps) ≡ prepend (b ∷ u) ps
unfolding prepend
onto-prepend b [] [] = refl
onto-prepend b [] (p ∷ ps) = refl
onto-prepend b (c ∷ u) [] = refl
onto-prepend b (c ∷ u) (p ∷ ps) = refl

first_false : (s t : Bool) → (s || t) ≡ false → s ≡ false
first_false true t e = cc
first_false false t e = refl

second_false : (s t : Bool) → (s || t) ≡ false → t ≡ false
second_false true t e = cc
second_false false t e = e

lines-prepend : (u t : List ℕ) → IsUnended u → lines (u ++ t) ≡ prepend u (lines t)
lines-prepend [] t h = sym (prepend-nil (lines t))
lines-prepend (b ∷ u) t h =
    rw (first_false (eqb b 10) _ h) (ap (λ ps. onto_first b ps) (lines-prepend u t (second_false (eqb b 10) _ h)) ∙ onto-prepend b u (lines t))

prepend-feed : (u : List ℕ) (ps : List (List ℕ)) → prepend u ([] ∷ ps) ≡ u ∷ ps
unfolding prepend
prepend-feed [] ps = refl
prepend-feed (b ∷ u) ps = ap (λ (v : List ℕ). (b ∷ v) ∷ ps) (append-nil u)

-- the first line of a text, and the others
pub asked-line : {B : Type 0} (k : Grammar B) (u more : List ℕ) → IsUnended u → asked k (u ++ (10 ∷ more)) ≡ line_of k u ∷ asked k more
asked-line k u more h = ap (λ ps. map (line_of k) ps) (lines-prepend u (10 ∷ more) h ∙ prepend-feed u (lines more))

at_most_one : (t : Bool) (b : ℕ) → 1 ≤ length (cond t [] (b ∷ [])) + 1
at_most_one true b = omega arith
at_most_one false b = omega arith

pub lines-line : (u more : List ℕ) → IsUnended u → lines (u ++ (10 ∷ more)) ≡ u ∷ lines more
lines-line u more h = lines-prepend u (10 ∷ more) h ∙ prepend-feed u (lines more)

prepend-last : (u : List ℕ) → 0 < length u → prepend u [] ≡ u ∷ []
unfolding prepend
prepend-last [] h = absurd (omega arith)
prepend-last (b ∷ u) h = refl

pub lines-last : (u : List ℕ) → IsUnended u → 0 < length u → lines u ≡ u ∷ []
lines-last u h some = ap (λ v. lines v) (sym (append-nil u)) ∙ lines-prepend u [] h ∙ prepend-last u some

length-without_cr : (bs : List ℕ) → length bs ≤ length (without_cr bs) + 1
length-without_cr [] = omega arith
length-without_cr (b ∷ []) = at_most_one (eqb b 13) b
length-without_cr (b ∷ c ∷ bs) = let h = length-without_cr (c ∷ bs) in omega arith

-- a line that is too long is bad, whatever it has
pub too_long : {B : Type 0} (k : Grammar B) (bs : List ℕ) → 1025 < length bs → line_of k bs ≡ Bad
too_long k bs h =
    let left = length-without_cr bs in
    let over : ltb 1024 (length (without_cr bs)) ≡ true = lt-ltb 1024 (length (without_cr bs)) (omega arith) in
    rw over refl

take_all : (n : ℕ) (u : List ℕ) → length u ≤ n → take n u ≡ u
take_all zero [] h = refl
take_all zero (b ∷ u) h = absurd (omega arith)
take_all (suc n) [] h = refl
take_all (suc n) (b ∷ u) h = ap (λ (v : List ℕ). b ∷ v) (take_all n u (omega arith))

kept-short : (u : List ℕ) → length u ≤ 1026 → kept u ≡ u
unfolding kept
kept-short u h = take_all 1026 u h

length-kept : (u : List ℕ) → 1026 ≤ length u → length (kept u) ≡ 1026
unfolding kept
length-kept u h = length-take-le 1026 u h

module _ {B : Type 0} (k : Grammar B) where
  -- more bytes of a line that is too long change nothing
  pub line_of-kept : (u p : List ℕ) → line_of k (kept u ++ p) ≡ line_of k (u ++ p)
  line_of-kept u p = elim (cases_lt (length u) 1026) [
    | inl short ↦ ap (λ v. line_of k (v ++ p)) (kept-short u (omega arith))
    | inr long ↦
        let kept_long = length-kept u long in
        too_long k (kept u ++ p) (omega (arith, length-append (kept u) p)) ∙ sym (too_long k (u ++ p) (omega (arith, length-append u p)))
  ]

  pub kept-line : (u : List ℕ) → line_of k (kept u) ≡ line_of k u
  kept-line u = ap (λ v. line_of k v) (sym (append-nil (kept u))) ∙ line_of-kept u [] ∙ ap (λ v. line_of k v) (append-nil u)

  same_asked : (m : ℕ) → ((u p : List ℕ) → line_of k (take (suc m) u ++ p) ≡ line_of k (u ++ p))
      → (u : List ℕ) (ps : List (List ℕ)) → map (line_of k) (prepend (take (suc m) u) ps) ≡ map (line_of k) (prepend u ps)
  unfolding prepend
  same_asked m same [] ps = refl
  same_asked m same (b ∷ u) [] =
      ap (λ (l : Line B). l ∷ [])
      (ap (λ v. line_of k v) (sym (append-nil (b ∷ take m u))) ∙ same (b ∷ u) [] ∙ ap (λ v. line_of k v) (append-nil (b ∷ u)))
  same_asked m same (b ∷ u) (p ∷ ps) = ap (λ (l : Line B). l ∷ map (line_of k) ps) (same (b ∷ u) p)

  kept_same : (u : List ℕ) (ps : List (List ℕ)) → map (line_of k) (prepend (kept u) ps) ≡ map (line_of k) (prepend u ps)
  unfolding kept
  kept_same u ps = same_asked 1025 line_of-kept u ps

unended-take : (n : ℕ) (u : List ℕ) → IsUnended u → IsUnended (take n u)
unended-take n u h =
    first_false _ (list_any (λ b. eqb b 10) (drop n u)) (sym (list_any-append (λ b. eqb b 10) (take n u) (drop n u)) ∙ ap (λ v. list_any (λ b. eqb b 10) v) (take-append-drop n u) ∙ h)

pub unended-kept : (u : List ℕ) → IsUnended u → IsUnended (kept u)
unfolding kept
unended-kept u h = unended-take 1026 u h

pub unended-append : (u v : List ℕ) → IsUnended u → IsUnended v → IsUnended (u ++ v)
unended-append u v h k = list_any-append (λ b. eqb b 10) u v ∙ ap (λ (t : Bool). t || list_any (λ b. eqb b 10) v) h ∙ k

module _ {B : Type 0} (k : Grammar B) where
  -- what is kept of a line that was begun represents all of it
  pub asked-kept : (u t : List ℕ) → IsUnended u → asked k (u ++ t) ≡ asked k (kept u ++ t)
  asked-kept u t h =
      ap (λ ps. map (line_of k) ps) (lines-prepend u t h) ∙ sym (kept_same k u (lines t))
      ∙ sym (ap (λ ps. map (line_of k) ps) (lines-prepend (kept u) t (unended-kept u h)))

  last_one : (b : ℕ) (u : List ℕ) → map (line_of k) (prepend (b ∷ u) []) ≡ line_of k (b ∷ u) ∷ []
  unfolding prepend
  last_one b u = refl

  -- a line that was begun is the last line, if it has a byte
  pub asked-last : (u : List ℕ) → IsUnended u → 0 < length u → asked k u ≡ line_of k u ∷ []
  asked-last [] h some = absurd (omega arith)
  asked-last (b ∷ u) h some =
      ap (λ v. asked k v) (sym (append-nil (b ∷ u))) ∙ ap (λ ps. map (line_of k) ps) (lines-prepend (b ∷ u) [] h) ∙ last_one b u

-- as many bytes as there is room for
fitting : (n : ℕ) (bytes : List ℕ) (room : ℕ) → take (min (length bytes) room) bytes ≡ take room bytes
fitting n bytes room = elim (cases_lt (length bytes) room) [
  | inl less ↦
      let least : min (length bytes) room ≡ length bytes = omega arith in
      rw least (take-length bytes ∙ sym (take_all room bytes (omega arith)))
  | inr more ↦ let least : min (length bytes) room ≡ room = omega arith in rw least refl
]

take-more : (n : ℕ) (old bytes : List ℕ) (room : ℕ) → room + length old ≡ n → old ++ take (min (length bytes) room) bytes ≡ take n (old ++ bytes)
take-more n old bytes room e =
    let sum : length old + room ≡ n = omega arith in
    ap (λ ds. old ++ ds) (fitting n bytes room) ∙ sym (take-append-add old bytes room) ∙ ap (λ k. take k (old ++ bytes)) sum

pub kept-more : (old bytes : List ℕ) (room : ℕ) → room + length old ≡ 1026 → old ++ take (min (length bytes) room) bytes ≡ kept (old ++ bytes)
unfolding kept
kept-more old bytes room e = take-more 1026 old bytes room e
