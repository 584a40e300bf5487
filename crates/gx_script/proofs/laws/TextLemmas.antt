-- The lines of printed text.
use Rattle.std.proofs.Common.{◌≡◌, ℕ, zero, suc, ◌+◌, ◌/◌, ◌%◌, ℤ, pos, negsuc, List, [], ◌∷◌, ◌++◌, Bool, true, false, cond, eqb, ltb, length, refl, ap, sym, subst, ◌∙◌, arith, append_assoc, codes}
use Rattle.std.specs.Prelude.{decimal, ◌||◌}
use Rattle.std.specs.List.{list_any, flat_map}
use Rattle.std.specs.Fmt.{digits, digits_onto, digit_glyph, signed_decimal}
use Rattle.std.proofs.lemmas.Bool.{ne_eqb}
use Rattle.std.proofs.lemmas.List.Concat.{flat_map-cons}
use Rattle.gx_geom.specs.Refusals.{refusal_number, refusal_text}
use Rattle.gx_geom.specs.declared.refusal.Refusal.{Refusal}
use Rattle.gx_geom.specs.declared.refusal.Refusal.TheVariants.{NoTransaction, InTransaction, Present, Absent, Busy, BadBox, PagesFull, ClaimsFull, PredicatesFull, Memory, Device, Failed, Damaged, NotFormatted, BadSession, CallOpen, TooSmall, BadParameter, NoCall, HistoryFull, OldVersion}
use Rattle.gx_machine.specs.declared.entry.Entry.{Entry}
use Rattle.gx_machine.specs.declared.reply.Reply.{Reply}
use Rattle.gx_machine.specs.declared.reply.Reply.TheVariants.{Ok, Inserted, Deleted, Found, Committed, Aborted, Refused}
use Rattle.gx_script.specs.Corners.{Grammar, spaced}
use Rattle.gx_script.specs.Lines.{lines}
use Rattle.gx_script.specs.Replies.{told_line, entry_line, reply_text, reply_lines, bad_line}
use Rattle.gx_script.specs.Scripts.{IsUnended}
use Rattle.gx_script.proofs.LineLemmas.{lines-line, unended-append}

unended-cons : (b : ℕ) (bs : List ℕ) → eqb b 10 ≡ false → IsUnended bs → IsUnended (b ∷ bs)
unended-cons b bs e h = ap (λ (t : Bool). t || list_any (λ x. eqb x 10) bs) e ∙ h

glyph_case : (t : Bool) (m : ℕ) → eqb (cond t (48 + m) (87 + m)) 10 ≡ false
glyph_case true m = ne_eqb (48 + m) 10 (λ e. omega arith)
glyph_case false m = ne_eqb (87 + m) 10 (λ e. omega arith)

either_unended : (t : Bool) (a b : List ℕ) → IsUnended a → IsUnended b → IsUnended (cond t a b)
either_unended true a b h k = h
either_unended false a b h k = k

digits-unended : (k n : ℕ) (acc : List ℕ) → IsUnended acc → IsUnended (digits_onto k 10 false n acc)
digits-unended zero n acc h = h
digits-unended (suc k) n acc h =
    let more = unended-cons (digit_glyph false (n % 10)) acc (glyph_case (ltb (n % 10) 10) (n % 10)) h in
    either_unended (eqb (n / 10) 0) (digit_glyph false (n % 10) ∷ acc) (digits_onto k 10 false (n / 10) (digit_glyph false (n % 10) ∷ acc)) more
    (digits-unended k (n / 10) (digit_glyph false (n % 10) ∷ acc) more)

-- no line ends in a number
decimal-unended : (n : ℕ) → IsUnended (decimal n)
unfolding digits
decimal-unended n = digits-unended 64 n [] refl

signed-unended : (z : ℤ) → IsUnended (signed_decimal z)
signed-unended (pos n) = decimal-unended n
signed-unended (negsuc n) = unended-cons 45 (decimal (suc n)) refl (decimal-unended (suc n))

-- nor in numbers, with a space before each
spaced-unended : (zs : List ℤ) → IsUnended (spaced zs)
spaced-unended [] = refl
spaced-unended (z ∷ zs) =
    subst IsUnended (sym (flat_map-cons (λ z. 32 ∷ signed_decimal z) z zs))
    (unended-append (32 ∷ signed_decimal z) (spaced zs) (unended-cons 32 (signed_decimal z) refl (signed-unended z)) (spaced-unended zs))

refusal-unended : (why : Refusal) → IsUnended (refusal_text why)
refusal-unended NoTransaction = refl
refusal-unended InTransaction = refl
refusal-unended Present = refl
refusal-unended Absent = refl
refusal-unended (Busy session) = unended-append (codes "busy ") (decimal session) refl (decimal-unended session)
refusal-unended BadBox = refl
refusal-unended PagesFull = refl
refusal-unended ClaimsFull = refl
refusal-unended PredicatesFull = refl
refusal-unended Memory = refl
refusal-unended Device = refl
refusal-unended Failed = refl
refusal-unended Damaged = refl
refusal-unended NotFormatted = refl
refusal-unended BadSession = refl
refusal-unended CallOpen = refl
refusal-unended TooSmall = refl
refusal-unended BadParameter = refl
refusal-unended NoCall = refl
refusal-unended HistoryFull = refl
refusal-unended OldVersion = refl

one_more : (n : ℕ) → suc n ≡ 1 + n
one_more n = omega arith

-- a line that is written is one line
told-one : (s : ℕ) (told more : List ℕ) → IsUnended told → length (lines (told_line s told ++ more)) ≡ 1 + length (lines more)
told-one s told more h =
    let line : List ℕ = decimal s ++ (32 ∷ told) in
    let unended = unended-append (decimal s) (32 ∷ told) (decimal-unended s) (unended-cons 32 told refl h) in
    let same : told_line s told ++ more ≡ line ++ (10 ∷ more) =
    append_assoc (decimal s) (32 ∷ (told ++ (10 ∷ []))) more ∙ ap (λ x. decimal s ++ (32 ∷ x)) (append_assoc told (10 ∷ []) more)
    ∙ sym (append_assoc (decimal s) (32 ∷ told) (10 ∷ more)) in
    ap (λ x. length (lines x)) same ∙ ap (λ (ls : List (List ℕ)). length ls) (lines-line line more unended) ∙ one_more (length (lines more))

together : (a b : ℕ) → 1 + (a + b) ≡ suc a + b
together a b = omega arith

module _ {B : Type 0} (k : Grammar B) where
  entries-lines : (s : ℕ) (es : List (Entry B)) (more : List ℕ) → length (lines (flat_map (entry_line k s) es ++ more)) ≡ length es + length (lines more)
  entries-lines s [] more = omega arith
  entries-lines s (e ∷ es) more =
      let corners = spaced (k.corners e.key) in
      let told : List ℕ = codes "entry " ++ (decimal e.row ++ corners) in
      let unended = unended-append (codes "entry ") (decimal e.row ++ corners) refl
      (unended-append (decimal e.row) corners (decimal-unended e.row) (spaced-unended (k.corners e.key))) in
      let later = entries-lines s es more in
      let first = told-one s told (flat_map (entry_line k s) es ++ more) unended in
      let same = ap (λ x. length (lines x))
      (ap (λ x. x ++ more) (flat_map-cons (entry_line k s) e es) ∙ append_assoc (entry_line k s e) (flat_map (entry_line k s) es) more) in
      same ∙ first ∙ ap (λ (n : ℕ). 1 + n) later ∙ together (length es) (length (lines more))

together_one : (a b : ℕ) → 1 + (a + b) ≡ 1 + a + b
together_one a b = omega arith

pub reply-lines : {B : Type 0} (k : Grammar B) (s : ℕ) (reply : Reply B) (more : List ℕ) → length (lines (reply_text k s reply ++ more)) ≡ reply_lines reply + length (lines more)
reply-lines k s Ok more = told-one s (codes "ok") more refl
reply-lines k s Inserted more = told-one s (codes "inserted") more refl
reply-lines k s Deleted more = told-one s (codes "deleted") more refl
reply-lines k s (Found es) more =
    let head : List ℕ = codes "found " ++ decimal (length es) in
    let unended = unended-append (codes "found ") (decimal (length es)) refl (decimal-unended (length es)) in
    ap (λ x. length (lines x)) (append_assoc (told_line s head) (flat_map (entry_line k s) es) more)
    ∙ told-one s head (flat_map (entry_line k s) es ++ more) unended
    ∙ ap (λ (n : ℕ). 1 + n) (entries-lines k s es more) ∙ together_one (length es) (length (lines more))
reply-lines k s (Committed number) more =
    told-one s (codes "committed " ++ decimal number) more (unended-append (codes "committed ") (decimal number) refl (decimal-unended number))
reply-lines k s Aborted more = told-one s (codes "aborted") more refl
reply-lines k s (Refused why) more =
    told-one s (codes "refused " ++ (decimal (refusal_number why) ++ (32 ∷ refusal_text why))) more
    (unended-append (codes "refused ") (decimal (refusal_number why) ++ (32 ∷ refusal_text why)) refl
    (unended-append (decimal (refusal_number why)) (32 ∷ refusal_text why) (decimal-unended (refusal_number why))
    (unended-cons 32 (refusal_text why) refl (refusal-unended why))))

pub bad-lines : (number : ℕ) (more : List ℕ) → length (lines (bad_line number ++ more)) ≡ 1 + length (lines more)
bad-lines number more =
    let line : List ℕ = codes "line " ++ (decimal number ++ codes " bad") in
    let unended = unended-append (codes "line ") (decimal number ++ codes " bad") refl
    (unended-append (decimal number) (codes " bad") (decimal-unended number) refl) in
    let same : bad_line number ++ more ≡ line ++ (10 ∷ more) =
    ap (λ x. codes "line " ++ x)
    (append_assoc (decimal number) (codes " bad" ++ (10 ∷ [])) more ∙ sym (append_assoc (decimal number) (codes " bad") (10 ∷ more))) in
    ap (λ x. length (lines x)) same ∙ ap (λ (ls : List (List ℕ)). length ls) (lines-line line more unended) ∙ one_more (length (lines more))
