-- A record of a log that an analysis reads, by its kind.
use Rattle.std.proofs.Common.{◌≡◌, ℕ, ◌+◌, ◌==◌, Bool, true, false, ◌&&◌, eq-eqb, List, [], ◌∷◌, ◌++◌, map, refl, ap, sym, ◌∙◌, subst}
use Rattle.std.proofs.Math.Bool.{and-true, and-false}
use Rattle.std.specs.List.{list_all}
use Rattle.std.proofs.lemmas.List.Folds.{list_all-append}
use Rattle.std.specs.Prelude.{Result, Ok, Err, nat_le}
use Rattle.std.specs.declared.cmp.Ordering.{Ordering}
use Rattle.gx_geom.specs.declared.refusal.Refusal.{Refusal}
use Rattle.gx_geom.specs.declared.refusal.Refusal.TheVariants.{Damaged}
use Rattle.gx_record.specs.Rec as rec
use Rattle.gx_record.specs.Format.{IsImageOf, ArePages, IsInRange, IsRecord}
use Rattle.gx_recovery.specs.Known.{Known, IsLawful}
use Rattle.gx_recovery.specs.Records.{Image, Change, Said, Whole, Small, Record, Pages, Adjust, Write, Commit, End, Counters, Note, Touch}
use Rattle.gx_recovery.specs.Analysis.{Analysis, analysis}
use Rattle.gx_recovery.specs.Damage.{IsLog, follows, said_fits, fits, is_note, note_fits, is_head}
use Rattle.gx_durable.specs.Spelled.{Reading, record_read, images_read}
use Rattle.gx_recovery.specs.Kept.{Kept, may_touch, may_write, may_give, may_end, may_commit, with_counters, with_touch, with_pages, with_end, with_commit, Takes, Closes}
use Rattle.gx_recovery.specs.Telling.{IsKept, Tells, TellsClosing, TellsHead, AreOwn}
use Rattle.gx_recovery.proofs.Telling.{writes_tell, changes_tell, no_entry_refused, all_pages_tell, commits_tell, ends_tell, all_counters_tell, notes_tell}
use Rattle.gx_recovery.proofs.Heads.{no_entry_is_no_note}
use Rattle.gx_found_log.specs.declared.part.Part.TheVariants.{Start, Head, Later}
use Rattle.gx_recovery.specs.Broken.{refused}
use Rattle.gx_recovery.specs.declared.rule.LogRule.{LogRule}
use Rattle.gx_recovery.specs.declared.rule.LogRule.TheVariants.{NoKey}
use Rattle.gx_durable.specs.Small.{SetMark, AddPair, SetKey, RemoveSlots}
use Rattle.gx_found_log.specs.Small.{page_fits}
use Rattle.gx_found_log.specs.Told.{page_numbers, touched, TakesWrite, Told, RecordTold}
use Rattle.gx_found_log.specs.Broken.{is_counters, is_noting}

-- a small change of no transaction
abbrev pub is_adjusting : rec.Rec → Bool
is_adjusting (rec.Widen page slot key) = true
is_adjusting (rec.Sweep page slots) = true
is_adjusting (rec.Pages counter used pages) = false
is_adjusting (rec.Write tx row key before after leaf image) = false
is_adjusting (rec.Commit tx n) = false
is_adjusting (rec.End tx) = false
is_adjusting (rec.Counters n counter used next) = false
is_adjusting (rec.Note tx row key before leaf) = false
is_adjusting (rec.Bit tx row key before after leaf) = false
is_adjusting (rec.Add tx row key leaf) = false

module _ {E P : Type 0} (k : Known E P) (r : Reading E P) (l : IsLawful k) where
  -- a record that may come by what is kept, as far as what it says of its page fits
  told_by : (log : List (Record E P)) (x : Record E P) (may fits : Bool) (taken old new : Kept E) (result : Result (Unit {0}) Refusal) → page_fits k log x ≡ fits
      → Tells k log x (may && fits) taken → Takes may taken old result new → Told Later k log x result new
  told_by log x may fits taken old new (Ok done) said tells takes =
      (and-true (follows k log x) ∙ tells.exact ∙ ap (λ b. b && fits) takes.0 ∙ sym said, subst (λ (s : Kept E). IsKept k (log ++ x ∷ []) s) (sym takes.1) tells.kept)
  told_by log x may fits taken old new (Err refusal) said tells takes = (and-true (follows k log x) ∙ tells.exact ∙ ap (λ b. b && fits) takes.0, takes.1)

  -- one that has no small change
  told_from : (log : List (Record E P)) (x : Record E P) (may : Bool) (taken old new : Kept E) (result : Result (Unit {0}) Refusal) → page_fits k log x ≡ true → Tells k log x may taken
      → Takes may taken old result new → Told Later k log x result new
  told_from log x may taken old new result said tells takes =
      told_by log x may true taken old new result said (record { exact = tells.exact ∙ sym (and-true may); kept = tells.kept }) takes

  closed_from : (log : List (Record E P)) (x : Record E P) (may : Bool) (t : ℕ) (told : Analysis E) (old new : Kept E) (result : Result (Unit {0}) Refusal)
      → page_fits k log x ≡ true → TellsClosing k log x may t told old → Closes may t told old result new → Told Later k log x result new
  closed_from log x may t told old new (Ok done) said tells closes = (and-true (follows k log x) ∙ tells.exact ∙ closes.0 ∙ sym said, tells.kept new closes.1)
  closed_from log x may t told old new (Err refusal) said tells closes = (and-true (follows k log x) ∙ tells.exact ∙ closes.0, closes.1)

  abbrev Owns : Type 0
  Owns = (page : ℕ) (image : List ℕ) → IsImageOf page image → k.own (r.content image) ≡ page

  images_own : Owns → (least : ℕ) (pages : List (ℕ × List ℕ)) → ArePages least pages → AreOwn k (images_read r pages)
  images_own owns least [] are = tt
  images_own owns least (p ∷ pages) are = (owns p.0 p.1 are.1.image, images_own owns (p.0 + 1) pages are.2)

  numbers_read : (pages : List (ℕ × List ℕ)) → map (λ (i : Image P). i.page) (images_read r pages) ≡ page_numbers pages
  numbers_read [] = refl
  numbers_read (p ∷ pages) = ap (λ (ns : List ℕ). p.0 ∷ ns) (numbers_read pages)

  pub pages_told : Owns → (counter used : ℕ) (pages : List (ℕ × List ℕ)) → ArePages 0 pages → (old new : Kept E) (result : Result (Unit {0}) Refusal)
      → Takes (may_give counter used (page_numbers pages) old) (with_pages counter used old) old result new → RecordTold Later k r (rec.Pages counter used pages) old result new
  pages_told owns counter used pages are old new result takes log is kept =
      let images : List (Image P) = images_read r pages in
      told_from log (Pages images counter used) (may_give counter used (map (λ (i : Image P). i.page) images) old) (with_pages counter used old) old new result refl
      (all_pages_tell k l log old is kept images counter used (images_own owns 0 pages are))
      (subst (λ (ns : List ℕ). Takes (may_give counter used ns old) (with_pages counter used old) old result new) (sym (numbers_read pages)) takes)

  -- a write, where the bytes are a key's of the class and where they aren't
  by_class : (b : Bool) (log : List (Record E P)) (x : Record E P) (old new : Kept E) (result : Result (Unit {0}) LogRule) (e : E) → k.is_entry e ≡ b
      → (k.is_entry e ≡ true → Told Later k log x (refused result) new) → (k.is_entry e ≡ false → Told Later k log x (refused (Err NoKey)) new)
      → (k.is_entry e ≡ false → result ≡ Err NoKey) → Told Later k log x (refused result) new
  by_class true log x old new result e is some none keyless = some is
  by_class false log x old new result e is some none keyless =
      subst (λ (z : Result (Unit {0}) LogRule). Told Later k log x (refused z) new) (sym (keyless is)) (none is)

  written_told : (cmp : E → E → Ordering) → k.cmp ≡ cmp → (log : List (Record E P)) → IsLog k log → (t : Touch E) (after : Bool) (said : Said P)
      → page_fits k log (Write t.transaction t.entry t.before after t.leaf said) ≡ said_fits k t.leaf said log → (old new : Kept E) → IsKept k log old
      → (result : Result (Unit {0}) LogRule) → (k.is_entry t.entry ≡ true → TakesWrite cmp t old result new) → (k.is_entry t.entry ≡ false → result ≡ Err NoKey)
      → Told Later k log (Write t.transaction t.entry t.before after t.leaf said) (refused result) new
  written_told cmp ordered log is t after said fits old new kept result takes keyless =
      let x : Record E P = Write t.transaction t.entry t.before after t.leaf said in
      by_class (k.is_entry t.entry) log x old new result t.entry refl
      (λ of_class.
      told_by log x (may_write k.cmp t old) (said_fits k t.leaf said log) (with_touch k.cmp t old) old new (refused result) fits (writes_tell k l log old is kept t after said of_class)
      (subst (λ (c : E → E → Ordering). Takes (may_write c t old) (with_touch c t old) old (refused result) new) (sym ordered) (takes of_class)))
      (λ of_none. (and-true (follows k log x) ∙ no_entry_refused k l log is t after said of_none, refl))
      keyless

  -- a write with its leaf's image; one that sets a mark; one that adds a pair
  pub write_comes : Owns → (cmp : E → E → Ordering) → k.cmp ≡ cmp → (x : rec.Rec) (tx row : ℕ) (key : List ℕ) (before after : Bool) (leaf : ℕ) (image : List ℕ)
      → x ≡ rec.Write tx row key before after leaf image → IsRecord r.key x → (old new : Kept E) (result : Result (Unit {0}) LogRule)
      → (k.is_entry (r.entry row key) ≡ true → TakesWrite cmp (touched tx (r.entry row key) before leaf) old result new)
      → (k.is_entry (r.entry row key) ≡ false → result ≡ Err NoKey) → RecordTold Later k r x old (refused result) new
  write_comes owns cmp ordered x tx row key before after leaf image is whole old new result takes keyless =
      let in_range : IsInRange (rec.Write tx row key before after leaf image) = subst (λ (y : rec.Rec). IsInRange y) is whole.in_range in
      let own : true ≡ (k.own (r.content image) == leaf) = sym (eq-eqb (k.own (r.content image)) leaf (owns leaf image in_range.2.image)) in
      subst (λ (y : rec.Rec). RecordTold Later k r y old (refused result) new) (sym is)
      (λ log begun kept. written_told cmp ordered log begun (touched tx (r.entry row key) before leaf) after (Whole (r.content image)) own old new kept result takes keyless)

  pub bit_comes : (cmp : E → E → Ordering) → k.cmp ≡ cmp → (x : rec.Rec) (tx row : ℕ) (key : List ℕ) (before after : Bool) (leaf : ℕ)
      → x ≡ rec.Bit tx row key before after leaf → (old new : Kept E) (result : Result (Unit {0}) LogRule)
      → (k.is_entry (r.entry row key) ≡ true → TakesWrite cmp (touched tx (r.entry row key) before leaf) old result new)
      → (k.is_entry (r.entry row key) ≡ false → result ≡ Err NoKey) → RecordTold Later k r x old (refused result) new
  bit_comes cmp ordered x tx row key before after leaf is old new result takes keyless =
      subst (λ (y : rec.Rec). RecordTold Later k r y old (refused result) new) (sym is)
      (λ log begun kept. written_told cmp ordered log begun (touched tx (r.entry row key) before leaf) after (Small (r.change (SetMark row key after))) refl old new kept result takes keyless)

  pub add_comes : (cmp : E → E → Ordering) → k.cmp ≡ cmp → (x : rec.Rec) (tx row : ℕ) (key : List ℕ) (leaf : ℕ)
      → x ≡ rec.Add tx row key leaf → (old new : Kept E) (result : Result (Unit {0}) LogRule)
      → (k.is_entry (r.entry row key) ≡ true → TakesWrite cmp (touched tx (r.entry row key) true leaf) old result new)
      → (k.is_entry (r.entry row key) ≡ false → result ≡ Err NoKey) → RecordTold Later k r x old (refused result) new
  add_comes cmp ordered x tx row key leaf is old new result takes keyless =
      subst (λ (y : rec.Rec). RecordTold Later k r y old (refused result) new) (sym is)
      (λ log begun kept. written_told cmp ordered log begun (touched tx (r.entry row key) true leaf) false (Small (r.change (AddPair row key))) refl old new kept result takes keyless)

  -- a small change of no transaction
  adjust_told : (log : List (Record E P)) → IsLog k log → (page : ℕ) (change : Change P) (old : Kept E) → IsKept k log old → Told Later k log (Adjust page change) (Ok tt) old
  adjust_told log is page change old kept = let tells = changes_tell k l log old is kept page change in (and-true (follows k log (Adjust page change)) ∙ tells.exact, tells.kept)

  pub adjust_comes : (x : rec.Rec) → is_adjusting x ≡ true → (old : Kept E) → RecordTold Later k r x old (Ok tt) old
  adjust_comes (rec.Widen page slot key) is old log begun kept = adjust_told log begun page (r.change (SetKey slot key)) old kept
  adjust_comes (rec.Sweep page slots) is old log begun kept = adjust_told log begun page (r.change (RemoveSlots slots)) old kept
  adjust_comes (rec.Pages counter used pages) is old log begun kept = absurd cc
  adjust_comes (rec.Write tx row key before after leaf image) is old log begun kept = absurd cc
  adjust_comes (rec.Commit tx n) is old log begun kept = absurd cc
  adjust_comes (rec.End tx) is old log begun kept = absurd cc
  adjust_comes (rec.Counters n counter used next) is old log begun kept = absurd cc
  adjust_comes (rec.Note tx row key before leaf) is old log begun kept = absurd cc
  adjust_comes (rec.Bit tx row key before after leaf) is old log begun kept = absurd cc
  adjust_comes (rec.Add tx row key leaf) is old log begun kept = absurd cc

  pub commit_told : (tx n : ℕ) (old new : Kept E) (result : Result (Unit {0}) Refusal) → Closes (may_commit tx n old) tx (with_commit tx n old.told) old result new
      → RecordTold Later k r (rec.Commit tx n) old result new
  commit_told tx n old new result closes log is kept =
      closed_from log (Commit tx n) (may_commit tx n old) tx (with_commit tx n old.told) old new result refl (commits_tell k l log old is kept tx n) closes

  pub end_told : (tx : ℕ) (old new : Kept E) (result : Result (Unit {0}) Refusal) → Closes (may_end tx old) tx (with_end tx old.told) old result new
      → RecordTold Later k r (rec.End tx) old result new
  end_told tx old new result closes log is kept =
      closed_from log (End tx) (may_end tx old) tx (with_end tx old.told) old new result refl (ends_tell k l log old is kept tx) closes

  -- the same of a record that is of that kind
  pub pages_come : Owns → (x : rec.Rec) (counter used : ℕ) (pages : List (ℕ × List ℕ)) → x ≡ rec.Pages counter used pages → IsRecord r.key x → (old new : Kept E)
      (result : Result (Unit {0}) Refusal) → Takes (may_give counter used (page_numbers pages) old) (with_pages counter used old) old result new → RecordTold Later k r x old result new
  pages_come owns x counter used pages is whole old new result takes =
      let in_range : IsInRange (rec.Pages counter used pages) = subst (λ (y : rec.Rec). IsInRange y) is whole.in_range in
      subst (λ (y : rec.Rec). RecordTold Later k r y old result new) (sym is) (pages_told owns counter used pages in_range.4 old new result takes)

  pub commit_comes : (x : rec.Rec) (tx n : ℕ) → x ≡ rec.Commit tx n → (old new : Kept E) (result : Result (Unit {0}) Refusal)
      → Closes (may_commit tx n old) tx (with_commit tx n old.told) old result new → RecordTold Later k r x old result new
  commit_comes x tx n is old new result closes = subst (λ (y : rec.Rec). RecordTold Later k r y old result new) (sym is) (commit_told tx n old new result closes)

  pub end_comes : (x : rec.Rec) (tx : ℕ) → x ≡ rec.End tx → (old new : Kept E) (result : Result (Unit {0}) Refusal)
      → Closes (may_end tx old) tx (with_end tx old.told) old result new → RecordTold Later k r x old result new
  end_comes x tx is old new result closes = subst (λ (y : rec.Rec). RecordTold Later k r y old result new) (sym is) (end_told tx old new result closes)

  head_from : (head : List (Record E P)) (may : Bool) (taken old new : Kept E) (result : Result (Unit {0}) Refusal) (log : List (Record E P)) (x : Record E P)
      → log ++ x ∷ [] ≡ head → page_fits k log x ≡ true → TellsHead k head may taken → Takes may taken old result new → Told Head k log x result new
  head_from head may taken old new (Ok done) log x is said tells takes =
      (ap (is_head k) is ∙ tells.exact ∙ takes.0 ∙ sym said, subst (λ (s : Kept E). IsKept k (log ++ x ∷ []) s) (sym takes.1) (subst (λ (xs : List (Record E P)). IsKept k xs taken) (sym is) tells.kept))
  head_from head may taken old new (Err refusal) log x is said tells takes = (ap (is_head k) is ∙ tells.exact ∙ takes.0, takes.1)

  -- the same at a log's start
  at_start : (log : List (Record E P)) (x : Record E P) (result : Result (Unit {0}) Refusal) (new : Kept E) → Told Head k log x result new → Told Start k log x result new
  at_start log x (Ok done) new told = told
  at_start log x (Err refusal) new told = told

  counters_told : (n counter used next : ℕ) (old new : Kept E) (result : Result (Unit {0}) Refusal)
      → Takes (nat_le used old.pages) (with_counters n counter used next old) old result new → RecordTold Start k r (rec.Counters n counter used next) old result new
  counters_told n counter used next old new result takes [] is kept =
      at_start [] (Counters n counter used next) result new
      (head_from (Counters n counter used next ∷ []) (nat_le used old.pages) (with_counters n counter used next old) old new result [] (Counters n counter used next) refl refl
      (all_counters_tell k old kept n counter used next) takes)
  counters_told n counter used next old new result takes (y ∷ log) is kept = cc

  note_told : (cmp : E → E → Ordering) → k.cmp ≡ cmp → (tx row : ℕ) (key : List ℕ) (before : Bool) (leaf : ℕ) → k.is_entry (r.entry row key) ≡ true
      → (old new : Kept E) (result : Result (Unit {0}) Refusal)
      → Takes (may_touch cmp (record { transaction = tx; entry = r.entry row key; before = before; leaf = leaf }) old)
      (with_touch cmp (record { transaction = tx; entry = r.entry row key; before = before; leaf = leaf }) old) old result new
      → RecordTold Head k r (rec.Note tx row key before leaf) old result new
  note_told cmp ordered tx row key before leaf of_class old new result takes log is kept =
      let t : Touch E = record { transaction = tx; entry = r.entry row key; before = before; leaf = leaf } in
      let by_order : Takes (may_touch k.cmp t old) (with_touch k.cmp t old) old result new =
      subst (λ (c : E → E → Ordering). Takes (may_touch c t old) (with_touch c t old) old result new) (sym ordered) takes in
      head_from (log ++ Note tx (r.entry row key) before leaf ∷ []) (may_touch k.cmp t old) (with_touch k.cmp t old) old new result log (Note tx (r.entry row key) before leaf) refl refl
      (notes_tell k l log old is kept t of_class) by_order

  -- a record of that kind that is the first, or is in the head
  pub counters_come : (x : rec.Rec) (n counter used next : ℕ) → x ≡ rec.Counters n counter used next → (old new : Kept E) (result : Result (Unit {0}) Refusal)
      → Takes (nat_le used old.pages) (with_counters n counter used next old) old result new → RecordTold Start k r x old result new
  counters_come x n counter used next is old new result takes =
      subst (λ (y : rec.Rec). RecordTold Start k r y old result new) (sym is) (counters_told n counter used next old new result takes)

  pub note_comes : (cmp : E → E → Ordering) → k.cmp ≡ cmp → (x : rec.Rec) (tx row : ℕ) (key : List ℕ) (before : Bool) (leaf : ℕ)
      → x ≡ rec.Note tx row key before leaf → k.is_entry (r.entry row key) ≡ true
      → (t : Touch E) → t ≡ (record { transaction = tx; entry = r.entry row key; before = before; leaf = leaf })
      → (old new : Kept E) (result : Result (Unit {0}) Refusal) → Takes (may_touch cmp t old) (with_touch cmp t old) old result new → RecordTold Head k r x old result new
  note_comes cmp ordered x tx row key before leaf is of_class t same old new result takes =
      subst (λ (y : rec.Rec). RecordTold Head k r y old result new) (sym is)
      (note_told cmp ordered tx row key before leaf of_class old new result
      (subst (λ (u : Touch E). Takes (may_touch cmp u old) (with_touch cmp u old) old result new) same takes))

  pub no_entry_noted : (x : rec.Rec) (tx row : ℕ) (key : List ℕ) (before : Bool) (leaf : ℕ) → x ≡ rec.Note tx row key before leaf
      → k.is_entry (r.entry row key) ≡ false → (old new : Kept E) → RecordTold Head k r x old (Err Damaged) new
  no_entry_noted x tx row key before leaf is of_none old new =
      subst (λ (y : rec.Rec). RecordTold Head k r y old (Err Damaged) new) (sym is)
      (λ log head kept. (no_entry_is_no_note k l log head (record { transaction = tx; entry = r.entry row key; before = before; leaf = leaf }) of_none, refl))

  -- any other record there
  pub start_refuses : (x : rec.Rec) → is_counters x ≡ false → (old new : Kept E) → RecordTold Start k r x old (Err Damaged) new
  start_refuses (rec.Pages counter used pages) other old new log is kept = (ap (λ (xs : List (Record E P)). is_head k (xs ++ record_read r (rec.Pages counter used pages) ∷ [])) is, refl)
  start_refuses (rec.Write tx row key before after leaf image) other old new log is kept =
      (ap (λ (xs : List (Record E P)). is_head k (xs ++ record_read r (rec.Write tx row key before after leaf image) ∷ [])) is, refl)
  start_refuses (rec.Commit tx n) other old new log is kept = (ap (λ (xs : List (Record E P)). is_head k (xs ++ record_read r (rec.Commit tx n) ∷ [])) is, refl)
  start_refuses (rec.End tx) other old new log is kept = (ap (λ (xs : List (Record E P)). is_head k (xs ++ record_read r (rec.End tx) ∷ [])) is, refl)
  start_refuses (rec.Counters n counter used next) other old new log is kept = cc
  start_refuses (rec.Note tx row key before leaf) other old new log is kept =
      (ap (λ (xs : List (Record E P)). is_head k (xs ++ record_read r (rec.Note tx row key before leaf) ∷ [])) is, refl)
  start_refuses (rec.Bit tx row key before after leaf) other old new log is kept = (ap (λ (xs : List (Record E P)). is_head k (xs ++ record_read r (rec.Bit tx row key before after leaf) ∷ [])) is, refl)
  start_refuses (rec.Add tx row key leaf) other old new log is kept = (ap (λ (xs : List (Record E P)). is_head k (xs ++ record_read r (rec.Add tx row key leaf) ∷ [])) is, refl)
  start_refuses (rec.Widen page slot key) other old new log is kept = (ap (λ (xs : List (Record E P)). is_head k (xs ++ record_read r (rec.Widen page slot key) ∷ [])) is, refl)
  start_refuses (rec.Sweep page slots) other old new log is kept = (ap (λ (xs : List (Record E P)). is_head k (xs ++ record_read r (rec.Sweep page slots) ∷ [])) is, refl)

  no_head : (log : List (Record E P)) (x : Record E P) → is_head k log ≡ true → is_note x ≡ false → is_head k (log ++ x ∷ []) ≡ false
  no_head [] x head other = cc
  no_head (Counters number counter used next ∷ notes) x head other =
      ap (λ b. b && (list_all (note_fits used) (notes ++ x ∷ []) && fits k (analysis k (Counters number counter used next ∷ (notes ++ x ∷ [])))))
      (list_all-append is_note notes (x ∷ []) ∙ ap (λ b. list_all is_note notes && (b && true)) other ∙ and-false (list_all is_note notes))
  no_head (Pages images counter used ∷ notes) x head other = cc
  no_head (Adjust page change ∷ notes) x head other = cc
  no_head (Write u e b after leaf said ∷ notes) x head other = cc
  no_head (Commit u number ∷ notes) x head other = cc
  no_head (End u ∷ notes) x head other = cc
  no_head (Note u e b leaf ∷ notes) x head other = cc

  pub head_refuses : (x : rec.Rec) → is_noting x ≡ false → (old new : Kept E) → RecordTold Head k r x old (Err Damaged) new
  head_refuses (rec.Pages counter used pages) other old new log is kept = (no_head log (record_read r (rec.Pages counter used pages)) is refl, refl)
  head_refuses (rec.Write tx row key before after leaf image) other old new log is kept = (no_head log (record_read r (rec.Write tx row key before after leaf image)) is refl, refl)
  head_refuses (rec.Commit tx n) other old new log is kept = (no_head log (record_read r (rec.Commit tx n)) is refl, refl)
  head_refuses (rec.End tx) other old new log is kept = (no_head log (record_read r (rec.End tx)) is refl, refl)
  head_refuses (rec.Counters n counter used next) other old new log is kept = (no_head log (record_read r (rec.Counters n counter used next)) is refl, refl)
  head_refuses (rec.Note tx row key before leaf) other old new log is kept = cc
  head_refuses (rec.Bit tx row key before after leaf) other old new log is kept = (no_head log (record_read r (rec.Bit tx row key before after leaf)) is refl, refl)
  head_refuses (rec.Add tx row key leaf) other old new log is kept = (no_head log (record_read r (rec.Add tx row key leaf)) is refl, refl)
  head_refuses (rec.Widen page slot key) other old new log is kept = (no_head log (record_read r (rec.Widen page slot key)) is refl, refl)
  head_refuses (rec.Sweep page slots) other old new log is kept = (no_head log (record_read r (rec.Sweep page slots)) is refl, refl)
