-- Which rule is broken, record by record and in the bytes of a body.
use Rattle.std.proofs.Common.{◌≡◌, ℕ, ◌+◌, ◌<◌, Bool, true, false, inl, inr, List, [], ◌∷◌, ◌++◌, drop, length, refl, ap, sym, ◌∙◌, subst, arith, append_assoc, length-append}
use Rattle.std.specs.Prelude.{Result, Ok, Err, IfErr, Option, None, Some}
use Rattle.std.specs.declared.cmp.Ordering.{Ordering}
use Rattle.std.proofs.lemmas.List.{append-nil}
use Rattle.gx_record.specs.Rec.{Rec}
use Rattle.gx_record.specs.Rec as rec
use Rattle.gx_record.specs.Format.{spelling, BeginsWith}
use Rattle.gx_recovery.specs.Known.{Known, IsLawful}
use Rattle.gx_recovery.specs.Records.{Record, Touch}
use Rattle.gx_durable.specs.Small.{PageChange}
use Rattle.gx_durable.specs.Spelled.{Reading, record_read}
use Rattle.gx_recovery.specs.Kept.{Kept}
use Rattle.gx_recovery.specs.Broken.{breaks_touch, breaks_write}
use Rattle.gx_recovery.specs.declared.rule.LogRule.{LogRule}
use Rattle.gx_recovery.specs.declared.rule.LogRule.TheVariants.{Spelling, NoCounters, Misplaced, NoKey}
use Rattle.gx_found_log.specs.declared.fault.Misfit.{Misfit}
use Rattle.gx_found_log.specs.declared.gathered.Gathered.{Gathered}
use Rattle.gx_found_log.specs.declared.part.Part.{Part}
use Rattle.gx_found_log.specs.declared.part.Part.TheVariants.{Start, Head, Later}
use Rattle.gx_found_log.specs.Parts.{part_behind, IsBegun}
use Rattle.gx_found_log.specs.Given.{image_in}
use Rattle.gx_found_log.specs.Small.{small_of, Changes}
use Rattle.gx_found_log.specs.Told.{touched, IsGathered, KeepsSaid, OneGathered, RecordGathered}
use Rattle.gx_found_log.specs.Broken.{may_stand, is_of_class, breaks_next, BreaksWrite, ChangeBreaks, PageBreaks, RecordBreaks, RecordIsBroken, FrontBreaks, part_after, IsBrokenAt, BytesBroken, BrokenOn}
use Rattle.gx_found_log.proofs.Parts.{begun_behind}
use Rattle.gx_found_log.proofs.Reading.{no_record, no_clash}

module _ {E P : Type 0} (k : Known E P) (r : Reading E P) where
  -- a record of a kind that may not be there; one whose key isn't a key
  pub misplaced : (part : Part) (x : Rec) (s : Kept E) → may_stand part x ≡ false → RecordBreaks part k r x s Misplaced
  misplaced part x s never = inl (refl, never)

  pub keyless : (part : Part) (x y : Rec) (s : Kept E) → x ≡ y → is_of_class k r y ≡ false → RecordBreaks part k r x s NoKey
  keyless part x y s is never = inr (inl (refl, ap (λ (z : Rec). is_of_class k r z) is ∙ never))

  -- one that says what may not come next
  pub next_broken : (part : Part) (x y : Rec) (s : Kept E) (breaks : LogRule → Bool) → x ≡ y → ((rule : LogRule) → breaks_next k r y s rule ≡ breaks rule)
      → (result : Result (Unit {0}) LogRule) → IfErr result (λ rule. breaks rule ≡ true) → IfErr result (λ rule. RecordBreaks part k r x s rule)
  next_broken part x y s breaks is same (Ok done) broken = tt
  next_broken part x y s breaks is same (Err rule) broken = inr (inr (ap (λ (z : Rec). breaks_next k r z s rule) is ∙ same rule ∙ broken))

  -- a write of one of these kinds
  written_broken : (cmp : E → E → Ordering) → k.cmp ≡ cmp → (x y : Rec) → x ≡ y → (t : Touch E) (s : Kept E)
      → ((rule : LogRule) → breaks_next k r y s rule ≡ breaks_write k.cmp t s rule) → is_of_class k r y ≡ k.is_entry t.entry
      → (result : Result (Unit {0}) LogRule) → IfErr result (λ rule. BreaksWrite cmp k t s rule) → IfErr result (λ rule. RecordBreaks Later k r x s rule)
  written_broken cmp ordered x y is t s next key (Ok done) broken = tt
  written_broken cmp ordered x y is t s next key (Err rule) (inl never) =
      inr (inl (never.0, ap (λ (z : Rec). is_of_class k r z) is ∙ key ∙ never.1))
  written_broken cmp ordered x y is t s next key (Err rule) (inr breaks) =
      inr (inr (ap (λ (z : Rec). breaks_next k r z s rule) is ∙ next rule ∙ ap (λ (c : E → E → Ordering). breaks_write c t s rule) ordered ∙ breaks))

  pub write_broken : (cmp : E → E → Ordering) → k.cmp ≡ cmp → (x : Rec) (tx row : ℕ) (key : List ℕ) (before after : Bool) (leaf : ℕ) (image : List ℕ)
      → x ≡ rec.Write tx row key before after leaf image → (s : Kept E) (result : Result (Unit {0}) LogRule)
      → IfErr result (λ rule. BreaksWrite cmp k (touched tx (r.entry row key) before leaf) s rule) → IfErr result (λ rule. RecordBreaks Later k r x s rule)
  write_broken cmp ordered x tx row key before after leaf image is s result broken =
      written_broken cmp ordered x (rec.Write tx row key before after leaf image) is (touched tx (r.entry row key) before leaf) s (λ rule. refl) refl result broken

  pub bit_broken : (cmp : E → E → Ordering) → k.cmp ≡ cmp → (x : Rec) (tx row : ℕ) (key : List ℕ) (before after : Bool) (leaf : ℕ)
      → x ≡ rec.Bit tx row key before after leaf → (s : Kept E) (result : Result (Unit {0}) LogRule)
      → IfErr result (λ rule. BreaksWrite cmp k (touched tx (r.entry row key) before leaf) s rule) → IfErr result (λ rule. RecordBreaks Later k r x s rule)
  bit_broken cmp ordered x tx row key before after leaf is s result broken =
      written_broken cmp ordered x (rec.Bit tx row key before after leaf) is (touched tx (r.entry row key) before leaf) s (λ rule. refl) refl result broken

  pub add_broken : (cmp : E → E → Ordering) → k.cmp ≡ cmp → (x : Rec) (tx row : ℕ) (key : List ℕ) (leaf : ℕ)
      → x ≡ rec.Add tx row key leaf → (s : Kept E) (result : Result (Unit {0}) LogRule)
      → IfErr result (λ rule. BreaksWrite cmp k (touched tx (r.entry row key) true leaf) s rule) → IfErr result (λ rule. RecordBreaks Later k r x s rule)
  add_broken cmp ordered x tx row key leaf is s result broken =
      written_broken cmp ordered x (rec.Add tx row key leaf) is (touched tx (r.entry row key) true leaf) s (λ rule. refl) refl result broken

  pub note_broken : (cmp : E → E → Ordering) → k.cmp ≡ cmp → (x : Rec) (tx row : ℕ) (key : List ℕ) (before : Bool) (leaf : ℕ)
      → x ≡ rec.Note tx row key before leaf → (t : Touch E) → t ≡ (record { transaction = tx; entry = r.entry row key; before = before; leaf = leaf })
      → (s : Kept E) (result : Result (Unit {0}) LogRule) → IfErr result (λ rule. breaks_touch cmp t s rule ≡ true) → IfErr result (λ rule. RecordBreaks Head k r x s rule)
  note_broken cmp ordered x tx row key before leaf is t same s result broken =
      let u : Touch E = record { transaction = tx; entry = r.entry row key; before = before; leaf = leaf } in
      next_broken Head x (rec.Note tx row key before leaf) s (λ rule. breaks_touch cmp t s rule) is
      (λ rule. ap (λ (c : E → E → Ordering). breaks_touch c u s rule) ordered ∙ ap (λ (v : Touch E). breaks_touch cmp v s rule) (sym same)) result broken

  -- what a record says of its page, where it isn't kept
  not_kept : (x : Rec) (small : ℕ × PageChange) (old new : Gathered E) (rule : LogRule) (o : Option (List ℕ))
      → Changes r old.scratch.0 (r.change small.1) small.0 o old.given (Err rule) new.given → ChangeBreaks r old.scratch.0 (r.change small.1) o rule
  not_kept x small old new rule None changes = changes
  not_kept x small old new rule (Some image) changes = (changes.1, changes.0)

  pub page_broken : (x : Rec) (small : Option (ℕ × PageChange)) (old new : Gathered E) (rule : LogRule) → KeepsSaid r x small old.scratch.0 old.given (Err rule) new.given → PageBreaks r small old rule
  page_broken x None old new rule keeps = keeps
  page_broken x (Some small) old new rule keeps = not_kept x small old new rule (image_in small.0 old.given) keeps

  pub page_breaks : (part : Part) (x : Rec) (old new : Gathered E) (result : Result (Unit {0}) LogRule) → KeepsSaid r x (small_of x) old.scratch.0 old.given result new.given
      → IfErr result (λ rule. RecordIsBroken part k r x old rule)
  page_breaks part x old new (Ok done) keeps = tt
  page_breaks part x old new (Err rule) keeps = inr (page_broken x (small_of x) old new rule keeps)

  -- what the front of bytes breaks is broken behind no byte of them
  pub at_front : (part : Part) (rest : List ℕ) (s : Gathered E) (rule : LogRule) → FrontBreaks part k r rest s rule → BytesBroken part k r rest s 0 rule
  at_front part rest s rule breaks log is kept = record {
    front = [];
    rest = rest;
    cut = refl;
    place = refl;
    before = [];
    are = record { spelled = []; in_range = tt; bytes_are = refl; read = refl };
    begun = subst (λ (x : List (Record E P)). IsBegun part k x) (sym (append-nil log)) is;
    so_far = s;
    gathered = subst (λ (x : List (Record E P)). IsGathered k r x s) (sym (append-nil log)) kept;
    breaks = breaks;
  }

  key_is : (key : ℕ) → key ≡ r.key → (rest : List ℕ) (x : Rec) (n : ℕ) → BeginsWith key rest x n → BeginsWith r.key rest x n
  key_is key is rest x n begins = subst (λ (m : ℕ). BeginsWith m rest x n) is begins

  -- a first record that breaks a rule; bytes that no record begins
  pub record_breaks : (part : Part) (key : ℕ) → key ≡ r.key → (rest : List ℕ) (x : Rec) (n : ℕ) → BeginsWith key rest x n → (s : Gathered E) (rule : LogRule)
      → RecordIsBroken part k r x s rule → BytesBroken part k r rest s 0 rule
  record_breaks part key is rest x n begins s rule breaks =
      at_front part rest s rule (inr (inr (record { one = x; size = n; begins = key_is key is rest x n begins; breaks = breaks })))

  pub none_breaks : (part : Part) (key : ℕ) → key ≡ r.key → (rest : List ℕ) → 0 < length rest
      → ((x : Rec) (n : ℕ) → BeginsWith key rest x n → no_record ≡ Some (x, n)) → (s : Gathered E) → BytesBroken part k r rest s 0 Spelling
  none_breaks part key is rest some none s =
      at_front part rest s Spelling
      (inl (refl, some, λ x n begins. no_clash (x, n) (none x n (subst (λ (m : ℕ). BeginsWith m rest x n) (sym is) begins))))

  -- the same of equal parts and bytes
  pub broken_on : {part behind : Part} {rest left : List ℕ} → part ≡ behind → rest ≡ left → (now : Gathered E) (at : ℕ) (rule : LogRule)
      → BytesBroken part k r rest now at rule → BytesBroken behind k r left now at rule
  broken_on {part} {behind} {rest} {left} same same_bytes now at rule broken =
      subst (λ (p : Part). BytesBroken p k r left now at rule) same (subst (λ (ys : List ℕ). BytesBroken part k r ys now at rule) same_bytes broken)

  pub further_on : (part : Part) (bytes : List ℕ) (old : Gathered E) (rule : LogRule) (a b : ℕ) → a ≡ b → BytesBroken part k r bytes old a rule → BytesBroken part k r bytes old b rule
  further_on part bytes old rule a b same broken = subst (λ (m : ℕ). BytesBroken part k r bytes old m rule) same broken

  -- a first body that ends before its counters
  end_at : (part now_at : Part) (bytes rest : List ℕ) (at : ℕ) (old now : Gathered E) → rest ≡ [] → now_at ≡ Start → BrokenOn part now_at k r bytes rest at old now
      → BytesBroken part k r bytes old at NoCounters
  end_at part now_at bytes rest at old now empty start on =
      further_on part bytes old NoCounters (at + 0) at (omega arith) (on 0 NoCounters (at_front now_at rest now NoCounters (inr (inl (refl, start, empty)))))

  empty_is : (rest : List ℕ) → length rest ≡ 0 → rest ≡ []
  empty_is [] none = refl
  empty_is (x ∷ rest) none = absurd (omega arith)

  pub end_breaks : (part now_at : Part) (bytes rest : List ℕ) (at : ℕ) (old now : Gathered E) → length rest ≡ 0 → BrokenOn part now_at k r bytes rest at old now
      → (result : Result (Unit {0}) Misfit) → IfErr result (λ misfit. (misfit.at ≡ at) × (misfit.rule ≡ NoCounters) × (now_at ≡ Start))
      → IfErr result (λ misfit. BytesBroken part k r bytes old misfit.at misfit.rule)
  end_breaks part now_at bytes rest at old now none on (Ok done) broken = tt
  end_breaks part now_at bytes rest at old now none on (Err misfit) broken =
      further_on part bytes old misfit.rule at misfit.at (sym broken.0)
      (subst (λ (rule : LogRule). BytesBroken part k r bytes old at rule) (sym broken.1)
      (end_at part now_at bytes rest at old now (empty_is rest none) broken.2 on))

module _ {E P : Type 0} (k : Known E P) (r : Reading E P) (l : IsLawful k) where
  -- what is broken behind a record that may come is broken so many bytes further on
  later_on : (part : Part) (rest : List ℕ) (x : Rec) (n : ℕ) → BeginsWith r.key rest x n → (now next : Gathered E)
      → RecordGathered part k r x now (Ok tt) next → BrokenOn part (part_behind part) k r rest (drop n rest) n now next
  later_on part rest x n begins now next told at rule broken log is kept =
      let first : OneGathered part k r log (record_read r x) (Ok tt) next = told log is kept in
      let more : IsBrokenAt (part_behind part) k r (log ++ record_read r x ∷ []) (drop n rest) at rule =
      broken (log ++ record_read r x ∷ []) (begun_behind k l part log (record_read r x) is first.0) first.1 in
      let long : length (spelling x ++ more.front) ≡ length (spelling x) + length more.front = length-append (spelling x) more.front in
      let size : n ≡ length (spelling x) = begins.size in
      let place : at ≡ length more.front = more.place in
      record {
        front = spelling x ++ more.front;
        rest = more.rest;
        cut = begins.front ∙ ap (λ (ys : List ℕ). spelling x ++ ys) more.cut ∙ sym (append_assoc (spelling x) more.front more.rest);
        place = omega arith;
        before = record_read r x ∷ more.before;
        are = record {
          spelled = x ∷ more.are.spelled;
          in_range = (begins.is_record, more.are.in_range);
          bytes_are = ap (λ (ys : List ℕ). spelling x ++ ys) more.are.bytes_are;
          read = ap (λ (ys : List (Record E P)). record_read r x ∷ ys) more.are.read;
        };
        begun = subst (λ (y : List (Record E P)). IsBegun (part_after (part_behind part) more.before) k y) (append_assoc log (record_read r x ∷ []) more.before) more.begun;
        so_far = more.so_far;
        gathered = subst (λ (y : List (Record E P)). IsGathered k r y more.so_far) (append_assoc log (record_read r x ∷ []) more.before) more.gathered;
        breaks = more.breaks;
      }

  pub later_breaks : (part : Part) (key : ℕ) → key ≡ r.key → (rest : List ℕ) (x : Rec) (n : ℕ) → BeginsWith key rest x n → (now next : Gathered E)
      → RecordGathered part k r x now (Ok tt) next → BrokenOn part (part_behind part) k r rest (drop n rest) n now next
  later_breaks part key is rest x n begins now next told = later_on part rest x n (subst (λ (m : ℕ). BeginsWith m rest x n) is begins) now next told
