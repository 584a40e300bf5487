-- Reading the bytes of a body from any place on.
use Rattle.std.proofs.Common.{◌≡◌, ℕ, ◌+◌, ◌*◌, ◌<◌, ◌≤◌, true, List, [], ◌∷◌, ◌++◌, drop, length, refl, ap, sym, ◌∙◌, subst, arith, append_assoc, length-append}
use Rattle.std.specs.List.{AllByRecursion}
use Rattle.std.proofs.Math.Seq.{drop-append_seam}
use Rattle.std.specs.Prelude.{Result, Ok, Err, Option, None, Some}
use Rattle.std.proofs.lemmas.List.{append-nil}
use Rattle.gx_geom.specs.declared.refusal.Refusal.{Refusal}
use Rattle.gx_geom.specs.declared.refusal.Refusal.TheVariants.{Damaged}
use Rattle.gx_record.specs.declared.sizes.TheConstants.{END_RECORD}
use Rattle.gx_record.specs.Rec.{Rec}
use Rattle.gx_record.specs.Rec as rec
use Rattle.gx_record.specs.Format.{spelling, spellings, IsInRange, IsRecord, BeginsWith}
use Rattle.gx_glog.specs.declared.extent.TheConstants.{BODY_ROOM, PLACES}
use Rattle.gx_record.proofs.Whole.{no_spelling_begins_another, spelling_sizes}
use Rattle.gx_record.proofs.Writes.{spelling_size}
use Rattle.gx_recovery.specs.Known.{Known, IsLawful}
use Rattle.gx_recovery.specs.Records.{Record}
use Rattle.gx_recovery.specs.Damage.{is_head}
use Rattle.gx_durable.specs.Spelled.{Reading, record_read, records_read, AreRecords}
use Rattle.gx_recovery.specs.declared.closed.TheConstants.{CLOSINGS}
use Rattle.gx_found_log.specs.declared.gathered.Gathered.{Gathered}
use Rattle.gx_found_log.specs.declared.part.Part.{Part}
use Rattle.gx_found_log.specs.declared.part.Part.TheVariants.{Start, Head, Later}
use Rattle.gx_found_log.specs.Parts.{part_behind, may_go_on, ended}
use Rattle.gx_found_log.specs.Told.{closings, IsGathered, OneGathered, RecordGathered, IsRead, IsRefused, BytesTold, ReadsOn}
use Rattle.gx_found_log.proofs.Parts.{begun_behind, goes_behind, goes_not}

-- a record has bytes
pub some_bytes : (key : ℕ) (rest : List ℕ) (x : Rec) (n : ℕ) → BeginsWith key rest x n → 0 < n
some_bytes key rest x n begins = let long = (spelling_sizes key x begins.is_record).0 in omega (arith, long, begins.size)

-- a record that closes a transaction has nine bytes at least
closing_bytes : (x : Rec) → IsInRange x → END_RECORD * closings x ≤ length (spelling x)
closing_bytes (rec.Pages counter used pages) is = omega arith
closing_bytes (rec.Write tx row key before after leaf image) is = omega arith
closing_bytes (rec.Commit tx n) is = let size = spelling_size (rec.Commit tx n) is in omega (arith, size)
closing_bytes (rec.End tx) is = let size = spelling_size (rec.End tx) is in omega (arith, size)
closing_bytes (rec.Counters n counter used next) is = omega arith
closing_bytes (rec.Note tx row key before leaf) is = omega arith
closing_bytes (rec.Bit tx row key before after leaf) is = omega arith
closing_bytes (rec.Add tx row key leaf) is = omega arith
closing_bytes (rec.Widen page slot key) is = omega arith
closing_bytes (rec.Sweep page slots) is = omega arith

-- so what a record closes has its bytes behind it
pub closed_by : (key : ℕ) (rest : List ℕ) (x : Rec) (n old new : ℕ) → BeginsWith key rest x n → new ≤ old + closings x → END_RECORD * new ≤ END_RECORD * old + n
closed_by key rest x n old new begins count = let closing = closing_bytes x begins.is_record.in_range in omega (arith, closing, begins.size, count)

-- and there is room for it
pub room_for : (key : ℕ) (rest : List ℕ) (x : Rec) (n closed : ℕ) → BeginsWith key rest x n → END_RECORD * closed + length rest ≤ PLACES * BODY_ROOM
    → closed + closings x ≤ CLOSINGS
room_for key rest x n closed begins room = let closing = closing_bytes x begins.is_record.in_range in omega (arith, closing, begins.size, begins.within, room)

abbrev pub no_record : Option (Rec × ℕ)
no_record = None

pub no_clash : (x : Rec × ℕ) → no_record ≡ Some x → ⊥
no_clash x h = cc

module _ {E P : Type 0} (k : Known E P) (r : Reading E P) (l : IsLawful k) where
  only_none : (records : List (Record E P)) (rs : List Rec) → (are : AreRecords r [] records) → are.spelled ≡ rs → records ≡ []
  only_none records [] are none = sym are.read ∙ ap (records_read r) none
  only_none records (y ∷ ys) are some =
      let in_range : IsRecord r.key y × AllByRecursion (IsRecord r.key) ys = subst (λ (zs : List Rec). AllByRecursion (IsRecord r.key) zs) some are.in_range in
      let whole : spelling y ++ spellings ys ≡ [] = sym (ap spellings some) ∙ are.bytes_are in
      let long = (spelling_sizes r.key y in_range.0).0 in
      let none : length (spelling y) + length (spellings ys) ≡ 0 = sym (length-append (spelling y) (spellings ys)) ∙ ap length whole in
      absurd (omega arith)

  read_none : (part : Part) (log : List (Record E P)) (s : Gathered E) → may_go_on part k log [] ≡ true → IsGathered k r log s → IsRead part k r log [] s
  read_none part log s may kept = record {
    records = [];
    are = record { spelled = []; in_range = tt; bytes_are = refl; read = refl };
    may = may;
    gathered = subst (λ (x : List (Record E P)). IsGathered k r x s) (sym (append-nil log)) kept;
  }

  -- reading nothing more
  pub nothing_left : (part : Part) (s : Gathered E) → BytesTold part k r [] s (ended part) s
  nothing_left Start s log is kept = record {
    damaged = refl;
    none = λ records are. ap (λ (xs : List (Record E P)). is_head k (log ++ xs)) (only_none records are.spelled are refl) ∙ ap (λ (xs : List (Record E P)). is_head k (xs ++ [])) is;
  }
  nothing_left Head s log is kept = read_none Head log s (ap (is_head k) (append-nil log) ∙ is) kept
  nothing_left Later s log is kept = read_none Later log s refl kept

  -- a record in front of others
  in_front : (rest : List ℕ) (x : Rec) (n : ℕ) (records : List (Record E P)) → BeginsWith r.key rest x n → AreRecords r (drop n rest) records
      → AreRecords r rest (record_read r x ∷ records)
  in_front rest x n records begins are = record {
    spelled = x ∷ are.spelled;
    in_range = (begins.is_record, are.in_range);
    bytes_are = ap (λ (ys : List ℕ). spelling x ++ ys) are.bytes_are ∙ sym begins.front;
    read = ap (λ (ys : List (Record E P)). record_read r x ∷ ys) are.read;
  }

  -- the records of bytes that begin with one: that one, and those of the rest
  record First (rest : List ℕ) (x : Rec) (records : List (Record E P)) : Type 0 where
    more : List (Record E P)
    is : records ≡ record_read r x ∷ more
    others : AreRecords r rest more

  first_is : (rest : List ℕ) (x : Rec) (n : ℕ) → BeginsWith r.key rest x n → (records : List (Record E P)) (rs : List Rec)
      → (are : AreRecords r rest records) → are.spelled ≡ rs → First (drop n rest) x records
  first_is rest x n begins records [] are none =
      let no_bytes : rest ≡ [] = sym are.bytes_are ∙ ap spellings none in
      let long = (spelling_sizes r.key x begins.is_record).0 in
      let within : n ≤ length rest = begins.within in
      let size : n ≡ length (spelling x) = begins.size in
      let empty : length rest ≡ 0 = ap length no_bytes in
      absurd (omega arith)
  first_is rest x n begins records (y ∷ ys) are some =
      let in_range : IsRecord r.key y × AllByRecursion (IsRecord r.key) ys = subst (λ (zs : List Rec). AllByRecursion (IsRecord r.key) zs) some are.in_range in
      let both : (y ≡ x) × (spellings ys ≡ drop n rest) =
      no_spelling_begins_another r.key y x (spellings ys) (drop n rest) in_range.0 begins.is_record (sym (ap spellings some) ∙ are.bytes_are ∙ begins.front) in
      record {
        more = records_read r ys;
        is = sym are.read ∙ ap (records_read r) some ∙ ap (λ (z : Rec). record_read r z ∷ records_read r ys) both.0;
        others = record { spelled = ys; in_range = in_range.1; bytes_are = both.1; read = refl };
      }

  -- one record read, and then the others
  pub told_first : (part : Part) (rest : List ℕ) (x : Rec) (n : ℕ) → BeginsWith r.key rest x n → (now next : Gathered E)
      → RecordGathered part k r x now (Ok tt) next → ReadsOn part (part_behind part) k r rest (drop n rest) now next
  told_first part rest x n begins now next told (Ok done) new later log is kept =
      let first : OneGathered part k r log (record_read r x) (Ok tt) next = told log is kept in
      let more : IsRead (part_behind part) k r (log ++ record_read r x ∷ []) (drop n rest) new =
      later (log ++ record_read r x ∷ []) (begun_behind k l part log (record_read r x) is first.0) first.1 in
      record {
        records = record_read r x ∷ more.records;
        are = in_front rest x n more.records begins more.are;
        may = goes_behind k l part log (record_read r x) more.records first.0 ∙ more.may;
        gathered = subst (λ (y : List (Record E P)). IsGathered k r y new) (append_assoc log (record_read r x ∷ []) more.records) more.gathered;
      }
  told_first part rest x n begins now next told (Err refusal) new later log is kept =
      let first : OneGathered part k r log (record_read r x) (Ok tt) next = told log is kept in
      let more : IsRefused (part_behind part) k r (log ++ record_read r x ∷ []) (drop n rest) refusal =
      later (log ++ record_read r x ∷ []) (begun_behind k l part log (record_read r x) is first.0) first.1 in
      record {
        damaged = more.damaged;
        none = λ records are. (
            let parts : First (drop n rest) x records = first_is rest x n begins records are.spelled are refl in
            ap (may_go_on part k log) parts.is ∙ goes_behind k l part log (record_read r x) parts.more first.0 ∙ more.none parts.more parts.others);
      }

  -- a first record that may not come
  pub refused_first : (part : Part) (rest : List ℕ) (x : Rec) (n : ℕ) → BeginsWith r.key rest x n → (now new : Gathered E) (refusal : Refusal)
      → RecordGathered part k r x now (Err refusal) new → BytesTold part k r rest now (Err refusal) new
  refused_first part rest x n begins now new refusal told log is kept =
      let first : OneGathered part k r log (record_read r x) (Err refusal) new = told log is kept in
      record {
        damaged = first.1;
        none = λ records are. (
            let parts : First (drop n rest) x records = first_is rest x n begins records are.spelled are refl in
            ap (may_go_on part k log) parts.is ∙ goes_not k l part log (record_read r x) parts.more is first.0);
      }

  record Begun (rest : List ℕ) : Type 0 where
    one : Rec
    size : ℕ
    begins : BeginsWith r.key rest one size

  begins_by : (rest : List ℕ) (records : List (Record E P)) (rs : List Rec) → (are : AreRecords r rest records) → are.spelled ≡ rs → (rest ≡ [] → ⊥) → Begun rest
  begins_by rest records [] are none some = absurd (some (sym are.bytes_are ∙ ap spellings none))
  begins_by rest records (y ∷ ys) are is some =
      let in_range : IsRecord r.key y × AllByRecursion (IsRecord r.key) ys = subst (λ (zs : List Rec). AllByRecursion (IsRecord r.key) zs) is are.in_range in
      let whole : rest ≡ spelling y ++ spellings ys = sym are.bytes_are ∙ ap spellings is in
      let long : length rest ≡ length (spelling y) + length (spellings ys) = ap length whole ∙ length-append (spelling y) (spellings ys) in
      record {
        one = y;
        size = length (spelling y);
        begins = record {
          is_record = in_range.0;
          size = refl;
          within = omega arith;
          front = whole ∙ ap (λ (zs : List ℕ). spelling y ++ zs) (sym (ap (drop (length (spelling y))) whole ∙ drop-append_seam (spelling y) (spellings ys)));
        };
      }

  -- bytes that no record begins
  pub none_first : (part : Part) (rest : List ℕ) → (rest ≡ [] → ⊥) → ((x : Rec) (n : ℕ) → BeginsWith r.key rest x n → ⊥) → (now new : Gathered E)
      → BytesTold part k r rest now (Err Damaged) new
  none_first part rest some none now new log is kept = record {
    damaged = refl;
    none = λ records are. (
        let begun : Begun rest = begins_by rest records are.spelled are refl some in
        absurd (none begun.one begun.size begun.begins));
  }

  -- the same by a key's size, as the code has it
  key_is : (key : ℕ) → key ≡ r.key → (rest : List ℕ) (x : Rec) (n : ℕ) → BeginsWith key rest x n → BeginsWith r.key rest x n
  key_is key is rest x n begins = subst (λ (m : ℕ). BeginsWith m rest x n) is begins

  pub told_comes : (part : Part) (key : ℕ) → key ≡ r.key → (rest : List ℕ) (x : Rec) (n : ℕ) → BeginsWith key rest x n → (now next : Gathered E)
      → RecordGathered part k r x now (Ok tt) next → ReadsOn part (part_behind part) k r rest (drop n rest) now next
  told_comes part key is rest x n begins now next told = told_first part rest x n (key_is key is rest x n begins) now next told

  pub refused_comes : (part : Part) (key : ℕ) → key ≡ r.key → (rest : List ℕ) (x : Rec) (n : ℕ) → BeginsWith key rest x n → (now new : Gathered E) (refusal : Refusal)
      → RecordGathered part k r x now (Err refusal) new → BytesTold part k r rest now (Err refusal) new
  refused_comes part key is rest x n begins now new refusal told = refused_first part rest x n (key_is key is rest x n begins) now new refusal told

  pub none_comes : (part : Part) (key : ℕ) → key ≡ r.key → (rest : List ℕ) → 0 < length rest → ((x : Rec) (n : ℕ) → BeginsWith key rest x n → no_record ≡ Some (x, n))
      → (now new : Gathered E) → BytesTold part k r rest now (Err Damaged) new
  none_comes part key is rest some none now new =
      none_first part rest (λ empty. (let zero_long : length rest ≡ 0 = ap length empty in omega arith))
      (λ x n begins. no_clash (x, n) (none x n (subst (λ (m : ℕ). BeginsWith m rest x n) (sym is) begins))) now new

  -- the same of equal parts and bytes
  pub moved_on : {part behind : Part} {rest left : List ℕ} → part ≡ behind → rest ≡ left → (now : Gathered E) (result : Result (Unit {0}) Refusal) (new : Gathered E)
      → BytesTold part k r rest now result new → BytesTold behind k r left now result new
  moved_on {part} {behind} {rest} {left} same same_bytes now result new told =
      subst (λ (p : Part). BytesTold p k r left now result new) same (subst (λ (ys : List ℕ). BytesTold part k r ys now result new) same_bytes told)

  -- where nothing is left, what was read is all
  pub all_read : (part now_at : Part) (bytes rest : List ℕ) (old now : Gathered E) → length rest ≡ 0 → ReadsOn part now_at k r bytes rest old now
      → BytesTold part k r bytes old (ended now_at) now
  all_read part now_at bytes [] old now none on = on (ended now_at) now (nothing_left now_at now)
  all_read part now_at bytes (x ∷ rest) old now none on = absurd (omega arith)
