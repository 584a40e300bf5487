-- Records after those of a log's first body.
use Rattle.std.proofs.Common.{◌≡◌, ◌∙◌, sym, ap, refl, subst, ℕ, ◌+◌, ◌*◌, ◌<◌, ◌≤◌, Bool, List, [], ◌∷◌, ◌++◌, length, take, take_all, get_or, append_assoc, Result, Ok, Err, arith}
use Rattle.std.specs.Prelude.{OnOk}
use Rattle.std.proofs.lemmas.List.{append-nil, length-append, take_more}
use Rattle.gx_durable.specs.Spelled.{Reading, AreRecords, record_read}
use Rattle.gx_durable.proofs.Spellings.{none_are, spelling_adds}
use Rattle.gx_geom.specs.declared.refusal.Refusal.{Refusal}
use Rattle.gx_glog.specs.declared.extent.TheConstants.{BODY_ROOM}
use Rattle.gx_machine.specs.declared.entry.Entry.{Entry}
use Rattle.gx_class.specs.declared.class.TheConstants.{MAX_KEY}
use Rattle.gx_record.specs.Format.{HasKey, IsInRange, spelling}
use Rattle.gx_record.specs.Rec.{Rec}
use Rattle.gx_record.specs.Rec as rec
use Rattle.gx_record.specs.declared.sizes.TheConstants.{COUNTERS_RECORD}
use Rattle.gx_record.proofs.Writes.{length-spelling}
use Rattle.gx_recovery.specs.Analysis.{Analysis}
use Rattle.gx_recovery.specs.Records.{Record, Counters, Note, Touch}
use Rattle.gx_recovery.specs.Renewal.{head_of, notes_of}
use Rattle.gx_migrate.specs.Head.{Puts, PutsAll, PutsRecord, note_record}

-- notes of touches that follow others
pub notes_append : {E P : Type 0} (xs ys : List (Touch E)) → ◌≡◌ {A = List (Record E P)} (notes_of (xs ++ ys)) (notes_of xs ++ notes_of ys)
notes_append [] ys = refl
notes_append {E} {P} (x ∷ xs) ys = ap (λ (zs : List (Record E P)). Note x.transaction x.entry x.before x.leaf ∷ zs) (notes_append xs ys)

-- the notes of one touch more, and of all
pub notes_cut : {E P : Type 0} (xs : List (Touch E)) (i : ℕ) (x : Touch E) → i < length xs → x ≡ get_or xs i x
    → ◌≡◌ {A = List (Record E P)} (notes_of (take i xs) ++ notes_of (x ∷ [])) (notes_of (take (i + 1) xs))
notes_cut {E} {P} xs i x less is =
    sym (notes_append (take i xs) (x ∷ []))
    ∙ ap (λ (zs : List (Touch E)). notes_of zs) (sym (take_more xs i x less ∙ ap (λ (y : Touch E). take i xs ++ y ∷ []) (sym is)))

pub notes_whole : {E P : Type 0} (xs : List (Touch E)) (i : ℕ) → length xs ≤ i → ◌≡◌ {A = List (Record E P)} (notes_of (take i xs)) (notes_of xs)
notes_whole {E} {P} xs i past = ap (λ (zs : List (Touch E)). notes_of zs) (take_all i xs past)

-- the note of a touch
module _ {B P : Type 0} where
  abbrev note : ℕ → Entry B → Bool → ℕ → Record (Entry B) P
  note transaction e marked leaf = Note transaction e marked leaf

  pub note_same : (t : Touch (Entry B)) (transaction : ℕ) (e : Entry B) (key : B) (marked : Bool) (leaf : ℕ)
      → transaction ≡ t.transaction → e ≡ t.entry → key ≡ e.key → marked ≡ t.before → leaf ≡ t.leaf
      → note transaction (record { row = e.row; key = key }) marked leaf ≡ note t.transaction t.entry t.before t.leaf
  note_same t transaction e key marked leaf by is its was on =
      ap (λ (k : B). note transaction (record { row = e.row; key = k }) marked leaf) its ∙ ap (λ (n : ℕ). note n e marked leaf) by
      ∙ ap (λ (x : Entry B). note t.transaction x marked leaf) is ∙ ap (λ (b : Bool). note t.transaction t.entry b leaf) was ∙ ap (λ (n : ℕ). note t.transaction t.entry t.before n) on

pub note_short : (transaction row : ℕ) (key : List ℕ) (marked : Bool) (leaf size : ℕ) → length key ≡ size → size ≤ MAX_KEY → length (spelling (rec.Note transaction row key marked leaf)) ≤ note_record
note_short transaction row key marked leaf size is few = (let long = length-spelling (rec.Note transaction row key marked leaf) tt in omega (arith, long, is, few))

pub counters_short : (n counter used next : ℕ) → length (spelling (rec.Counters n counter used next)) ≤ COUNTERS_RECORD
counters_short n counter used next = (let long = length-spelling (rec.Counters n counter used next) tt in omega (arith, long))

module _ {E P : Type 0} (r : Reading E P) where
  -- none comes
  pub puts_none : (bytes : List ℕ) → Puts r [] 0 bytes bytes
  puts_none bytes = record {
    longer = omega arith;
    few = omega arith;
    fits = λ fit. fit;
    has = λ xs are. subst (λ (ys : List (Record E P)). AreRecords r bytes ys) (sym (append-nil xs)) are;
  }

  -- a record that is put after others is read after them
  pub record_put : (x : Rec) (old new : List ℕ) → IsInRange x → (length old + length (spelling x) ≤ BODY_ROOM) × (new ≡ old ++ spelling x) → PutsRecord r x old new (Ok tt)
  record_put x old new range puts = (
    puts.0,
    (
      ap length puts.1 ∙ length-append old (spelling x),
      λ xs key are. subst (λ (bytes : List ℕ). AreRecords r bytes (xs ++ record_read r x ∷ [])) (sym puts.1) (spelling_adds r old xs x are (record { in_range = range; has_key = key })),
    ),
  )

  -- one record comes, or there is no room for it
  pub puts_one : (x : Rec) (one : Record E P) (size : ℕ) (old new : List ℕ) → HasKey r.key x → record_read r x ≡ one → length (spelling x) ≤ size
      → (result : Result (Unit {0}) Refusal) → PutsRecord r x old new result → PutsAll r (one ∷ []) size old new result
  puts_one x one size old new key read short (Ok done) puts =
      let room = puts.0 in
      let long = puts.1.0 in
      record {
        longer = omega (arith, long);
        few = omega (arith, long, short);
        fits = λ fit. omega (arith, long, room);
        has = λ xs are. subst (λ (y : Record E P). AreRecords r new (xs ++ y ∷ [])) read (puts.1.1 xs key are);
      }
  puts_one x one size old new key read short (Err why) puts = (puts.0, (let long = puts.1 in omega (arith, long, short)))

  -- some come, and then others
  pub puts_then : (xs ys : List (Record E P)) (m n : ℕ) (old middle new : List ℕ) → Puts r xs m old middle → Puts r ys n middle new → Puts r (xs ++ ys) (m + n) old new
  puts_then xs ys m n old middle new first then = record {
    longer = (let a = first.longer in let b = then.longer in omega (arith, a, b));
    few = (let a = first.few in let b = then.few in omega (arith, a, b));
    fits = λ fit. then.fits (first.fits fit);
    has = λ zs are. subst (λ (rs : List (Record E P)). AreRecords r new rs) (append_assoc zs xs ys) (then.has (zs ++ xs) (first.has zs are));
  }

  -- the same records, in as many bytes
  pub puts_same : (xs ys : List (Record E P)) (m n : ℕ) (old new : List ℕ) → xs ≡ ys → m ≡ n → Puts r xs m old new → Puts r ys n old new
  puts_same xs ys m n old new same size puts = subst (λ (zs : List (Record E P)). Puts r zs n old new) same (subst (λ (k : ℕ). Puts r xs k old new) size puts)

  -- there is no room for more than what came
  pub puts_stopped : (xs : List (Record E P)) (m n size : ℕ) (old middle : List ℕ) → Puts r xs m old middle → m + n ≤ size → BODY_ROOM < length middle + n → BODY_ROOM < length old + size
  puts_stopped xs m n size old middle puts few long = (let short = puts.few in omega (arith, short, few, long))

-- the numbers are some bytes
pub some_put : {E P : Type 0} (r : Reading E P) (n counter used next : ℕ) (old new : List ℕ) (result : Result (Unit {0}) Refusal) → PutsRecord r (rec.Counters n counter used next) old new result
    → OnOk result (1 ≤ length new)
some_put r n counter used next old new (Ok done) puts = (let long = puts.1.0 in let size = length-spelling (rec.Counters n counter used next) tt in omega (arith, long, size))
some_put r n counter used next old new (Err why) puts = tt

-- a head is the numbers and then the notes
pub head_put : {E P : Type 0} (r : Reading E P) (told : Analysis E) (m n : ℕ) (first middle last : List ℕ) → first ≡ []
    → Puts r (Counters told.number told.counter told.used told.next ∷ []) m first middle → Puts r (notes_of told.touched) n middle last → AreRecords r last (head_of told)
head_put r told m n first middle last none numbers notes =
    (puts_then r (Counters told.number told.counter told.used told.next ∷ []) (notes_of told.touched) m n first middle last numbers notes).has []
    (subst (λ (bytes : List ℕ). AreRecords r bytes []) (sym none) (none_are r))

pub head_few : {E P : Type 0} (r : Reading E P) (xs ys : List (Record E P)) (m n : ℕ) (first middle last : List ℕ) → first ≡ [] → Puts r xs m first middle → Puts r ys n middle last
    → length last ≤ BODY_ROOM
head_few r xs ys m n first middle last none numbers notes = notes.fits (numbers.fits (let size : length first ≡ 0 = ap length none in omega (arith, size)))
