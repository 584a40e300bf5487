-- What comes after the records of a head.
use Rattle.std.proofs.Common.{◌≡◌, ◌∙◌, sym, ap, refl, subst, inl, inr, ◌⊎◌, ℕ, suc, ◌+◌, ◌-◌, ◌*◌, ◌<◌, ◌≤◌, Bool, true, false, ◌&&◌, cond, Option, None, Some, List, [], ◌∷◌, ◌++◌, length, map, take, get_or, Result, Ok, Err, append_assoc, arith}
use Rattle.std.specs.Prelude.{nat_le, nat_lt, filter, OnOk}
use Rattle.std.specs.List.{AllByRecursion}
use Rattle.std.specs.Result.{IsErrAnd}
use Rattle.std.proofs.lemmas.Bool.{cases_lt, leb-false, leb-true, ltb-false, ltb-true}
use Rattle.std.proofs.lemmas.List.{append-nil, length-append, length-map, map-append, take_more}
use Rattle.gx_machine.specs.declared.entry.Entry.{Entry}
use Rattle.gx_machine.specs.Machine.{is_session}
use Rattle.gx_machine.proofs.Places.{session_bounds}
use Rattle.gx_record.specs.Rec.{Rec}
use Rattle.gx_record.specs.Rec as rec
use Rattle.gx_record.specs.Format.{spelling}
use Rattle.gx_record.proofs.Writes.{length-spelling}
use Rattle.gx_record.specs.declared.sizes.TheConstants.{COUNTERS_RECORD}
use Rattle.gx_class.specs.declared.class.TheConstants.{MAX_KEY}
use Rattle.gx_glog.specs.declared.filling.Appended.TheVariants.{At}
use Rattle.gx_glog.specs.declared.stage.Stage.TheVariants.{Idle}
use Rattle.gx_glog.specs.declared.stage.Turn.TheVariants.{Closed}
use Rattle.gx_glog.specs.State.{Log, turning}
use Rattle.gx_glog.specs.declared.extent.TheConstants.{BODY_ROOM}
use Rattle.gx_recovery.specs.Records.{Record, Touch}
use Rattle.gx_recovery.specs.Records as records
use Rattle.gx_recovery.specs.Renewal.{notes_of}
use Rattle.gx_recovery.proofs.Tests.{and_first, and_second, true_or_false}
use Rattle.gx_durable.specs.Spelled.{Reading, AreRecords}
use Rattle.gx_durable.specs.Turns.{HeadGrows}
use Rattle.gx_storage.specs.Flushing.{GoesInHead, HeadHas}
use Rattle.gx_storage.specs.State.{Volume}
use Rattle.gx_store.specs.declared.fault.StoreFault.{StoreFault}
use Rattle.gx_store.specs.declared.fault.StoreFault.TheVariants.{NoRoom}
use Rattle.gx_txn.specs.declared.note.Note.{Note}
use Rattle.gx_events.proofs.Places.{is_numbered}
use Rattle.gx_phases.specs.Moves.{transaction_of}
use Rattle.gx_phases.specs.States.{State, held_at, phase_at}
use Rattle.gx_engine.specs.Heads.{IsNextOf, OnlyHead, Puts, PutsAll, PutsHead, PutsTouches, comes_before, is_less, note_record}
use Rattle.gx_engine.specs.Noted.{AreNoted, HasIt, has_transaction, touch_by, touched_before}
use Rattle.gx_engine.proofs.Touched.{all_before, none_before, one_more}

module _ {E P : Type 0} (r : Reading E P) where
  -- nothing comes
  pub puts_none : (log : Log) → Puts r [] 0 log log
  puts_none log = record {
    bytes = [];
    log = ap (λ (x : List ℕ). record log { flight = x }) (sym (append-nil log.flight));
    few = omega arith;
    fits = λ fit. fit;
    has = λ head are. subst (λ (xs : List (Record E P)). AreRecords r log.flight xs) (sym (append-nil head)) are;
  }

  -- one record comes
  pub puts_one : (x : Rec) (one : Record E P) (size : ℕ) (old new : Log) → GoesInHead x old new → length (spelling x) ≤ size
      → ((head : List (Record E P)) → AreRecords r old.flight head → AreRecords r new.flight (head ++ one ∷ [])) → Puts r (one ∷ []) size old new
  puts_one x one size old new goes few has = record {
    bytes = spelling x;
    log = goes.log;
    few = few;
    fits = λ fit.
        (let now : length new.flight ≡ length (old.flight ++ spelling x) = ap (λ (g : Log). length g.flight) goes.log in
        let both = length-append old.flight (spelling x) in
        let room = goes.fits in
        omega (arith, now, both, room));
    has = has;
  }

  -- some come, and then others
  pub puts_then : (xs ys : List (Record E P)) (m n : ℕ) (old middle new : Log) → Puts r xs m old middle → Puts r ys n middle new → Puts r (xs ++ ys) (m + n) old new
  puts_then xs ys m n old middle new one other = record {
    bytes = one.bytes ++ other.bytes;
    log =
        other.log
        ∙ ap (λ (g : Log). record g { flight = g.flight ++ other.bytes }) one.log
        ∙ ap (λ (b : List ℕ). record old { flight = b }) (append_assoc old.flight one.bytes other.bytes);
    few = (let both = length-append one.bytes other.bytes in let first = one.few in let second = other.few in omega (arith, both, first, second));
    fits = λ fit. other.fits (one.fits fit);
    has = λ head are. subst (λ (zs : List (Record E P)). AreRecords r new.flight zs) (append_assoc head xs ys) (other.has (head ++ xs) (one.has head are));
  }

  -- the same records, in as many bytes
  pub puts_same : (xs ys : List (Record E P)) (m n : ℕ) (old new : Log) → xs ≡ ys → m ≡ n → Puts r xs m old new → Puts r ys n old new
  puts_same xs ys m n old new same size puts = subst (λ (zs : List (Record E P)). Puts r zs n old new) same (subst (λ (k : ℕ). Puts r xs k old new) size puts)

-- notes of touches that follow others
pub notes_append : {E P : Type 0} (xs ys : List (Touch E)) → ◌≡◌ {A = List (Record E P)} (notes_of (xs ++ ys)) (notes_of xs ++ notes_of ys)
notes_append [] ys = refl
notes_append {E} {P} (x ∷ xs) ys = ap (λ (zs : List (Record E P)). records.Note x.transaction x.entry x.before x.leaf ∷ zs) (notes_append xs ys)

-- The next transaction after some, among the sessions up to one more.
module _ {B W : Type 0} (sessions : State B W) (from : ℕ) where
  abbrev busy : ℕ → Bool
  busy a = has_transaction (phase_at (a - 1) sessions.phases)

  abbrev number : ℕ → ℕ
  number a = transaction_of a sessions

  -- none among no session
  pub next_first : IsNextOf sessions from 0 None
  next_first a is low has = absurd (let bounds = session_bounds a is in omega (arith, bounds.0, low))

  -- a session is the last one, or before it
  up_to : (n a : ℕ) → a ≤ n + 1 → (a ≡ n + 1) ⊎ (a ≤ n)
  up_to n a low =
      elim (cases_lt a (n + 1)) [
        | inl before ↦ inr (omega (arith, before))
        | inr not ↦ inl (omega (arith, low, not))
      ]

  by_less : (n s a : ℕ) (next : Option ℕ) → is_less sessions (number s) next ≡ true → IsNextOf sessions from n next → is_session a ≡ true → a ≤ n → busy a ≡ true
      → (number a < from) ⊎ (number s ≤ number a)
  by_less n s a None less was is low has = inl (was a is low has)
  by_less n s a (Some other) less was is low has =
      elim (was.3 a is low has) [
        | inl before ↦ inl before
        | inr from_other ↦ inr (let low = ltb-true (number s) (number other) less in omega (arith, low, from_other))
      ]

  pub next_taken : (n : ℕ) (next : Option ℕ) → is_session (n + 1) ≡ true → comes_before sessions from (n + 1) next ≡ true → IsNextOf sessions from n next → IsNextOf sessions from (n + 1) (Some (n + 1))
  next_taken n next is comes was =
      let less : Bool = is_less sessions (number (n + 1)) next in
      let late : Bool = nat_le from (number (n + 1)) in
      let has : busy (n + 1) ≡ true = and_first (busy (n + 1)) (late && less) comes in
      let rest : (late && less) ≡ true = and_second (busy (n + 1)) (late && less) comes in (
        is,
        has,
        leb-true from (number (n + 1)) (and_first late less rest),
        λ a there low its.
            elim (up_to n a low) [
              | inl same ↦ inr (let at : number a ≡ number (n + 1) = ap number same in omega (arith, at))
              | inr before ↦ by_less n (n + 1) a next (and_second late less rest) was there before its
            ],
      )

  -- that one comes too early, or not before the next
  not_by : (t : ℕ) (next : Option ℕ) → (nat_le from t && is_less sessions t next) ≡ false → (t < from) ⊎ ((other : ℕ) × (next ≡ Some other) × (number other ≤ t))
  not_by t next fails =
      elim (true_or_false (nat_le from t)) [
        | inl late ↦ less_by next (sym (ap (λ (b : Bool). b && is_less sessions t next) late) ∙ fails)
        | inr early ↦ inl (leb-false from t early)
      ]
    where
      less_by : (o : Option ℕ) → is_less sessions t o ≡ false → (t < from) ⊎ ((other : ℕ) × (o ≡ Some other) × (number other ≤ t))
      less_by None isnt = absurd (let never : true ≡ false = isnt in cc)
      less_by (Some other) isnt = inr (other, refl, ltb-false t (number other) isnt)

  own_by : (n a : ℕ) (next : Option ℕ) → a ≡ n + 1 → busy a ≡ true → comes_before sessions from (n + 1) next ≡ false → (number a < from) ⊎ ((other : ℕ) × (next ≡ Some other) × (number other ≤ number a))
  own_by n a next same has fails =
      let here : busy (n + 1) ≡ true = sym (ap busy same) ∙ has in
      let left : (nat_le from (number (n + 1)) && is_less sessions (number (n + 1)) next) ≡ false =
      sym (ap (λ (b : Bool). b && (nat_le from (number (n + 1)) && is_less sessions (number (n + 1)) next)) here) ∙ fails in
      subst (λ (x : ℕ). (number x < from) ⊎ ((other : ℕ) × (next ≡ Some other) × (number other ≤ number x))) (sym same) (not_by (number (n + 1)) next left)

  pub next_left : (n : ℕ) (next : Option ℕ) → comes_before sessions from (n + 1) next ≡ false → IsNextOf sessions from n next → IsNextOf sessions from (n + 1) next
  next_left n None fails was = λ a is low has.
      elim (up_to n a low) [
        | inl same ↦
            elim (own_by n a None same has fails) [
              | inl early ↦ early
              | inr other ↦ absurd (let no : ◌≡◌ {A = Option ℕ} None (Some other.0) = other.1 in cc)
            ]
        | inr before ↦ was a is before has
      ]
  next_left n (Some s) fails was = (
    was.0,
    was.1,
    was.2,
    λ a is low has.
        elim (up_to n a low) [
          | inl same ↦
              elim (own_by n a (Some s) same has fails) [
                | inl early ↦ inl early
                | inr other ↦ inr (let at : s ≡ other.0 = cc in let low = other.2 in subst (λ (x : ℕ). number x ≤ number a) (sym at) low)
              ]
          | inr before ↦ was.3 a is before has
        ],
  )

-- The notes of one transaction more come.
module _ {B W : Type 0} (sessions : State B W) (from : ℕ) (xs : List (Touch (Entry B))) (noted : AreNoted sessions xs) where
  -- none has one that comes after, so all have come
  before_by : (upto : ℕ) → 8 ≤ upto → IsNextOf sessions from upto None → (ys : List (Touch (Entry B))) → AllByRecursion (λ x. (session : ℕ) × HasIt sessions x.transaction session) ys
      → AllByRecursion (λ x. x.transaction < from) ys
  before_by upto all none [] had = tt
  before_by upto all none (y ∷ ys) had =
      let its = had.0.1 in
      let bounds = session_bounds had.0.0 its.is in
      let low = none had.0.0 its.is (omega (arith, bounds.1, all)) its.busy in
      let same = its.its in
      (omega (arith, low, same), before_by upto all none ys had.1)

  pub all_came : (upto : ℕ) → 8 ≤ upto → IsNextOf sessions from upto None → touched_before from xs ≡ xs
  all_came upto all none = all_before from xs (before_by upto all none xs noted.had)

  module _ (s upto : ℕ) (all : 8 ≤ upto) (next : IsNextOf sessions from upto (Some s)) where
    abbrev t : ℕ
    t = transaction_of s sessions

    away_by : (ys : List (Touch (Entry B))) → AllByRecursion (λ x. (session : ℕ) × HasIt sessions x.transaction session) ys → AllByRecursion (λ x. (x.transaction < from) ⊎ (t ≤ x.transaction)) ys
    away_by [] had = tt
    away_by (y ∷ ys) had =
        let its = had.0.1 in
        let bounds = session_bounds had.0.0 its.is in
        (subst (λ (n : ℕ). (n < from) ⊎ (t ≤ n)) its.its (next.3 had.0.0 its.is (omega (arith, bounds.1, all)) its.busy), away_by ys had.1)

    pub one_transaction : touched_before (t + 1) xs ≡ touched_before from xs ++ map (touch_by t) (held_at (s - 1) sessions.table).notes
    one_transaction =
        one_more from t xs next.2 noted.in_turn (away_by xs noted.had)
        ∙ ap (λ (ys : List (Touch (Entry B))). touched_before from xs ++ ys) (noted.notes s next.0 next.1)

-- a filter leaves no more than there are
filter_short : {E : Type 0} (test : Touch E → Bool) (xs : List (Touch E)) → length (filter test xs) ≤ length xs
filter_short test [] = omega arith
filter_short test (x ∷ xs) =
    elim (test x) as (λ b. length (cond b (x ∷ filter test xs) (filter test xs)) ≤ length (x ∷ xs))
    [ true ↦ (let rest = filter_short test xs in omega (arith, rest)) | false ↦ (let rest = filter_short test xs in omega (arith, rest)) ]

pub before_short : {E : Type 0} (n : ℕ) (xs : List (Touch E)) → length (touched_before n xs) ≤ length xs
before_short n xs = filter_short (λ x. nat_lt x.transaction n) xs

-- only the head has changed, and it has changed once more
pub only_then : {D : Type 0} (v u w : Volume D) (flight : List ℕ) → OnlyHead v u → w ≡ record u { log = w.log } → w.log ≡ record u.log { flight = flight } → OnlyHead v w
only_then {D} v u w flight first then log =
    let same : w.log ≡ record u.log { flight = w.log.flight } = log ∙ ap (λ (x : List ℕ). record u.log { flight = x }) (sym (ap (λ (g : Log). g.flight) log)) in
    then ∙ ap (λ (g : Log). record u { log = g }) same ∙ ap (λ (x : Volume D). record x { log = record x.log { flight = w.log.flight } }) first

-- A note more comes after the records of the head.
module _ {B D P : Type 0} (r : Reading (Entry B) P) (t : ℕ) (notes : List (Note B)) (i : ℕ) (n : Note B) (low : i < length notes) (is : n ≡ get_or notes i n) (x : Rec) (short : length (spelling x) ≤ note_record)
    (v u w : Volume D) (only : OnlyHead v u) (puts : Puts r (notes_of (map (touch_by t) (take i notes))) (note_record * i) v.log u.log) where
  notes_are : notes_of {P = P} (map (touch_by t) (take i notes)) ++ records.Note t n.entry n.before n.leaf ∷ [] ≡ notes_of (map (touch_by t) (take (i + 1) notes))
  notes_are =
      let more : take (i + 1) notes ≡ take i notes ++ n ∷ [] = take_more notes i n low ∙ ap (λ (y : Note B). take i notes ++ y ∷ []) (sym is) in
      sym (notes_append (map (touch_by t) (take i notes)) (touch_by t n ∷ []))
      ∙ ap (λ (ys : List (Touch (Entry B))). notes_of ys) (sym (map-append (touch_by t) (take i notes) (n ∷ [])))
      ∙ ap (λ (ns : List (Note B)). notes_of (map (touch_by t) ns)) (sym more)

  pub note_came : u.log.stage ≡ Idle → GoesInHead x u.log w.log → w ≡ record u { log = w.log } → HeadHas r (records.Note t n.entry n.before n.leaf) u.log w.log
      → (w.log.stage ≡ Idle) × OnlyHead v w × Puts r (notes_of (map (touch_by t) (take (i + 1) notes))) (note_record * (i + 1)) v.log w.log
  note_came idle goes then has = (
    ap (λ (g : Log). g.stage) goes.log ∙ idle,
    only_then v u w (u.log.flight ++ spelling x) only then goes.log,
    puts_same r _ (notes_of (map (touch_by t) (take (i + 1) notes))) (note_record * i + note_record) (note_record * (i + 1)) v.log w.log notes_are (omega arith)
        (puts_then r (notes_of (map (touch_by t) (take i notes))) (records.Note t n.entry n.before n.leaf ∷ []) (note_record * i) note_record v.log u.log w.log puts
        (puts_one r x (records.Note t n.entry n.before n.leaf) note_record u.log w.log goes short has)),
  )

  -- there was no room for it
  pub no_room : (records : List (Record (Entry B) P)) (Q : StoreFault → Type 0) (result : Result (Unit {0}) StoreFault) → IsErrAnd result Q
      → (BODY_ROOM < length u.log.flight + length (spelling x)) ⊎ (1 ≤ turning u.log.turn) → PutsAll r records (note_record * length notes) v w result
  no_room records Q (Ok done) failed full = absurd failed
  no_room records Q (Err fault) failed full = λ closed.
      elim full [
        | inl long ↦
            (let now : length u.log.flight ≡ length (v.log.flight ++ puts.bytes) = ap (λ (g : Log). length g.flight) puts.log in
            let both = length-append v.log.flight puts.bytes in
            let few = puts.few in
            omega (arith, long, now, both, few, short, low))
        | inr turns ↦
            absurd (let still : turning u.log.turn ≡ 0 = ap (λ (g : Log). turning g.turn) puts.log ∙ ap turning closed in omega (arith, turns, still))
      ]

-- a number from 1 to 8 is a session's
pub is_place : (n : ℕ) → n < 8 → is_session (n + 1) ≡ true
is_place n low = (let same : suc n ≡ n + 1 = omega arith in subst (λ (s : ℕ). is_session s ≡ true) same (is_numbered n low))

-- a note has as many bytes as its key, and 22
pub note_short : (tx row : ℕ) (key : List ℕ) (before : Bool) (leaf size : ℕ) → length key ≡ size → size ≤ MAX_KEY → length (spelling (rec.Note tx row key before leaf)) ≤ note_record
note_short tx row key before leaf size its few = (let long = length-spelling (rec.Note tx row key before leaf) tt in omega (arith, long, its, few))

-- The notes of all sessions come, by their transactions in turn.
module _ {B D W P : Type 0} (r : Reading (Entry B) P) (sessions : State B W) (xs : List (Touch (Entry B))) (noted : AreNoted sessions xs) (from upto : ℕ) (all : 8 ≤ upto) (v u w : Volume D)
    (puts : Puts r (notes_of (touched_before from xs)) (note_record * length (touched_before from xs)) v.log u.log) where
  abbrev those : ℕ → List (Record (Entry B) P)
  those n = notes_of (touched_before n xs)

  -- none is left
  pub touches_came : IsNextOf sessions from upto None → Puts r (notes_of xs) (note_record * length xs) v.log u.log
  touches_came none =
      let same : touched_before from xs ≡ xs = all_came sessions from xs noted upto all none in
      subst (λ (ys : List (Touch (Entry B))). Puts r (notes_of ys) (note_record * length ys) v.log u.log) same puts

  module _ (s : ℕ) (next : IsNextOf sessions from upto (Some s)) where
    abbrev number_is : ℕ
    number_is = transaction_of s sessions

    abbrev its : List (Touch (Entry B))
    its = map (touch_by number_is) (held_at (s - 1) sessions.table).notes

    counted : length (touched_before (number_is + 1) xs) ≡ length (touched_before from xs) + length (held_at (s - 1) sessions.table).notes
    counted =
        ap length (one_transaction sessions from xs noted s upto all next) ∙ length-append (touched_before from xs) its
        ∙ ap (λ n. length (touched_before from xs) + n) (length-map (held_at (s - 1) sessions.table).notes (touch_by number_is))

    pub transaction_came : Puts r (notes_of its) (note_record * length (held_at (s - 1) sessions.table).notes) u.log w.log
        → Puts r (those (number_is + 1)) (note_record * length (touched_before (number_is + 1) xs)) v.log w.log
    transaction_came more =
        let one = one_transaction sessions from xs noted s upto all next in
        let size = counted in
        puts_same r (those from ++ notes_of its) (those (number_is + 1)) (note_record * length (touched_before from xs) + note_record * length (held_at (s - 1) sessions.table).notes)
        (note_record * length (touched_before (number_is + 1) xs)) v.log w.log
        (sym (notes_append (touched_before from xs) its) ∙ ap (λ (ys : List (Touch (Entry B))). notes_of ys) (sym one)) (omega (arith, size))
        (puts_then r (those from) (notes_of its) (note_record * length (touched_before from xs)) (note_record * length (held_at (s - 1) sessions.table).notes) v.log u.log w.log puts more)

    pub touches_stop : (Q : StoreFault → Type 0) (result : Result (Unit {0}) StoreFault) → IsErrAnd result Q
        → PutsAll r (notes_of its) (note_record * length (held_at (s - 1) sessions.table).notes) u w (Err NoRoom) → PutsAll r (notes_of xs) (note_record * length xs) v w result
    touches_stop Q (Ok done) failed full = absurd failed
    touches_stop Q (Err fault) failed full = λ closed.
        (let long = full (ap (λ (g : Log). g.turn) puts.log ∙ closed) in
        let now : length u.log.flight ≡ length (v.log.flight ++ puts.bytes) = ap (λ (g : Log). length g.flight) puts.log in
        let both = length-append v.log.flight puts.bytes in
        let few = puts.few in
        let size = counted in
        let short = before_short (number_is + 1) xs in
        omega (arith, long, now, both, few, size, short))

    -- the same of a number and notes that are the session's
    pub its_came : (t : ℕ) (ns : List (Note B)) → t ≡ number_is → ns ≡ (held_at (s - 1) sessions.table).notes → Puts r (notes_of (map (touch_by t) ns)) (note_record * length ns) u.log w.log
        → Puts r (those (t + 1)) (note_record * length (touched_before (t + 1) xs)) v.log w.log
    its_came t ns same notes more =
        subst (λ (n : ℕ). Puts r (those (n + 1)) (note_record * length (touched_before (n + 1) xs)) v.log w.log) (sym same)
        (transaction_came
        (subst (λ (m : List (Note B)). Puts r (notes_of (map (touch_by number_is) m)) (note_record * length m) u.log w.log) notes
        (subst (λ (n : ℕ). Puts r (notes_of (map (touch_by n) ns)) (note_record * length ns) u.log w.log) same more)))

    pub its_stop : (ns : List (Note B)) → ns ≡ (held_at (s - 1) sessions.table).notes → (Q : StoreFault → Type 0) (result : Result (Unit {0}) StoreFault) → IsErrAnd result Q
        → (u.log.turn ≡ Closed → BODY_ROOM < length u.log.flight + note_record * length ns) → PutsAll r (notes_of xs) (note_record * length xs) v w result
    its_stop ns notes Q result failed full =
        touches_stop Q result failed (subst (λ (m : List (Note B)). u.log.turn ≡ Closed → BODY_ROOM < length u.log.flight + note_record * length m) notes full)

-- none has come
pub touches_none : {B P : Type 0} (r : Reading (Entry B) P) (xs : List (Touch (Entry B))) (log : Log) → Puts r (notes_of (touched_before 0 xs)) (note_record * length (touched_before 0 xs)) log log
touches_none {B} {P} r xs log =
    let none : ◌≡◌ {A = List (Record (Entry B) P)} [] (notes_of (touched_before 0 xs)) = ap (λ (ys : List (Touch (Entry B))). notes_of ys) (sym (none_before xs)) in
    let size : 0 ≡ note_record * length (touched_before 0 xs) = (let few : length (touched_before 0 xs) ≡ 0 = ap length (none_before xs) in omega (arith, few)) in
    puts_same r [] (notes_of (touched_before 0 xs)) 0 (note_record * length (touched_before 0 xs)) log log none size (puts_none r log)

-- only the head has changed, twice
pub only_both : {D : Type 0} (v u w : Volume D) → OnlyHead v u → OnlyHead u w → OnlyHead v w
only_both {D} v u w first then = then ∙ ap (λ (x : Volume D). record x { log = record x.log { flight = w.log.flight } }) first

-- the numbers come first
pub numbers_came : {E P D : Type 0} (r : Reading E P) (one : Record E P) (ys : List (Record E P)) (size : ℕ) (x : Rec) (v u w : Volume D) → length (spelling x) ≤ COUNTERS_RECORD → GoesInHead x v.log u.log
    → ((head : List (Record E P)) → AreRecords r v.log.flight head → AreRecords r u.log.flight (head ++ one ∷ [])) → (result : Result (Unit {0}) StoreFault) → PutsAll r ys size u w result
    → PutsAll r (one ∷ ys) (COUNTERS_RECORD + size) v w result
numbers_came r one ys size x v u w short goes has (Ok done) more = puts_then r (one ∷ []) ys COUNTERS_RECORD size v.log u.log w.log (puts_one r x one COUNTERS_RECORD v.log u.log goes short has) more
numbers_came r one ys size x v u w short goes has (Err fault) more = λ closed.
    let long = more (ap (λ (g : Log). g.turn) goes.log ∙ closed) in
    let now : length u.log.flight ≡ length (v.log.flight ++ spelling x) = ap (λ (g : Log). length g.flight) goes.log in
    let both = length-append v.log.flight (spelling x) in
    omega (arith, long, now, both, short)

-- the numbers and the notes come, if these are the sessions' numbers and the pages'
module _ {B D W P : Type 0} (r : Reading (Entry B) P) (sessions : State B W) (v u w : Volume D) (n counter used next : ℕ) (latest : n ≡ sessions.latest) (its_counter : counter ≡ v.shelf.counter)
    (its_used : used ≡ v.shelf.used) (its_next : next ≡ sessions.next) where
  abbrev x : Rec
  x = rec.Counters n counter used next

  short : length (spelling x) ≤ COUNTERS_RECORD
  short = (let long = length-spelling x tt in omega (arith, long))

  abbrev Comes : Record (Entry B) P → Result (Unit {0}) StoreFault → Type 0
  Comes one result = (xs : List (Touch (Entry B))) → AreNoted sessions xs → PutsAll r (one ∷ notes_of xs) (COUNTERS_RECORD + note_record * length xs) v w result

  is_head : (result : Result (Unit {0}) StoreFault) → Comes (records.Counters n counter used next) result → PutsHead r sessions v w result
  is_head result comes =
      subst (λ z. Comes (records.Counters sessions.latest v.shelf.counter v.shelf.used z) result) its_next
      (subst (λ z. Comes (records.Counters sessions.latest v.shelf.counter z next) result) its_used
      (subst (λ z. Comes (records.Counters sessions.latest z used next) result) its_counter (subst (λ z. Comes (records.Counters z counter used next) result) latest comes)))

  pub head_came : GoesInHead x v.log u.log → HeadGrows r x v.log u.log (At 0) → (result : Result (Unit {0}) StoreFault) → PutsTouches r sessions u w result → PutsHead r sessions v w result
  head_came goes grows result puts =
      is_head result (λ xs noted. numbers_came r (records.Counters n counter used next) (notes_of xs) (note_record * length xs) x v u w short goes (λ head are. grows head tt are) result (puts xs noted))

  pub head_stops : (Q : StoreFault → Type 0) (result : Result (Unit {0}) StoreFault) → IsErrAnd result Q → (BODY_ROOM < length v.log.flight + length (spelling x)) ⊎ (1 ≤ turning v.log.turn) → PutsHead r sessions v w result
  head_stops Q (Ok done) failed full = absurd failed
  head_stops Q (Err fault) failed full = λ xs noted closed.
      elim full [
        | inl long ↦ (let few = short in omega (arith, long, few))
        | inr turns ↦ absurd (let still : turning v.log.turn ≡ 0 = ap turning closed in omega (arith, turns, still))
      ]

-- what comes makes a head longer
pub puts_longer : {E P : Type 0} (r : Reading E P) (records : List (Record E P)) (size : ℕ) (old new : Log) → Puts r records size old new → length old.flight ≤ length new.flight
puts_longer r records size old new puts =
    let now : length new.flight ≡ length (old.flight ++ puts.bytes) = ap (λ (g : Log). length g.flight) puts.log in
    let both = length-append old.flight puts.bytes in
    omega (arith, now, both)

-- a head that has the numbers has some bytes
pub some_head : (n counter used next : ℕ) (old middle : Log) (flight : List ℕ) → GoesInHead (rec.Counters n counter used next) old middle → (result : Result (Unit {0}) StoreFault)
    → OnOk result (length middle.flight ≤ length flight) → OnOk result (1 ≤ length flight)
some_head n counter used next old middle flight goes (Ok done) longer =
    let now : length middle.flight ≡ length (old.flight ++ spelling (rec.Counters n counter used next)) = ap (λ (g : Log). length g.flight) goes.log in
    let both = length-append old.flight (spelling (rec.Counters n counter used next)) in
    let long = length-spelling (rec.Counters n counter used next) tt in
    omega (arith, longer, now, both, long)
some_head n counter used next old middle flight goes (Err fault) longer = longer
