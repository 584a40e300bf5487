-- The bodies of an extent, read in a row.
use Rattle.std.proofs.Common.{◌≡◌, ℕ, zero, suc, ◌+◌, ◌<◌, ◌≤◌, Bool, true, false, List, [], ◌∷◌, ◌++◌, refl, ap, sym, ◌∙◌, subst, arith, append_assoc, ⊎_elim}
use Rattle.std.specs.Prelude.{Option, Some, Result, Ok, Err, IfOk, IfErr, take, drop}
use Rattle.std.specs.Option.{option_map}
use Rattle.std.proofs.lemmas.Bool.{cases_lt}
use Rattle.std.proofs.lemmas.List.{append-nil}
use Rattle.gx_geom.specs.declared.refusal.Refusal.{Refusal}
use Rattle.gx_geom.specs.declared.refusal.Refusal.TheVariants.{Damaged}
use Rattle.gx_glog.specs.declared.extent.TheConstants.{BODY_ROOM, PLACES}
use Rattle.gx_glog.specs.declared.extent.Extent.{Extent}
use Rattle.gx_glog.specs.Layout.{selected_of, is_open, body_of, size_in, records_in, open_run}
use Rattle.gx_glog.proofs.Gates.{run_is}
use Rattle.gx_glog.specs.Reading.{IsSize, ReadsBody}
use Rattle.gx_glog.specs.Cuts.{bodies_in}
use Rattle.gx_recovery.specs.Known.{Known, IsLawful}
use Rattle.gx_recovery.specs.Records.{Record}
use Rattle.gx_recovery.specs.Damage.{is_head, follows, follow, records_of, is_undamaged}
use Rattle.gx_recovery.proofs.Tests.{and_first, and_second, clash}
use Rattle.gx_recovery.proofs.Logs.{and_all, follow-append}
use Rattle.gx_recovery.proofs.DamageItems.{bodies_log, records_append}
use Rattle.gx_durable.specs.Spelled.{Reading, AreRecords}
use Rattle.gx_durable.specs.Bodies.{AreBodies}
use Rattle.gx_durable.proofs.BodyLists.{bodies_more, bodies_one_way, body_adds}
use Rattle.gx_recovery.specs.Kept.{is_closed}
use Rattle.gx_found_log.specs.declared.gathered.Gathered.{Gathered}
use Rattle.gx_found_log.specs.declared.part.Part.{Part}
use Rattle.gx_found_log.specs.Given.{Imaged, image_in}
use Rattle.gx_found_log.specs.Parts.{IsBegun, may_go_on}
use Rattle.gx_found_log.specs.Told.{IsGathered, IsRead, IsRefused, BytesTold}
use Rattle.gx_found_log.specs.Found.{IsUnread, HasLimits, AreUndamaged, opened, part_at, ReadSoFar, PlaceRead, ReadWhole, ExtentRead, IsFound, LogRead}

-- so many gates are open in a row, where they all are
at_least : (bytes : List ℕ) (extent : Extent) (places k n : ℕ) → n ≤ places → ((j : ℕ) → k ≤ j → j < k + n → is_open bytes extent j ≡ true) → n ≤ open_run bytes extent k places
unfolding open_run
at_least bytes extent zero k n few opened = few
at_least bytes extent (suc places) k zero few opened = omega arith
at_least bytes extent (suc places) k (suc n) few opened =
    let here : is_open bytes extent k ≡ true = opened k (omega arith) (omega arith) in
    let rest : n ≤ open_run bytes extent (k + 1) places = at_least bytes extent places (k + 1) n (omega (arith, few)) (λ j from below. opened j (omega (arith, from)) (omega (arith, below))) in
    rw here (omega (arith, rest))

-- so a place behind an open one at the run's end lies in the run
pub lies_in_run : (seen : List ℕ) (extent : Extent) (i : ℕ) → i < PLACES → ((j : ℕ) → j < i → is_open seen extent j ≡ true) → is_open seen extent i ≡ true → i < open_run seen extent 0 PLACES
lies_in_run seen extent i few before here =
    let run : i + 1 ≤ open_run seen extent 0 PLACES =
    at_least seen extent PLACES 0 (i + 1) (omega (arith, few)) (λ j from below. ⊎_elim (λ (less : j < i). before j less)
    (λ (last : i ≤ j). (let same : i ≡ j = omega (arith, last, below) in ap (λ n. is_open seen extent n) (sym same) ∙ here)) (cases_lt j i)) in
    omega (arith, run)

-- the bytes that are cut out of a body are its records'
pub read_as : (seen : List ℕ) (extent : Extent) (i : ℕ) (bytes body : List ℕ) (size : ℕ) → (size ≤ BODY_ROOM → bytes ≡ take size (drop 4 body)) → body ≡ body_of seen extent i → size ≡ size_in body
    → IsSize size → bytes ≡ records_in (body_of seen extent i)
unfolding records_in
read_as seen extent i bytes body size cut_to read said fits = cut_to fits.1 ∙ ap (λ n. take n (drop 4 body)) said ∙ ap (λ (b : List ℕ). take (size_in b) (drop 4 b)) read

pub is_some_read : (seen : List ℕ) (extent : Extent) (i : ℕ) (body : List ℕ) (found : Option ℕ) (size : ℕ) → found ≡ Some size → ReadsBody seen extent i body (Ok found)
    → (is_open seen extent i ≡ true) × (body ≡ body_of seen extent i) × (size ≡ size_in body) × IsSize size
is_some_read seen extent i body found size is reads = subst (λ (o : Option ℕ). ReadsBody seen extent i body (Ok o)) is reads

module _ {E P : Type 0} (k : Known E P) (r : Reading E P) (l : IsLawful k) where
  follow_front : (log xs ys : List (Record E P)) → follow k log (xs ++ ys) ≡ true → follow k log xs ≡ true
  follow_front log [] ys h = refl
  follow_front log (x ∷ xs) ys h =
      let rest : Bool = follow k (log ++ x ∷ []) (xs ++ ys) in
      and_all (follows k log x) (follow k (log ++ x ∷ []) xs) (and_first (follows k log x) rest h) (follow_front (log ++ x ∷ []) xs ys (and_second (follows k log x) rest h))

  follow_behind : (log xs ys : List (Record E P)) → follow k log (xs ++ ys) ≡ true → follow k (log ++ xs) ys ≡ true
  follow_behind log [] ys h = ap (λ (zs : List (Record E P)). follow k zs ys) (append-nil log) ∙ h
  follow_behind log (x ∷ xs) ys h =
      let rest : Bool = follow k (log ++ x ∷ []) (xs ++ ys) in
      ap (λ (zs : List (Record E P)). follow k zs ys) (sym (append_assoc log (x ∷ []) xs)) ∙ follow_behind (log ++ x ∷ []) xs ys (and_second (follows k log x) rest h)

  records_join : (bodies others : List (List (Record E P))) → records_of (bodies ++ others) ≡ records_of bodies ++ records_of others
  records_join [] others = refl
  records_join (x ∷ bodies) others = ap (λ (y : List (Record E P)). x ++ y) (records_join bodies others) ∙ sym (append_assoc x (records_of bodies) (records_of others))

  none_told : (bodies : List (List (Record E P))) → AreBodies r [] bodies → bodies ≡ []
  none_told [] told = refl
  none_told (x ∷ bodies) told = absurd told

  -- of no body at all
  at_first : (seen : List ℕ) (extent : Extent) (bodies : List (List (Record E P))) → AreBodies r (bodies_in seen extent 0) bodies → bodies ≡ []
  unfolding bodies_in
  at_first seen extent bodies told = none_told bodies told

  none_in : (seen : List ℕ) (extent : Extent) → AreBodies r (bodies_in seen extent 0) []
  unfolding bodies_in
  none_in seen extent = tt

  -- nothing is read
  pub nothing_read : (seen : List ℕ) (extent : Extent) (s : Gathered E) → IsUnread s → HasLimits k s → ReadSoFar k r seen extent 0 s
  nothing_read seen extent s start pages = record {
    gates = λ j less. absurd (omega arith);
    sizes = λ j less. absurd (omega arith);
    bodies = [];
    told = none_in seen extent;
    undamaged = λ some. absurd (omega arith);
    gathered = record {
      kept = record { told = start.told; closed = λ t. ap (λ (ts : List ℕ). is_closed t ts) start.closed; pages = sym pages.0 };
      given = λ p. ap (λ (xs : List Imaged). option_map r.content (image_in p xs)) start.given;
      most = sym pages.1;
    };
  }

  -- what is read so far lets the next body begin
  pub begun_at : (seen : List ℕ) (extent : Extent) (i : ℕ) (s : Gathered E) → (so : ReadSoFar k r seen extent i s) → IsBegun (part_at i) k (records_of so.bodies)
  begun_at seen extent zero s so = ap (λ (bodies : List (List (Record E P))). records_of bodies) (at_first seen extent so.bodies so.told)
  begun_at seen extent (suc i) s so = bodies_log k so.bodies (so.undamaged (omega arith))

  one_more_undamaged : (i : ℕ) (bodies : List (List (Record E P))) (body : List (Record E P)) → (i ≡ 0 → bodies ≡ []) → (1 ≤ i → is_undamaged k bodies ≡ true)
      → may_go_on (part_at i) k (records_of bodies) body ≡ true → is_undamaged k (bodies ++ body ∷ []) ≡ true
  one_more_undamaged zero [] body none h may = and_all (is_head k body) true may refl
  one_more_undamaged zero (head ∷ bodies) body none h may = (let never : head ∷ bodies ≡ [] = none refl in cc)
  one_more_undamaged (suc i) [] body none h may = (let never : is_undamaged k [] ≡ true = h (omega arith) in cc)
  one_more_undamaged (suc i) (head ∷ bodies) body none h may =
      let was : is_undamaged k (head ∷ bodies) ≡ true = h (omega arith) in
      and_all (is_head k head) (follow k head (records_of (bodies ++ body ∷ []))) (and_first (is_head k head) (follow k head (records_of bodies)) was)
      (ap (follow k head) (records_append k bodies body)
      ∙ follow-append k l head (records_of bodies) body (and_second (is_head k head) (follow k head (records_of bodies)) was) may)

  more_by : (Q : ℕ → Type 0) (i j : ℕ) → j < i + 1 → ((m : ℕ) → m < i → Q m) → Q i → Q j
  more_by Q i j less before here = ⊎_elim (λ (below : j < i). before j below) (λ (last : i ≤ j). (let same : i ≡ j = omega (arith, last, less) in subst Q same here)) (cases_lt j i)

  -- the next body is read
  pub one_more_read : (seen : List ℕ) (extent : Extent) (i : ℕ) (old new : Gathered E) (bytes : List ℕ) → is_open seen extent i ≡ true → IsSize (size_in (body_of seen extent i))
      → bytes ≡ records_in (body_of seen extent i) → BytesTold (part_at i) k r bytes old (Ok tt) new → ReadSoFar k r seen extent i old → ReadSoFar k r seen extent (i + 1) new
  one_more_read seen extent i old new bytes gate size is told so =
      let body : IsRead (part_at i) k r (records_of so.bodies) bytes new = told (records_of so.bodies) (begun_at seen extent i old so) so.gathered in
      record {
        gates = λ j less. more_by (λ m. is_open seen extent m ≡ true) i j less so.gates gate;
        sizes = λ j less. more_by (λ m. IsSize (size_in (body_of seen extent m))) i j less so.sizes size;
        bodies = so.bodies ++ body.records ∷ [];
        told = subst (λ (xs : List (List ℕ)). AreBodies r xs (so.bodies ++ body.records ∷ [])) (sym (bodies_more seen extent i (i + 1) refl))
            (body_adds r (bodies_in seen extent i) (records_in (body_of seen extent i)) so.bodies body.records so.told (subst (λ (ys : List ℕ). AreRecords r ys body.records) is body.are));
        undamaged = λ some. one_more_undamaged i so.bodies body.records
            (λ none. at_first seen extent so.bodies (subst (λ n. AreBodies r (bodies_in seen extent n) so.bodies) none so.told)) so.undamaged body.may;
        gathered = subst (λ (xs : List (Record E P)). IsGathered k r xs new) (sym (records_append k so.bodies body.records)) body.gathered;
      }

  -- bodies in a row, without the last one
  record Split (front : List (List ℕ)) (last : List ℕ) (bodies : List (List (Record E P))) : Type 0 where
    before : List (List (Record E P))
    records : List (Record E P)
    parts : bodies ≡ before ++ records ∷ []
    told : AreBodies r front before
    are : AreRecords r last records

  split : (front : List (List ℕ)) (last : List ℕ) (bodies : List (List (Record E P))) → AreBodies r (front ++ last ∷ []) bodies → Split front last bodies
  split [] last [] told = absurd told
  split [] last (x ∷ []) told = record { before = []; records = x; parts = refl; told = tt; are = told.0 }
  split [] last (x ∷ y ∷ bodies) told = absurd told.1
  split (first ∷ front) last [] told = absurd told
  split (first ∷ front) last (x ∷ bodies) told =
      let rest : Split front last bodies = split front last bodies told.1 in
      record { before = x ∷ rest.before; records = rest.records; parts = ap (λ (ys : List (List (Record E P))). x ∷ ys) rest.parts; told = (told.0, rest.told); are = rest.are }

  -- the bodies before a place, the one at it, and those behind it
  record Cut (seen : List ℕ) (extent : Extent) (i : ℕ) (bodies : List (List (Record E P))) : Type 0 where
    before : List (List (Record E P))
    records : List (Record E P)
    behind : List (List (Record E P))
    parts : bodies ≡ before ++ records ∷ behind
    told : AreBodies r (bodies_in seen extent i) before
    are : AreRecords r (records_in (body_of seen extent i)) records

  cut : (seen : List ℕ) (extent : Extent) (i n : ℕ) (bodies : List (List (Record E P))) → i < n → AreBodies r (bodies_in seen extent n) bodies → Cut seen extent i bodies
  cut seen extent i zero bodies less told = absurd (omega arith)
  cut seen extent i (suc n) bodies less told =
      let s : Split (bodies_in seen extent n) (records_in (body_of seen extent n)) bodies =
      split (bodies_in seen extent n) (records_in (body_of seen extent n)) bodies (subst (λ (xs : List (List ℕ)). AreBodies r xs bodies) (bodies_more seen extent n (suc n) (omega arith)) told) in
      ⊎_elim
      (λ (below : i < n). (
      let c : Cut seen extent i s.before = cut seen extent i n s.before below s.told in
      record {
        before = c.before;
        records = c.records;
        behind = c.behind ++ s.records ∷ [];
        parts = s.parts ∙ ap (λ (xs : List (List (Record E P))). xs ++ s.records ∷ []) c.parts ∙ append_assoc c.before (c.records ∷ c.behind) (s.records ∷ []);
        told = c.told;
        are = c.are;
      }))
      (λ (last : n ≤ i). (
      let same : n ≡ i = omega (arith, last, less) in
      record {
        before = s.before;
        records = s.records;
        behind = [];
        parts = s.parts;
        told = subst (λ m. AreBodies r (bodies_in seen extent m) s.before) same s.told;
        are = subst (λ m. AreRecords r (records_in (body_of seen extent m)) s.records) same s.are;
      }))
      (cases_lt i n)

  -- of undamaged bodies each may come behind those before it
  comes_behind : (i : ℕ) (before : List (List (Record E P))) (records : List (Record E P)) (behind : List (List (Record E P))) → (i ≡ 0 → before ≡ []) → (1 ≤ i → is_undamaged k before ≡ true)
      → is_undamaged k (before ++ records ∷ behind) ≡ true → may_go_on (part_at i) k (records_of before) records ≡ true
  comes_behind zero [] records behind none h whole = and_first (is_head k records) (follow k records (records_of behind)) whole
  comes_behind zero (head ∷ before) records behind none h whole = (let never : head ∷ before ≡ [] = none refl in cc)
  comes_behind (suc i) [] records behind none h whole = (let never : is_undamaged k [] ≡ true = h (omega arith) in cc)
  comes_behind (suc i) (head ∷ before) records behind none h whole =
      follow_front (head ++ records_of before) records (records_of behind)
      (follow_behind head (records_of before) (records ++ records_of behind)
      (ap (follow k head) (sym (records_join before (records ∷ behind)))
      ∙ and_second (is_head k head) (follow k head (records_of (before ++ records ∷ behind))) whole))

  -- a body that is refused is in no undamaged log that goes so far
  pub refused_there : (seen : List ℕ) (extent : Extent) (i : ℕ) (old new : Gathered E) (bytes : List ℕ) (refusal : Refusal) → bytes ≡ records_in (body_of seen extent i)
      → BytesTold (part_at i) k r bytes old (Err refusal) new → ReadSoFar k r seen extent i old → (n : ℕ) → i < n → AreUndamaged k r seen extent n → ⊥
  refused_there seen extent i old new bytes refusal is told so n less whole =
      let body : IsRefused (part_at i) k r (records_of so.bodies) bytes refusal = told (records_of so.bodies) (begun_at seen extent i old so) so.gathered in
      let c : Cut seen extent i whole.bodies = cut seen extent i n whole.bodies less whole.told in
      let same : c.before ≡ so.bodies = bodies_one_way r (bodies_in seen extent i) c.before so.bodies c.told so.told in
      let all : is_undamaged k (so.bodies ++ c.records ∷ c.behind) ≡ true =
      ap (λ (xs : List (List (Record E P))). is_undamaged k (xs ++ c.records ∷ c.behind)) (sym same) ∙ ap (is_undamaged k) (sym c.parts) ∙ whole.undamaged in
      clash (may_go_on (part_at i) k (records_of so.bodies) c.records)
      (comes_behind i so.bodies c.records c.behind (λ none. at_first seen extent so.bodies (subst (λ m. AreBodies r (bodies_in seen extent m) so.bodies) none so.told)) so.undamaged all)
      (body.none c.records (subst (λ (ys : List ℕ). AreRecords r ys c.records) (sym is) c.are))

  -- nor one whose size is out of range
  pub missized_there : (seen : List ℕ) (extent : Extent) (i : ℕ) → (IsSize (size_in (body_of seen extent i)) → ⊥) → (n : ℕ) → i < n → AreUndamaged k r seen extent n → ⊥
  missized_there seen extent i odd n less whole = odd (whole.sizes i less)

  -- an extent with no body isn't undamaged
  pub none_undamaged : (seen : List ℕ) (extent : Extent) (n : ℕ) → n ≡ 0 → AreUndamaged k r seen extent n → ⊥
  none_undamaged seen extent n none whole =
      let empty : whole.bodies ≡ [] = at_first seen extent whole.bodies (subst (λ m. AreBodies r (bodies_in seen extent m) whole.bodies) none whole.told) in
      let never : is_undamaged k [] ≡ true = ap (is_undamaged k) (sym empty) ∙ whole.undamaged in
      cc

  pub place_read : (seen : List ℕ) (extent : Extent) (i : ℕ) (old new : Gathered E) (bytes body : List ℕ) (size : ℕ) (part : Part) → part ≡ part_at i
      → (size ≤ BODY_ROOM → bytes ≡ take size (drop 4 body)) → is_open seen extent i ≡ true → body ≡ body_of seen extent i → size ≡ size_in body → IsSize size
      → BytesTold part k r bytes old (Ok tt) new → PlaceRead k r seen extent i old (Ok true) new
  place_read seen extent i old new bytes body size part at cut_to gate read said fits told = (
    gate,
    λ so. one_more_read seen extent i old new bytes gate (subst IsSize (said ∙ ap size_in read) fits) (read_as seen extent i bytes body size cut_to read said fits)
        (subst (λ (p : Part). BytesTold p k r bytes old (Ok tt) new) at told) so,
  )

  pub place_refused : (seen : List ℕ) (extent : Extent) (i : ℕ) (old new : Gathered E) (bytes body : List ℕ) (size : ℕ) (part : Part) (refusal : Refusal) → part ≡ part_at i
      → (size ≤ BODY_ROOM → bytes ≡ take size (drop 4 body)) → is_open seen extent i ≡ true → body ≡ body_of seen extent i → size ≡ size_in body → IsSize size
      → refusal ≡ Damaged → BytesTold part k r bytes old (Err refusal) new → PlaceRead k r seen extent i old (Err refusal) new
  place_refused seen extent i old new bytes body size part refusal at cut_to gate read said fits damaged told =
      subst (λ (why : Refusal). PlaceRead k r seen extent i old (Err why) new) (sym damaged) (
        gate,
        λ so n less whole. refused_there seen extent i old new bytes refusal (read_as seen extent i bytes body size cut_to read said fits)
            (subst (λ (p : Part). BytesTold p k r bytes old (Err refusal) new) at told) so n less whole,
      )

  -- no gate is open in a row where the first is closed
  none_open : (seen : List ℕ) (extent : Extent) → is_open seen extent 0 ≡ false → open_run seen extent 0 PLACES ≡ 0
  none_open seen extent shut = run_is extent PLACES 0 0 seen (omega arith) (λ j from below. absurd (omega arith)) (λ less. shut)

  extent_ended_at : (seen : List ℕ) (extent : Extent) (i : ℕ) (old mid new : Gathered E) (result : Result ℕ Refusal) → i < PLACES
      → IfOk result (λ n. (1 ≤ n) × (n ≡ i)) → IfErr result (λ refusal. (refusal ≡ Damaged) × (i ≡ 0)) → is_open seen extent i ≡ false → new ≡ mid
      → (ReadSoFar k r seen extent 0 old → ReadSoFar k r seen extent i mid) → ExtentRead k r seen extent old result new
  extent_ended_at seen extent i old mid new (Ok n) few ok err shut same on =
      λ start. (
      let so : ReadSoFar k r seen extent n new = subst (λ m. ReadSoFar k r seen extent m new) (sym ok.1) (subst (λ (s : Gathered E). ReadSoFar k r seen extent i s) (sym same) (on start)) in
      record { some = ok.0; few = omega (arith, few, ok.1); closed = λ less. ap (λ m. is_open seen extent m) ok.1 ∙ shut; read = so })
  extent_ended_at seen extent i old mid new (Err refusal) few ok err shut same on =
      subst (λ (why : Refusal). ExtentRead k r seen extent old (Err why) new) (sym err.0)
      (λ start whole. none_undamaged seen extent (open_run seen extent 0 PLACES) (none_open seen extent (ap (λ m. is_open seen extent m) (sym err.1) ∙ shut)) whole)

  pub extent_ended : (seen now_seen : List ℕ) (extent : Extent) (i : ℕ) (old mid new : Gathered E) (result : Result ℕ Refusal) → now_seen ≡ seen → i < PLACES
      → IfOk result (λ n. (1 ≤ n) × (n ≡ i)) → IfErr result (λ refusal. (refusal ≡ Damaged) × (i ≡ 0)) → (answer : Bool) → answer ≡ false → PlaceRead k r now_seen extent i mid (Ok answer) new
      → (ReadSoFar k r seen extent 0 old → ReadSoFar k r seen extent i mid) → ExtentRead k r seen extent old result new
  extent_ended seen now_seen extent i old mid new result read few ok err answer shut told on =
      let place : PlaceRead k r now_seen extent i mid (Ok false) new = subst (λ (b : Bool). PlaceRead k r now_seen extent i mid (Ok b) new) shut told in
      extent_ended_at seen extent i old mid new result few ok err (ap (λ (s : List ℕ). is_open s extent i) (sym read) ∙ place.0) place.1 on

  extent_refused_at : (seen : List ℕ) (extent : Extent) (i : ℕ) (old mid new : Gathered E) (refusal : Refusal) → i < PLACES → PlaceRead k r seen extent i mid (Err refusal) new
      → (ReadSoFar k r seen extent 0 old → ReadSoFar k r seen extent i mid) → ExtentRead k r seen extent old (Err refusal) new
  extent_refused_at seen extent i old mid new Damaged few place on =
      λ start whole. (
      let so : ReadSoFar k r seen extent i mid = on start in
      place.1 so (open_run seen extent 0 PLACES) (lies_in_run seen extent i few so.gates place.0) whole)
  extent_refused_at seen extent i old mid new refusal few place on = tt

  pub extent_refused : (seen now_seen : List ℕ) (extent : Extent) (i : ℕ) (old mid new : Gathered E) (refusal : Refusal) → now_seen ≡ seen → i < PLACES
      → PlaceRead k r now_seen extent i mid (Err refusal) new → (ReadSoFar k r seen extent 0 old → ReadSoFar k r seen extent i mid) → ExtentRead k r seen extent old (Err refusal) new
  extent_refused seen now_seen extent i old mid new refusal read few place on =
      extent_refused_at seen extent i old mid new refusal few (subst (λ (s : List ℕ). PlaceRead k r s extent i mid (Err refusal) new) read place) on

  found_at : (seen : List ℕ) (extent : Extent) (n : ℕ) (new : Gathered E) → extent ≡ selected_of seen → ReadWhole k r seen extent n new
      → IsFound k r seen (record { extent = extent; bodies = n; analysis = new.analysis; given = new.given })
  found_at seen extent n new selects whole =
      let so : ReadSoFar k r seen extent n new = whole.read in
      let there : 0 + n ≡ n = omega arith in
      let run : open_run seen extent 0 PLACES ≡ n =
      run_is extent PLACES 0 n seen whole.few (λ j from below. so.gates j (omega (arith, below))) (λ less. ap (λ m. is_open seen extent m) there ∙ whole.closed less) in
      let count : n ≡ opened seen = sym run ∙ ap (λ (e : Extent). open_run seen e 0 PLACES) selects in
      let here : AreUndamaged k r seen extent n = record { sizes = so.sizes; bodies = so.bodies; told = so.told; undamaged = so.undamaged whole.some } in
      record {
        extent = selects;
        bodies = count;
        log = record {
          sizes = λ j less. subst (λ (e : Extent). IsSize (size_in (body_of seen e j))) selects (so.sizes j (omega (arith, less, count)));
          bodies = so.bodies;
          told = subst (λ (e : Extent). AreBodies r (bodies_in seen e (opened seen)) so.bodies) selects (subst (λ m. AreBodies r (bodies_in seen extent m) so.bodies) count so.told);
          undamaged = so.undamaged whole.some;
        };
        kept = so.gathered.kept;
        given = so.gathered.given;
      }

  pub found_whole : (seen now_seen : List ℕ) (extent : Extent) (n : ℕ) (old new : Gathered E) → now_seen ≡ seen → extent ≡ selected_of seen → IsUnread old → HasLimits k old
      → ExtentRead k r now_seen extent old (Ok n) new → IsFound k r seen (record { extent = extent; bodies = n; analysis = new.analysis; given = new.given })
  found_whole seen now_seen extent n old new read selects start pages all =
      found_at seen extent n new selects
      (subst (λ (s : List ℕ). ReadWhole k r s extent n new) read (all (nothing_read now_seen extent old start pages)))

  not_found_at : (seen : List ℕ) (extent : Extent) (old new : Gathered E) (refusal : Refusal) → extent ≡ selected_of seen → ReadSoFar k r seen extent 0 old
      → ExtentRead k r seen extent old (Err refusal) new → LogRead k r seen (Err refusal)
  not_found_at seen extent old new Damaged selects start all =
      λ whole. all start (subst (λ (e : Extent). AreUndamaged k r seen e (open_run seen e 0 PLACES)) (sym selects) whole)
  not_found_at seen extent old new refusal selects start all = tt

  pub not_found : (seen now_seen : List ℕ) (extent : Extent) (old new : Gathered E) (refusal : Refusal) → now_seen ≡ seen → extent ≡ selected_of seen → IsUnread old → HasLimits k old
      → ExtentRead k r now_seen extent old (Err refusal) new → LogRead k r seen (Err refusal)
  not_found seen now_seen extent old new refusal read selects start pages all =
      not_found_at seen extent old new refusal selects (nothing_read seen extent old start pages)
      (subst (λ (s : List ℕ). ExtentRead k r s extent old (Err refusal) new) read all)
