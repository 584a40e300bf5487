-- The items of damage are none exactly if the tests of a log pass.
use Rattle.std.proofs.Common.{◌≡◌, ℕ, ◌+◌, Bool, true, false, not, ◌&&◌, List, [], ◌∷◌, ◌++◌, refl, ap, sym, ◌∙◌, append_assoc}
use Rattle.std.specs.Prelude.{Option, None, Some, nat_le, ◌==◌, if◌then◌else◌, length}
use Rattle.std.specs.List.{list_all}
use Rattle.std.proofs.lemmas.List.{append-nil}
use Rattle.gx_recovery.specs.Known.{Known}
use Rattle.gx_recovery.specs.Records.{Image, Change, Said, Whole, Small, Record, Pages, Adjust, Write, Commit, End, Counters, Note, Touch, settled, any_number}
use Rattle.gx_recovery.specs.Analysis.{Analysis, analysis}
use Rattle.gx_recovery.specs.Given.{given, change_fits}
use Rattle.gx_recovery.specs.Damage.{is_transaction, is_page, apart, transactions, fits, said_fits, is_open, may_follow, follows, follow, is_note, note_fits, is_head, records_of, is_undamaged, Place, bodies_read, opened, IsLog}
use Rattle.gx_recovery.specs.Damages.{Damage, NoHead, NotDevice, PageNumber, OwnNumber, LeafNumber, NoEntry, LastNumber, Closed, CommitNumber, CounterFalls, UsedFalls, Shared, TooManyOpen, TooManyTouched, Unfit, unless, misfits, unfitting, unsaid, unopened, unfollowing, faults_after, faults_from, damages, is_none}
use Rattle.gx_recovery.proofs.Tests.{and_first, and_second}
use Rattle.gx_recovery.proofs.Logs.{untrue}
use Rattle.gx_recovery.specs.declared.TheConstants.{TRANSACTIONS, TOUCHED}

none_unless : (test : Bool) (item : Damage) (items : List Damage) → is_none (unless test item items) ≡ (test && is_none items)
none_unless true item items = refl
none_unless false item items = refl

none_append : (xs ys : List Damage) → is_none (xs ++ ys) ≡ (is_none xs && is_none ys)
none_append [] ys = refl
none_append (x ∷ xs) ys = refl

and_no : (c : Bool) → (c && false) ≡ false
and_no true = refl
and_no false = refl

and_regroup : (a b c d e f : Bool) → ((a && (b && c)) && (d && (e && f))) ≡ ((a && d) && ((b && e) && (c && f)))
and_regroup false b c d e f = refl
and_regroup true false c false e f = refl
and_regroup true false c true e f = refl
and_regroup true true c false false f = and_no c
and_regroup true true c false true f = and_no c
and_regroup true true c true false f = and_no c
and_regroup true true c true true f = refl

all_three : {X : Type 0} → (p q r : X → Bool) → (xs : List X) → list_all (λ x. p x && (q x && r x)) xs ≡ (list_all p xs && (list_all q xs && list_all r xs))
all_three p q r [] = refl
all_three p q r (x ∷ xs) =
    ap (λ b. (p x && (q x && r x)) && b) (all_three p q r xs)
    ∙ and_regroup (p x) (q x) (r x) (list_all p xs) (list_all q xs) (list_all r xs)

and_pairs : (a b c d : Bool) → ((a && b) && (c && d)) ≡ ((a && c) && (b && d))
and_pairs false b c d = refl
and_pairs true true c d = refl
and_pairs true false false d = refl
and_pairs true false true d = refl

all_two : {X : Type 0} → (p q : X → Bool) → (xs : List X) → list_all (λ x. p x && q x) xs ≡ (list_all p xs && list_all q xs)
all_two p q [] = refl
all_two p q (x ∷ xs) =
    ap (λ b. (p x && q x) && b) (all_two p q xs) ∙ and_pairs (p x) (q x) (list_all p xs) (list_all q xs)

and_left : (a b c : Bool) → (a && (b && c)) ≡ ((a && b) && c)
and_left true b c = refl
and_left false b c = refl

and_left_more : (a b c d : Bool) → (a && (b && (c && d))) ≡ ((a && (b && c)) && d)
and_left_more true b c d = and_left b c d
and_left_more false b c d = refl

and_left_most : (a b c d e : Bool) → (a && (b && (c && (d && e)))) ≡ ((a && (b && (c && d))) && e)
and_left_most true b c d e = and_left_more b c d e
and_left_most false b c d e = refl

and_out : (a b c d e f : Bool) → (a && (b && (c && ((d && e) && f)))) ≡ (d && (a && (b && (c && (e && f)))))
and_out true true true d e f = sym (and_left d e f)
and_out true true false true e f = refl
and_out true true false false e f = refl
and_out true false c true e f = refl
and_out true false c false e f = refl
and_out false b c true e f = refl
and_out false b c false e f = refl

and_true_last : (a b : Bool) → (a && (b && true)) ≡ (a && b)
and_true_last true true = refl
and_true_last true false = refl
and_true_last false b = refl

none_unfitting : {E P : Type 0} → (k : Known E P) (change : Change P) (before : Option P) (items : List Damage) → is_none (unfitting k change before items) ≡ (change_fits k change before && is_none items)
none_unfitting k change None items = refl
none_unfitting k change (Some content) items = none_unless (change.fits k.most content) Unfit items

module _ {E P : Type 0} (k : Known E P) where
  none_misfit : (leaves : Bool) (a : Analysis E) → is_none (misfits k leaves a) ≡ (leaves && fits k a)
  none_misfit leaves a =
      let device : Bool = nat_le a.used k.pages in
      let number : Touch E → Bool = λ t. is_transaction t.transaction in
      let entry : Touch E → Bool = λ t. k.is_entry t.entry in
      let leaf : Touch E → Bool = λ t. is_page a.used t.leaf in
      let few : Bool = nat_le (transactions a.touched) TRANSACTIONS in
      let short : Bool = nat_le (length a.touched) TOUCHED in
      let on : Bool = leaves && list_all leaf a.touched in
      none_unless device NotDevice (unless (list_all number a.touched) LastNumber (unless (list_all entry a.touched) NoEntry (unless on LeafNumber (unless (apart k a.touched) Shared (unless few TooManyOpen (unless short TooManyTouched []))))))
      ∙ ap (λ b. device && b) (none_unless (list_all number a.touched) LastNumber (unless (list_all entry a.touched) NoEntry (unless on LeafNumber (unless (apart k a.touched) Shared (unless few TooManyOpen (unless short TooManyTouched []))))))
      ∙ ap (λ b. device && (list_all number a.touched && b)) (none_unless (list_all entry a.touched) NoEntry (unless on LeafNumber (unless (apart k a.touched) Shared (unless few TooManyOpen (unless short TooManyTouched [])))))
      ∙ ap (λ b. device && (list_all number a.touched && (list_all entry a.touched && b))) (none_unless on LeafNumber (unless (apart k a.touched) Shared (unless few TooManyOpen (unless short TooManyTouched []))))
      ∙ ap (λ b. device && (list_all number a.touched && (list_all entry a.touched && (on && b))))
      (none_unless (apart k a.touched) Shared (unless few TooManyOpen (unless short TooManyTouched []))
      ∙ ap (λ b. apart k a.touched && b) (none_unless few TooManyOpen (unless short TooManyTouched []) ∙ ap (λ b. few && b) (none_unless short TooManyTouched []) ∙ and_true_last few short))
      ∙ and_out device (list_all number a.touched) (list_all entry a.touched) leaves (list_all leaf a.touched) (apart k a.touched && (few && short))
      ∙ ap (λ b. leaves && (device && b))
      (and_left_more (list_all number a.touched) (list_all entry a.touched) (list_all leaf a.touched) (apart k a.touched && (few && short))
      ∙ ap (λ b. b && (apart k a.touched && (few && short))) (sym (all_three number entry leaf a.touched)))

  none_unopened : (t : ℕ) (log : List (Record E P)) (items : List Damage) → is_none (unopened t log items) ≡ (is_open t log && is_none items)
  none_unopened t log items =
      none_unless (is_transaction t) LastNumber (unless (not (settled any_number t log)) Closed items)
      ∙ ap (λ b. is_transaction t && b) (none_unless (not (settled any_number t log)) Closed items)
      ∙ and_left (is_transaction t) (not (settled any_number t log)) (is_none items)

  none_unsaid : (leaf : ℕ) (said : Said P) (log : List (Record E P)) (items : List Damage) → is_none (unsaid k leaf said log items) ≡ (said_fits k leaf said log && is_none items)
  none_unsaid leaf (Whole content) log items = none_unless (k.own content == leaf) OwnNumber items
  none_unsaid leaf (Small change) log items = none_unfitting k change (given leaf log) items

  none_unfollowing : (log : List (Record E P)) (a : Analysis E) (r : Record E P) (more : List Damage) → is_none (unfollowing k log a r more) ≡ (may_follow k log a r && is_none more)
  none_unfollowing log a (Pages images counter used) more =
      let page : Image P → Bool = λ i. is_page used i.page in
      let own : Image P → Bool = λ i. k.own i.content == i.page in
      none_unless (nat_le a.counter counter) CounterFalls (unless (nat_le a.used used) UsedFalls (unless (list_all page images) PageNumber (unless (list_all own images) OwnNumber more)))
      ∙ ap (λ b. nat_le a.counter counter && b) (none_unless (nat_le a.used used) UsedFalls (unless (list_all page images) PageNumber (unless (list_all own images) OwnNumber more)))
      ∙ ap (λ b. nat_le a.counter counter && (nat_le a.used used && b)) (none_unless (list_all page images) PageNumber (unless (list_all own images) OwnNumber more))
      ∙ ap (λ b. nat_le a.counter counter && (nat_le a.used used && (list_all page images && b))) (none_unless (list_all own images) OwnNumber more)
      ∙ and_left_most (nat_le a.counter counter) (nat_le a.used used) (list_all page images) (list_all own images) (is_none more)
      ∙ ap (λ b. (nat_le a.counter counter && (nat_le a.used used && b)) && is_none more) (sym (all_two page own images))
  none_unfollowing log a (Adjust page change) more = none_unfitting k change (given page log) more
  none_unfollowing log a (Write transaction entry mark after leaf said) more =
      none_unless (not (settled any_number transaction log)) Closed (unsaid k leaf said log more)
      ∙ ap (λ b. not (settled any_number transaction log) && b) (none_unsaid leaf said log more)
      ∙ and_left (not (settled any_number transaction log)) (said_fits k leaf said log) (is_none more)
  none_unfollowing log a (Commit transaction number) more =
      none_unopened transaction log (unless (number == a.number + 1) CommitNumber more) ∙ ap (λ b. is_open transaction log && b) (none_unless (number == a.number + 1) CommitNumber more)
      ∙ and_left (is_open transaction log) (number == a.number + 1) (is_none more)
  none_unfollowing log a (End transaction) more = none_unopened transaction log more
  none_unfollowing log a (Counters number counter used next) more = refl
  none_unfollowing log a (Note transaction entry mark leaf) more = refl

  none_after : (log rs : List (Record E P)) → is_none (faults_after k log rs) ≡ follow k log rs
  none_after log [] = refl
  none_after log (r ∷ rs) =
      none_append (unfollowing k log (analysis k log) r (misfits k true (analysis k (log ++ r ∷ [])))) (faults_after k (log ++ r ∷ []) rs)
      ∙ ap (λ b. b && is_none (faults_after k (log ++ r ∷ []) rs))
      (none_unfollowing log (analysis k log) r (misfits k true (analysis k (log ++ r ∷ []))) ∙ ap (λ b. may_follow k log (analysis k log) r && b) (none_misfit true (analysis k (log ++ r ∷ []))))
      ∙ ap (λ b. follows k log r && b) (none_after (log ++ r ∷ []) rs)

  none_noted : (test : Bool) (xs : List Damage) (fit later : Bool) → is_none xs ≡ (fit && later) → is_none (if test then xs else NoHead ∷ []) ≡ ((test && fit) && later)
  none_noted true xs fit later h = h
  none_noted false xs fit later h = refl

  none_from : (head later : List (Record E P)) → is_none (faults_from k head later) ≡ (is_head k head && follow k head later)
  none_from [] later = refl
  none_from (Counters number counter used next ∷ notes) later =
      let head : List (Record E P) = Counters number counter used next ∷ notes in
      let leaves : Bool = list_all (note_fits used) notes in
      none_noted (list_all is_note notes) (misfits k leaves (analysis k head) ++ faults_after k head later) (leaves && fits k (analysis k head)) (follow k head later)
      (none_append (misfits k leaves (analysis k head)) (faults_after k head later) ∙ ap (λ b. b && is_none (faults_after k head later)) (none_misfit leaves (analysis k head))
      ∙ ap (λ b. (leaves && fits k (analysis k head)) && b) (none_after head later))
  none_from (Pages images counter used ∷ rs) later = refl
  none_from (Adjust page change ∷ rs) later = refl
  none_from (Write transaction entry mark after leaf said ∷ rs) later = refl
  none_from (Commit transaction number ∷ rs) later = refl
  none_from (End transaction ∷ rs) later = refl
  none_from (Note transaction entry mark leaf ∷ rs) later = refl

  -- nothing is wrong exactly if the bodies are undamaged
  pub none_damaged : (bodies : List (List (Record E P))) → is_none (damages k bodies) ≡ is_undamaged k bodies
  none_damaged [] = refl
  none_damaged (head ∷ bodies) = none_from head (records_of bodies)

  -- undamaged bodies are a log
  pub bodies_log : (bodies : List (List (Record E P))) → is_undamaged k bodies ≡ true → IsLog k (records_of bodies)
  bodies_log [] h = cc
  bodies_log (head ∷ bodies) h = record {
    head = head;
    later = records_of bodies;
    parts = refl;
    begins = and_first (is_head k head) (follow k head (records_of bodies)) h;
    goes_on = and_second (is_head k head) (follow k head (records_of bodies)) h;
  }

  closed_ahead : (places : List (Place E P)) → list_all (λ p. not p.open_gate) places ≡ true → bodies_read places ≡ []
  closed_ahead [] h = refl
  closed_ahead (p ∷ ps) h =
      let closed : p.open_gate ≡ false = untrue p.open_gate (and_first (not p.open_gate) (list_all (λ (q : Place E P). not q.open_gate) ps) h) in
      ap (λ b. if b then p.body ∷ bodies_read ps else []) closed

  read_opened : (bodies : List (List (Record E P))) (places : List (Place E P)) → bodies_read (opened bodies ++ places) ≡ bodies ++ bodies_read places
  read_opened [] places = refl
  read_opened (body ∷ bodies) places = ap (λ (x : List (List (Record E P))). body ∷ x) (read_opened bodies places)

  read_one : (bodies : List (List (Record E P))) (gate : Bool) (body : List (Record E P)) (rest : List (List (Record E P))) → rest ≡ []
      → bodies ++ (if gate then body ∷ rest else []) ≡ (if gate then bodies ++ body ∷ [] else bodies)
  read_one bodies true body rest h = ap (λ (x : List (List (Record E P))). bodies ++ body ∷ x) h
  read_one bodies false body rest h = append-nil bodies

  -- open gates, one that is open or not, and then closed ones: what is read
  pub read_before : (bodies : List (List (Record E P))) (one : Place E P) (places : List (Place E P)) → list_all (λ p. not p.open_gate) places ≡ true
      → bodies_read (opened bodies ++ one ∷ places) ≡ (if one.open_gate then bodies ++ one.body ∷ [] else bodies)
  read_before bodies one places h = read_opened bodies (one ∷ places) ∙ read_one bodies one.open_gate one.body (bodies_read places) (closed_ahead places h)

  -- nothing is read past a closed gate, whatever lies there
  pub read_past : (bodies : List (List (Record E P))) (one : Place E P) (places : List (Place E P)) → one.open_gate ≡ false
      → bodies_read (opened bodies ++ one ∷ places) ≡ bodies
  read_past bodies one places h =
      read_opened bodies (one ∷ places) ∙ ap (λ (b : Bool). bodies ++ (if b then one.body ∷ bodies_read places else [])) h ∙ append-nil bodies

  pub records_append : (bodies : List (List (Record E P))) (body : List (Record E P)) → records_of (bodies ++ body ∷ []) ≡ records_of bodies ++ body
  records_append [] body = append-nil body
  records_append (x ∷ bodies) body = ap (λ y. x ++ y) (records_append bodies body) ∙ sym (append_assoc x (records_of bodies) body)
