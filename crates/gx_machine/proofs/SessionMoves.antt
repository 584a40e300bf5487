-- What one step does to one session: the moves, and that asking and answering make no others.
use Rattle.std.proofs.Common.{◌≡◌, ℕ, Bool, true, false, not, ◌&&◌, ◌||◌, ◌⊎◌, inl, inr, List, [], ◌∷◌, ◌++◌, Option, Some, None, refl, ap, sym, ◌∙◌, subst}
use Rattle.std.specs.Prelude.{if◌then◌else◌, nat_lt, nat_le, length, Result, Ok, Err}
use Rattle.std.specs.Cmp.{tied_itself}
use Rattle.std.specs.Ordering.{is_eq}
use Rattle.std.specs.declared.cmp.Ordering.{Ordering}
use Rattle.std.specs.declared.cmp.Ordering.TheVariants.{Less, Equal, Greater}
use Rattle.std.proofs.lemmas.List.Folds.{list_any-append}
use Rattle.gx_geom.specs.declared.refusal.Refusal.{Refusal}
use Rattle.gx_geom.specs.declared.refusal.Refusal.TheVariants.{ClaimsFull, PredicatesFull, Present, Absent}
use Rattle.gx_machine.specs.declared.entry.Entry.{Entry}
use Rattle.gx_machine.specs.declared.query.Query.{Query}
use Rattle.gx_machine.specs.declared.query.Query.TheVariants as query
use Rattle.gx_machine.specs.declared.call.Call.{Call}
use Rattle.gx_machine.specs.declared.call.Call.TheVariants.{Begin, Insert, Delete, Search, Commit, Abort}
use Rattle.gx_machine.specs.declared.limits.TheConstants.{MAX_CLAIMS, MAX_PREDICATES}
use Rattle.gx_machine.specs.declared.reply.Reply.{Reply}
use Rattle.gx_machine.specs.declared.reply.Reply.TheVariants as reply
use Rattle.gx_machine.specs.declared.reply.Asked.TheVariants as asked
use Rattle.gx_machine.specs.Keys.{Keys, IsLawful, same_entry, same_query}
use Rattle.gx_machine.specs.Sets.{has, including, excluding}
use Rattle.gx_machine.specs.Invariants.{Covered, HoldsFor, AreClaimed}
use Rattle.gx_machine.specs.Sessions.{Session, Idle, Open, Aborting, Committing, Locks, Changes, no_locks, no_changes, has_query, conflicts, view, asked_with, ask_open, ask_session, answer_session, closed_session}
use Rattle.gx_machine.proofs.SetLaws.{has-including, has-filter, same_is, entry_itself, in_order_including, in_order_filter}

-- The moves of one session, a sealed commit apart: free says that no other session conflicts with a call, and begun
-- is known when a transaction begins.
pub data Move {B : Type 0} (k : Keys B) (free : Call B → Type 0) (begun : Type 0) : Session B → Session B → Type 0 where
  stays : {x : Session B} → Move k free begun x x
  begins : begun → Move k free begun Idle (Open no_locks no_changes None)
  asks : {locks : Locks B} {changes : Changes B} {call : Call B} → HoldsFor k call locks
      → Move k free begun (Open locks changes None) (Open locks changes (Some call))
  claims : {locks : Locks B} {changes : Changes B} {call : Call B} (e : Entry B) → free call
      → ((x : Locks B) → conflicts k call x ≡ conflicts k (Insert e) x)
      → HoldsFor k call (record locks { claims = including k e locks.claims })
      → Move k free begun (Open locks changes None) (Open (record locks { claims = including k e locks.claims }) changes (Some call))
  watches : {locks : Locks B} {changes : Changes B} (q : Query B) → free (Search q)
      → HoldsFor k (Search q) (record locks { predicates = locks.predicates ++ q ∷ [] })
      → Move k free begun (Open locks changes None) (Open (record locks { predicates = locks.predicates ++ q ∷ [] }) changes (Some (Search q)))
  aborts : {locks : Locks B} {changes : Changes B} → Move k free begun (Open locks changes None) (Aborting locks)
  answers : {locks : Locks B} {changes : Changes B} {call : Call B} (after : Changes B)
      → (HoldsFor k call locks → AreClaimed k locks changes → AreClaimed k locks after)
      → Move k free begun (Open locks changes (Some call)) (Open locks after None)
  ends : {x : Session B} → Move k free begun x Idle

pub or_either : (a b : Bool) → (a || b) ≡ true → (a ≡ true) ⊎ (b ≡ true)
or_either true b h = inl refl
or_either false b h = inr h

pub or_second : (a b : Bool) → b ≡ true → (a || b) ≡ true
or_second true b h = refl
or_second false b h = h

pub or_first : (a b : Bool) → a ≡ true → (a || b) ≡ true
or_first true b h = refl
or_first false b h = cc

and_second : (a b : Bool) → (a && b) ≡ true → b ≡ true
and_second true b h = h
and_second false b h = cc

-- with its tests as values: the locks with a claim
abbrev pub claim_given : {B : Type 0} → Keys B → Entry B → Bool → Bool → Locks B → Result (Locks B) Refusal
claim_given k e claimed room locks =
    if claimed then Ok locks else if room then Ok (record locks { claims = including k e locks.claims }) else Err ClaimsFull

-- the same with a predicate
abbrev pub predicate_given : {B : Type 0} → Query B → Bool → Bool → Locks B → Result (Locks B) Refusal
predicate_given q held room locks =
    if held then Ok locks else if room then Ok (record locks { predicates = locks.predicates ++ q ∷ [] }) else Err PredicatesFull

-- the same of an insert's answer
abbrev pub insert_answered : {B : Type 0} → Keys B → Entry B → Bool → Changes B → Reply B × Changes B
insert_answered k e present changes =
    if present then (reply.Refused Present, changes)
    else (reply.Inserted, record { added = including k e changes.added; taken = excluding k e changes.taken })

-- the same of a delete's
abbrev pub delete_answered : {B : Type 0} → Keys B → Entry B → Bool → Changes B → Reply B × Changes B
delete_answered k e present changes =
    if present then (reply.Deleted, record { added = excluding k e changes.added; taken = including k e changes.taken })
    else (reply.Refused Absent, changes)

pub value_of : {X : Type 0} {x y : X} → Some x ≡ Some y → x ≡ y
value_of {X} {x} h = ap (λ (o : Option X). elim o [ None ↦ x | Some z ↦ z ]) h

pub second_of : {X Y : Type 0} {p q : X × Y} → Some p ≡ Some q → p.1 ≡ q.1
second_of {X} {Y} h = ap (λ (p : X × Y). p.1) (value_of h)

equal_is : (o : Ordering) → is_eq o ≡ true → o ≡ Equal
equal_is Less h = cc
equal_is Equal h = refl
equal_is Greater h = cc

-- the same of a sealed commit's
abbrev pub commit_answered : {B : Type 0} → ℕ → Bool → Option (Reply B × Session B)
commit_answered number lasting = if lasting then Some (reply.Committed number, Idle) else None

module _ {B : Type 0} (k : Keys B) (l : IsLawful k) where
  pub same_itself : (e : Entry B) → same_entry k e e ≡ true
  same_itself e = ap is_eq (entry_itself k l e)

  pub same_query_itself : (q : Query B) → same_query k q q ≡ true
  same_query_itself (query.Overlap b) = ap is_eq (tied_itself l.total b)
  same_query_itself (query.Within b) = ap is_eq (tied_itself l.total b)
  same_query_itself (query.Equal b) = ap is_eq (tied_itself l.total b)
  same_query_itself (query.Covers b) = ap is_eq (tied_itself l.total b)

  -- queries that test as the same are the same
  pub same_query_is : (q p : Query B) → same_query k q p ≡ true → q ≡ p
  same_query_is (query.Overlap a) (query.Overlap b) h = ap query.Overlap (l.exact a b (equal_is (k.cmp a b) h))
  same_query_is (query.Within a) (query.Within b) h = ap query.Within (l.exact a b (equal_is (k.cmp a b) h))
  same_query_is (query.Equal a) (query.Equal b) h = ap query.Equal (l.exact a b (equal_is (k.cmp a b) h))
  same_query_is (query.Covers a) (query.Covers b) h = ap query.Covers (l.exact a b (equal_is (k.cmp a b) h))
  same_query_is (query.Overlap a) (query.Within b) h = cc
  same_query_is (query.Overlap a) (query.Equal b) h = cc
  same_query_is (query.Overlap a) (query.Covers b) h = cc
  same_query_is (query.Within a) (query.Overlap b) h = cc
  same_query_is (query.Within a) (query.Equal b) h = cc
  same_query_is (query.Within a) (query.Covers b) h = cc
  same_query_is (query.Equal a) (query.Overlap b) h = cc
  same_query_is (query.Equal a) (query.Within b) h = cc
  same_query_is (query.Equal a) (query.Covers b) h = cc
  same_query_is (query.Covers a) (query.Overlap b) h = cc
  same_query_is (query.Covers a) (query.Within b) h = cc
  same_query_is (query.Covers a) (query.Equal b) h = cc

  pub has_included : (e : Entry B) (set : List (Entry B)) → has k e (including k e set) ≡ true
  has_included e set = has-including k l e e set ∙ or_first (same_entry k e e) (has k e set) (same_itself e)

  pub included_covers : (e : Entry B) (set : List (Entry B)) → Covered k set (including k e set)
  included_covers e set = λ x h. has-including k l x e set ∙ or_second (same_entry k x e) (has k x set) h

  pub covered_including : (e : Entry B) (xs ys : List (Entry B)) → has k e ys ≡ true → Covered k xs ys → Covered k (including k e xs) ys
  covered_including e xs ys there covered = λ x h.
      elim (or_either (same_entry k x e) (has k x xs) (sym (has-including k l x e xs) ∙ h)) [
        | inl same ↦ ap (λ (z : Entry B). has k z ys) (same_is k l x e same) ∙ there
        | inr among ↦ covered x among
      ]

  pub covered_excluding : (e : Entry B) (xs ys : List (Entry B)) → Covered k xs ys → Covered k (excluding k e xs) ys
  covered_excluding e xs ys covered = λ x h.
      covered x (and_second (not (same_entry k e x)) (has k x xs) (sym (has-filter k l (λ z. not (same_entry k e z)) x xs) ∙ h))

  -- a set without an entry doesn't have it
  excluded : (e x : Entry B) (set : List (Entry B)) → same_entry k x e ≡ true → has k x (excluding k e set) ≡ false
  excluded e x set same =
      has-filter k l (λ z. not (same_entry k e z)) x set
      ∙ ap (λ (z : Entry B). not (same_entry k e z) && has k x set) (same_is k l x e same)
      ∙ ap (λ (b : Bool). not b && has k x set) (same_itself e)

  and_fails : (a b : Bool) → b ≡ false → (a && b) ≡ false
  and_fails true b h = h
  and_fails false b h = refl

  still_lacks : (e x : Entry B) (set : List (Entry B)) → has k x set ≡ false → has k x (excluding k e set) ≡ false
  still_lacks e x set lacks = has-filter k l (λ z. not (same_entry k e z)) x set ∙ and_fails (not (same_entry k e x)) (has k x set) lacks

  not_both : (a b : Bool) → (a ≡ true → b ≡ false) → b ≡ true → a ≡ false
  not_both true b h c = let no : ⊥ = (let both : true ≡ false = sym c ∙ h refl in cc) in absurd no
  not_both false b h c = refl

  -- what is added if an entry goes from one to the other shares nothing with what is taken away
  pub apart_including : (e : Entry B) (xs ys : List (Entry B)) → ((x : Entry B) → has k x xs ≡ true → has k x ys ≡ false)
      → (x : Entry B) → has k x (including k e xs) ≡ true → has k x (excluding k e ys) ≡ false
  apart_including e xs ys apart x h =
      elim (or_either (same_entry k x e) (has k x xs) (sym (has-including k l x e xs) ∙ h)) [
        | inl same ↦ excluded e x ys same
        | inr among ↦ still_lacks e x ys (apart x among)
      ]

  pub apart_turned : (xs ys : List (Entry B)) → ((x : Entry B) → has k x xs ≡ true → has k x ys ≡ false)
      → (x : Entry B) → has k x ys ≡ true → has k x xs ≡ false
  apart_turned xs ys apart x h = not_both (has k x xs) (has k x ys) (apart x) h

  -- an insert of a claimed entry keeps changes claimed
  pub claimed_insert : (e : Entry B) (locks : Locks B) (changes : Changes B) → has k e locks.claims ≡ true → AreClaimed k locks changes
      → AreClaimed k locks (record { added = including k e changes.added; taken = excluding k e changes.taken })
  claimed_insert e locks changes holds c = record {
    added_in_order = in_order_including k l e changes.added c.added_in_order;
    taken_in_order = in_order_filter k l (λ z. not (same_entry k e z)) changes.taken c.taken_in_order;
    apart = apart_including e changes.added changes.taken c.apart;
    added = covered_including e changes.added locks.claims holds c.added;
    taken = covered_excluding e changes.taken locks.claims c.taken;
  }

  -- so does a delete
  pub claimed_delete : (e : Entry B) (locks : Locks B) (changes : Changes B) → has k e locks.claims ≡ true → AreClaimed k locks changes
      → AreClaimed k locks (record { added = excluding k e changes.added; taken = including k e changes.taken })
  claimed_delete e locks changes holds c = record {
    added_in_order = in_order_filter k l (λ z. not (same_entry k e z)) changes.added c.added_in_order;
    taken_in_order = in_order_including k l e changes.taken c.taken_in_order;
    apart = apart_turned (including k e changes.taken) (excluding k e changes.added)
        (apart_including e changes.taken changes.added (apart_turned changes.added changes.taken c.apart));
    added = covered_excluding e changes.added locks.claims c.added;
    taken = covered_including e changes.taken locks.claims holds c.taken;
  }

  has_query_added : (q : Query B) (predicates : List (Query B)) → has_query k q (predicates ++ q ∷ []) ≡ true
  has_query_added q predicates =
      list_any-append (same_query k q) predicates (q ∷ [])
      ∙ or_second (has_query k q predicates) (same_query k q q || false) (or_first (same_query k q q) false (same_query_itself q))

  module _ (free : Call B → Type 0) (begun : Type 0) where
    write_move : (call : Call B) (e : Entry B) (claimed room : Bool) (locks : Locks B) (changes : Changes B) → has k e locks.claims ≡ claimed → free call
        → ((x : Locks B) → conflicts k call x ≡ conflicts k (Insert e) x)
        → ((g : Locks B) → has k e g.claims ≡ true → HoldsFor k call g)
        → Move k free begun (Open locks changes None) (asked_with call (claim_given k e claimed room locks) locks changes).1
    write_move call e true room locks changes is clear alike holds = asks (holds locks is)
    write_move call e false true locks changes is clear alike holds =
        claims e clear alike (holds (record locks { claims = including k e locks.claims }) (has_included e locks.claims))
    write_move call e false false locks changes is clear alike holds = stays

    search_move : (q : Query B) (held room : Bool) (locks : Locks B) (changes : Changes B) → has_query k q locks.predicates ≡ held → free (Search q)
        → Move k free begun (Open locks changes None) (asked_with (Search q) (predicate_given q held room locks) locks changes).1
    search_move q true room locks changes is clear = asks is
    search_move q false true locks changes is clear = watches q clear (has_query_added q locks.predicates)
    search_move q false false locks changes is clear = stays

    open_move : (call : Call B) (least : Option ℕ) (spent : ℕ) (locks : Locks B) (changes : Changes B) → (least ≡ None → free call)
        → Move k free begun (Open locks changes None) (ask_open k call least spent locks changes).1
    open_move Begin least spent locks changes clear = stays
    open_move (Insert e) None spent locks changes clear =
        write_move (Insert e) e (has k e locks.claims) (nat_lt spent MAX_CLAIMS) locks changes refl (clear refl) (λ x. refl) (λ g is. is)
    open_move (Delete e) None spent locks changes clear =
        write_move (Delete e) e (has k e locks.claims) (nat_lt spent MAX_CLAIMS) locks changes refl (clear refl) (λ x. refl) (λ g is. is)
    open_move (Search q) None spent locks changes clear =
        search_move q (has_query k q locks.predicates) (nat_lt (length locks.predicates) MAX_PREDICATES) locks changes refl (clear refl)
    open_move Commit None spent locks changes clear = asks tt
    open_move (Insert e) (Some other) spent locks changes clear = stays
    open_move (Delete e) (Some other) spent locks changes clear = stays
    open_move (Search q) (Some other) spent locks changes clear = stays
    open_move Commit (Some other) spent locks changes clear = stays
    open_move Abort least spent locks changes clear = aborts

    -- asking makes a move
    pub ask_move : (call : Call B) (least : Option ℕ) (spent : ℕ) (x : Session B) → (least ≡ None → free call)
        → (call ≡ Begin → (ask_session k call least spent x).0 ≡ asked.Now reply.Ok → begun)
        → Move k free begun x (ask_session k call least spent x).1
    ask_move Begin least spent Idle clear begin = begins (begin refl refl)
    ask_move (Insert e) least spent Idle clear begin = stays
    ask_move (Delete e) least spent Idle clear begin = stays
    ask_move (Search q) least spent Idle clear begin = stays
    ask_move Commit least spent Idle clear begin = stays
    ask_move Abort least spent Idle clear begin = stays
    ask_move call least spent (Open locks changes None) clear begin = open_move call least spent locks changes clear
    ask_move call least spent (Open locks changes (Some pending)) clear begin = stays
    ask_move call least spent (Aborting locks) clear begin = stays
    ask_move call least spent (Committing number) clear begin = stays

    insert_move : (e : Entry B) (present : Bool) (locks : Locks B) (changes : Changes B)
        → Move k free begun (Open locks changes (Some (Insert e))) (Open locks (insert_answered k e present changes).1 None)
    insert_move e true locks changes = answers changes (λ holds claimed. claimed)
    insert_move e false locks changes =
        answers (insert_answered k e false changes).1 (λ holds claimed. claimed_insert e locks changes holds claimed)

    delete_move : (e : Entry B) (present : Bool) (locks : Locks B) (changes : Changes B)
        → Move k free begun (Open locks changes (Some (Delete e))) (Open locks (delete_answered k e present changes).1 None)
    delete_move e true locks changes =
        answers (delete_answered k e true changes).1 (λ holds claimed. claimed_delete e locks changes holds claimed)
    delete_move e false locks changes = answers changes (λ holds claimed. claimed)

    committed_move : (number : ℕ) (y : Session B) (r : Reply B) (lasting : Bool)
        → commit_answered number lasting ≡ Some (r, y) → Move k free begun (Committing number) y
    committed_move number y r true h = subst (Move k free begun (Committing number)) (second_of h) ends
    committed_move number y r false h = cc

    -- answering makes a move
    pub answer_move : (latest : List (Entry B)) (oldest : ℕ) (x y : Session B) (r : Reply B) → answer_session k latest oldest x ≡ Some (r, y)
        → Move k free begun x y
    answer_move latest oldest Idle y r h = cc
    answer_move latest oldest (Open g c None) y r h = cc
    answer_move latest oldest (Open g c (Some (Insert e))) y r h =
        subst (Move k free begun (Open g c (Some (Insert e)))) (second_of h) (insert_move e (has k e (view k latest c)) g c)
    answer_move latest oldest (Open g c (Some (Delete e))) y r h =
        subst (Move k free begun (Open g c (Some (Delete e)))) (second_of h) (delete_move e (has k e (view k latest c)) g c)
    answer_move latest oldest (Open g c (Some (Search q))) y r h =
        subst (Move k free begun (Open g c (Some (Search q)))) (second_of h) (answers c (λ holds claimed. claimed))
    answer_move latest oldest (Open g c (Some Begin)) y r h = cc
    answer_move latest oldest (Open g c (Some Commit)) y r h = cc
    answer_move latest oldest (Open g c (Some Abort)) y r h = cc
    answer_move latest oldest (Aborting g) y r h = subst (Move k free begun (Aborting g)) (second_of h) ends
    answer_move latest oldest (Committing number) y r h = committed_move number y r (nat_le number oldest) h

    -- closing makes a move
    pub close_move : (x y : Session B) → closed_session x ≡ Some y → Move k free begun x y
    close_move Idle y h = cc
    close_move (Open g c None) y h = cc
    close_move (Open g c (Some call)) y h =
        subst (Move k free begun (Open g c (Some call))) (value_of h) (answers c (λ holds claimed. claimed))
    close_move (Aborting g) y h = cc
    close_move (Committing number) y h = cc
