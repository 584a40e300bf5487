-- An entry's mark that is set, with its small record: the volume keeps the state with it.
use Rattle.std.proofs.Common.{◌≡◌, ◌∙◌, sym, ap, refl, subst, inl, inr, ℕ, zero, suc, ◌^◌, ◌<◌, ◌≤◌, Bool, true, false, ◌||◌, ◌==◌, List, [], ◌∷◌, ◌++◌, length, get_or, Some, arith}
use Rattle.std.specs.Prelude.{map, slice_get, slice_set}
use Rattle.std.specs.List.{All, list_any}
use Rattle.std.specs.Ordering.{is_eq}
use Rattle.std.proofs.lemmas.Bool.{and_from, and_parts, cases_eq}
use Rattle.std.proofs.lemmas.List.{length-map, take_at}
use Rattle.std.proofs.lemmas.List.Elements.{All-head, All-tail}
use Rattle.std.proofs.lemmas.Option.{slice_get_within}
use Rattle.gx_machine.specs.declared.entry.Entry.{Entry}
use Rattle.gx_machine.specs.Keys.{Members}
use Rattle.gx_disk.specs.Device.{Device}
use Rattle.gx_page.specs.Bytes.{AreBytes, spell_64}
use Rattle.gx_page.specs.Contents.{Contents}
use Rattle.gx_page.specs.Edits.{with_items}
use Rattle.gx_page.specs.Format.{IsWellFormed}
use Rattle.gx_page.specs.Reading.{read_of}
use Rattle.gx_pool.specs.Area.{bytes_of}
use Rattle.gx_pool.specs.State.{kept}
use Rattle.gx_record.specs.Rec.{Bit}
use Rattle.gx_record.specs.Format.{IsInRange}
use Rattle.gx_node.specs.Legal.{Legal}
use Rattle.gx_node.specs.Lists.{sum_over, how_many}
use Rattle.gx_node.specs.Steps.{node_with}
use Rattle.gx_node.specs.Trees.{Node, Pair, Rules, Tree, Used, is_entry, leaves, times}
use Rattle.gx_node.proofs.AlikeTrees.{legal_too}
use Rattle.gx_node.proofs.Chains.{one_off}
use Rattle.gx_node.specs.Edits.{marked_as, with_pairs}
use Rattle.gx_node.specs.Entries.{IsPair, mark_byte, pair_bytes}
use Rattle.gx_node.specs.Keyed.{rules_of}
use Rattle.gx_node.specs.Laws.{LeavesHold}
use Rattle.gx_node.specs.Reading.{Format, is_leaf, leaf_of}
use Rattle.gx_node.specs.Small.{mark_fits, mark_made}
use Rattle.gx_node.specs.SmallLaws.{MarkMeans, MarksMean, Spells}
use Rattle.gx_node.specs.Store.{Store, node_of, tree_of}
use Rattle.gx_node.proofs.OneChanged.{mark_once}
use Rattle.gx_node.proofs.Parts.{small-take}
use Rattle.gx_tree.specs.Seeking.{Seeks}
use Rattle.gx_tree.specs.Writing.{SetsMark}
use Rattle.gx_tree.specs.declared.seek.Sought.TheVariants.{Here}
use Rattle.gx_recovery.specs.Known.{Known, IsLawful, Limits}
use Rattle.gx_recovery.specs.Records.{Record, Said, Small, Whole, Write}
use Rattle.gx_recovery.specs.Coming.{IsSaid}
use Rattle.gx_recovery.specs.Given.{change_fits, given}
use Rattle.gx_recovery.specs.Logged.{Logged, all_records}
use Rattle.gx_recovery.proofs.States.{coming_good}
use Rattle.gx_index_laws.specs.Classes.{Page}
use Rattle.gx_durable.specs.Small.{SetMark}
use Rattle.gx_durable.specs.Spelled.{record_read}
use Rattle.gx_durable.specs.Stored.{bytes_by}
use Rattle.gx_durable.specs.Classes.{change_of, known_at, page_of, reading_of}
use Rattle.gx_store.specs.Standing.{standing_node, store_of}
use Rattle.gx_store.specs.State.{IsSteady, Shelf}
use Rattle.gx_store.proofs.Changing.{there}
use Rattle.gx_store.proofs.Listed.{nodes_long}
use Rattle.gx_store.proofs.Shown.{stands_kept}
use Rattle.gx_storage.specs.Changes.{IsLogged, has_room, image_at}
use Rattle.gx_storage.specs.Giving.{IsGiven}
use Rattle.gx_storage.specs.Imaged.{is_imaged}
use Rattle.gx_storage.specs.Journal.{IsLast}
use Rattle.gx_storage.specs.Keeps.{Keeps, tree_after}
use Rattle.gx_storage.specs.Marks.{IsOfEntry}
use Rattle.gx_storage.specs.Small.{mark_said}
use Rattle.gx_storage.specs.State.{Journal, Volume, journal_of, volume}
use Rattle.gx_storage.proofs.Recording.{AreNodes}
use Rattle.gx_storage.proofs.Shown.{keeps_shows}
use Rattle.gx_storage.proofs.SmallFits.{small_fits}
use Rattle.gx_storage.proofs.SmallLeaf.{bytes_then, leaf_is, leaf_made, leaf_node, node_held, node_level, node_then, passing_then}
use Rattle.gx_storage.proofs.SmallRecords.{IsOfPage, small_stays_with}
use Rattle.gx_storage.proofs.Writing.{Stepped, logged_write, tree_used}

-- the small record of a mark is in range
pub bit_in_range : (tx row : ℕ) (key : List ℕ) (before after : Bool) (leaf : ℕ) → tx < 2 ^ 64 → row < 2 ^ 64 → leaf < 2 ^ 32 → 1 ≤ leaf → IsInRange (Bit tx row key before after leaf)
bit_in_range tx row key before after leaf tx_fits row_fits leaf_fits low = (tx_fits, row_fits, (low, leaf_fits))

mark_is_of_page : {B : Type 0} (k : Known (Entry B) (Page B)) (said : List ℕ → B) (f : Format B) (tx row : ℕ) (key : List ℕ) (before after : Bool) (leaf : ℕ)
    → IsOfPage k said f leaf (mark_made f row key after) (record_read (reading_of said f) (Bit tx row key before after leaf))
unfolding change_of
mark_is_of_page k said f tx row key before after leaf = record { speaks = λ q. refl; redoes = λ area q. refl; used = λ a. refl; counter = λ a. refl }

-- ---- an element at its slot

all_there : {X : Type 0} (P : X → Type 0) (xs : List X) (slot : ℕ) (x : X) → slice_get xs slot ≡ Some x → All P xs → P x
all_there P [] slot x at all = cc
all_there P (y ∷ ys) zero x at all = let same : y ≡ x = cc in subst P same (All-head P y ys all)
all_there P (y ∷ ys) (suc slot) x at all = all_there P ys slot x at (All-tail P y ys all)

or_true : (b : Bool) → (b || true) ≡ true
or_true true = refl
or_true false = refl

any_there : {X : Type 0} (test : X → Bool) (xs : List X) (slot : ℕ) (x : X) → slice_get xs slot ≡ Some x → test x ≡ true → list_any test xs ≡ true
any_there test [] slot x at is = cc
any_there test (y ∷ ys) zero x at is = let same : y ≡ x = cc in ap (λ z. test z || list_any test ys) same ∙ ap (λ b. b || list_any test ys) is
any_there test (y ∷ ys) (suc slot) x at is = ap (λ b. test y || b) (any_there test ys slot x at is) ∙ or_true (test y)

mapped_there : {X Y : Type 0} (to : X → Y) (xs : List X) (slot : ℕ) (x : X) (d : Y) → slice_get xs slot ≡ Some x → get_or (map to xs) slot d ≡ to x
mapped_there to [] slot x d at = cc
mapped_there to (y ∷ ys) zero x d at = let same : y ≡ x = cc in ap to same
mapped_there to (y ∷ ys) (suc slot) x d at = mapped_there to ys slot x d at

-- ---- once in a leaf

part_of_sum : (part : ℕ → ℕ) (a : ℕ) (xs : List ℕ) → 0 < times a xs → part a ≤ sum_over part xs
part_of_sum part a [] some = absurd (omega (arith, some))
part_of_sum part a (x ∷ xs) some = elim (cases_eq x a) [
  | inl same ↦ let here = ap part same in omega (arith, here)
  | inr other ↦ let none = one_off x a other in let rest = part_of_sum part a xs (omega (arith, some, none)) in omega (arith, rest)
]

-- in a leaf of a legal tree an entry has one pair at most
once_in : {B : Type 0} (r : Rules B) (t : Tree B) → Legal r t → (a row : ℕ) (key : B) → Used t a → (t.node a).level ≡ 0 → how_many (is_entry r row key) (t.node a).pairs ≤ 1
once_in r t legal a row key used leaf =
    let one = legal.once a used leaf in
    let part = part_of_sum (λ q. how_many (is_entry r row key) (t.node q).pairs) a (leaves t) (omega (arith, one)) in
    let most = legal.single row key in
    omega (arith, part, most)

module _ {B D : Type 0} (shape : Members B) (proper : B → Bool) (said : List ℕ → B) (f : Format B) (passes : ℕ → Contents → Bool) (l : Limits) (d : Device) (v : Volume D)
    (bodies : List (List (Record (Entry B) (Page B)))) (s : Logged (Entry B) (Page B)) (lawful : IsLawful (known_at shape proper l))
    (keeps : Keeps (known_at shape proper l) (reading_of said f) f passes d v bodies s) where
  legal_after : Legal (rules_of shape l.most) (tree_after (known_at shape proper l) (reading_of said f) f passes s)
  legal_after =
      (coming_good (known_at shape proper l) lawful s.area s.gated (s.flight ++ s.filling) keeps.runs.up.carries.healthy.good keeps.runs.up.carries.healthy.coming).sound

  -- the tree that is shown is the log's, and so is legal
  pub legal_shown : Legal (rules_of shape l.most) (tree_of (store_of f d.seen v.shelf))
  legal_shown =
      legal_too (rules_of shape l.most) (tree_after (known_at shape proper l) (reading_of said f) f passes s) (tree_of (store_of f d.seen v.shelf))
      (keeps_shows said f (known_at shape proper l) passes d v lawful bodies s keeps) legal_after

-- ---- an entry's pair in a leaf

-- the key of a leaf's pair is one of the class
pub of_class_at : {B : Type 0} (IsKey : B → Type 0) (spelling : B → List ℕ) (f : Format B) → LeavesHold IsKey spelling f → (a : Contents) → IsWellFormed a → is_leaf f a ≡ true
    → (slot : ℕ) (x : Pair B) → slice_get (leaf_of f a).pairs slot ≡ Some x → IsKey x.key
of_class_at IsKey spelling f hold a well leaf slot x at = (all_there (IsPair IsKey) (leaf_of f a).pairs slot x at (hold a well leaf).each).key

-- how marks are set in the leaves of a class, by the bytes of its keys, if a node may have so many entries
pub record ReadsMarks {B : Type 0} (IsKey : B → Type 0) (spelling : B → List ℕ) (f : Format B) (shape : Members B) (most : ℕ) : Type 0 where
  pub hold : LeavesHold IsKey spelling f
  pub long : (key : B) → IsKey key → length (spelling key) ≡ f.key
  pub back : (key : B) → IsKey key → f.reading (spelling key) ≡ Some key
  pub exact : (a b : B) → is_eq (shape.cmp a b) ≡ true → a ≡ b
  pub means : MarksMean f (rules_of shape most)

module _ {B : Type 0} (IsKey : B → Type 0) (spelling : B → List ℕ) (f : Format B) (shape : Members B) (most : ℕ) (reads : ReadsMarks IsKey spelling f shape most)
    (a : Contents) (well : IsWellFormed a) (leaf : is_leaf f a ≡ true) (entry : Entry B) (of_class : IsKey entry.key)
    (slot : ℕ) (x : Pair B) (at : slice_get (leaf_of f a).pairs slot ≡ Some x) (is : is_entry (rules_of shape most) entry.row entry.key x ≡ true) where
  abbrev r : Rules B
  r = rules_of shape most

  key_here : x.key ≡ entry.key
  key_here = reads.exact x.key entry.key (and_parts (x.row == entry.row) (r.same x.key entry.key) is).1

  item_here : get_or a.items slot [] ≡ pair_bytes spelling x
  item_here = ap (λ (items : List (List ℕ)). get_or items slot []) (reads.hold a well leaf).items ∙ mapped_there (pair_bytes spelling) (leaf_of f a).pairs slot x [] at

  slot_here : slot < length a.items
  slot_here = let there = slice_get_within (leaf_of f a).pairs slot x at in let long = length-map {B = List ℕ} (leaf_of f a).pairs (pair_bytes spelling) in let same = ap length (reads.hold a well leaf).items in omega (arith, there, long, same)

  bytes_here : AreBytes (spelling x.key)
  bytes_here =
      subst AreBytes (take_at (spelling x.key) (spell_64 x.row ++ mark_byte x.marked ∷ []) f.key (reads.long x.key (of_class_at IsKey spelling f reads.hold a well leaf slot x at)))
      (small-take (pair_bytes spelling x) f.key (subst AreBytes item_here (well.items slot [] slot_here).1))

  spells : Spells f (spelling entry.key) entry.key
  spells = record { are = subst (λ (key : B). AreBytes (spelling key)) key_here bytes_here; read = reads.back entry.key of_class }

  its_mark : MarkMeans f r entry.row (spelling entry.key) entry.key a
  its_mark = reads.means entry.row (spelling entry.key) entry.key a spells well

  -- a mark of the entry fits the leaf
  pub fits_here : mark_fits f entry.row (spelling entry.key) a ≡ true
  fits_here =
      its_mark.fits
      ∙ and_from (is_leaf f a) (list_any (is_entry r entry.row entry.key) (leaf_of f a).pairs) leaf (any_there (is_entry r entry.row entry.key) (leaf_of f a).pairs slot x at is)

  -- and set there it is set in the pair's slot, since there is no other
  module _ (once : how_many (is_entry r entry.row entry.key) (leaf_of f a).pairs ≤ 1) (marked : Bool) (b : Contents) (well_now : IsWellFormed b)
      (leaf_now : is_leaf f b ≡ true) (number : b.number ≡ a.number) (now : leaf_of f b ≡ with_pairs (leaf_of f a) (slice_set (leaf_of f a).pairs slot (marked_as marked x))) where
    pub mark_here : b ≡ with_items a (mark_made f entry.row (spelling entry.key) marked a.items)
    mark_here =
        let items = mark_made f entry.row (spelling entry.key) marked a.items in
        let first = its_mark.made marked fits_here in
        let same : slice_set (leaf_of f a).pairs slot (marked_as marked x) ≡ slice_set (leaf_of f a).pairs first.slot (marked_as marked first.pair) =
        mark_once r entry.row entry.key marked (leaf_of f a).pairs slot x once at is
        ∙ sym (mark_once r entry.row entry.key marked (leaf_of f a).pairs first.slot first.pair once first.there first.is) in
        leaf_made IsKey spelling f reads.hold a b (slice_set (leaf_of f a).pairs slot (marked_as marked x)) items well_now leaf_now number now
        (ap (λ (pairs : List (Pair B)). map (pair_bytes spelling) pairs) (same ∙ sym (ap (λ (n : Node B). n.pairs) first.made.node))
        ∙ sym (reads.hold (with_items a items) first.made.well_formed first.made.leaf).items)

-- ---- with its record

module _ {B D : Type 0} (shape : Members B) (proper : B → Bool) (said : List ℕ → B) (f : Format B) (passes : ℕ → Contents → Bool) (state : D → Device) (v : Volume D) (size : ℕ) (t : Shelf D)
    (IsKey : B → Type 0) (spelling : B → List ℕ) (most : ℕ) (reads : ReadsMarks IsKey spelling f shape most) (was : AreNodes f passes v.shelf) (right : AreNodes f passes t)
    (page : ℕ) (j : Journal) (did : Stepped passes state v size t page) (given : IsGiven (state t.disk).seen t page) (tx : ℕ) (entry : Entry B) (of_class : IsKey entry.key)
    (wants : Pair B → Bool) (wanted : IsOfEntry IsKey shape entry wants) (slot : ℕ) (before marked : Bool)
    (made : IsSteady (state v.shelf.disk) v.shelf.frames → SetsMark wants (store_of f (state v.shelf.disk).seen v.shelf) (store_of f (state t.disk).seen t) page marked (Here slot before)) where
  pub logged_mark : is_imaged v.imaged page ≡ true → t.pages ≡ v.shelf.pages
      → IsLast (known_at shape proper) (reading_of said f) (Bit tx entry.row (spelling entry.key) before marked page) (journal_of v) j
      → IsLogged (known_at shape proper) (reading_of said f) f passes size (state v.shelf.disk) (state t.disk) v (volume j t v.most)
      (Bit tx entry.row (spelling entry.key) before marked page)
  logged_mark bit pages last = record {
    logs = last.logs;
    keeps = λ l bodies s lawful keeps.
        (let d = state v.shelf.disk in
        let e = state t.disk in
        let k = known_at shape proper l in
        let step = made keeps.steady in
        let x = step.0.1.0 in
        let only = step.1 x step.0.1.1 in
        let used = tree_used f e.seen d.seen v.shelf t only.used in
        let held = given.held in
        let one = there (kept t.frames page) held.kept in
        let stands = stands_kept t.frames e.seen page one.0 held.stays one.1 in
        let formed : IsWellFormed one.0.page = subst {A = Contents} IsWellFormed stands given.well in
        let high : page ≤ v.shelf.used = omega (arith, held.to, used) in
        let a = read_of (bytes_by (kept v.shelf.frames page) (bytes_of d.seen page)) in
        let b = one.0.page in
        let then = passing_then k said f passes d v bodies s keeps was page held.from high in
        let passed = right.passed page one.0 one.1 in
        let old = (tree_of (store_of f d.seen v.shelf)).node page in
        let new = (tree_of (store_of f e.seen t)).node page in
        let is_old : old ≡ node_of f a = node_then k said f passes d v bodies s keeps was page held.from high in
        let is_new : new ≡ node_of f b = node_held f e.seen t page one.0 held one.1 in
        let level_old : a.level ≡ 0 = sym (node_level f a) ∙ sym (ap (λ (n : Node B). n.level) is_old) ∙ step.0.0 in
        let level_new : b.level ≡ 0 = sym (node_level f b) ∙ sym (ap (λ (n : Node B). n.level) is_new) ∙ ap (λ (n : Node B). n.level) only.changed ∙ step.0.0 in
        let leaf_old = leaf_is f v.shelf.pages a level_old (right.nodes v.shelf.pages a then.passing) in
        let leaf_new = leaf_is f t.pages b level_new (right.nodes t.pages b passed.1) in
        let once : how_many (is_entry (rules_of shape most) entry.row entry.key) old.pairs ≤ 1 =
        once_in (rules_of shape l.most) (tree_of (store_of f d.seen v.shelf)) (legal_shown shape proper said f passes l d v bodies s lawful keeps) page entry.row entry.key only.there step.0.0 in
        let all = subst (λ (n : Node B). (slice_get n.pairs slot ≡ Some x) × (how_many (is_entry (rules_of shape most) entry.row entry.key) n.pairs ≤ 1)
        × (new ≡ node_with n n.nsn n.right (slice_set n.pairs slot (marked_as marked x)) n.children)) (is_old ∙ leaf_node f a level_old) (step.0.1.1, once, only.changed) in
        let key : IsKey x.key = of_class_at IsKey spelling f reads.hold a then.image.well_formed leaf_old slot x all.0 in
        let is : is_entry (rules_of shape most) entry.row entry.key x ≡ true = sym (wanted x key) ∙ step.0.1.2 in
        let now = mark_here IsKey spelling f shape most reads a then.image.well_formed leaf_old entry of_class slot x all.0 is all.1 marked b formed leaf_new
        (passed.0 ∙ sym then.number) (sym (leaf_node f b level_new) ∙ sym is_new ∙ all.2) in
        small_stays_with k said f passes d e v v.log.used (has_room v.log size) t bodies s lawful keeps did.goes_on (omega arith) was right
        (Bit tx entry.row (spelling entry.key) before marked page) page (mark_made f entry.row (spelling entry.key) marked) (mark_is_of_page k said f tx entry.row (spelling entry.key) before marked page)
        held.from high one.0 one.1 formed now j.log v.most j.imaged last.imaged bit (last.up l) last.stamped last.placed last.key did.others used only.counter);
    goes_on = did.goes_on;
    others = λ q other. did.others q other;
    most = refl;
    imaged = last.imaged;
  }

  -- so it is by the leaf's bit
  pub logged_marked : (small : Bool) → is_imaged v.imaged page ≡ small
      → IsLast (known_at shape proper) (reading_of said f) (mark_said spelling small tx entry.row entry.key before marked page (state t.disk).seen t) (journal_of v) j
      → IsLogged (known_at shape proper) (reading_of said f) f passes size (state v.shelf.disk) (state t.disk) v (volume j t v.most)
      (mark_said spelling small tx entry.row entry.key before marked page (state t.disk).seen t)
  logged_marked true bit last = logged_mark bit did.goes_on.pages last
  logged_marked false bit last =
      logged_write (known_at shape proper) said f passes state v size t tx entry.row (spelling entry.key) before marked page j did given right
      (λ steady. (let step = made steady in let only = step.1 step.0.1.0 step.0.1.1 in (tree_used f (state t.disk).seen (state v.shelf.disk).seen v.shelf t only.used, only.counter))) last

-- ---- what it says of its leaf

-- by the leaf's bit: the change alone, or the leaf after it
abbrev pub mark_told : {B D : Type 0} → (B → List ℕ) → Format B → Bool → Entry B → Bool → ℕ → List ℕ → Shelf D → Said (Page B)
mark_told spelling f true entry marked leaf seen s = Small (change_of f (SetMark entry.row (spelling entry.key) marked))
mark_told spelling f false entry marked leaf seen s = Whole (page_of f (image_at seen s leaf))

-- it is read so
pub mark_read : {B D : Type 0} (said : List ℕ → B) (spelling : B → List ℕ) (f : Format B) (small : Bool) (transaction : ℕ) (entry : Entry B) (before marked : Bool) (leaf : ℕ) (seen : List ℕ) (s : Shelf D)
    → said (spelling entry.key) ≡ entry.key
    → record_read (reading_of said f) (mark_said spelling small transaction entry.row entry.key before marked leaf seen s) ≡ Write transaction entry before marked leaf (mark_told spelling f small entry marked leaf seen s)
mark_read {B} said spelling f true transaction entry before marked leaf seen s back =
    ap (λ k. (let x : Record (Entry B) (Page B) = Write transaction (record { row = entry.row; key = k }) before marked leaf (mark_told spelling f true entry marked leaf seen s) in x)) back
mark_read {B} said spelling f false transaction entry before marked leaf seen s back =
    ap (λ k. (let x : Record (Entry B) (Page B) = Write transaction (record { row = entry.row; key = k }) before marked leaf (mark_told spelling f false entry marked leaf seen s) in x)) back

-- this is true of the leaf, whose pair's mark was set
module _ {B D : Type 0} (shape : Members B) (k : Known (Entry B) (Page B)) (said : List ℕ → B) (f : Format B) (passes : ℕ → Contents → Bool) (d : Device) (v : Volume D)
    (bodies : List (List (Record (Entry B) (Page B)))) (s : Logged (Entry B) (Page B)) (keeps : Keeps k (reading_of said f) f passes d v bodies s) (was : AreNodes f passes v.shelf)
    (IsKey : B → Type 0) (spelling : B → List ℕ) (most : ℕ) (reads : ReadsMarks IsKey spelling f shape most) (entry : Entry B) (of_class : IsKey entry.key)
    (wants : Pair B → Bool) (wanted : IsOfEntry IsKey shape entry wants) (page slot : ℕ) (before marked : Bool) where
  fits_given : Seeks wants ((tree_of (store_of f d.seen v.shelf)).node page) (Here slot before) → 1 ≤ page → page ≤ v.shelf.used → is_imaged v.imaged page ≡ true
      → change_fits k (change_of f (SetMark entry.row (spelling entry.key) marked)) (given page (all_records s)) ≡ true
  unfolding change_of
  fits_given seeks low high bit =
      let a = read_of (bytes_then k said f passes d v bodies s keeps was page low high) in
      let then = passing_then k said f passes d v bodies s keeps was page low high in
      let old = (tree_of (store_of f d.seen v.shelf)).node page in
      let is_old : old ≡ node_of f a = node_then k said f passes d v bodies s keeps was page low high in
      let x = seeks.1.0 in
      let level : a.level ≡ 0 = sym (node_level f a) ∙ sym (ap (λ (n : Node B). n.level) is_old) ∙ seeks.0 in
      let leaf = leaf_is f v.shelf.pages a level (was.nodes v.shelf.pages a then.passing) in
      let at = subst (λ (n : Node B). slice_get n.pairs slot ≡ Some x) (is_old ∙ leaf_node f a level) seeks.1.1 in
      let key : IsKey x.key = of_class_at IsKey spelling f reads.hold a then.image.well_formed leaf slot x at in
      let is : is_entry (rules_of shape most) entry.row entry.key x ≡ true = sym (wanted x key) ∙ seeks.1.2 in
      small_fits k said f passes d v bodies s keeps was page low high bit (change_of f (SetMark entry.row (spelling entry.key) marked))
      (fits_here IsKey spelling f shape most reads a then.image.well_formed leaf entry of_class slot x at is)

  module _ {E : Type 0} (seen : List ℕ) (t : Shelf E) (own : k.own (page_of f (image_at seen t page)) ≡ page) (new : Store B)
      (sets : SetsMark wants (store_of f d.seen v.shelf) new page marked (Here slot before)) where
    told_by : (small : Bool) → is_imaged v.imaged page ≡ small → IsSaid k page (mark_told spelling f small entry marked page seen t) (all_records s)
    told_by true bit =
        let there = (sets.1 sets.0.1.0 sets.0.1.1).there in
        fits_given sets.0 there.0 (omega (arith, there.1, nodes_long (standing_node f v.shelf.frames d.seen) v.shelf.used)) bit
    told_by false bit = own

    pub mark_is_said : IsSaid k page (mark_told spelling f (is_imaged v.imaged page) entry marked page seen t) (all_records s)
    mark_is_said = told_by (is_imaged v.imaged page) refl
