-- What the record of an added pair says of its leaf, by the leaf's bit, and that this is true.
use Rattle.std.proofs.Common.{◌≡◌, ◌∙◌, sym, ap, refl, inl, inr, ℕ, ◌^◌, ◌≤◌, ◌<◌, Bool, true, false, ◌&&◌, ◌||◌, List, [], ◌∷◌, length, arith}
use Rattle.std.specs.Prelude.{nat_lt, not}
use Rattle.std.specs.List.{list_any}
use Rattle.std.proofs.lemmas.Bool.{cases_eq, lt-ltb}
use Rattle.gx_machine.specs.declared.entry.Entry.{Entry}
use Rattle.gx_disk.specs.Device.{Device}
use Rattle.gx_page.specs.Contents.{Contents}
use Rattle.gx_page.specs.Reading.{read_of}
use Rattle.gx_node.specs.Legal.{Legal}
use Rattle.gx_node.specs.Lists.{how_many, one_if, sum_over}
use Rattle.gx_node.specs.Trees.{Node, Pair, Rules, Tree, Used, is_entry, leaves, standing, times}
use Rattle.gx_node.proofs.Chains.{one_off}
use Rattle.gx_node.specs.Reading.{Format, is_leaf, leaf_of}
use Rattle.gx_node.specs.Small.{pair_fits}
use Rattle.gx_node.specs.SmallLaws.{PairsMean, Spells}
use Rattle.gx_node.specs.Store.{tree_of}
use Rattle.gx_recovery.specs.Coming.{IsSaid}
use Rattle.gx_recovery.specs.Known.{Known}
use Rattle.gx_recovery.specs.Logged.{Logged, all_records}
use Rattle.gx_recovery.specs.Records.{Record, Said, Small, Whole, Write}
use Rattle.gx_index_laws.specs.Classes.{Page}
use Rattle.gx_durable.specs.Small.{AddPair}
use Rattle.gx_durable.specs.Spelled.{record_read}
use Rattle.gx_durable.specs.Classes.{change_of, page_of, reading_of}
use Rattle.gx_store.specs.Standing.{store_of}
use Rattle.gx_store.specs.State.{Shelf}
use Rattle.gx_storage.specs.Changes.{image_at}
use Rattle.gx_storage.specs.Imaged.{is_imaged}
use Rattle.gx_storage.specs.Keeps.{Keeps}
use Rattle.gx_storage.specs.Small.{add_said}
use Rattle.gx_storage.specs.State.{Volume}
use Rattle.gx_storage.proofs.Recording.{AreNodes}
use Rattle.gx_storage.proofs.SmallFits.{add_fits}
use Rattle.gx_storage.proofs.SmallLeaf.{bytes_then, leaf_is, leaf_node, node_level, node_then, passing_then}

-- what it says: the change alone, or the leaf after it
abbrev pub add_told : {B D : Type 0} → (B → List ℕ) → Format B → Bool → Entry B → ℕ → List ℕ → Shelf D → Said (Page B)
add_told spelling f true entry leaf seen s = Small (change_of f (AddPair entry.row (spelling entry.key)))
add_told spelling f false entry leaf seen s = Whole (page_of f (image_at seen s leaf))

-- it is read so
pub add_read : {B D : Type 0} (said : List ℕ → B) (spelling : B → List ℕ) (f : Format B) (small : Bool) (transaction its : ℕ) (entry : Entry B) (leaf : ℕ) (seen : List ℕ) (s : Shelf D)
    → transaction ≡ its → said (spelling entry.key) ≡ entry.key
    → record_read (reading_of said f) (add_said spelling small transaction entry.row entry.key leaf seen s) ≡ Write its entry true false leaf (add_told spelling f small entry leaf seen s)
add_read {B} said spelling f true transaction its entry leaf seen s number back =
    ap (λ t. (let x : Record (Entry B) (Page B) = Write t (record { row = entry.row; key = said (spelling entry.key) }) true false leaf (add_told spelling f true entry leaf seen s) in x)) number
    ∙ ap (λ k. (let x : Record (Entry B) (Page B) = Write its (record { row = entry.row; key = k }) true false leaf (add_told spelling f true entry leaf seen s) in x)) back
add_read {B} said spelling f false transaction its entry leaf seen s number back =
    ap (λ t. (let x : Record (Entry B) (Page B) = Write t (record { row = entry.row; key = said (spelling entry.key) }) true false leaf (add_told spelling f false entry leaf seen s) in x)) number
    ∙ ap (λ k. (let x : Record (Entry B) (Page B) = Write its (record { row = entry.row; key = k }) true false leaf (add_told spelling f false entry leaf seen s) in x)) back

-- ---- a pair that no leaf has

by_first : (first rest b : Bool) → first ≡ b → (first ≡ true → ⊥) → rest ≡ false → (first || rest) ≡ false
by_first first rest true is never none = absurd (never is)
by_first first rest false is never none = ap (λ x. x || rest) is ∙ none

-- no pair of a list passes a test if none is counted
none_any : {X : Type 0} (test : X → Bool) (xs : List X) → how_many test xs ≡ 0 → list_any test xs ≡ false
none_any test [] none = refl
none_any test (x ∷ xs) none = by_first (test x) (list_any test xs) (test x) refl (λ is. omega (arith, ap one_if is, none)) (none_any test xs (omega (arith, none)))

-- what a page of a chain brings is part of the chain's sum
part_of : (f : ℕ → ℕ) (a : ℕ) (xs : List ℕ) → 0 < times a xs → f a ≤ sum_over f xs
part_of f a [] some = absurd (omega (arith, some))
part_of f a (x ∷ xs) some = elim (cases_eq x a) [
  | inl same ↦ let here = ap f same in omega (arith, here)
  | inr other ↦
      let none = one_off x a other in
      let rest = part_of f a xs (omega (arith, some, none)) in
      omega (arith, rest)
]

-- if no pair of a legal tree passes, none of a leaf does
none_on : {B : Type 0} (r : Rules B) (t : Tree B) → Legal r t → (test : Pair B → Bool) → standing test t ≡ 0 → (a : ℕ) → Used t a → (t.node a).level ≡ 0
    → list_any test (t.node a).pairs ≡ false
none_on r t legal test none a used leaf =
    let once = legal.once a used leaf in
    let part = part_of (λ q. how_many test (t.node q).pairs) a (leaves t) (omega (arith, once)) in
    none_any test (t.node a).pairs (omega (arith, part, none))

all_so : (a b c : Bool) → a ≡ true → b ≡ true → c ≡ false → (a && (b && not c)) ≡ true
all_so a b c first next none = ap (λ x. x && (b && not c)) first ∙ ap (λ x. x && not c) next ∙ ap not none

module _ {B D : Type 0} (k : Known (Entry B) (Page B)) (said : List ℕ → B) (f : Format B) (passes : ℕ → Contents → Bool) (d : Device) (v : Volume D)
    (bodies : List (List (Record (Entry B) (Page B)))) (s : Logged (Entry B) (Page B)) (keeps : Keeps k (reading_of said f) f passes d v bodies s) (was : AreNodes f passes v.shelf)
    (page : ℕ) (used : Used (tree_of (store_of f d.seen v.shelf)) page) (low : 1 ≤ page) (high : page ≤ v.shelf.used)
    (r : Rules B) (means : PairsMean f r) (legal : Legal r (tree_of (store_of f d.seen v.shelf))) (leaf : ((tree_of (store_of f d.seen v.shelf)).node page).level ≡ 0) where
  -- the leaf that was read
  abbrev then_read : Contents
  then_read = read_of (bytes_then k said f passes d v bodies s keeps was page low high)

  abbrev node : Node B
  node = (tree_of (store_of f d.seen v.shelf)).node page

  its_level : then_read.level ≡ 0
  its_level =
      sym (node_level f then_read) ∙ sym (ap (λ (n : Node B). n.level) (node_then k said f passes d v bodies s keeps was page low high)) ∙ leaf

  its_leaf : is_leaf f then_read ≡ true
  its_leaf =
      leaf_is f v.shelf.pages then_read its_level
      (was.nodes v.shelf.pages then_read (passing_then k said f passes d v bodies s keeps was page low high).passing)

  its_pairs : node.pairs ≡ (leaf_of f then_read).pairs
  its_pairs = ap (λ (n : Node B). n.pairs) (node_then k said f passes d v bodies s keeps was page low high ∙ leaf_node f then_read its_level)

  -- A pair that is in no leaf fits a leaf that has room.
  pair_fits_there : (row : ℕ) (key : B) (bytes : List ℕ) → row < 2 ^ 64 → Spells f bytes key → standing (is_entry r row key) (tree_of (store_of f d.seen v.shelf)) ≡ 0
      → length node.pairs < k.most → pair_fits f k.most row bytes then_read ≡ true
  pair_fits_there row key bytes fits spells absent room =
      let mean = means k.most row bytes key then_read fits spells (passing_then k said f passes d v bodies s keeps was page low high).image.well_formed in
      let more = ap (λ (ps : List (Pair B)). length ps) its_pairs in
      mean.fits
      ∙ all_so (is_leaf f then_read) (nat_lt (length (leaf_of f then_read).pairs) k.most) (list_any (is_entry r row key) (leaf_of f then_read).pairs) its_leaf
      (lt-ltb (length (leaf_of f then_read).pairs) k.most (omega (arith, more, room)))
      (ap (λ (ps : List (Pair B)). list_any (is_entry r row key) ps) (sym its_pairs)
      ∙ none_on r (tree_of (store_of f d.seen v.shelf)) legal (is_entry r row key) absent page used leaf)

  -- So what the record says of the leaf is of it.
  module _ {E : Type 0} (spelling : B → List ℕ) (entry : Entry B) (seen : List ℕ) (t : Shelf E) (fits : entry.row < 2 ^ 64) (spells : Spells f (spelling entry.key) entry.key)
      (absent : standing (is_entry r entry.row entry.key) (tree_of (store_of f d.seen v.shelf)) ≡ 0) (room : length node.pairs < k.most)
      (own : k.own (page_of f (image_at seen t page)) ≡ page) where
    told_by : (small : Bool) → is_imaged v.imaged page ≡ small → IsSaid k page (add_told spelling f small entry page seen t) (all_records s)
    told_by true bit =
        add_fits k said f passes d v bodies s keeps was page low high bit entry.row (spelling entry.key)
        (pair_fits_there entry.row entry.key (spelling entry.key) fits spells absent room)
    told_by false bit = own

    pub add_is_said : IsSaid k page (add_told spelling f (is_imaged v.imaged page) entry page seen t) (all_records s)
    add_is_said = told_by (is_imaged v.imaged page) refl
