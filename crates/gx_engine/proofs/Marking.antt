-- A pair of the log's tree that is sought in the tree that pages show, and its mark that is set there. There is no engine in this.
use Rattle.std.proofs.Common.{◌≡◌, ◌≢◌, ◌∙◌, sym, ap, refl, subst, ℕ, zero, suc, ◌<◌, ◌≤◌, Bool, not, ◌&&◌, true, false, List, [], ◌∷◌, Some, arith}
use Rattle.std.specs.Prelude.{◌==◌, if◌then◌else◌, slice_get}
use Rattle.std.specs.Ordering.{is_eq}
use Rattle.std.proofs.lemmas.Bool.{ne_eqb}
use Rattle.gx_machine.specs.declared.entry.Entry.{Entry}
use Rattle.gx_disk.specs.Device.{Device}
use Rattle.gx_page.specs.Contents.{Contents}
use Rattle.gx_node.specs.Reading.{Format}
use Rattle.gx_node.specs.Alike.{AgreeOnUsed}
use Rattle.gx_node.specs.Legal.{Legal}
use Rattle.gx_node.specs.Lists.{Each, how_many, one_if}
use Rattle.gx_node.specs.Steps.{IsMarking, Marks}
use Rattle.gx_node.specs.Trees.{Node, Pair, Tree, Used}
use Rattle.gx_node.proofs.AlikeSteps.{step_too}
use Rattle.gx_node.proofs.AlikeTrees.{agree_back, legal_too, used_back}
use Rattle.gx_node.specs.Keyed.{AreKeys}
use Rattle.gx_tree.specs.Seeking.{Seeks}
use Rattle.gx_tree.specs.Writing.{SetsMark}
use Rattle.gx_tree.specs.declared.seek.Sought.TheVariants.{Here, Right}
use Rattle.gx_tree.proofs.Marking.{marking}
use Rattle.gx_recovery.specs.Logged.{Logged, all_records, appended}
use Rattle.gx_recovery.specs.Records.{Record, Said, Write}
use Rattle.gx_recovery.specs.Redo.{redone, said_over}
use Rattle.gx_recovery.proofs.Folds.{redone-snoc}
use Rattle.gx_index_laws.specs.Classes.{Class, IsLawful, Page, is_live, is_of, known_of}
use Rattle.gx_index_laws.specs.States.{tree_after}
use Rattle.gx_index_laws.proofs.Living.{live_by_pair}
use Rattle.gx_index_laws.proofs.Standing.{grown}
use Rattle.gx_index_laws.proofs.Tools.{SomeIn, some_in}
use Rattle.gx_store.specs.Standing.{store_of}
use Rattle.gx_durable.specs.Spelled.{Reading}
use Rattle.gx_storage.specs.Keeps.{tree_shown}
use Rattle.gx_storage.specs.State.{Volume}

-- a pair in a slot counts
pub slot_counts : {X : Type 0} (test : X → Bool) (xs : List X) (slot : ℕ) (x : X) → slice_get xs slot ≡ Some x → test x ≡ true → 0 < how_many test xs
slot_counts test [] slot x at passes = cc
slot_counts test (y ∷ ys) zero x at passes =
    let same : y ≡ x = cc in
    let one = ap (λ b. one_if b) (ap test same ∙ passes) in
    omega (arith, one)
slot_counts test (y ∷ ys) (suc slot) x at passes = let rest = slot_counts test ys slot x at passes in omega (arith, rest)

-- what holds of each holds of the pair in a slot
each_slot : {X : Type 0} (P : X → Type 0) (xs : List X) (slot : ℕ) (x : X) → slice_get xs slot ≡ Some x → Each P xs → P x
each_slot P [] slot x at each = cc
each_slot P (y ∷ ys) zero x at each = let same : y ≡ x = cc in subst P same each.0
each_slot P (y ∷ ys) (suc slot) x at each = each_slot P ys slot x at each.1

-- tests that are alike on what holds of each count alike
count_alike : {X : Type 0} (P : X → Type 0) (f g : X → Bool) → ((x : X) → P x → f x ≡ g x) → (xs : List X) → Each P xs → how_many f xs ≡ how_many g xs
count_alike P f g same [] each = refl
count_alike P f g same (x ∷ xs) each =
    let here = ap (λ b. one_if b) (same x each.0) in
    let rest = count_alike P f g same xs each.1 in
    omega (arith, here, rest)

-- A leaf of the tree that pages show, in which the pair of an entry is sought.
module _ {B : Type 0} (c : Class B) (law : IsLawful c) (IsKey : B → Type 0) (one other : Tree B) (agree : AgreeOnUsed one other) (keys : AreKeys IsKey other) (leaf : ℕ) (used : Used other leaf)
    (entry : Entry B) (wants : Pair B → Bool) (exact : (x : Pair B) → IsKey x.key → wants x ≡ ((x.row == entry.row) && is_eq (c.keys.cmp x.key entry.key))) where
  -- what is wanted is the entry's pair
  wants_entry : (x : Pair B) → IsKey x.key → wants x ≡ is_of c entry x
  wants_entry x key = exact x key ∙ ap (λ b. (x.row == entry.row) && b) (sym (law.same x.key entry.key))

  same_node : other.node leaf ≡ one.node leaf
  same_node = agree.nodes leaf (used_back one other agree leaf used)

  pub in_use : Used one leaf
  in_use = used_back one other agree leaf used

  -- it isn't in this leaf, and the next one is to the right
  pub right_none : (next : ℕ) → Seeks wants (other.node leaf) (Right next) → (how_many (is_of c entry) (one.node leaf).pairs ≡ 0) × (next ≡ (one.node leaf).right)
  right_none next sought = (
    ap (λ (n : Node B). how_many (is_of c entry) n.pairs) (sym same_node) ∙ sym (count_alike (λ x. IsKey x.key) wants (is_of c entry) wants_entry (other.node leaf).pairs (keys.pairs leaf used)) ∙ sought.1,
    sought.2 ∙ ap (λ (n : Node B). n.right) same_node,
  )

  -- It is in this leaf, with this mark.
  module _ (slot : ℕ) (before : Bool) (sought : Seeks wants (other.node leaf) (Here slot before)) where
    pub here_leaf : (one.node leaf).level ≡ 0
    here_leaf = ap (λ (n : Node B). n.level) (sym same_node) ∙ sought.0

    its_entry : is_of c entry sought.1.0 ≡ true
    its_entry = sym (wants_entry sought.1.0 (each_slot (λ x. IsKey x.key) (other.node leaf).pairs slot sought.1.0 sought.1.1 (keys.pairs leaf used))) ∙ sought.1.2

    -- so it counts for whatever it passes
    pub here_counts : (test : Pair B → Bool) → ((x : Pair B) → is_of c entry x ≡ true → x.marked ≡ before → test x ≡ true) → 0 < how_many test (one.node leaf).pairs
    here_counts test passes =
        subst (λ (n : Node B). 0 < how_many test n.pairs) same_node
        (slot_counts test (other.node leaf).pairs slot sought.1.0 sought.1.1 (passes sought.1.0 its_entry sought.1.3))

    -- and the entry is live by it, or not
    pub here_live : Legal c.rules one → is_live c one entry ≡ not before
    here_live legal =
        let some : SomeIn (λ x. is_of c entry x && of_mark before x.marked) (one.node leaf).pairs =
        some_in (λ x. is_of c entry x && of_mark before x.marked) (one.node leaf).pairs (here_counts (λ x. is_of c entry x && of_mark before x.marked) (λ x is at. both is (same_mark before x.marked at))) in
        live_by_pair c law one legal entry leaf in_use here_leaf some.before some.after some.one some.parts (first (is_of c entry some.one) (of_mark before some.one.marked) some.passes)
        ∙ ap not (mark_is before some.one.marked (second (is_of c entry some.one) (of_mark before some.one.marked) some.passes))
      where
        of_mark : Bool → Bool → Bool
        of_mark true m = m
        of_mark false m = not m

        same_mark : (b m : Bool) → m ≡ b → of_mark b m ≡ true
        same_mark true m at = at
        same_mark false m at = ap not at

        mark_is : (b m : Bool) → of_mark b m ≡ true → m ≡ b
        mark_is true m is = is
        mark_is false true is = cc
        mark_is false false is = refl

        both : {a b : Bool} → a ≡ true → b ≡ true → (a && b) ≡ true
        both {a} {b} x y = ap (λ p. p && b) x ∙ y

        first : (a b : Bool) → (a && b) ≡ true → a ≡ true
        first true b is = refl
        first false b is = cc

        second : (a b : Bool) → (a && b) ≡ true → b ≡ true
        second true b is = is
        second false b is = cc

-- A mark that was set in a leaf of the tree that pages show, and logged by a write that says how the leaf is then.
module _ {B D : Type 0} (c : Class B) (law : IsLawful c) (r : Reading (Entry B) (Page B)) (f : Format B) (passes : ℕ → Contents → Bool) (IsKey : B → Type 0)
    (d e : Device) (v w : Volume D) (log : Logged (Entry B) (Page B)) (transaction : ℕ) (entry : Entry B) (before marked : Bool) (leaf : ℕ) (said : Said (Page B)) where
  abbrev its_write : Record (Entry B) (Page B)
  its_write = Write transaction entry before marked leaf said

  -- each other page is as the log had it
  beside : (q : ℕ) → q ≢ leaf → (tree_after c (appended its_write log)).node q ≡ (tree_after c log).node q
  beside q other =
      let was = all_records log in
      ap (λ (rs : List (Record (Entry B) (Page B))). (redone log.area rs q).node) (grown its_write log)
      ∙ ap (λ (pages : ℕ → Page B). (pages q).node) (redone-snoc (known_of c) log.area was its_write)
      ∙ ap (λ b. (if b then said_over said (redone log.area was leaf) else redone log.area was q).node) (ne_eqb leaf q (λ same. other (sym same)))

  -- it is the tree's step
  pub marks_too : Legal c.rules (tree_after c log) → AgreeOnUsed (tree_after c log) (tree_shown (known_of c) r f passes d v) → AreKeys IsKey (tree_shown (known_of c) r f passes d v)
      → AgreeOnUsed (tree_after c (appended its_write log)) (tree_shown (known_of c) r f passes e w)
      → (wants : Pair B → Bool) → ((x : Pair B) → IsKey x.key → wants x ≡ ((x.row == entry.row) && is_eq (c.keys.cmp x.key entry.key)))
      → (slot : ℕ) → SetsMark wants (store_of f d.seen v.shelf) (store_of f e.seen w.shelf) leaf marked (Here slot before)
      → IsMarking c.rules (tree_after c log) (tree_after c (appended its_write log)) leaf entry.row entry.key marked
  marks_too legal agree keys agree_then wants exact slot sets =
      let one = tree_after c log in
      let other = tree_shown (known_of c) r f passes d v in
      let other_then = tree_shown (known_of c) r f passes e w in
      let legal_there : Legal c.rules other = legal_too c.rules one other agree legal in
      let changes = sets.1 sets.0.1.0 sets.0.1.1 in
      let used_now : Used other_then leaf = (changes.there.0, subst (λ n. leaf ≤ n) (sym changes.used) changes.there.1) in
      let wanted : Each (λ x. wants x ≡ is_of c entry x) (other.node leaf).pairs =
      each_wanted (other.node leaf).pairs (keys.pairs leaf changes.there) in
      let step : IsMarking c.rules other other_then leaf entry.row entry.key marked =
      marking c.rules (store_of f d.seen v.shelf) (store_of f e.seen w.shelf) legal_there leaf entry.row entry.key wants wanted slot before marked sets in
      step_too c.rules law.rules other other_then one (tree_after c (appended its_write log)) (agree_back one other agree) (agree_back _ other_then agree_then)
      (λ q unused. beside q (λ same. unused (subst (λ (p : ℕ). Used other_then p) (sym same) used_now))) legal_there (Marks leaf entry.row entry.key marked) step
    where
      each_wanted : (xs : List (Pair B)) → Each (λ x. IsKey x.key) xs → Each (λ x. wants x ≡ is_of c entry x) xs
      each_wanted [] each = tt
      each_wanted (x ∷ xs) each = (exact x each.0 ∙ ap (λ b. (x.row == entry.row) && b) (sym (law.same x.key entry.key)), each_wanted xs each.1)
