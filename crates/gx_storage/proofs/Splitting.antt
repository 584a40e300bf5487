-- Several pages that were changed, with the record that gives them; and what a split leaves.
use Rattle.std.proofs.Common.{◌≡◌, ◌≢◌, ◌∙◌, sym, ap, refl, subst, inl, inr, ℕ, suc, ◌+◌, ◌^◌, ◌<◌, ◌≤◌, Bool, true, false, ◌||◌, ◌==◌, List, [], ◌∷◌, length, length-append, arith}
use Rattle.std.specs.Prelude.{if◌then◌else◌, nat_lt, min, max}
use Rattle.std.specs.List.{list_any}
use Rattle.std.proofs.lemmas.Bool.{cases_lt, eqb-false}
use Rattle.std.proofs.lemmas.List.{length-map}
use Rattle.gx_machine.specs.declared.entry.Entry.{Entry}
use Rattle.gx_disk.specs.Device.{Device}
use Rattle.gx_page.specs.Contents.{Contents}
use Rattle.gx_pool.specs.State.{kept}
use Rattle.gx_record.specs.Rec.{Pages}
use Rattle.gx_record.specs.Format.{IsInRange, IsPage}
use Rattle.gx_node.specs.Lists.{Each, staying, going}
use Rattle.gx_node.specs.Legal.{Legal}
use Rattle.gx_node.specs.Trees.{Node, Rules, Tree, Used, size}
use Rattle.gx_node.specs.Steps.{IsSplit, IsRootSplit, with_key}
use Rattle.gx_node.proofs.Sums.{length_parted}
use Rattle.gx_node.specs.Reading.{Format}
use Rattle.gx_tree.specs.Splitting.{DidSplit, DidSplitRoot}
use Rattle.gx_node.specs.Store.{Store, node_at, tree_of}
use Rattle.gx_tree.specs.declared.split.Split.{Split}
use Rattle.gx_tree.specs.declared.split_root.RootSplit.{RootSplit}
use Rattle.gx_recovery.specs.Known.{Known, Limits}
use Rattle.gx_recovery.proofs.Tests.{true_or_false, or_none_first, or_none_second}
use Rattle.gx_index_laws.specs.Classes.{Page}
use Rattle.gx_durable.specs.Spelled.{images_read}
use Rattle.gx_durable.specs.Stored.{images_of}
use Rattle.gx_durable.specs.Classes.{reading_of}
use Rattle.gx_store.specs.Since.{GoesOn, IsAsItWas, IsSince, IsStamped}
use Rattle.gx_store.specs.Standing.{nodes_to, standing_node, store_of}
use Rattle.gx_store.specs.State.{Shelf, IsHeld, IsSteady}
use Rattle.gx_store.proofs.Changing.{there}
use Rattle.gx_store.proofs.Listed.{nodes_long}
use Rattle.gx_store.proofs.Shown.{stands_kept}
use Rattle.gx_storage.specs.Changes.{IsLogged, begun, has_room}
use Rattle.gx_storage.specs.Numbers.{HasOwnNumber}
use Rattle.gx_storage.specs.Giving.{IsGiven, contents_at, pages_given, placed, rising}
use Rattle.gx_storage.specs.Journal.{IsLast}
use Rattle.gx_storage.specs.State.{Journal, Volume, journal_of, volume}
use Rattle.gx_storage.proofs.Giving.{AreThere, pages_stay_with}
use Rattle.gx_storage.proofs.Recording.{AreNodes}
use Rattle.gx_storage.proofs.OnlyReads.{since_begun}
use Rattle.gx_storage.proofs.Writing.{same_node}

-- ---- three pages by rising number

-- whether a page is among some
abbrev pub is_among : ℕ → List ℕ → Bool
is_among q pages = list_any (λ p. p == q) pages

-- what isn't among some pages and one that was placed there is neither that one nor among the others
not_placed : (q a : ℕ) (pages : List ℕ) → is_among q (placed a pages) ≡ false → ((a == q) ≡ false) × (is_among q pages ≡ false)
not_placed q a [] is = (or_none_first (a == q) false is, refl)
not_placed q a (b ∷ rest) is =
    let at : (t : Bool) → nat_lt a b ≡ t → is_among q (if t then a ∷ b ∷ rest else b ∷ placed a rest) ≡ false =
    λ t same. sym (ap (λ x. is_among q (if x then a ∷ b ∷ rest else b ∷ placed a rest)) same) ∙ is in
    elim (true_or_false (nat_lt a b)) [
      | inl less ↦ (or_none_first (a == q) (is_among q (b ∷ rest)) (at true less), or_none_second (a == q) (is_among q (b ∷ rest)) (at true less))
      | inr more ↦
          let below = not_placed q a rest (or_none_second (b == q) (is_among q (placed a rest)) (at false more)) in
          (below.0, rw (or_none_first (b == q) (is_among q (placed a rest)) (at false more), below.1) refl)
    ]

pub rising_apart : (a b c q : ℕ) → is_among q (rising a b c) ≡ false → (q ≢ a) × (q ≢ b) × (q ≢ c)
rising_apart a b c q is =
    let one = not_placed q c (min a b ∷ max a b ∷ []) is in
    let low = eqb-false (min a b) q (or_none_first (min a b == q) (is_among q (max a b ∷ [])) one.1) in
    let high = eqb-false (max a b) q (or_none_first (max a b == q) false (or_none_second (min a b == q) (is_among q (max a b ∷ [])) one.1)) in
    let last = eqb-false c q one.0 in
    (λ same. absurd (omega (arith, same, low, high)), λ same. absurd (omega (arith, same, low, high)), λ same. last (sym same))

pub three_apart : (a b c q : ℕ) → is_among q (a ∷ b ∷ c ∷ []) ≡ false → (q ≢ a) × (q ≢ b) × (q ≢ c)
three_apart a b c q is =
    let rest = or_none_second (a == q) (is_among q (b ∷ c ∷ [])) is in
    let one = eqb-false a q (or_none_first (a == q) (is_among q (b ∷ c ∷ [])) is) in
    let two = eqb-false b q (or_none_first (b == q) (is_among q (c ∷ [])) rest) in
    let three = eqb-false c q (or_none_first (c == q) false (or_none_second (b == q) (is_among q (c ∷ [])) rest)) in
    (λ same. one (sym same), λ same. two (sym same), λ same. three (sym same))

module _ (P : ℕ → Type 0) where
  placed_each : (a : ℕ) (pages : List ℕ) → P a → Each P pages → Each P (placed a pages)
  placed_each a [] one rest = (one, tt)
  placed_each a (b ∷ pages) one rest = elim (true_or_false (nat_lt a b)) [
    | inl less ↦ subst {A = Bool} (λ t. Each P (if t then a ∷ b ∷ pages else b ∷ placed a pages)) (sym less) (one, rest)
    | inr more ↦ subst {A = Bool} (λ t. Each P (if t then a ∷ b ∷ pages else b ∷ placed a pages)) (sym more) (rest.0, placed_each a pages one rest.1)
  ]

  both_each : (a b : ℕ) → P a → P b → Each P (min a b ∷ max a b ∷ [])
  both_each a b one two = elim (cases_lt a b) [
    | inl less ↦
        let low : a ≡ min a b = omega (arith, less) in
        let high : b ≡ max a b = omega (arith, less) in
        (subst P low one, (subst P high two, tt))
    | inr more ↦
        let low : b ≡ min a b = omega (arith, more) in
        let high : a ≡ max a b = omega (arith, more) in
        (subst P low two, (subst P high one, tt))
  ]

  -- what holds of three pages holds of them by rising number
  pub rising_each : (a b c first second third : ℕ) → first ∷ second ∷ third ∷ [] ≡ rising a b c → P a → P b → P c → P first × P second × P third
  rising_each a b c first second third these one two three =
      let all = subst {A = List ℕ} (λ pages. Each P pages) (sym these) (placed_each c (min a b ∷ max a b ∷ []) three (both_each a b one two)) in
      (all.0, all.1.0, all.1.1.0)

-- ---- some pages with their record

module _ {D : Type 0} (passes : ℕ → Contents → Bool) (state : D → Device) (v : Volume D) (size : ℕ) (t : Shelf D) where
  -- a store has gone on since its event began, with each page unchanged but these
  pub record SteppedBut (pages : List ℕ) : Type 0 where
    pub goes_on : GoesOn passes (state v.shelf.disk) (state t.disk) (begun v size) t
    pub others : (q : ℕ) → is_among q pages ≡ false → IsAsItWas (state v.shelf.disk) (state t.disk) v.shelf.frames t.frames q

  pub stepped_three : (u : Shelf D) (a b c : ℕ) (pages : List ℕ) → u ≡ begun v size
      → ((was : Shelf D) (q : ℕ) → q ≢ a → q ≢ b → q ≢ c → IsSince passes (state was.disk) (state u.disk) was u q → IsSince passes (state was.disk) (state t.disk) was t q)
      → ((q : ℕ) → is_among q pages ≡ false → (q ≢ a) × (q ≢ b) × (q ≢ c)) → SteppedBut pages
  stepped_three u a b c pages is keeps apart =
      let beside = suc (a + (b + c)) in
      record {
        goes_on = (since_begun passes state v t u v.log.used beside (has_room v.log size) is (λ was. keeps was beside (omega arith) (omega arith) (omega arith))).goes_on;
        others = λ q other. (let one = apart q other in (since_begun passes state v t u v.log.used q (has_room v.log size) is (λ was. keeps was q one.0 one.1 one.2)).same);
      }

  -- a node, its parent and a new sibling, by rising number
  pub split_stepped : (u : Shelf D) (a b c sibling : ℕ) → u ≡ begun v size → c ≡ sibling
      → ((was : Shelf D) (q : ℕ) → q ≢ a → q ≢ b → q ≢ c → IsSince passes (state was.disk) (state u.disk) was u q → IsSince passes (state was.disk) (state t.disk) was t q)
      → SteppedBut (rising a b sibling)
  split_stepped u a b c sibling is same keeps =
      subst {A = ℕ} (λ x. SteppedBut (rising a b x)) same (stepped_three u a b c (rising a b c) is keeps (λ q other. rising_apart a b c q other))

  -- the root and two new pages
  pub root_stepped : (u : Shelf D) (b c first second : ℕ) → u ≡ begun v size → b ≡ first → c ≡ second
      → ((was : Shelf D) (q : ℕ) → q ≢ 1 → q ≢ b → q ≢ c → IsSince passes (state was.disk) (state u.disk) was u q → IsSince passes (state was.disk) (state t.disk) was t q)
      → SteppedBut (1 ∷ first ∷ second ∷ [])
  root_stepped u b c first second is one two keeps =
      subst {A = ℕ} (λ x. SteppedBut (1 ∷ x ∷ second ∷ [])) one
      (subst {A = ℕ} (λ x. SteppedBut (1 ∷ b ∷ x ∷ [])) two (stepped_three u 1 b c (1 ∷ b ∷ c ∷ []) is keeps (λ q other. three_apart 1 b c q other)))

module _ {B D : Type 0} (known : Limits → Known (Entry B) (Page B)) (said : List ℕ → B) (f : Format B) (passes : ℕ → Contents → Bool) (state : D → Device) (v : Volume D) (size : ℕ) (t : Shelf D) where
  all_there : (pages : List ℕ) → Each (IsGiven (state t.disk).seen t) pages → AreThere t.frames t.used (contents_at (state t.disk).seen t pages)
  all_there [] given = tt
  all_there (page ∷ pages) given =
      let one = there (kept t.frames page) given.0.held.kept in (
        record {
          j = one.0;
          is = one.1;
          same = sym (stands_kept t.frames (state t.disk).seen page one.0 given.0.held.stays one.1);
          well = given.0.well;
          low = given.0.held.from;
          high = given.0.held.to;
        },
        all_there pages given.1,
      )

  -- the pages that a record gives
  among_given : (q : ℕ) (pages : List ℕ) → list_any (λ i. i.page == q) (images_read (reading_of said f) (images_of (contents_at (state t.disk).seen t pages))) ≡ is_among q pages
  among_given q [] = refl
  among_given q (page ∷ pages) = ap (λ b. (page == q) || b) (among_given q pages)

  pub logged_pages : (pages : List ℕ) (j : Journal) → SteppedBut passes state v size t pages → Each (IsGiven (state t.disk).seen t) pages → AreNodes f passes t
      → IsLast known (reading_of said f) (pages_given pages (state t.disk).seen t) (journal_of v) j
      → IsLogged known (reading_of said f) f passes size (state v.shelf.disk) (state t.disk) v (volume j t v.most) (pages_given pages (state t.disk).seen t)
  logged_pages pages j did given right last = record {
    logs = last.logs;
    keeps = λ l bodies s lawful keeps.
        pages_stay_with (known l) said f passes (state v.shelf.disk) (state t.disk) v v.log.used (has_room v.log size) t bodies s lawful keeps did.goes_on (omega arith) right
        known l refl (contents_at (state t.disk).seen t pages) j v.most (all_there pages given) last
        (λ q other. did.others q (sym (among_given q pages) ∙ other));
    goes_on = did.goes_on;
    others = λ q other. did.others q (sym (among_given q pages) ∙ other);
    most = refl;
    imaged = last.imaged;
  }

  -- the same of the pages in another spelling
  pub logged_these : (these pages : List ℕ) (j : Journal) → these ≡ pages → SteppedBut passes state v size t pages → Each (IsGiven (state t.disk).seen t) these → AreNodes f passes t
      → IsLast known (reading_of said f) (pages_given these (state t.disk).seen t) (journal_of v) j
      → IsLogged known (reading_of said f) f passes size (state v.shelf.disk) (state t.disk) v (volume j t v.most) (pages_given pages (state t.disk).seen t)
  logged_these these pages j same did given right last =
      logged_pages pages j did (subst {A = List ℕ} (λ x. Each (IsGiven (state t.disk).seen t) x) same given) right
      (subst {A = List ℕ} (λ x. IsLast known (reading_of said f) (pages_given x (state t.disk).seen t) (journal_of v) j) same last)

-- three pages in a record are in range
pub three_in_range : (counter used : ℕ) (x y z : ℕ × List ℕ) → counter < 2 ^ 64 → used < 2 ^ 32 → x.0 < y.0 → y.0 < z.0 → IsPage x → IsPage y → IsPage z
    → IsInRange (Pages counter used (x ∷ y ∷ z ∷ []))
three_in_range counter used x y z counter_fits used_fits low high first second third =
    (counter_fits, used_fits, omega arith, omega arith, (omega arith, first, (omega (arith, low), second, (omega (arith, high), third, tt))))

pub three_same : (counter used m n : ℕ) (x y z a b c : ℕ × List ℕ) → counter ≡ m → used ≡ n → x ≡ a → y ≡ b → z ≡ c → Pages counter used (x ∷ y ∷ z ∷ []) ≡ Pages m n (a ∷ b ∷ c ∷ [])
three_same counter used m n x y z a b c one two first second third =
    ap (λ k. Pages k used (x ∷ y ∷ z ∷ [])) one ∙ ap (λ k. Pages m k (x ∷ y ∷ z ∷ [])) two
    ∙ ap (λ (p : ℕ × List ℕ). Pages m n (p ∷ y ∷ z ∷ [])) first ∙ ap (λ (p : ℕ × List ℕ). Pages m n (a ∷ p ∷ z ∷ [])) second ∙ ap (λ (p : ℕ × List ℕ). Pages m n (a ∷ b ∷ p ∷ [])) third

-- ---- the stamps

-- what the steps see of a store isn't changed as its event begins
pub store_begun : {B D : Type 0} (f : Format B) (state : D → Device) (v : Volume D) (size : ℕ) (u : Shelf D) → u ≡ begun v size → store_of f (state u.disk).seen u ≡ store_of f (state v.shelf.disk).seen v.shelf
store_begun f state v size u is = ap (λ (x : Shelf _). store_of f (state x.disk).seen x) is

-- a page whose node is another has the batch as its stamp
pub changed_stamped : {B D : Type 0} (f : Format B) (passes : ℕ → Contents → Bool) (state : D → Device) (v : Volume D) (size : ℕ) (t : Shelf D) (page : ℕ)
    → GoesOn passes (state v.shelf.disk) (state t.disk) (begun v size) t → IsSteady (state v.shelf.disk) v.shelf.frames → 1 ≤ page → page ≤ v.shelf.used → page ≤ t.used
    → ((tree_of (store_of f (state t.disk).seen t)).node page ≢ (tree_of (store_of f (state v.shelf.disk).seen v.shelf)).node page) → IsStamped v.log.used v.shelf.frames t.frames page
changed_stamped f passes state v size t page on steady low high now other = elim (on.each page) [
  | inl same ↦ absurd (other (same_node f (state t.disk).seen (state v.shelf.disk).seen v.shelf t page low high now (same.stands steady)))
  | inr changed ↦ changed
]

module _ {B : Type 0} (r : Rules B) (old new : Tree B) where
  -- a node that is split has fewer entries
  pub split_shrinks : (n p : ℕ) (sides : List Bool) (left right : B) → IsSplit r old new n p sides left right → new.node n ≢ old.node n
  split_shrinks n p sides left right did same =
      let pairs : length (staying sides (old.node n).pairs) ≡ length (old.node n).pairs = sym (ap (λ (x : Node B). length x.pairs) did.split) ∙ ap (λ (x : Node B). length x.pairs) same in
      let children : length (staying sides (old.node n).children) ≡ length (old.node n).children =
      sym (ap (λ (x : Node B). length x.children) did.split) ∙ ap (λ (x : Node B). length x.children) same in
      let some : 0 < length (going sides (old.node n).pairs) + length (going sides (old.node n).children) = subst {A = Node B} (λ x. 0 < size x) did.sibling did.right_some in
      omega (arith, pairs, children, some, length_parted sides (old.node n).pairs, length_parted sides (old.node n).children)

  -- and its parent has one more
  pub parent_grows : (n p : ℕ) (sides : List Bool) (left right : B) → IsSplit r old new n p sides left right → new.node p ≢ old.node p
  parent_grows n p sides left right did same =
      let more = length-append (with_key n left (old.node p).children) (record { key = right; page = suc old.used } ∷ []) in
      let long = length-map (old.node p).children (λ c. if c.page == n then record { key = left; page = c.page } else c) in
      let now = sym (ap (λ (x : Node B). length x.children) did.named) ∙ ap (λ (x : Node B). length x.children) same in
      omega (arith, more, long, now)

  -- a root that is split rises
  pub root_rises : (sides : List Bool) (left right : B) → IsRootSplit r old new sides left right → new.node 1 ≢ old.node 1
  root_rises sides left right did same =
      let now : suc (old.node 1).level ≡ (old.node 1).level = sym (ap (λ (x : Node B). x.level) did.root) ∙ ap (λ (x : Node B). x.level) same in
      omega (arith, now)

-- ---- what a split leaves, since before its event began

module _ {B D : Type 0} (f : Format B) (passes : ℕ → Contents → Bool) (state : D → Device) (v : Volume D) (size : ℕ) (t : Shelf D) where
  module _ (r : Rules B) (sides_of : List B → ℕ → List Bool) (on : GoesOn passes (state v.shelf.disk) (state t.disk) (begun v size) t) (steady : IsSteady (state v.shelf.disk) v.shelf.frames) where
    -- a node that was split and its parent have the batch as their stamp
    both_stamped : (page parent : ℕ) (d : Split B) → IsHeld t page → IsHeld t parent → (d.sibling ≢ page) → (d.sibling ≢ parent)
        → DidSplit r sides_of (store_of f (state v.shelf.disk).seen v.shelf) (store_of f (state t.disk).seen t) page parent d
        → IsStamped v.log.used v.shelf.frames t.frames page × IsStamped v.log.used v.shelf.frames t.frames parent
    both_stamped page parent d one two first second did =
        let old = tree_of (store_of f (state v.shelf.disk).seen v.shelf) in
        let new = tree_of (store_of f (state t.disk).seen t) in
        let was = nodes_long (standing_node f v.shelf.frames (state v.shelf.disk).seen) v.shelf.used in
        let now = nodes_long (standing_node f t.frames (state t.disk).seen) t.used in
        let more : t.used ≡ suc v.shelf.used = omega (arith, did.split.used, was, now) in
        let next : d.sibling ≡ suc v.shelf.used = omega (arith, did.sibling, was) in (
          changed_stamped f passes state v size t page on steady one.from (omega (arith, one.to, more, next, first)) one.to (split_shrinks r old new page parent _ _ _ did.split),
          changed_stamped f passes state v size t parent on steady two.from (omega (arith, two.to, more, next, second)) two.to (parent_grows r old new page parent _ _ _ did.split),
        )

    pub split_stamped : (u : Shelf D) (page parent : ℕ) (d : Split B) → u ≡ begun v size → IsHeld t page → IsHeld t parent → (d.sibling ≢ page) → (d.sibling ≢ parent)
        → DidSplit r sides_of (store_of f (state u.disk).seen u) (store_of f (state t.disk).seen t) page parent d
        → IsStamped v.log.used v.shelf.frames t.frames page × IsStamped v.log.used v.shelf.frames t.frames parent
    split_stamped u page parent d is one two first second did = both_stamped page parent d one two first second
        (subst {A = Store B} (λ s. DidSplit r sides_of s (store_of f (state t.disk).seen t) page parent d) (store_begun f state v size u is) did)

    -- and so has a root that was split
    pub root_stamped : (u : Shelf D) (d : RootSplit B) → u ≡ begun v size → IsHeld t 1 → 1 ≤ v.shelf.used → DidSplitRoot r sides_of (store_of f (state u.disk).seen u) (store_of f (state t.disk).seen t) d
        → IsStamped v.log.used v.shelf.frames t.frames 1
    root_stamped u d is held low did =
        let made = subst {A = Store B} (λ s. DidSplitRoot r sides_of s (store_of f (state t.disk).seen t) d) (store_begun f state v size u is) did in
        changed_stamped f passes state v size t 1 on steady (omega arith) low held.to
        (root_rises r (tree_of (store_of f (state v.shelf.disk).seen v.shelf)) (tree_of (store_of f (state t.disk).seen t)) _ _ _ made.split)

-- a split isn't refused as damaged in a legal tree, of a full node that is taken and a taken inner node above it, before the last split
abbrev pub IsNeverDamaged : {B : Type 0} → Rules B → Store B → ℕ → ℕ → Type 0
IsNeverDamaged r s page parent = Legal r (tree_of s) → Used (tree_of s) page → Used (tree_of s) parent → page ≢ parent → 0 < (node_at s.nodes parent).level → r.most ≤ size (node_at s.nodes page)
    → s.counter + 1 < 2 ^ 64 → ⊥

-- nor is one of a full root whose level can rise
abbrev pub IsRootNeverDamaged : {B : Type 0} → Rules B → Store B → Type 0
IsRootNeverDamaged r s = Legal r (tree_of s) → r.most ≤ size (node_at s.nodes 1) → (node_at s.nodes 1).level + 1 < 2 ^ 16 → ⊥

module _ {B D : Type 0} (f : Format B) (state : D → Device) (v : Volume D) (size : ℕ) (u : Shelf D) (is : u ≡ begun v size) where
  pub begun_long : length (store_of f (state u.disk).seen u).nodes ≡ v.shelf.used
  begun_long = nodes_long (standing_node f u.frames (state u.disk).seen) u.used ∙ ap (λ (x : Shelf D). x.used) is

  pub begun_pages : u.pages ≡ v.shelf.pages
  begun_pages = ap (λ (x : Shelf D). x.pages) is

  -- if a refusal as damaged is false of what the steps see then, it is false of what they saw before
  pub damaged_since : (r : Rules B) (page parent : ℕ) → IsNeverDamaged r (store_of f (state u.disk).seen u) page parent → IsNeverDamaged r (store_of f (state v.shelf.disk).seen v.shelf) page parent
  damaged_since r page parent never = subst {A = Store B} (λ s. IsNeverDamaged r s page parent) (store_begun f state v size u is) never

  pub root_damaged_since : (r : Rules B) → IsRootNeverDamaged r (store_of f (state u.disk).seen u) → IsRootNeverDamaged r (store_of f (state v.shelf.disk).seen v.shelf)
  root_damaged_since r never = subst {A = Store B} (λ s. IsRootNeverDamaged r s) (store_begun f state v size u is) never

-- a tree without pages has no root
pub no_root : {B D : Type 0} (f : Format B) (seen : List ℕ) (s : Shelf D) (r : Rules B) → s.used ≡ 0 → Legal r (tree_of (store_of f seen s)) → ⊥
unfolding nodes_to
no_root f seen s r none legal =
    let level : (node_at (nodes_to (standing_node f s.frames seen) s.used) 1).level ≡ 0 = ap (λ n. (node_at (nodes_to (standing_node f s.frames seen) n) 1).level) none in
    omega (arith, level, legal.root)

-- each of the pages that are given has its own number in its image
pub all_own : {D : Type 0} (seen : List ℕ) (s : Shelf D) (these pages : List ℕ) → these ≡ pages → Each (IsGiven seen s) these → Each (HasOwnNumber seen s) pages
all_own seen s these pages same given = subst {A = List ℕ} (λ x. Each (HasOwnNumber seen s) x) same (own_numbers these given)
  where
    own_numbers : (xs : List ℕ) → Each (IsGiven seen s) xs → Each (HasOwnNumber seen s) xs
    own_numbers [] given = tt
    own_numbers (x ∷ xs) given = (given.0.own, own_numbers xs given.1)
