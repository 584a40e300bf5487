-- What a running index owes for each record that it appends.
use Rattle.std.specs.Prelude.{◌≡◌, ℕ, ◌≤◌, Bool, true, false, not, Some, List, [], ◌∷◌, ◌++◌, length, filter}
use Rattle.std.specs.List.{list_all}
use Rattle.gx_recovery.specs.Known.{Known, Tree, same}
use Rattle.gx_recovery.specs.Records.{Image, Change, Said, Whole, Small, Record, Pages, Adjust, Write, Commit, End, Counters, Note, Touch}
use Rattle.gx_recovery.specs.Analysis.{analysis, touching, lists}
use Rattle.gx_recovery.specs.Redo.{tree_of}
use Rattle.gx_recovery.specs.Given.{given, change_fits}
use Rattle.gx_recovery.specs.Standing.{own_before}
use Rattle.gx_recovery.specs.Damage.{transactions, is_page, image_fits, is_open, follows}
use Rattle.gx_recovery.specs.declared.TheConstants.{TRANSACTIONS, TOUCHED}

-- no entry's being live differs
abbrev pub LiveAlike : {E P : Type 0} → Known E P → Tree P → Tree P → Type 0
LiveAlike {E} k old new = (e : E) → k.live new e ≡ k.live old e

-- a write finds the mark that it says and leaves the one that it says, and no other entry changes
pub record WritesOne {E P : Type 0} (k : Known E P) (entry : E) (before after : Bool) (old new : Tree P) : Type 0 where
  pub found : k.live old entry ≡ not before
  pub left : k.live new entry ≡ not after
  pub others : (e : E) → same k e entry ≡ false → k.live new e ≡ k.live old e

-- what transaction t had touched of this entry is as it was before
abbrev pub Restored : {E P : Type 0} → Known E P → ℕ → Tree P → List (Record E P) → E → Type 0
Restored k t tree log e = (before : Bool) → own_before k t e log ≡ Some before → k.live tree e ≡ not before

-- A record after a log says what was done from the old tree to the new one: pages and small changes of
-- no transaction leave every entry as live as it was, a write changes its entry alone, and where a transaction ends, all that it had touched is as it was before.
abbrev pub IsExact : {E P : Type 0} → Known E P → List (Record E P) → Tree P → Tree P → Record E P → Type 0
IsExact k log old new (Pages images counter used) = LiveAlike k old new
IsExact k log old new (Adjust page change) = LiveAlike k old new
IsExact k log old new (Write transaction entry before after leaf said) = WritesOne k entry before after old new
IsExact k log old new (Commit transaction number) = Unit {0}
IsExact {E} k log old new (End transaction) = (e : E) → Restored k transaction old log e
IsExact k log old new (Counters number counter used next) = Unit {0}
IsExact k log old new (Note transaction entry before leaf) = Unit {0}

-- what is touched is on its leaf or to the right of it
abbrev pub Placed : {E P : Type 0} → Known E P → Tree P → List (Touch E) → Type 0
Placed k tree [] = Unit {0}
Placed k tree (x ∷ xs) = k.placed tree x.entry x.leaf × Placed k tree xs

-- a tree is good for a log
pub record IsGood {E P : Type 0} (k : Known E P) (tree : Tree P) (log : List (Record E P)) : Type 0 where
  pub sound : k.sound tree
  pub placed : Placed k tree (analysis k log).touched

-- a record may come after a log over a page area: it may follow, is exact, and leaves a good tree
pub record MayCome {E P : Type 0} (k : Known E P) (area : ℕ → P) (log : List (Record E P)) (r : Record E P) : Type 0 where
  pub follows : follows k log r ≡ true
  pub exact : IsExact k log (tree_of k area log) (tree_of k area (log ++ r ∷ [])) r
  pub good : IsGood k (tree_of k area (log ++ r ∷ [])) (log ++ r ∷ [])

-- records may come, one after another
abbrev pub MayComeAll : {E P : Type 0} → Known E P → (ℕ → P) → List (Record E P) → List (Record E P) → Type 0
MayComeAll k area log [] = Unit {0}
MayComeAll k area log (r ∷ rs) = MayCome k area log r × MayComeAll k area (log ++ r ∷ []) rs

-- there is room for what is touched: by so many transactions, and so many entries in all
pub record HasRoom {E : Type 0} (xs : List (Touch E)) : Type 0 where
  pub few : transactions xs ≤ TRANSACTIONS
  pub short : length xs ≤ TOUCHED

-- no other transaction has touched the entry
abbrev pub IsAlone : {E P : Type 0} → Known E P → ℕ → E → List (Touch E) → Type 0
IsAlone k t e xs = (u : ℕ) → lists k u e xs ≡ true → u ≡ t

-- what is touched beside this entry
abbrev pub beside : {E P : Type 0} → Known E P → E → List (Touch E) → List (Touch E)
beside k e xs = filter (λ x. not (same k x.entry e)) xs

-- what a write says of its leaf is of that leaf: a whole content has its number, a small change fits what the log gives
abbrev pub IsSaid : {E P : Type 0} → Known E P → ℕ → Said P → List (Record E P) → Type 0
IsSaid k leaf (Whole content) log = k.own content ≡ leaf
IsSaid k leaf (Small change) log = change_fits k change (given leaf log) ≡ true

-- A write that is sound: its transaction is open; its entry is one of the class, and no other open transaction has
-- touched it; a whole content is of its own leaf, and a small change fits what the log gives of that; the leaf is in
-- use; there is room for one touch more; it changes only its entry; and the tree after it is sound, with the entry on
-- that leaf or to the right of it, and all else that is touched in its place.
pub record IsSoundWrite {E P : Type 0} (k : Known E P) (area : ℕ → P) (log : List (Record E P)) (t : ℕ) (entry : E) (before after : Bool) (leaf : ℕ) (said : Said P) : Type 0 where
  pub open_yet : is_open t log ≡ true
  pub of_class : k.is_entry entry ≡ true
  pub alone : IsAlone k t entry (analysis k log).touched
  pub own : IsSaid k leaf said log
  pub in_use : is_page (analysis k log).used leaf ≡ true
  pub room : HasRoom (touching k (record { transaction = t; entry = entry; before = before; leaf = leaf }) (analysis k log).touched)
  pub exact : WritesOne k entry before after (tree_of k area log) (tree_of k area (log ++ Write t entry before after leaf said ∷ []))
  pub sound : k.sound (tree_of k area (log ++ Write t entry before after leaf said ∷ []))
  pub placed : k.placed (tree_of k area (log ++ Write t entry before after leaf said ∷ [])) entry leaf
  pub others : Placed k (tree_of k area (log ++ Write t entry before after leaf said ∷ [])) (beside k entry (analysis k log).touched)

-- Pages that are sound: neither the counter nor the pages in use fall, and the device has those; each image is of a page
-- in use, with its own number; every entry is as live as it was; and the tree after them is sound, with all that is
-- touched in its place.
pub record AreSoundPages {E P : Type 0} (k : Known E P) (area : ℕ → P) (log : List (Record E P)) (images : List (Image P)) (counter used : ℕ) : Type 0 where
  pub counter_stays : (analysis k log).counter ≤ counter
  pub used_stays : (analysis k log).used ≤ used
  pub on_device : used ≤ k.pages
  pub fitting : list_all (image_fits k used) images ≡ true
  pub exact : LiveAlike k (tree_of k area log) (tree_of k area (log ++ Pages images counter used ∷ []))
  pub sound : k.sound (tree_of k area (log ++ Pages images counter used ∷ []))
  pub placed : Placed k (tree_of k area (log ++ Pages images counter used ∷ [])) (analysis k log).touched

-- A small change of no transaction that is sound: it fits what the log gives of its page; every entry is as live as it was;
-- and the tree after it is sound, with all that is touched in its place.
pub record IsSoundChange {E P : Type 0} (k : Known E P) (area : ℕ → P) (log : List (Record E P)) (page : ℕ) (change : Change P) : Type 0 where
  pub fitting : change_fits k change (given page log) ≡ true
  pub exact : LiveAlike k (tree_of k area log) (tree_of k area (log ++ Adjust page change ∷ []))
  pub sound : k.sound (tree_of k area (log ++ Adjust page change ∷ []))
  pub placed : Placed k (tree_of k area (log ++ Adjust page change ∷ [])) (analysis k log).touched
