-- What an index knows of its keys and its device, and the tree of its pages.
use Rattle.std.specs.Prelude.{ℕ, ◌≡◌, Bool, not, ◌&&◌, List, nat_lt}
use Rattle.std.specs.Ordering.{is_eq}
use Rattle.gx_machine.specs.declared.entry.Entry.{Entry}
use Rattle.gx_machine.specs.Keys as keys
use Rattle.gx_machine.specs.Keys.{Keys, entry_cmp}
use Rattle.gx_node.specs.Trees as trees
use Rattle.gx_node.specs.Trees.{Pair, Node, Tree, Rules, standing, is_entry}
use Rattle.gx_node.specs.Legal.{Legal}
use Rattle.gx_node.specs.Writes.{IsSeek}
use Rattle.gx_events.specs.Wants as wants
use Rattle.gx_recovery.specs.Known as known
use Rattle.gx_recovery.specs.Known.{Known}

-- A class of keys on a device: its keys as the machine knows them; what the tree knows of them, with so many entries a
-- node; which keys are of the class; how many pages the device has, and what is read of its first two sectors.
pub record Class (B : Type 0) : Type 0 where
  pub keys : Keys B
  pub rules : Rules B
  pub is_key : B → Bool
  pub pages : ℕ
  pub head : List ℕ

-- what a class owes: its order and its covering are lawful, and the tree takes those for the same that the order does
pub record IsLawful {B : Type 0} (c : Class B) : Type 0 where
  pub keys : keys.IsLawful c.keys
  pub rules : trees.IsLawful c.rules
  pub same : (a b : B) → c.rules.same a b ≡ is_eq (c.keys.cmp a b)

-- a page: its node, the number that it has as its own, and the bytes that it was read of
pub record Page (B : Type 0) : Type 0 where
  pub node : Node B
  pub own : ℕ
  pub bytes : List ℕ

-- the tree of a log's pages
abbrev pub tree_in : {B : Type 0} → known.Tree (Page B) → Tree B
tree_in t = record { node = λ p. (t.page p).node; used = t.used; counter = t.counter }

-- a pair of the tree, as an entry that is live or not
abbrev pub entry_of : {B : Type 0} → Pair B → Entry B
entry_of x = record { row = x.row; key = x.key }

abbrev pub pair_of : {B : Type 0} → Pair B → wants.Pair B
pair_of x = record { entry = entry_of x; live = not x.marked }

-- a pair of this entry, and one that isn't marked
abbrev pub is_of : {B : Type 0} → Class B → Entry B → Pair B → Bool
is_of c e x = is_entry c.rules e.row e.key x

abbrev pub is_live_of : {B : Type 0} → Class B → Entry B → Pair B → Bool
is_live_of c e x = is_of c e x && not x.marked

-- an entry is live if a pair of it is unmarked
unfoldable pub is_live : {B : Type 0} → Class B → Tree B → Entry B → Bool
is_live c t e = nat_lt 0 (standing (is_live_of c e) t)

-- What a log knows of entries and pages: the tree decides what is live, sound and placed.
abbrev pub known_of : {B : Type 0} → Class B → Known (Entry B) (Page B)
known_of c = record {
  cmp = entry_cmp c.keys;
  live = λ t e. is_live c (tree_in t) e;
  sound = λ t. Legal c.rules (tree_in t);
  placed = λ t e leaf. IsSeek c.rules (tree_in t) leaf e.row e.key;
  is_entry = λ e. c.is_key e.key;
  own = λ page. page.own;
  most = c.rules.most;
  pages = c.pages;
  head = c.head;
}
