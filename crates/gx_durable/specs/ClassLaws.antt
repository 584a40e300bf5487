-- What the reading of a class keeps.
use Rattle.std.specs.Prelude.{◌≡◌, ℕ, ◌<◌, ◌^◌, true, List, length, slice_index}
use Rattle.gx_machine.specs.declared.entry.Entry.{Entry}
use Rattle.gx_page.specs.Contents.{Contents}
use Rattle.gx_page.specs.Format.{image_of, IsWellFormed}
use Rattle.gx_node.specs.Trees.{Node}
use Rattle.gx_node.specs.Entries.{HoldsNode}
use Rattle.gx_recovery.specs.Known.{Known}
use Rattle.gx_recovery.specs.Damage.{records_of}
use Rattle.gx_recovery.specs.Analysis.{number_of}
use Rattle.gx_recovery.specs.Logged.{Logged, kept}
use Rattle.gx_index_laws.specs.Classes.{Page}
use Rattle.gx_durable.specs.Spelled.{Reading}
use Rattle.gx_durable.specs.Standing.{Stands}
use Rattle.gx_durable.specs.Legal.{IsLegal}

module _ {B : Type 0} (IsKey : B → Type 0) (spelling : B → List ℕ) (k : Known (Entry B) (Page B)) (r : Reading (Entry B) (Page B)) where
  -- a key's bytes are read as that key, which is one of the class
  pub record IsReadAs (row : ℕ) (key : B) : Type 0 where
    pub entry : r.entry row (spelling key) ≡ record { row = row; key = key }
    pub of_class : k.is_entry (r.entry row (spelling key)) ≡ true

  abbrev pub KeysAreRead : Type 0
  KeysAreRead = (row : ℕ) (key : B) → IsKey key → IsReadAs row key

  -- bytes of a key's length are read as an entry of the class only if they are a key's
  abbrev pub OnlyKeysAreEntries : Type 0
  OnlyKeysAreEntries = (row : ℕ) (bytes : List ℕ) → length bytes ≡ r.key → ((i : ℕ) → slice_index bytes i < 256) → k.is_entry (r.entry row bytes) ≡ true
      → IsKey (r.entry row bytes).key × (bytes ≡ spelling (r.entry row bytes).key)

  -- a node's page is read as that node, with the page's own number and its image
  abbrev pub NodesAreRead : Type 0
  NodesAreRead = (page : Contents) (used : ℕ) (node : Node B) → IsWellFormed page → used < 2 ^ 32 → HoldsNode IsKey spelling used page node
      → r.content (image_of page) ≡ record { node = node; own = page.number; bytes = image_of page }

-- An image that stands for a kept set is legal for the log that it has, and its set is that one.
abbrev pub WhatStandsIsLegalThere : {B : Type 0} → Known (Entry B) (Page B) → Reading (Entry B) (Page B) → Type 0
WhatStandsIsLegalThere {B} k r = (s : Logged (Entry B) (Page B)) (image : List ℕ) → (stands : Stands k r s image)
    → IsLegal k r (records_of stands.bodies) image (kept k s (number_of k (records_of stands.bodies)))
