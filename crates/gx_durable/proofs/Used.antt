-- What is known of a class is lawful, and is read of the pages in use.
use Rattle.std.proofs.Common.{ap}
use Rattle.gx_machine.specs.Keys as keys
use Rattle.gx_machine.proofs.SetLaws.{entry_total, entry_exact}
use Rattle.gx_node.specs.Alike as alike
use Rattle.gx_node.proofs.AlikeTrees.{legal_too, seek_too}
use Rattle.gx_recovery.specs.Known as known
use Rattle.gx_index_laws.specs.Classes.{Class, Page, tree_in, known_of}
use Rattle.gx_index_laws.proofs.Alike.{live_too}
use Rattle.gx_durable.specs.Legal.{AgreeOnUsed, ReadsUsed}

module _ {B : Type 0} (c : Class B) where
  pub known_lawful : keys.IsLawful c.keys → known.IsLawful (known_of c)
  known_lawful l = record { total = entry_total c.keys l; exact = entry_exact c.keys l }

  module _ (one other : known.Tree (Page B)) (agree : AgreeOnUsed one other) where
    nodes_agree : alike.AgreeOnUsed (tree_in one) (tree_in other)
    nodes_agree = record { used = agree.used; counter = agree.counter; nodes = λ q u. ap (λ (p : Page B). p.node) (agree.pages q u.0 u.1) }

  pub reads_used : ReadsUsed (known_of c)
  reads_used = record {
    sound = λ one other agree legal. legal_too c.rules (tree_in one) (tree_in other) (nodes_agree one other agree) legal;
    live = λ one other agree legal e. live_too c (tree_in one) (tree_in other) (nodes_agree one other agree) legal e;
    placed = λ one other agree e leaf seek. seek_too c.rules (tree_in one) (tree_in other) (nodes_agree one other agree) leaf e.row e.key seek;
  }
