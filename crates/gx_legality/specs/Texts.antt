-- What each rule prints, if it is broken.
use Rattle.std.specs.Prelude.{ℕ, List, ◌++◌, codes, decimal}
use Rattle.gx_legality.specs.declared.fault.Rule.{Rule}
use Rattle.gx_legality.specs.declared.fault.Rule.TheVariants.{SplitsOutnumberPages, RootIsLeaf, TooManyEntries, NoChild, SequenceNumber, ChildPage, ChildLevel, Bound, NamedTwice, NotNamed, Chain, OffTheChain, PairTwice, PairOutOfPlace}

abbrev pub text_of : Rule → List ℕ
text_of SplitsOutnumberPages = codes "more splits are counted than pages"
text_of RootIsLeaf = codes "the root is a leaf"
text_of TooManyEntries = codes "the node has more entries than it has room for"
text_of NoChild = codes "a node above the leaves has no child"
text_of SequenceNumber = codes "the sequence number is above the counter of splits"
text_of (ChildPage slot) = codes "the child in slot " ++ (decimal slot ++ codes " is the root, or not in use")
text_of (ChildLevel slot) = codes "the child in slot " ++ (decimal slot ++ codes " is not one level lower")
text_of (Bound slot) = codes "the bound in slot " ++ (decimal slot ++ codes " does not cover a key of its child")
text_of NamedTwice = codes "two entries name the page"
text_of NotNamed = codes "no entry names the page"
text_of Chain = codes "rightlinks lead to a page that is no leaf in use, or was passed"
text_of OffTheChain = codes "the leaf is not on the chain of leaves"
text_of PairTwice = codes "a pair stands twice"
text_of PairOutOfPlace = codes "a pair of an open transaction is not in its leaf, nor to the right"
