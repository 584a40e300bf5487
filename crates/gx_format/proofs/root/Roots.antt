-- The root of a fresh tree: its one image.
use Rattle.std.proofs.Common.{◌≡◌, ◌∙◌, ap, refl, ℕ, List, map, Option, true}
use Rattle.gx_page.specs.Contents.{Contents}
use Rattle.gx_page.specs.Format.{IsWellFormed}
use Rattle.gx_node.specs.Trees.{Node, fresh_node}
use Rattle.gx_node.specs.Entries.{child_bytes}
use Rattle.gx_node.specs.Laws.{InnersHold}
use Rattle.gx_node.specs.Reading.{format, is_inner, inner_of}
use Rattle.gx_format.specs.Fresh.{fresh_root}

-- contents are the same if each part is
same_contents : (a b : Contents) → a.level ≡ b.level → a.nsn ≡ b.nsn → a.right ≡ b.right → a.number ≡ b.number → a.items ≡ b.items → a ≡ b
same_contents a b level nsn right number items =
    let same : (let xs : Contents = record { level = a.level; nsn = a.nsn; right = a.right; number = a.number; items = a.items } in xs) ≡ b = rw (level, nsn, right, number, items) refl in
    same

-- the page of a fresh tree's root is just that
pub root_is : {B : Type 0} (IsKey : B → Type 0) (spelling : B → List ℕ) (key : ℕ) (reading : List ℕ → Option B) (start : B) (page : Contents)
    → InnersHold IsKey spelling (format key reading start) → IsWellFormed page → is_inner (format key reading start) 2 page ≡ true → inner_of (format key reading start) page ≡ fresh_node start 1
    → page.number ≡ 1 → page ≡ fresh_root spelling start
root_is {B} IsKey spelling key reading start page hold formed inner node number =
    let held = hold page 2 formed inner in
    same_contents page (fresh_root spelling start) (ap (λ (n : Node B). n.level) node) (ap (λ (n : Node B). n.nsn) node) (ap (λ (n : Node B). n.right) node) number
    (held.items ∙ ap (λ (n : Node B). map (child_bytes spelling) n.children) node)
