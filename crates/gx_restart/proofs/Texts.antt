-- The texts of a list's items, one more at a time, and of a page by its level.
use Rattle.std.proofs.Common.{◌≡◌, ℕ, ◌+◌, Bool, List, [], ◌++◌, length, map, take, eq-eqb, refl, ap, sym, subst, ◌∙◌, add-zero, zero-add, Some, Option}
use Rattle.std.specs.Prelude.{if◌then◌else◌, slice_get, Result, Ok, Err, IfErr}
use Rattle.std.specs.List.{flat_map}
use Rattle.std.proofs.lemmas.Bool.{ne_eqb}
use Rattle.std.proofs.lemmas.List.{append-nil, length-map}
use Rattle.std.proofs.lemmas.Option.{get_or_from_slice_get, slice_get_within}
use Rattle.gx_page.specs.Contents.{Contents}
use Rattle.gx_node.specs.Reading.{Format, leaf_of, inner_of, pair_of, child_of}
use Rattle.gx_node.specs.Store.{node_of}
use Rattle.gx_node.specs.Trees.{Node}
use Rattle.gx_script.specs.Corners.{Grammar}
use Rattle.gx_script.specs.Writes.{IsPut}
use Rattle.gx_script.proofs.WriteLemmas.{put_more, put_nothing, texts_more}
use Rattle.gx_restart.specs.declared.text.stop.Stop.{Stop}
use Rattle.gx_restart.specs.declared.text.stop.Stop.TheVariants.{Write}
use Rattle.gx_restart.specs.Text.{page_line, child_line, entry_line, node_text}

-- with the text of the item at a slot, those of the items up to it
pub text_more : {X : Type 0} (f : X → List ℕ) (xs : List X) (slot : ℕ) (x : X) → slice_get xs slot ≡ Some x
    → flat_map f (take (slot + 1) xs) ≡ flat_map f (take slot xs) ++ f x
text_more f xs slot x e = texts_more f xs slot x (sym (get_or_from_slice_get xs slot x x e)) (slice_get_within xs slot x e)

-- a line, where there was room for it
pub line_put : (h h1 : Option (List ℕ)) (waiting made line new : List ℕ) → IsPut h h1 waiting [] made → new ≡ made ++ line → IsPut h h1 waiting line new
line_put h h1 waiting made line new room is = put_more h h h1 waiting [] waiting made line line new (put_nothing h waiting) room is refl

module _ {B : Type 0} (grammar : Grammar B) (f : Format B) (number : ℕ) (page : Contents) where
  abbrev its_line : List ℕ
  its_line = page_line number page.level page.nsn page.right (length page.items)

  abbrev line_of : ℕ → List ℕ
  line_of count = page_line number page.level page.nsn page.right count

  -- the text of a leaf, and of an inner node
  leaf_text : node_text grammar number (leaf_of f page) ≡ its_line ++ flat_map (entry_line grammar) (leaf_of f page).pairs
  unfolding node_text
  leaf_text =
      ap (λ n. line_of n ++ flat_map (entry_line grammar) (leaf_of f page).pairs) (add-zero (length (map (pair_of f) page.items)) ∙ length-map page.items (pair_of f))

  inner_text : node_text grammar number (inner_of f page) ≡ its_line ++ flat_map (child_line grammar) (inner_of f page).children
  unfolding node_text
  inner_text =
      ap (λ n. line_of n ++ (flat_map (child_line grammar) (inner_of f page).children ++ [])) (zero-add (length (map (child_of f) page.items)) ∙ length-map page.items (child_of f))
      ∙ ap (λ text. its_line ++ text) (append-nil (flat_map (child_line grammar) (inner_of f page).children))

  module _ (level nsn right count : ℕ) (its_level : level ≡ page.level) (its_nsn : nsn ≡ page.nsn) (its_right : right ≡ page.right) (its_count : count ≡ length page.items) where
    same_line : its_line ≡ page_line number level nsn right count
    same_line =
        ap (λ n. page_line number n page.nsn page.right (length page.items)) (sym its_level) ∙ ap (λ n. page_line number level n page.right (length page.items)) (sym its_nsn)
        ∙ ap (λ n. page_line number level nsn n (length page.items)) (sym its_right) ∙ ap (λ n. page_line number level nsn right n) (sym its_count)

    pub told_as_leaf : page.level ≡ 0 → (leaf : Node B) → leaf ≡ leaf_of f page → node_text grammar number (node_of f page) ≡ page_line number level nsn right count ++ flat_map (entry_line grammar) leaf.pairs
    told_as_leaf bottom leaf is =
        ap (λ (t : Bool). node_text grammar number (if t then leaf_of f page else inner_of f page)) (eq-eqb page.level 0 bottom) ∙ leaf_text
        ∙ ap (λ line. line ++ flat_map (entry_line grammar) (leaf_of f page).pairs) same_line ∙ ap (λ (n : Node B). page_line number level nsn right count ++ flat_map (entry_line grammar) n.pairs) (sym is)

    pub told_as_inner : (page.level ≡ 0 → ⊥) → (inner : Node B) → inner ≡ inner_of f page → node_text grammar number (node_of f page) ≡ page_line number level nsn right count ++ flat_map (child_line grammar) inner.children
    told_as_inner above inner is =
        ap (λ (t : Bool). node_text grammar number (if t then leaf_of f page else inner_of f page)) (ne_eqb page.level 0 above) ∙ inner_text
        ∙ ap (λ line. line ++ flat_map (child_line grammar) (inner_of f page).children) same_line ∙ ap (λ (n : Node B). page_line number level nsn right count ++ flat_map (child_line grammar) n.children) (sym is)

-- of a write that failed, less is said
pub stop_as : {A : Type 0} (r : Result (Unit {0}) Stop) (P : Stop → Type 0) → (A → P Write) → IfErr r (λ e. (e ≡ Write) × A) → IfErr r P
stop_as (Ok x) P f h = h
stop_as (Err e) P f h = subst P (sym h.0) (f h.1)

pub fault_as : {A B : Type 0} (r : Result (Unit {0}) Stop) → (A → B) → IfErr r (λ e. (e ≡ Write) × A) → IfErr r (λ e. B)
fault_as (Ok x) f h = h
fault_as (Err e) f h = f h.1
