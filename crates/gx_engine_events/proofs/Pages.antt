-- The pages of a new index, as its device has them.
use Rattle.std.proofs.Common.{◌≡◌, ◌∙◌, inl, inr, sym, ap, refl, subst, ℕ, ◌<◌, ◌≤◌, true, List, [], ◌∷◌, arith}
use Rattle.std.specs.Prelude.{nat_le}
use Rattle.std.proofs.lemmas.Bool.{cases_eq, le-leb, leb-true}
use Rattle.std.proofs.lemmas.List.Elements.{All-nil, All-cons}
use Rattle.gx_page.specs.Contents.{Contents}
use Rattle.gx_page.specs.Edits.{blank}
use Rattle.gx_page.specs.Format.{IsItem, IsWellFormed}
use Rattle.gx_page.proofs.Images.{made}
use Rattle.gx_node.specs.Trees.{Child, fresh_node}
use Rattle.gx_node.specs.Entries.{HoldsNode, IsChild, IsPair}
use Rattle.gx_node.specs.Laws.{HeldPairsAreRead, HeldChildrenAreRead}
use Rattle.gx_node.specs.Reading.{Format, is_node}
use Rattle.gx_pool.specs.Area.{bytes_of, IsPassing}
use Rattle.gx_pool.specs.Readable.{IsReadable}
use Rattle.gx_pool.specs.State.{State}
use Rattle.gx_store.specs.Faults.{is_taken}
use Rattle.gx_index_laws.specs.Classes.{Page}
use Rattle.gx_index_laws.specs.States.{fresh_page}
use Rattle.gx_durable.specs.Area.{area_of}
use Rattle.gx_durable.specs.Classes.{page_of, reading_of}
use Rattle.gx_durable.proofs.Nodes.{node_is}
use Rattle.gx_format.specs.Fresh.{fresh_root, IsLaid}
use Rattle.gx_glog.specs.declared.parameters.Parameters.{Parameters}

module _ {B : Type 0} (IsKey : B → Type 0) (spelling : B → List ℕ) (said : List ℕ → B) (f : Format B) (start : B) (pairs_read : HeldPairsAreRead IsKey spelling f)
    (children_read : HeldChildrenAreRead IsKey spelling f) (start_is : IsKey start) (parameters : Parameters) (some : 8 ≤ parameters.pages) (few : parameters.pages ≤ 65536)
    (seen : List ℕ) (formed : IsWellFormed (fresh_root spelling start)) (laid : IsLaid parameters (fresh_root spelling start) seen) where
  abbrev root : Contents
  root = fresh_root spelling start

  abbrev child : Child B
  child = record { key = start; page = 2 }

  holds_root : HoldsNode IsKey spelling parameters.pages root (fresh_node start 1)
  holds_root = record {
    level = refl;
    nsn = refl;
    right = refl;
    entries = inr (
      record {
        inner = omega arith;
        each = All-cons (IsChild IsKey parameters.pages) child [] (record { key = start_is; some = omega arith; taken = omega (arith, some) }) (All-nil (IsChild IsKey parameters.pages));
        items = refl;
      },
      refl,
    );
  }

  holds_leaf : HoldsNode IsKey spelling parameters.pages (blank 0 2) (fresh_node start 2)
  holds_leaf = record {
    level = refl;
    nsn = refl;
    right = refl;
    entries = inl (record { leaf = refl; each = All-nil (IsPair IsKey); items = refl }, refl);
  }

  blank_formed : IsWellFormed (blank 0 2)
  blank_formed = record { level = omega arith; nsn = omega arith; right = omega arith; number = omega arith; items = All-nil IsItem; fits = omega arith }

  small : parameters.pages < 4294967296
  small = omega (arith, few)

  -- a fresh tree's page, in the bytes that the device has
  abbrev pub laid_page : ℕ → Page B
  laid_page page = record (fresh_page start page) { bytes = bytes_of seen page }

  read_1 : page_of f (bytes_of seen 1) ≡ laid_page 1
  read_1 = node_is IsKey spelling f pairs_read children_read root parameters.pages (fresh_node start 1) (bytes_of seen 1) formed small holds_root laid.page_1

  read_2 : page_of f (bytes_of seen 2) ≡ laid_page 2
  read_2 = node_is IsKey spelling f pairs_read children_read (blank 0 2) parameters.pages (fresh_node start 2) (bytes_of seen 2) blank_formed small holds_leaf laid.page_2

  -- pages 1 and 2 are a fresh tree's
  area_1 : area_of (reading_of said f) parameters.pages seen 1 ≡ laid_page 1
  unfolding area_of
  area_1 = let there : nat_le 1 parameters.pages ≡ true = le-leb 1 parameters.pages (omega (arith, some)) in rw there read_1

  area_2 : area_of (reading_of said f) parameters.pages seen 2 ≡ laid_page 2
  unfolding area_of
  area_2 = let there : nat_le 2 parameters.pages ≡ true = le-leb 2 parameters.pages (omega (arith, some)) in rw there read_2

  pub areas_agree : (p : ℕ) → 1 ≤ p → p ≤ 2 → area_of (reading_of said f) parameters.pages seen p ≡ laid_page p
  areas_agree p low high = elim (cases_eq p 1) [
    | inl is ↦ subst (λ (q : ℕ). area_of (reading_of said f) parameters.pages seen q ≡ laid_page q) (sym is) area_1
    | inr not_one ↦ (let is : p ≡ 2 = omega (arith, low, high, not_one) in subst (λ (q : ℕ). area_of (reading_of said f) parameters.pages seen q ≡ laid_page q) (sym is) area_2)
  ]

  -- both can be read
  passes_1 : IsPassing (is_node f parameters.pages) 1 (bytes_of seen 1)
  passes_1 =
      let is = made root formed (bytes_of seen 1) laid.page_1 in
      let inner : is_node f parameters.pages root ≡ true = (let held = holds_root.entries in (children_read root parameters.pages (child ∷ []) small (record {
        inner = omega arith;
        each = All-cons (IsChild IsKey parameters.pages) child [] (record { key = start_is; some = omega arith; taken = omega (arith, some) }) (All-nil (IsChild IsKey parameters.pages));
        items = refl;
      })).0) in
      record { image = is.0; number = ap (λ (x : Contents). x.number) is.1; passing = ap (is_node f parameters.pages) is.1 ∙ inner }

  passes_2 : IsPassing (is_node f parameters.pages) 2 (bytes_of seen 2)
  passes_2 =
      let is = made (blank 0 2) blank_formed (bytes_of seen 2) laid.page_2 in
      let leaf : is_node f parameters.pages (blank 0 2) ≡ true = (pairs_read (blank 0 2) [] (record { leaf = refl; each = All-nil (IsPair IsKey); items = refl })).0 in
      record { image = is.0; number = ap (λ (x : Contents). x.number) is.1; passing = ap (is_node f parameters.pages) is.1 ∙ leaf }

  both_pass : (p : ℕ) → 1 ≤ p → p ≤ 2 → IsPassing (is_node f parameters.pages) p (bytes_of seen p)
  both_pass p low high = elim (cases_eq p 1) [
    | inl is ↦ subst (λ (q : ℕ). IsPassing (is_node f parameters.pages) q (bytes_of seen q)) (sym is) passes_1
    | inr not_one ↦ (let is : p ≡ 2 = omega (arith, low, high, not_one) in subst (λ (q : ℕ). IsPassing (is_node f parameters.pages) q (bytes_of seen q)) (sym is) passes_2)
  ]

  -- so each fits
  pub both_fit : (p : ℕ) → 1 ≤ p → p ≤ 2 → (reading_of said f).fits p (area_of (reading_of said f) parameters.pages seen p)
  both_fit p low high = subst (λ (page : Page B). (reading_of said f).fits p page) (sym (areas_agree p low high)) (parameters.pages, both_pass p low high)

  pub both_readable : (frames : State) → IsReadable (is_node f parameters.pages) (is_taken 2) frames seen
  both_readable frames p low taken none = both_pass p low (leb-true p 2 taken)
