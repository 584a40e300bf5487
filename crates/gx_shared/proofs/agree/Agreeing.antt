-- Lists compared from the front.
use Rattle.std.proofs.Common.{arith, ◌≡◌, ℕ, suc, ◌+◌, ◌-◌, ◌<◌, ◌≤◌, Bool, true, false, List, [], ◌∷◌, ◌++◌, length, refl, ap, sym, ◌∙◌, subst}
use Rattle.std.specs.Prelude.{drop, MatchBool, if◌then◌else◌, ◌==◌}
use Rattle.std.proofs.Math.ListN.{get_or}
use Rattle.std.proofs.Math.Seq.{drop-cons}
use Rattle.std.proofs.lemmas.List.{drop_all, length-drop}
use Rattle.std.proofs.lemmas.Bool.Decides.{nat_tests}
use Rattle.gx_machine.specs.declared.reply.Reply.{Reply}
use Rattle.gx_machine.specs.declared.item.Item.{Item}
use Rattle.gx_machine.specs.declared.item.Item.TheVariants.{Asked, Sealed, Replied}
use Rattle.gx_machine.proofs.Comparing.{Alike}
use Rattle.gx_shared.specs.Agreed.{replies_of}

-- the first of two lists that are the same, and the rest
pub first_same : {X : Type 0} {x y : X} {xs ys : List X} → x ∷ xs ≡ y ∷ ys → x ≡ y
first_same {X} {x} {y} {xs} {ys} h = ap (λ (zs : List X). elim zs [ [] ↦ x | z ∷ rest ↦ z ]) h

pub rest_same : {X : Type 0} {x y : X} {xs ys : List X} → x ∷ xs ≡ y ∷ ys → xs ≡ ys
rest_same {X} {x} {y} {xs} {ys} h = ap (λ (zs : List X). elim zs [ [] ↦ xs | z ∷ rest ↦ rest ]) h

-- the items from a place on: the item there, and those after it
next_of : {X : Type 0} (xs : List X) (n : ℕ) (x : X) → n < length xs → x ≡ get_or xs n x → drop n xs ≡ x ∷ drop (n + 1) xs
next_of xs n x within at =
    let next : suc n ≡ n + 1 = omega arith in
    drop-cons xs n x within ∙ ap (λ y. y ∷ drop (suc n) xs) (sym at) ∙ ap (λ j. x ∷ drop j xs) next

-- What is left of a record and of replies, an item on.

module _ {B : Type 0} where
  replied_first : (s t : ℕ) (r : Reply B) (rest : List (Item B)) (mine : Bool)
      → (if mine then r ∷ replies_of s rest else replies_of s rest) ≡ (if mine then r ∷ [] else []) ++ replies_of s rest
  replied_first s t r rest true = refl
  replied_first s t r rest false = refl

  replies_first : (s : ℕ) (item : Item B) (rest : List (Item B)) (first : List (Reply B)) → replies_of s (item ∷ []) ≡ first → replies_of s (item ∷ rest) ≡ first ++ replies_of s rest
  replies_first s (Asked t call) rest first h = ap (λ (xs : List (Reply B)). xs ++ replies_of s rest) h
  replies_first s (Sealed t number) rest first h = ap (λ (xs : List (Reply B)). xs ++ replies_of s rest) h
  replies_first s (Replied t r) rest first h = replied_first s t r rest (t == s) ∙ ap (λ (xs : List (Reply B)). xs ++ replies_of s rest) h

  module _ (P : Type 0) (s : ℕ) (calls : List (Item B)) (replies : List (Reply B)) (place next : ℕ) (item : Item B)
      (so_far : Alike P (replies_of s (drop place calls) ≡ drop next replies)) (within : place < length calls) (at : item ≡ get_or calls place item) where
    -- an item that is another's, or no reply
    pub on_other : (next' : ℕ) → replies_of s (item ∷ []) ≡ [] → next' ≡ next → Alike P (replies_of s (drop (place + 1) calls) ≡ drop next' replies)
    on_other next' none same =
        let here : replies_of s (drop place calls) ≡ replies_of s (drop (place + 1) calls) =
        ap (λ (xs : List (Item B)). replies_of s xs) (next_of calls place item within at) ∙ replies_first s item (drop (place + 1) calls) [] none in
        subst (λ (n : ℕ). Alike P (replies_of s (drop (place + 1) calls) ≡ drop n replies)) (sym same)
        (record { there = λ p. sym here ∙ so_far.there p; back = λ q. so_far.back (here ∙ q) })

    -- a reply that is the next one
    pub on_reply : (next' : ℕ) (r x : Reply B) → replies_of s (item ∷ []) ≡ r ∷ [] → next < length replies → x ≡ get_or replies next x → r ≡ x → next' ≡ next + 1
        → Alike P (replies_of s (drop (place + 1) calls) ≡ drop next' replies)
    on_reply next' r x one inside is_next same more =
        let here : replies_of s (drop place calls) ≡ r ∷ replies_of s (drop (place + 1) calls) =
        ap (λ (xs : List (Item B)). replies_of s xs) (next_of calls place item within at) ∙ replies_first s item (drop (place + 1) calls) (r ∷ []) one in
        let there : drop next replies ≡ x ∷ drop (next + 1) replies = next_of replies next x inside is_next in
        subst (λ (n : ℕ). Alike P (replies_of s (drop (place + 1) calls) ≡ drop n replies)) (sym more)
        (record {
          there = λ p. rest_same (sym here ∙ so_far.there p ∙ there);
          back = λ q. so_far.back (here ∙ ap (λ (y : Reply B). y ∷ replies_of s (drop (place + 1) calls)) same ∙ ap (λ (ys : List (Reply B)). x ∷ ys) q ∙ sym there);
        })

  ending : (P : Type 0) (replies : List (Reply B)) (next : ℕ) → next ≤ length replies → Alike P ([] ≡ drop next replies) → (all : Bool) → (next == length replies) ≡ all → MatchBool all P (P → ⊥)
  ending P replies next few so_far true is =
      let whole : length replies ≤ next = grind (arith, nat_tests) in
      so_far.back (sym (drop_all next replies whole))
  ending P replies next few so_far false is = λ p.
      let none : length {A = Reply B} [] ≡ length (drop next replies) = ap (λ (xs : List (Reply B)). length xs) (so_far.there p) in
      let left : length (drop next replies) ≡ length replies - next = length-drop next replies in
      let short : next < length replies = grind (arith, nat_tests) in
      omega (arith, none, left, short)

  -- at the record's end
  pub at_end : (P : Type 0) (s : ℕ) (calls : List (Item B)) (replies : List (Reply B)) (place next : ℕ) → Alike P (replies_of s (drop place calls) ≡ drop next replies)
      → length calls ≤ place → next ≤ length replies → MatchBool (next == length replies) P (P → ⊥)
  at_end P s calls replies place next so_far past few =
      let none : replies_of s (drop place calls) ≡ [] = ap (λ (xs : List (Item B)). replies_of s xs) (drop_all place calls past) in
      ending P replies next few (record { there = λ p. sym none ∙ so_far.there p; back = λ q. so_far.back (none ∙ q) }) (next == length replies) refl
