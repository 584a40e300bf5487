-- Tests and marks: what the laws come to at one entry.
use Rattle.std.proofs.Common.{◌≡◌, Bool, true, false, not, ◌&&◌, ◌||◌, ◌⊎◌, inl, inr, Option, Some, None, refl, sym, ◌∙◌}
use Rattle.std.specs.Prelude.{if◌then◌else◌, is_some, unwrap_or}
use Rattle.std.specs.Option.{option_or}

pub some_or_none : {X : Type 0} (o : Option X) → (o ≡ None) ⊎ ((x : X) × (o ≡ Some x))
some_or_none None = inl refl
some_or_none (Some x) = inr (x, refl)

pub none_from : {X : Type 0} (o : Option X) → is_some o ≡ false → o ≡ None
none_from None h = refl
none_from (Some x) h = let no : ⊥ = cc in absurd no

pub true_or_false : (b : Bool) → (b ≡ true) ⊎ (b ≡ false)
true_or_false true = inl refl
true_or_false false = inr refl

pub not_both : (x y : Bool) → (x ≡ true → y ≡ false) → y ≡ true → x ≡ false
not_both true y h is = let no : true ≡ false = sym is ∙ h refl in cc
not_both false y h is = refl

pub or_left : (a b : Bool) → a ≡ true → (a || b) ≡ true
or_left true b h = refl
or_left false b h = cc

pub or_right : (a b : Bool) → b ≡ true → (a || b) ≡ true
or_right true b h = refl
or_right false b h = h

-- of two marks of which one doesn't exist, the order says nothing
pub swapped : (a b : Option Bool) → (a ≡ None) ⊎ (b ≡ None) → option_or b a ≡ option_or a b
swapped None None h = refl
swapped None (Some y) h = refl
swapped (Some x) None h = refl
swapped (Some x) (Some y) h = elim h [ inl p ↦ cc | inr p ↦ cc ]

pub passed_on : (first set rest own : Option Bool) → (option_or first rest ≡ None) ⊎ (own ≡ None)
    → ((rest ≡ None) ⊎ (own ≡ None) → set ≡ option_or rest own) → option_or first set ≡ option_or (option_or first rest) own
passed_on None set rest own h go = go h
passed_on (Some v) set rest own h go = refl

pub or_nothing : (a : Option Bool) → option_or a None ≡ a
or_nothing None = refl
or_nothing (Some x) = refl

-- In these, rest is what other slots have noted of an entry, own what the slot has, live whether it is live, and same
-- whether it is the entry that is written.

-- what a transaction sees of an entry that no other one has noted
pub viewed : (own : Option Bool) (live : Bool)
    → ((live && is_some own) || (not (not live && is_some own) && unwrap_or own live)) ≡ live
viewed None true = refl
viewed None false = refl
viewed (Some w) true = refl
viewed (Some w) false = refl

-- what is sealed is what the transaction sees
pub sealed_view : (rest own : Option Bool) (live : Bool) → (rest ≡ None) ⊎ (own ≡ None)
    → ((live && is_some own) || (not (not live && is_some own) && unwrap_or (option_or rest own) live)) ≡ unwrap_or rest live
sealed_view None own live h = viewed own live
sealed_view (Some w) None true h = refl
sealed_view (Some w) None false h = refl
sealed_view (Some w) (Some v) live h = elim h [ inl p ↦ cc | inr p ↦ cc ]

-- a write with its note doesn't change the committed set
pub write_stands : (rest own : Option Bool) (same now live : Bool) → (same ≡ true → live ≡ not now)
    → unwrap_or (option_or rest (option_or own (if same then Some (not now) else None))) (if same then now else live)
    ≡ unwrap_or (option_or rest own) live
write_stands (Some w) own same now live h = refl
write_stands None (Some w) same now live h = refl
write_stands None None true now live h = sym (h refl)
write_stands None None false now live h = refl

-- nor does an undo of what is noted
pub undo_stands : (some : Option Bool) (same was live : Bool) → (same ≡ true → is_some some ≡ true)
    → unwrap_or some (if same then was else live) ≡ unwrap_or some live
undo_stands (Some w) same was live h = refl
undo_stands None true was live h = let no : false ≡ true = h refl in cc
undo_stands None false was live h = refl

-- nor does the end of what is restored
pub end_stands : (rest own : Option Bool) (live : Bool) → ((was : Bool) → own ≡ Some was → live ≡ was)
    → unwrap_or rest live ≡ unwrap_or (option_or rest own) live
end_stands (Some w) own live h = refl
end_stands None None live h = refl
end_stands None (Some was) live h = h was refl

-- what is noted once one more is
pub noted_more : (own : Option Bool) (same was : Bool) → is_some (option_or own (if same then Some was else None)) ≡ (is_some own || same)
noted_more (Some w) same was = refl
noted_more None true was = refl
noted_more None false was = refl

-- Of an entry that is noted or not: an insert and a delete, as what was added and taken away.
pub inserted_added : (same live noted : Bool) → ((if same then true else live) && (noted || same)) ≡ (same || (live && noted))
inserted_added true live true = refl
inserted_added true live false = refl
inserted_added false true true = refl
inserted_added false true false = refl
inserted_added false false noted = refl

pub inserted_taken : (same live noted : Bool) → (not (if same then true else live) && (noted || same)) ≡ (not same && (not live && noted))
inserted_taken true live noted = refl
inserted_taken false true noted = refl
inserted_taken false false true = refl
inserted_taken false false false = refl

pub deleted_added : (same live noted : Bool) → ((if same then false else live) && (noted || same)) ≡ (not same && (live && noted))
deleted_added true live noted = refl
deleted_added false true true = refl
deleted_added false true false = refl
deleted_added false false noted = refl

pub deleted_taken : (same live noted : Bool) → (not (if same then false else live) && (noted || same)) ≡ (same || (not live && noted))
deleted_taken true live true = refl
deleted_taken true live false = refl
deleted_taken false true noted = refl
deleted_taken false false true = refl
deleted_taken false false false = refl

-- tests that agree if another one passes
pub and_agree : (p a b : Bool) → (p ≡ true → a ≡ b) → (p && a) ≡ (p && b)
and_agree true a b h = h refl
and_agree false a b h = refl

pub uncovered : (x y : Bool) → (x ≡ true → y ≡ true) → y ≡ false → x ≡ false
uncovered true y h none = let no : true ≡ false = sym (h refl) ∙ none in cc
uncovered false y h none = refl

pub some_either : (a : Option Bool) (was : Bool) → is_some (option_or a (Some was)) ≡ true
some_either None was = refl
some_either (Some w) was = refl
