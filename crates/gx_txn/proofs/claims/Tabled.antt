-- The keys and the marks that are kept beside claims.
use Rattle.std.proofs.Common.{◌≡◌, ℕ, zero, suc, ◌≤◌, Bool, true, false, ◌||◌, List, [], ◌∷◌, map, length, get_or, refl, ap, sym, ◌∙◌, subst, arith, insert}
use Rattle.std.specs.Prelude.{slice_set}
use Rattle.std.specs.List.{list_any}
use Rattle.gx_machine.specs.declared.entry.Entry.{Entry}
use Rattle.gx_machine.specs.declared.query.Query.{Query}
use Rattle.gx_machine.specs.Keys.{Keys, IsLawful, same_entry, key_matches, matches}
use Rattle.gx_machine.specs.Sets.{has}
use Rattle.gx_machine.proofs.SetLaws.{same_is}
use Rattle.gx_txn.specs.Claimed.{is_marked, AreMarked, IsTabled}

-- what is set stays set as others are
set_stays : (marks : List Bool) (i j : ℕ) → get_or marks j false ≡ true → get_or (slice_set marks i true) j false ≡ true
set_stays [] i j h = h
set_stays (m ∷ marks) zero zero h = refl
set_stays (m ∷ marks) zero (suc j) h = h
set_stays (m ∷ marks) (suc i) zero h = h
set_stays (m ∷ marks) (suc i) (suc j) h = set_stays marks i j h

module _ {B : Type 0} where
  marks_stay : (i : ℕ) (marks : List Bool) (claims : List (Entry B)) → AreMarked marks claims → AreMarked (slice_set marks i true) claims
  marks_stay i marks [] all = tt
  marks_stay i marks (x ∷ claims) all = (set_stays marks i _ all.0, marks_stay i marks claims all.1)

  marked_with : (e : Entry B) (marks : List Bool) (claims : List (Entry B)) (i : ℕ) → i ≤ length claims → is_marked e.row marks ≡ true
      → AreMarked marks claims → AreMarked marks (insert claims i e)
  marked_with e marks [] zero le own all = (own, tt)
  marked_with e marks [] (suc i) le own all = absurd (omega arith)
  marked_with e marks (x ∷ claims) zero le own all = (own, all)
  marked_with e marks (x ∷ claims) (suc i) le own all = (all.0, marked_with e marks claims i (omega arith) own all.1)

  keys_with : (e : Entry B) (claims : List (Entry B)) (i : ℕ) → i ≤ length claims
      → insert (map (λ x. x.key) claims) i e.key ≡ map (λ x. x.key) (insert claims i e)
  keys_with e [] zero le = refl
  keys_with e [] (suc i) le = absurd (omega arith)
  keys_with e (x ∷ claims) zero le = refl
  keys_with e (x ∷ claims) (suc i) le = ap (λ ks. x.key ∷ ks) (keys_with e claims i (omega arith))

  -- one more claim, with its mark and its key
  pub tabled_with : (e : Entry B) (marks now : List Bool) (keys new : List B) (claims : List (Entry B)) (i at : ℕ) → i ≤ length claims
      → now ≡ slice_set marks at true → is_marked e.row now ≡ true → new ≡ insert keys i e.key
      → IsTabled marks keys claims → IsTabled now new (insert claims i e)
  tabled_with e marks now keys new claims i at le set own put is = record {
    same_keys = put ∙ ap (λ ks. insert ks i e.key) is.same_keys ∙ keys_with e claims i le;
    marked = marked_with e now claims i le own (subst (λ ms. AreMarked ms claims) (sym set) (marks_stay at marks claims is.marked));
  }

  -- a test of the keys is one of the claims
  pub any_key : (p : B → Bool) (claims : List (Entry B)) → list_any p (map (λ x. x.key) claims) ≡ list_any (λ x. p x.key) claims
  any_key p [] = refl
  any_key p (x ∷ claims) = ap (λ b. p x.key || b) (any_key p claims)

module _ {B : Type 0} (k : Keys B) (l : IsLawful k) where
  other_row : (e x : Entry B) (marks : List Bool) (b : Bool) → same_entry k e x ≡ b → is_marked x.row marks ≡ true → is_marked e.row marks ≡ false → b ≡ false
  other_row e x marks true same set unset =
      let row : is_marked e.row marks ≡ is_marked x.row marks = ap (λ (y : Entry B). is_marked y.row marks) (same_is k l e x same) in
      cc
  other_row e x marks false same set unset = refl

  -- an entry whose row isn't marked isn't claimed
  pub unmarked_lacks : (e : Entry B) (marks : List Bool) (claims : List (Entry B)) → AreMarked marks claims → is_marked e.row marks ≡ false → has k e claims ≡ false
  unmarked_lacks e marks [] all unset = refl
  unmarked_lacks e marks (x ∷ claims) all unset =
      ap (λ b. b || has k e claims) (other_row e x marks (same_entry k e x) refl all.0 unset) ∙ unmarked_lacks e marks claims all.1 unset

  -- a search that goes over the keys asks the claims
  pub any_of_keys : (asked query : Query B) (marks : List Bool) (keys lent : List B) (claims self : List (Entry B)) (r : Bool) → query ≡ asked
      → lent ≡ keys → IsTabled marks keys claims → claims ≡ self → r ≡ list_any (λ x. key_matches k asked x) lent → r ≡ list_any (matches k query) self
  any_of_keys asked query marks keys lent claims self r is same tabled view given =
      given ∙ ap (list_any (λ x. key_matches k asked x)) (same ∙ tabled.same_keys) ∙ any_key (λ x. key_matches k asked x) claims
      ∙ ap (list_any (λ e. key_matches k asked e.key)) view ∙ ap (λ q. list_any (matches k q) self) (sym is)
