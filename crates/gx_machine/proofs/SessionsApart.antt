-- What each move of a session keeps: its transaction stays sound, and its locks apart from those of the others.
use Rattle.std.proofs.Common.{◌≡◌, Bool, true, false, ◌||◌, inl, inr, List, [], ◌∷◌, ◌++◌, refl, ap, sym, ◌∙◌}
use Rattle.std.specs.List.{list_any}
use Rattle.std.proofs.lemmas.Bool.{or_from, or_parts}
use Rattle.std.proofs.lemmas.List.Folds.{list_any-append}
use Rattle.gx_machine.specs.declared.entry.Entry.{Entry}
use Rattle.gx_machine.specs.declared.query.Query.{Query}
use Rattle.gx_machine.specs.declared.call.Call.{Call}
use Rattle.gx_machine.specs.declared.call.Call.TheVariants.{Insert, Search}
use Rattle.gx_machine.specs.Keys.{Keys, IsLawful, same_entry, same_query, matches}
use Rattle.gx_machine.specs.Sets.{has, including}
use Rattle.gx_machine.specs.Sessions.{Session, Locks, locks_of, has_query, conflicts}
use Rattle.gx_machine.specs.Invariants.{Apart, IsSound}
use Rattle.gx_machine.proofs.SetLaws.{has-including, same_is, in_order_including}
use Rattle.gx_machine.proofs.SessionMoves.{Move, stays, begins, asks, claims, watches, aborts, answers, ends, included_covers, or_either, same_query_is}

module _ {B : Type 0} (k : Keys B) (l : IsLawful k) where
  -- locks that a write of the entry doesn't conflict with don't claim it
  pub not_claimed : (e : Entry B) (locks : Locks B) → conflicts k (Insert e) locks ≡ false → has k e locks.claims ≡ false
  not_claimed e locks h = (or_parts (has k e locks.claims) (list_any (λ q. matches k q e) locks.predicates) h).0

  -- what holds of no element doesn't hold of one
  none_passes : (p : Entry B → Bool) (e : Entry B) (xs : List (Entry B)) → list_any p xs ≡ false → has k e xs ≡ true → p e ≡ false
  none_passes p e [] none among = cc
  none_passes p e (x ∷ xs) none among =
      elim (or_either (same_entry k e x) (has k e xs) among) [
        | inl same ↦ ap p (same_is k l e x same) ∙ (or_parts (p x) (list_any p xs) none).0
        | inr later ↦ none_passes p e xs (or_parts (p x) (list_any p xs) none).1 later
      ]

  -- a predicate that is held matches what the predicates match
  pub predicate_matches : (q : Query B) (e : Entry B) (predicates : List (Query B)) → has_query k q predicates ≡ true
      → list_any (λ p. matches k p e) predicates ≡ false → matches k q e ≡ false
  predicate_matches q e [] held none = cc
  predicate_matches q e (p ∷ ps) held none =
      elim (or_either (same_query k q p) (has_query k q ps) held) [
        | inl same ↦ ap (λ (z : Query B). matches k z e) (same_query_is k l q p same) ∙ (or_parts (matches k p e) (list_any (λ z. matches k z e) ps) none).0
        | inr later ↦ predicate_matches q e ps later (or_parts (matches k p e) (list_any (λ z. matches k z e) ps) none).1
      ]

  -- an entry that one session claims, and that is free for another, isn't the other's
  other_entry : (e z : Entry B) (x : Locks B) (same : Bool) → same_entry k z e ≡ same → has k z x.claims ≡ true
      → conflicts k (Insert e) x ≡ false → same ≡ false
  other_entry e z x true is claimed clear =
      sym (sym (ap (λ (w : Entry B). has k w x.claims) (same_is k l z e is) ∙ not_claimed e x clear) ∙ claimed)
  other_entry e z x false is claimed clear = refl

  module _ (free : Call B → Type 0) (begun : Type 0) where
    -- a transaction stays sound
    pub sound_move : {x y : Session B} → Move k free begun x y → IsSound k x → IsSound k y
    sound_move stays s = s
    sound_move (begins b) s = (tt, record { added_in_order = tt; taken_in_order = tt; apart = λ e h. refl; added = λ e h. cc; taken = λ e h. cc })
    sound_move (asks holds) s = (s.0, s.1, holds)
    sound_move (claims {locks = locks} e clear alike holds) s = (
      in_order_including k l e locks.claims s.0,
      record {
        added_in_order = s.1.added_in_order;
        taken_in_order = s.1.taken_in_order;
        apart = s.1.apart;
        added = λ z h. included_covers k l e locks.claims z (s.1.added z h);
        taken = λ z h. included_covers k l e locks.claims z (s.1.taken z h);
      },
      holds,
    )
    sound_move (watches q clear holds) s = (
      s.0,
      record {
        added_in_order = s.1.added_in_order;
        taken_in_order = s.1.taken_in_order;
        apart = s.1.apart;
        added = s.1.added;
        taken = s.1.taken;
      },
      holds,
    )
    sound_move aborts s = s.0
    sound_move (answers after keeps) s = (s.0, keeps s.2 s.1)
    sound_move ends s = tt

    module _ (other : Locks B) (clears : (call : Call B) → free call → conflicts k call other ≡ false) where
      -- a session that moves claims nothing that another keeps it from
      pub apart_move : {x y : Session B} → Move k free begun x y → Apart k (locks_of x) other → Apart k (locks_of y) other
      apart_move stays a = a
      apart_move (begins b) a = λ e h. cc
      apart_move (asks holds) a = a
      apart_move (claims {locks = locks} {call = call} e clear alike holds) a = λ z h.
          elim (or_either (same_entry k z e) (has k z locks.claims) (sym (has-including k l z e locks.claims) ∙ h)) [
            | inl same ↦ ap (λ (w : Entry B). conflicts k (Insert w) other) (same_is k l z e same) ∙ sym (alike other) ∙ clears call clear
            | inr among ↦ a z among
          ]
      apart_move (watches q clear holds) a = a
      apart_move aborts a = a
      apart_move (answers after keeps) a = a
      apart_move ends a = λ e h. cc

      -- and keeps the other from nothing that that one claims
      pub moved_apart : {x y : Session B} → Move k free begun x y → Apart k other (locks_of x) → Apart k other (locks_of y)
      moved_apart stays a = a
      moved_apart (begins b) a = λ e h. refl
      moved_apart (asks holds) a = a
      moved_apart (claims {locks = locks} {call = call} e clear alike holds) a = λ z h.
          let parts = or_parts (has k z locks.claims) (list_any (λ q. matches k q z) locks.predicates) (a z h) in
          or_from (has k z (including k e locks.claims)) (list_any (λ q. matches k q z) locks.predicates)
          (has-including k l z e locks.claims ∙ or_from (same_entry k z e) (has k z locks.claims)
          (other_entry e z other (same_entry k z e) refl h (sym (alike other) ∙ clears call clear)) parts.0)
          parts.1
      moved_apart (watches {locks = locks} q clear holds) a = λ z h.
          let parts = or_parts (has k z locks.claims) (list_any (λ p. matches k p z) locks.predicates) (a z h) in
          let apart : matches k q z ≡ false = none_passes (matches k q) z other.claims (clears (Search q) clear) h in
          or_from (has k z locks.claims) (list_any (λ p. matches k p z) (locks.predicates ++ q ∷ [])) parts.0
          (list_any-append (λ (p : Query B). matches k p z) locks.predicates (q ∷ [])
          ∙ or_from (list_any (λ p. matches k p z) locks.predicates) (matches k q z || false) parts.1 (or_from (matches k q z) false apart refl))
      moved_apart aborts a = a
      moved_apart (answers after keeps) a = a
      moved_apart ends a = λ e h. refl
