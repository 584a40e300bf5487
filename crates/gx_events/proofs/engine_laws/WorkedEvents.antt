-- The interleaving that is worked out is one.
use Rattle.std.proofs.Common.{◌≡◌, ℕ, Bool, true, false, ◌&&◌, ◌||◌, List, [], ◌∷◌, Some, None, refl, ap, arith}
use Rattle.std.specs.Prelude.{if◌then◌else◌, unwrap_or}
use Rattle.std.specs.Option.{option_or}
use Rattle.std.specs.Cmp.{nat_cmp_total}
use Rattle.std.proofs.lemmas.Map.Lookups.{exact_unsigned}
use Rattle.gx_machine.specs.declared.entry.Entry.{Entry}
use Rattle.gx_machine.specs.declared.query.Query.TheVariants.{Overlap}
use Rattle.gx_machine.specs.declared.call.Call.{Call}
use Rattle.gx_machine.specs.declared.call.Call.TheVariants.{Begin, Insert, Delete, Search, Commit, Abort}
use Rattle.gx_machine.specs.Keys.{IsLawful, same_entry, matches}
use Rattle.gx_machine.specs.Sets.{has, IsSetOf}
use Rattle.gx_machine.specs.Sessions.{Locks}
use Rattle.gx_machine.specs.Worked.{number_keys}
use Rattle.gx_machine.proofs.SetLaws.{same_is}
use Rattle.gx_machine.proofs.SetsByTests.{set_of_its_members, set_that_is_found, set_of_a_test_that_agrees}
use Rattle.gx_events.specs.Slots.{Note, Free, Working, Waiting, with_slot}
use Rattle.gx_events.specs.Engines.{Engine, IsSame, stood}
use Rattle.gx_events.specs.Asking.{ask}
use Rattle.gx_events.specs.Happenings.{marked}
use Rattle.gx_events.specs.Runs.{AreHappenings}
use Rattle.gx_events.specs.Worked.{sought, passed_over, first_engine, last_engine, worked_events}

pub lawful : IsLawful number_keys
lawful = record { total = nat_cmp_total; exact = exact_unsigned }

alike : (e : Engine ℕ) → IsSame e e
alike e = record { live = λ x. refl; slots = refl; older = refl; oldest = refl; failed = refl }

abbrev asked : ℕ → Call ℕ → Engine ℕ → Engine ℕ
asked s call e = (ask number_keys s call e).1

abbrev searching : Locks ℕ
searching = record { claims = []; predicates = Overlap 1 ∷ [] }

abbrev inserting : Locks ℕ
inserting = record { claims = passed_over ∷ []; predicates = [] }

abbrev deleting : Locks ℕ
deleting = record { claims = sought ∷ []; predicates = Overlap 1 ∷ [] }

abbrev inserted : List (Note ℕ)
inserted = record { entry = passed_over; was_live = false } ∷ []

abbrev deleted : List (Note ℕ)
deleted = record { entry = sought; was_live = true } ∷ []

-- the engines, one after another

abbrev e1 : Engine ℕ
e1 = asked 1 Begin first_engine

abbrev e2 : Engine ℕ
e2 = asked 2 Begin e1

abbrev e3 : Engine ℕ
e3 = asked 1 (Search (Overlap 1)) e2

abbrev e5 : Engine ℕ
e5 = asked 2 (Insert passed_over) e3

abbrev e6 : Engine ℕ
e6 = record e5 { live = marked number_keys passed_over true e5.live; slots = with_slot 2 (Working inserting inserted None) e5.slots }

abbrev e8 : Engine ℕ
e8 = record e6 { slots = with_slot 1 (Working searching [] None) e6.slots }

abbrev e10 : Engine ℕ
e10 = asked 2 Commit e8

abbrev e11 : Engine ℕ
e11 = record e10 { older = (sought ∷ []) ∷ []; slots = with_slot 2 (Waiting 1) e10.slots }

abbrev e12 : Engine ℕ
e12 = asked 1 (Delete sought) e11

abbrev e13 : Engine ℕ
e13 = record e12 { live = marked number_keys sought false e12.live; slots = with_slot 1 (Working deleting deleted None) e12.slots }

abbrev e14 : Engine ℕ
e14 = record e13 { older = []; oldest = 1 }

abbrev e15 : Engine ℕ
e15 = record e14 { slots = with_slot 2 Free e14.slots }

abbrev e16 : Engine ℕ
e16 = asked 1 Abort e15

abbrev e17 : Engine ℕ
e17 = record e16 { live = marked number_keys sought true e16.live }

abbrev e18 : Engine ℕ
e18 = record e17 { slots = with_slot 1 Free e17.slots }

-- what the tests come to at an entry that is the one, or the other, or neither

two_marked : (a b : Bool) → (a || (b || false)) ≡ (if b then true else (a || false))
two_marked true true = refl
two_marked true false = refl
two_marked false true = refl
two_marked false false = refl

both_of_them : (a b : Bool) → (a || (b || false)) ≡ (if a then true else (if a then false else (if b then true else (a || false))))
both_of_them true b = refl
both_of_them false true = refl
both_of_them false false = refl

stood_before : (a b : Bool) → (b ≡ true → a ≡ false)
    → (a || false) ≡ unwrap_or (option_or (if b then Some false else None) None) (if b then true else (a || false))
stood_before true true apart = let no : true ≡ false = apart refl in cc
stood_before false true apart = refl
stood_before true false apart = refl
stood_before false false apart = refl

restored_by : (a was other : Bool) → (if a then Some true else None) ≡ Some was → (if a then true else other) ≡ was
restored_by true true other h = refl
restored_by true false other h = cc
restored_by false was other h = let no : ⊥ = cc in absurd no

not_the_other : (x : Entry ℕ) → same_entry number_keys x passed_over ≡ true → same_entry number_keys x sought ≡ false
not_the_other x h = ap (λ (z : Entry ℕ). same_entry number_keys z sought) (same_is number_keys lawful x passed_over h)

-- the search finds the one that is live and matches
finds_it : IsSetOf number_keys (λ e. matches number_keys (Overlap 1) e && e6.live e) (sought ∷ [])
finds_it =
    let both : IsSetOf number_keys (λ e. has number_keys e (sought ∷ passed_over ∷ [])) (sought ∷ passed_over ∷ []) =
    set_of_its_members number_keys lawful (sought ∷ passed_over ∷ []) ((refl, tt), (tt, tt)) in
    set_of_a_test_that_agrees number_keys lawful
    (λ e. matches number_keys (Overlap 1) e && has number_keys e (sought ∷ passed_over ∷ [])) (λ e. matches number_keys (Overlap 1) e && e6.live e) (sought ∷ [])
    (λ e. ap (λ b. matches number_keys (Overlap 1) e && b) (two_marked (same_entry number_keys e sought) (same_entry number_keys e passed_over)))
    (set_that_is_found number_keys lawful (λ e. has number_keys e (sought ∷ passed_over ∷ [])) (Overlap 1) (sought ∷ passed_over ∷ []) both)

-- the commit's set is put after the one before
stands : IsSetOf number_keys (stood number_keys e10) (sought ∷ [])
stands = record {
  in_order = (tt, tt);
  members = λ e. stood_before (same_entry number_keys e sought) (same_entry number_keys e passed_over) (not_the_other e);
}

pub worked : AreHappenings number_keys first_engine worked_events last_engine
worked = (
  e1,
  (refl, refl, alike e1),
  (
    e2,
    (refl, refl, alike e2),
    (
      e3,
      (refl, refl, alike e3),
      (
        e3,
        alike e3,
        (
          e5,
          (refl, refl, alike e5),
          (
            e6,
            record { works = refl; locks = inserting; notes = []; asked = refl; was = refl; then_notes = inserted; with_note = λ x. refl; is = alike e6 },
            (
              e6,
              (refl, refl, alike e6),
              (
                e8,
                (finds_it, record { works = refl; locks = searching; notes = []; asked = refl; is = alike e8 }),
                (
                  e8,
                  (refl, refl, alike e8),
                  (
                    e10,
                    (refl, refl, alike e10),
                    (
                      e11,
                      record { works = refl; locks = inserting; notes = inserted; asked = refl; next = refl; stands = stands; is = alike e11 },
                      (
                        e12,
                        (refl, refl, alike e12),
                        (
                          e13,
                          record { works = refl; locks = deleting; notes = []; asked = refl; was = refl; then_notes = deleted; with_note = λ x. refl; is = alike e13 },
                          (
                            e14,
                            record { works = refl; rises = omega arith; sealed = omega arith; is = alike e14 },
                            (
                              e15,
                              record { works = refl; waits = refl; is_durable = omega arith; is = alike e15 },
                              (
                                e16,
                                (refl, refl, alike e16),
                                (
                                  e17,
                                  record { works = refl; locks = deleting; notes = deleted; aborts = refl; was_live = true; was_noted = refl; is = alike e17 },
                                  (
                                    e18,
                                    record {
                                      works = refl;
                                      locks = deleting;
                                      notes = deleted;
                                      aborts = refl;
                                      restored = λ x was h. restored_by (same_entry number_keys x sought) was (e16.live x) h;
                                      is = alike e18;
                                    },
                                    (
                                      last_engine,
                                      record {
                                        rises = omega arith;
                                        sealed = omega arith;
                                        live = λ x. both_of_them (same_entry number_keys x sought) (same_entry number_keys x passed_over);
                                        slots = refl;
                                        older = refl;
                                        oldest = refl;
                                        failed = refl;
                                      },
                                      refl,
                                    ),
                                  ),
                                ),
                              ),
                            ),
                          ),
                        ),
                      ),
                    ),
                  ),
                ),
              ),
            ),
          ),
        ),
      ),
    ),
  ),
)
