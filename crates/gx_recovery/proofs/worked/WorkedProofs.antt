-- The worked life meets the definitions, step by step.
use Rattle.std.proofs.Common.{◌≡◌, ℕ, ◌≤◌, Bool, true, false, not, ◌||◌, inl, [], ◌∷◌, Option, Some, None, refl, ap, sym, le_refl, arith}
use Rattle.std.specs.Prelude.{◌==◌, if◌then◌else◌}
use Rattle.std.specs.Option.{option_or}
use Rattle.std.specs.Ordering.{is_eq, nat_cmp}
use Rattle.std.specs.Cmp.{nat_cmp_total}
use Rattle.std.proofs.lemmas.Map.Lookups.{exact_unsigned}
use Rattle.gx_recovery.specs.Known.{IsLawful}
use Rattle.gx_recovery.specs.Coming.{MayCome}
use Rattle.gx_recovery.specs.Logged.{Logged, IsHealthy, all_records, appended, begun, AgreesBeside}
use Rattle.gx_recovery.specs.Life.{AllWritten, IsLife}
use Rattle.gx_recovery.specs.Worked.{Content, leaf, worked}
use Rattle.gx_recovery.specs.WorkedLife.{fresh, insert_7, commit_1, insert_8, split, delete_7, restore_7, restore_8, end_2, sweep_8, torn, in_flight, committed, losing, half_written, reopened, undone, all_written, written, renewed_last, worked_steps}
use Rattle.gx_recovery.proofs.Tests.{or_swap}

pub worked_lawful : IsLawful worked
worked_lawful = record { total = nat_cmp_total; exact = λ a b h. exact_unsigned a b h }

pub fresh_healthy : IsHealthy worked fresh
fresh_healthy = record {
  gated = record { head = fresh.gated; later = []; parts = refl; begins = refl; goes_on = refl };
  good = record { sound = (refl, refl); placed = tt };
  coming = tt;
}

three_five : 3 ≤ 5
three_five = omega arith

abbrev is : ℕ → ℕ → Bool
is e n = is_eq (nat_cmp e n)

comes_1 : MayCome worked fresh.area (all_records fresh) insert_7
comes_1 = record {
  follows = refl;
  exact = record { found = refl; left = refl; others = λ e h. ap (λ b. b || false) h };
  good = record { sound = (refl, refl); placed = (refl, tt) };
}

abbrev state_1 : Logged ℕ Content
state_1 = appended insert_7 fresh

comes_2 : MayCome worked fresh.area (all_records state_1) commit_1
comes_2 = record { follows = refl; exact = tt; good = record { sound = (refl, refl); placed = tt } }

comes_3 : MayCome worked committed.area (all_records committed) insert_8
comes_3 = record {
  follows = refl;
  exact = record { found = refl; left = refl; others = λ e h. ap (λ b. b || (is e 7 || false)) h };
  good = record { sound = (refl, refl); placed = (refl, tt) };
}

abbrev state_3 : Logged ℕ Content
state_3 = appended insert_8 committed

comes_4 : MayCome worked committed.area (all_records state_3) split
comes_4 = record { follows = refl; exact = λ e. or_swap (is e 7) (is e 8) false; good = record { sound = (refl, refl); placed = (refl, tt) } }

abbrev state_4 : Logged ℕ Content
state_4 = appended split state_3

comes_5 : MayCome worked committed.area (all_records state_4) delete_7
comes_5 = record {
  follows = refl;
  exact = record { found = refl; left = refl; others = λ e h. sym (ap (λ b. b || (is e 8 || false)) h) };
  good = record { sound = (refl, refl); placed = (refl, (refl, tt)) };
}

torn_pages : (a b : Bool) (x y z : Content) → (a || ((a || (b || false)) || (a || false))) ≡ false → (if a then x else if b then y else z) ≡ z
torn_pages true b x y z h = cc
torn_pages false true x y z h = cc
torn_pages false false x y z h = refl

torn_agrees : AgreesBeside losing.gated losing.area torn
torn_agrees p h = torn_pages (2 == p) (3 == p) (leaf 2 (record { entry = 7; marked = true } ∷ [])) (leaf 9 (record { entry = 99; marked = false } ∷ [])) (leaf p []) h

comes_6 : MayCome worked reopened.area (all_records reopened) restore_7
comes_6 = record {
  follows = refl;
  exact = record { found = refl; left = refl; others = λ e h. ap (λ b. b || (is e 8 || false)) h };
  good = record { sound = (refl, refl); placed = (refl, (refl, tt)) };
}

abbrev state_6 : Logged ℕ Content
state_6 = appended restore_7 reopened

comes_7 : MayCome worked reopened.area (all_records state_6) restore_8
comes_7 = record {
  follows = refl;
  exact = record { found = refl; left = refl; others = λ e h. sym (ap (λ b. is e 7 || (b || false)) h) };
  good = record { sound = (refl, refl); placed = (refl, (refl, tt)) };
}

abbrev state_7 : Logged ℕ Content
state_7 = appended restore_8 state_6

abbrev mark : Bool → Bool → Option Bool
mark test before = if test then Some before else None

as_before : (seven eight before : Bool)
    → option_or (mark seven false) (option_or (mark eight true) (option_or (mark seven true) (option_or (mark eight false) None))) ≡ Some before
    → (seven || (false || false)) ≡ not before
as_before true eight true h = cc
as_before true eight false h = refl
as_before false true true h = refl
as_before false true false h = cc
as_before false false before h = cc

comes_8 : MayCome worked reopened.area (all_records state_7) end_2
comes_8 = record {
  follows = refl;
  exact = λ e before h. as_before (is e 7) (is e 8) before h;
  good = record { sound = (refl, refl); placed = tt };
}

abbrev state_8 : Logged ℕ Content
state_8 = appended end_2 state_7

comes_9 : MayCome worked reopened.area (all_records state_8) sweep_8
comes_9 = record { follows = refl; exact = λ e. refl; good = record { sound = (refl, refl); placed = tt } }

abbrev state_9 : Logged ℕ Content
state_9 = appended sweep_8 state_8

written_pages : (a b : Bool) (x y z : Content) → (b || (a || false)) ≡ false → (if a then x else if b then y else z) ≡ z
written_pages true true x y z h = cc
written_pages true false x y z h = cc
written_pages false true x y z h = cc
written_pages false false x y z h = refl

written_agrees : AgreesBeside undone.gated undone.area all_written
written_agrees p h = written_pages (3 == p) (2 == p) (leaf 3 []) (leaf 2 (record { entry = 7; marked = false } ∷ [])) (reopened.area p) h

written_twice : (a b : Bool) (x w y z : Content) → (if a then x else if b then y else z) ≡ (if a then x else if a then w else if b then y else if a then x else if b then y else z)
written_twice true b x w y z = refl
written_twice false true x w y z = refl
written_twice false false x w y z = refl

written_all : AllWritten written
written_all p =
    written_twice (3 == p) (2 == p) (leaf 3 []) (leaf 3 (record { entry = 8; marked = true } ∷ [])) (leaf 2 (record { entry = 7; marked = false } ∷ [])) (reopened.area p)

abbrev state_2 : Logged ℕ Content
state_2 = appended commit_1 state_1

abbrev state_5 : Logged ℕ Content
state_5 = appended delete_7 state_4

pub worked_life : IsLife worked fresh worked_steps renewed_last
worked_life = (
  state_1,
  (comes_1, refl),
  (
    state_2,
    (comes_2, refl),
    (
      in_flight,
      (refl, refl),
      (
        committed,
        refl,
        (
          state_3,
          (comes_3, refl),
          (
            state_4,
            (comes_4, refl),
            (
              state_5,
              (comes_5, refl),
              (
                begun state_5,
                (refl, refl),
                (
                  losing,
                  refl,
                  (
                    half_written,
                    (torn_agrees, refl),
                    (
                      reopened,
                      (record { area_agrees = λ p h. refl; log_read = inl refl }, le_refl 3, refl),
                      (
                        state_6,
                        (comes_6, refl),
                        (
                          state_7,
                          (comes_7, refl),
                          (
                            state_8,
                            (comes_8, refl),
                            (
                              state_9,
                              (comes_9, refl),
                              (
                                begun state_9,
                                (refl, refl),
                                (
                                  undone,
                                  refl,
                                  (written, (written_agrees, refl), (renewed_last, (refl, refl, written_all, three_five, refl), refl)),
                                ),
                              ),
                            ),
                          ),
                        ),
                      ),
                    ),
                  ),
                ),
              ),
            ),
          ),
        ),
      ),
    ),
  ),
)
