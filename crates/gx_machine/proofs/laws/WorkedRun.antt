-- The worked run is one, and has what the law on serial runs asks for.
use Rattle.std.proofs.Common.{ℕ, [], ◌∷◌, refl, arith}
use Rattle.std.specs.Prelude.{Option, None, Some}
use Rattle.std.specs.Cmp.{nat_cmp_total}
use Rattle.std.proofs.lemmas.Map.Lookups.{exact_unsigned}
use Rattle.std.proofs.lemmas.List.Elements.{All-nil, All-cons}
use Rattle.gx_machine.specs.declared.call.Call.{Call}
use Rattle.gx_machine.specs.declared.call.Call.TheVariants.{Begin, Insert, Search, Commit}
use Rattle.gx_machine.specs.declared.query.Query.TheVariants.{Overlap}
use Rattle.gx_machine.specs.declared.reply.Reply.{Reply}
use Rattle.gx_machine.specs.declared.reply.Reply.TheVariants.{Inserted, Refused}
use Rattle.gx_geom.specs.declared.refusal.Refusal.TheVariants.{Busy}
use Rattle.gx_machine.specs.declared.reply.Asked.TheVariants.{Now, Open}
use Rattle.gx_machine.specs.Keys.{IsLawful}
use Rattle.gx_machine.specs.Sessions.{no_changes}
use Rattle.gx_machine.specs.Machine.{Machine, fresh_machine, ask, answer, seal, durable}
use Rattle.gx_machine.specs.Runs.{Step, Asks, IsRun}
use Rattle.gx_machine.specs.Serial.{Begins, BeginsNone, AnsweredThenSealed}
use Rattle.gx_machine.specs.Worked.{number_keys, first_entry, second_entry, first_added, beginning, kept_off, worked_steps, worked_end}

abbrev asked : ℕ → Call ℕ → Machine ℕ → Machine ℕ
asked s call m = (ask number_keys s call m).1

abbrev second : Machine ℕ → Option (Reply ℕ × Machine ℕ) → Machine ℕ
second m None = m
second m (Some r) = r.1

abbrev answered : ℕ → Machine ℕ → Machine ℕ
answered s m = second m (answer number_keys s m)

abbrev after : Machine ℕ → Option (Machine ℕ) → Machine ℕ
after m None = m
after m (Some n) = n

abbrev sealed : ℕ → Machine ℕ → Machine ℕ
sealed s m = after m (seal number_keys s m)

abbrev m1 : Machine ℕ
m1 = asked 1 Begin fresh_machine

abbrev m2 : Machine ℕ
m2 = asked 2 Begin m1

abbrev m3 : Machine ℕ
m3 = asked 1 (Insert first_entry) m2

abbrev m4 : Machine ℕ
m4 = answered 1 m3

abbrev m6 : Machine ℕ
m6 = asked 1 Commit m4

abbrev m7 : Machine ℕ
m7 = sealed 1 m6

abbrev m8 : Machine ℕ
m8 = asked 2 (Search (Overlap 1)) m7

abbrev m9 : Machine ℕ
m9 = answered 2 m8

abbrev m10 : Machine ℕ
m10 = durable 1 m9

abbrev m11 : Machine ℕ
m11 = answered 1 m10

abbrev m12 : Machine ℕ
m12 = asked 2 (Insert second_entry) m11

abbrev m13 : Machine ℕ
m13 = answered 2 m12

abbrev m14 : Machine ℕ
m14 = asked 2 Commit m13

abbrev m15 : Machine ℕ
m15 = sealed 2 m14

pub numbers_are_lawful : IsLawful number_keys
numbers_are_lawful = record { total = nat_cmp_total; exact = exact_unsigned }

pub worked : IsRun number_keys fresh_machine worked_steps worked_end
worked = (
  m1,
  (refl, refl),
  (
    m2,
    (refl, refl),
    (
      m3,
      (refl, refl),
      (
        m4,
        (refl, refl),
        (
          m4,
          (refl, refl),
          (
            m6,
            (refl, refl),
            (
              m7,
              (refl, refl, refl),
              (
                m8,
                (refl, refl),
                (
                  m9,
                  (refl, refl),
                  (
                    m10,
                    (refl, omega arith, omega arith, refl),
                    (
                      m11,
                      (refl, refl),
                      (
                        m12,
                        (refl, refl),
                        (
                          m13,
                          (refl, refl),
                          (
                            m14,
                            (refl, refl),
                            (
                              m15,
                              (refl, refl, refl),
                              (worked_end, (omega arith, omega arith, refl), refl),
                            ),
                          ),
                        ),
                      ),
                    ),
                  ),
                ),
              ),
            ),
          ),
        ),
      ),
    ),
  ),
)

begins_nothing : BeginsNone 1 kept_off
begins_nothing =
    All-cons (λ (step : Step ℕ). ¬ Begins 1 step) (Asks 2 (Search (Overlap 1)) (Now (Refused (Busy 1)))) (Asks 1 Commit Open ∷ []) (λ b. cc)
    (All-cons (λ (step : Step ℕ). ¬ Begins 1 step) (Asks 1 Commit Open) [] (λ b. cc) (All-nil (λ (step : Step ℕ). ¬ Begins 1 step)))

-- the insert of the first session was answered in a transaction that was sealed
pub worked_insert : (sealing : Machine ℕ) × AnsweredThenSealed number_keys fresh_machine 1 (Insert first_entry) no_changes Inserted first_added sealing
worked_insert = (
  m6,
  record {
    before = beginning;
    asked = m3;
    locks = record { claims = first_entry ∷ []; predicates = [] };
    leads_to_asked = (m1, (refl, refl), (m2, (refl, refl), (m3, (refl, refl), refl)));
    call_is_open = refl;
    answered = m4;
    then_locks = record { claims = first_entry ∷ []; predicates = [] };
    is_answered = (refl, refl);
    call_is_closed = refl;
    between = kept_off;
    leads_to_sealing = (m4, (refl, refl), (m6, (refl, refl), refl));
    goes_on = begins_nothing;
    number = 1;
    sealed = m7;
    is_sealed = (refl, refl, refl);
  },
)
