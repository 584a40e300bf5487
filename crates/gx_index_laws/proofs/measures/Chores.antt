-- Each chore lowers what is to be done for the log and for frames.
use Rattle.std.proofs.Common.{◌≡◌, ℕ, suc, ◌+◌, ◌^◌, ◌<◌, ◌≤◌, Bool, true, false, inl, inr, ap, sym, ◌∙◌, subst, arith}
use Rattle.std.proofs.lemmas.Bool.{le-leb}
use Rattle.std.specs.Prelude.{nat_le}
use Rattle.gx_index_laws.specs.declared.TheConstants.{CHECKPOINT_AT}
use Rattle.gx_index_laws.specs.Upkeep.{Checkpoint, Off, Running, Turning, Upkeep, calls_to_go, IsWithin, where_so, used_then, checkpoint_left, upkeep_left, TakesBatch, GoesOn, WritesPage, SyncsPages, TurnsOn, Turned, MustRun, running, Chore, LogStep, WritePage, CheckpointStep, IsChore}

takes_falls : (old new : Upkeep) → TakesBatch old new → upkeep_left new < upkeep_left old
takes_falls old new is =
    let four : where_so old.filling 4 ≡ 4 = ap (λ b. where_so b 4) is.filled in
    let one : where_so old.filling 1 ≡ 1 = ap (λ b. where_so b 1) is.filled in
    let idle = is.idle in
    let as_many : checkpoint_left old.checkpoint (suc old.used + 0) ≡ checkpoint_left old.checkpoint (used_then old) =
    ap (checkpoint_left old.checkpoint) (omega (arith, one)) in
    subst (λ (x : Upkeep). upkeep_left x < upkeep_left old) (sym is.is) (omega (arith, four, idle, as_many))

goes_falls : (old new : Upkeep) → GoesOn old new → upkeep_left new < upkeep_left old
goes_falls old new is = let going = is.going in subst (λ (x : Upkeep). upkeep_left x < upkeep_left old) (sym is.is) (omega (arith, going))

writes_falls : (old new : Upkeep) → WritesPage old new → upkeep_left new < upkeep_left old
writes_falls old new is = let some = is.some in subst (λ (x : Upkeep). upkeep_left x < upkeep_left old) (sym is.is) (omega (arith, some))

syncs_falls : (old new : Upkeep) → SyncsPages (running old) new → upkeep_left new < upkeep_left (running old)
syncs_falls old new is = subst (λ (x : Upkeep). upkeep_left x < upkeep_left (running old)) (sym is.is) (omega arith)

turns_falls : (old new : Upkeep) → TurnsOn old new → upkeep_left new < upkeep_left old
turns_falls old new is =
    let was : checkpoint_left old.checkpoint (used_then old) ≡ suc (suc is.calls) = ap (λ (x : Checkpoint). checkpoint_left x (used_then old)) is.going in
    subst (λ (x : Upkeep). upkeep_left x < upkeep_left old) (sym is.is) (omega (arith, was))

turned_falls : (old new : Upkeep) → Turned old new → upkeep_left new < upkeep_left old
turned_falls old new is =
    let was : checkpoint_left old.checkpoint (used_then old) ≡ 1 = ap (λ (x : Checkpoint). checkpoint_left x (used_then old)) is.going in
    let now : checkpoint_left Off (1 + where_so old.filling 1) ≡ 0 = ap (λ b. checkpoint_left Off (1 + where_so b 1)) is.empty in
    subst (λ (x : Upkeep). upkeep_left x < upkeep_left old) (sym is.is) (omega (arith, was, now))

-- a checkpoint that has to run counts as one that runs
runs_as_much : (u : Upkeep) → MustRun u → upkeep_left (running u) ≡ upkeep_left u
runs_as_much u must =
    let same : checkpoint_left u.checkpoint (used_then u) ≡ 8 =
    elim must [
      | inl runs ↦ ap (λ (x : Checkpoint). checkpoint_left x (used_then u)) runs
      | inr has_to ↦
          ap (λ (x : Checkpoint). checkpoint_left x (used_then u)) has_to.0
          ∙ ap (λ b. where_so b 8) (le-leb CHECKPOINT_AT (used_then u) (let low = has_to.1 in omega (arith, low)))
    ] in
    omega (arith, same)

pub chore_falls : (old new : Upkeep) (chore : Chore) → IsChore old chore new → upkeep_left new < upkeep_left old
chore_falls old new LogStep is = elim is.1 [ inl takes ↦ takes_falls old new takes | inr goes ↦ goes_falls old new goes ]
chore_falls old new WritePage is = writes_falls old new is
chore_falls old new CheckpointStep is =
    elim is [
      | inl runs ↦
          (let same = runs_as_much old runs.0 in
          let less : upkeep_left new < upkeep_left (running old) =
          elim runs.1 [
            | inl logs ↦ elim logs [ inl takes ↦ takes_falls (running old) new takes | inr goes ↦ goes_falls (running old) new goes ]
            | inr pages ↦ elim pages [ inl writes ↦ writes_falls (running old) new writes | inr syncs ↦ syncs_falls old new syncs ]
          ] in
          omega (arith, same, less))
      | inr turns ↦ elim turns [ inl on ↦ turns_falls old new on | inr done ↦ turned_falls old new done ]
    ]

so_most : (b : Bool) (n : ℕ) → where_so b n ≤ n
so_most true n = omega arith
so_most false n = omega arith

eight_most : (x : Checkpoint) (used : ℕ) → calls_to_go x ≤ 7 → checkpoint_left x used ≤ 8
eight_most Off used few = so_most (nat_le CHECKPOINT_AT used) 8
eight_most Running used few = omega arith
eight_most (Turning calls) used few = omega (arith, few)

pub upkeep_below : (u : Upkeep) → IsWithin u → upkeep_left u < 2 ^ 13
upkeep_below u within =
    let frames = within.dirty in
    let batch = within.flight in
    let four = so_most u.filling 4 in
    let eight = eight_most u.checkpoint (used_then u) within.turn in
    omega (arith, frames, batch, four, eight)
