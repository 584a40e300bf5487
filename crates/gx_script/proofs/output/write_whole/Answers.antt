use Rattle.std.proofs.Common.{◌≡◌, ◌++◌, List, ℕ, sym, ap, subst, ◌∙◌, append_assoc, take, drop, Bor, arith, inr}
use Rattle.std.proofs.KnownBytes.{Appends-trans, Appends-kept}
use Rattle.std.proofs.lemmas.List.{take-append-drop}
use Rattle.gx_script.specs.declared.noted.Transfer.{Transfer}
use Rattle.gx_script.specs.Noting.{IsTaken}
use Rattle.gx_script.proofs.output.write_whole.Goals as goal
use Rattle.gx_script.proofs.output.write_whole.Goals.{in-Interrupted, in-Moved}

pub loop-turn-preserved : goal.loop-turn-preserved
loop-turn-preserved g c =
    let old = c.loop-turn.invariant in
    let held = g.W.Write.contents c.args.writer.now.inner in
    let before = g.W.Write.contents c.loop-turn.writer.inner in
    let after = g.W.Write.contents c.write.new.self.inner in
    let taken : (t : Transfer) → c.write.result ≡ t → IsTaken before after c.loop-turn.rest.now t =
    λ t is. subst (λ (t : Transfer). IsTaken before after c.loop-turn.rest.now t) is c.write.ensures.taken in
    record {
      wrote = elim c.match-write.branch [
        | in-Moved w ↦
            let moved = taken _ w.in-Moved.is in
            let piece : List ℕ = take w.in-Moved.count c.loop-turn.rest.now in (
              old.wrote.0 ++ piece,
              Appends-trans held before after old.wrote.0 piece old.wrote.1 moved.1,
              old.wrote.2 ∙ ap (λ x. old.wrote.0 ++ x) (sym (take-append-drop w.in-Moved.count c.loop-turn.rest.now))
                  ∙ sym (append_assoc old.wrote.0 piece (drop w.in-Moved.count c.loop-turn.rest.now))
                  ∙ ap (λ x. (old.wrote.0 ++ piece) ++ x) (sym w.split_at.ensures.back ∙ sym (ap (λ (r : Bor (List ℕ)). r.now) w.rest-is)),
            )
        | in-Interrupted w ↦ (
          old.wrote.0,
          Appends-kept held before after old.wrote.0 old.wrote.1 (taken _ w.in-Interrupted.is),
          old.wrote.2 ∙ ap (λ x. old.wrote.0 ++ x) (sym (ap (λ (r : Bor (List ℕ)). r.now) w.rest-is)),
        )
      ];
      calls = omega (arith, old.calls, c.write.ensures.calls);
    }

-- each turn made a call
pub returns-else-is_empty-2-clause-stuck : goal.returns-else-is_empty-2-clause-stuck
returns-else-is_empty-2-clause-stuck g c = inr (inr (omega (arith, c.loop-turn.invariant.calls, c.loop-turn-test.false)))
