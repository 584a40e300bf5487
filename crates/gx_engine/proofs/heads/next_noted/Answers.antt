use Rattle.std.proofs.Common.{◌∙◌, sym, subst, ℕ, ◌+◌, Option}
use Rattle.gx_engine.specs.Heads.{IsNextOf, from_of}
use Rattle.gx_engine.proofs.heads.Notes.{is_place, next_left, next_taken}
use Rattle.gx_engine.proofs.heads.next_noted.Goals as goal
use Rattle.gx_engine.proofs.heads.next_noted.Goals.{then-comes_before, else-comes_before}

pub loop-place-preserved : goal.loop-place-preserved
loop-place-preserved g c =
    let n = c.loop-place.place in
    let sessions = c.args.sessions.now in
    let from = from_of c.args.after in
    elim c.if-comes_before.branch [
      | then-comes_before w ↦
          subst (λ (o : Option ℕ). IsNextOf sessions from (n + 1) o) (sym w.next-is)
          (next_taken sessions from n c.loop-place.next (is_place n c.loop-place-test.true) (sym c.comes_before.ensures ∙ w.if-comes_before.true) c.loop-place.invariant)
      | else-comes_before w ↦
          subst (λ (o : Option ℕ). IsNextOf sessions from (n + 1) o) (sym w.next-is)
          (next_left sessions from n c.loop-place.next (sym c.comes_before.ensures ∙ w.if-comes_before.false) c.loop-place.invariant)
    ]
