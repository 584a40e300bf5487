use Rattle.std.proofs.Common.{◌∙◌, sym, ap, length, drop, arith}
use Rattle.std.proofs.lemmas.List.{length-take-le, length-drop}
use Rattle.gx_disk.specs.Sectors.{sector_of}
use Rattle.gx_disk.specs.declared.memory.PastCall.TheVariants.{Write}
use Rattle.gx_disk.proofs.tear.Tearing.{front_room, front_found, front_within, front_fits, front_sized, front_same, walk_over}
use Rattle.gx_disk.proofs.tear.old_bytes.Goals as goal

pub kept_at-requires : goal.kept_at-requires
kept_at-requires c = let k = c.loop-call in
    front_room c.args.sectors c.args.calls.now k.call-index (Write 0 0 0) c.args.kept.now k.rest.now c.args.s c.loop-call-test.true k.invariant.fits k.invariant.sized k.invariant.same

pub part-requires : goal.part-requires
part-requires c = let k = c.loop-call in
    front_within c.args.sectors c.args.calls.now k.call-index (Write 0 0 0) c.args.kept.now k.rest.now c.args.s c.loop-call-test.true k.invariant.fits k.invariant.sized k.invariant.same c.in-Some.at c.in-Some.ensures

pub returns-in-Some-clause-old : goal.returns-in-Some-clause-old
returns-in-Some-clause-old c now size = let k = c.loop-call in
    front_found c.args.sectors c.args.calls.now k.call-index (Write 0 0 0) c.args.kept.now k.rest.now c.args.s c.loop-call-test.true k.invariant.fits k.invariant.sized k.invariant.same c.in-Some.at c.in-Some.ensures now size ∙ sym c.part.ensures

pub after_kept-rest-requires : goal.after_kept-rest-requires
after_kept-rest-requires c = let k = c.loop-call in
    front_room c.args.sectors c.args.calls.now k.call-index (Write 0 0 0) c.args.kept.now k.rest.now c.args.s c.loop-call-test.true k.invariant.fits k.invariant.sized k.invariant.same

pub loop-call-preserved : goal.loop-call-preserved
loop-call-preserved c = let k = c.loop-call in record {
  fits = front_fits c.args.sectors c.args.calls.now k.call-index (Write 0 0 0) c.args.kept.now k.rest.now c.args.s c.loop-call-test.true k.invariant.fits k.invariant.sized k.invariant.same;
  sized = rw c.after_kept-rest.ensures (front_sized c.args.sectors c.args.calls.now k.call-index (Write 0 0 0) c.args.kept.now k.rest.now c.args.s c.loop-call-test.true k.invariant.fits k.invariant.sized k.invariant.same);
  same = λ now size. rw c.after_kept-rest.ensures (front_same c.args.sectors c.args.calls.now k.call-index (Write 0 0 0) c.args.kept.now k.rest.now c.args.s c.loop-call-test.true k.invariant.fits k.invariant.sized k.invariant.same
      (sym c.in_default.is ∙ c.kept_at.ensures) now size);
}

pub returns-clause-old : goal.returns-clause-old
returns-clause-old c now size = let k = c.loop-call in
    sym (k.invariant.same now size) ∙ ap (λ bytes. sector_of bytes c.args.s) (walk_over c.args.calls.now k.call-index k.rest.now now c.loop-call-test.false)

pub returns-in-Some-clause-size : goal.returns-in-Some-clause-size
returns-in-Some-clause-size c = let k = c.loop-call in
    let inside = front_within c.args.sectors c.args.calls.now k.call-index (Write 0 0 0) c.args.kept.now k.rest.now c.args.s c.loop-call-test.true k.invariant.fits k.invariant.sized k.invariant.same c.in-Some.at c.in-Some.ensures in
    ap length c.part.ensures ∙ length-take-le 512 (drop c.in-Some.at k.rest.now) (omega (arith, inside, length-drop c.in-Some.at k.rest.now))
