use Rattle.std.proofs.Common.{arith, ◌≤◌, length, refl}
use Rattle.std.proofs.lemmas.Bool.Decides.{nat_tests}
use Rattle.std.proofs.lemmas.Option.{slice_get_read}
use Rattle.gx_storm.proofs.verdict.Judging.{has_every, has_more}
use Rattle.gx_storm.proofs.verdict.has_all.Goals as goal

pub returns-then-not-has_replies : goal.returns-then-not-has_replies
returns-then-not-has_replies g c = record {
  place = c.loop-place.place;
  handed = c.index-all-place.result;
  at = slice_get_read c.args.all.now (length c.args.all.now) c.loop-place.place c.index-all-place.result refl c.loop-place-test.true c.index-all-place.is;
  differs = c.if-not-has_replies.ensures;
}

pub loop-place-preserved : goal.loop-place-preserved
loop-place-preserved g c =
    has_more c.loop-place.place c.args.calls c.args.book.now.1 c.args.all.now c.index-all-place.result
    (slice_get_read c.args.all.now (length c.args.all.now) c.loop-place.place c.index-all-place.result refl c.loop-place-test.true c.index-all-place.is)
    c.loop-place.invariant c.if-not-has_replies.ensures

pub returns : goal.returns
returns g c =
    let past : length c.args.all.now ≤ c.loop-place.place = grind (arith, nat_tests, c.loop-place-test.false) in
    has_every c.loop-place.place c.args.calls c.args.book.now.1 c.args.all.now past c.loop-place.invariant
