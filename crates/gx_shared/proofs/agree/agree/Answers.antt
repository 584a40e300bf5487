use Rattle.std.proofs.Common.{arith, ◌≡◌, ◌<◌, ◌≤◌, length}
use Rattle.std.proofs.lemmas.Bool.Decides.{nat_tests}
use Rattle.gx_shared.specs.Agreed.{replies_of}
use Rattle.gx_shared.proofs.agree.Agreeing.{on_other, on_reply, at_end}
use Rattle.gx_shared.proofs.agree.agree.Goals.{in-Some+else-next-replies+else-not-is_same_reply, in_default}
use Rattle.gx_shared.proofs.agree.agree.Goals as goal

pub loop-place-preserved : goal.loop-place-preserved
loop-place-preserved g c =
    let P = replies_of c.args.session c.args.calls.now ≡ c.args.replies.now in
    let inv = c.loop-place.invariant in
    let few : c.loop-place.next ≤ length c.args.replies.now = inv.0 in
    elim c.match-reply_of.branch [
      | in-Some+else-next-replies+else-not-is_same_reply w ↦ (
          let inside : c.loop-place.next < length c.args.replies.now = grind (arith, nat_tests, w.if-next-replies.false) in
          let more = w.next-is in (
            omega (arith, inside, more),
            on_reply P c.args.session c.args.calls.now c.args.replies.now c.loop-place.place c.loop-place.next c.index-calls-place.result inv.1 c.loop-place-test.true c.index-calls-place.is
                c.match-reply_of.next w.in-Some.reply.now w.index-replies-next.result w.in-Some.ensures inside w.index-replies-next.is w.if-not-is_same_reply.ensures w.next-is,
          )
          )
      | in_default w ↦ (
          let same = w.next-is in (
            omega (arith, few, same),
            on_other P c.args.session c.args.calls.now c.args.replies.now c.loop-place.place c.loop-place.next c.index-calls-place.result inv.1 c.loop-place-test.true c.index-calls-place.is
                c.match-reply_of.next w.in_default.ensures w.next-is,
          )
          )
    ]

pub returns : goal.returns
returns g c =
    let past : length c.args.calls.now ≤ c.loop-place.place = grind (arith, nat_tests, c.loop-place-test.false) in
    at_end (replies_of c.args.session c.args.calls.now ≡ c.args.replies.now) c.args.session c.args.calls.now c.args.replies.now c.loop-place.place c.loop-place.next c.loop-place.invariant.1
    past c.loop-place.invariant.0
