use Rattle.std.proofs.Common.{◌-◌, arith, refl, take_all}
use Rattle.gx_machine.specs.declared.call.Call.TheVariants.{Insert}
use Rattle.gx_machine.specs.Keys.{Keys, keys, IsLawful}
use Rattle.gx_txn.specs.Tables.{locks_for}
use Rattle.gx_engine.proofs.LosingStates.{fresh_rest, rest_may_lose, taken_none, took_only, took_rest}
use Rattle.gx_engine.proofs.losers.Steps.{after_one, all_taken, is_one, next_low, next_taken, not_refused}
use Rattle.gx_engine.proofs.losers.hold_losers.Goals as goal

pub loop-loser-init : goal.loop-loser-init
loop-loser-init g c =
    (omega arith, tt, fresh_rest c.args.sessions.now c.requires.fresh, refl, λ cut. record { ends = refl; count = refl; state = taken_none c.args.sessions.now c.requires.fresh })

pub session_after-session-requires : goal.session_after-session-requires
session_after-session-requires g c = c.loop-loser.invariant.0

pub returns-then-session-gt8-clause-holds : goal.returns-then-session-gt8-clause-holds
returns-then-session-gt8-clause-holds g c =
    let k : Keys g.row.B.Denot = keys g.B.Ord.cmp g.B.Shape.overlap g.B.Shape.inside in
    let lawful : IsLawful k = record { total = g.met.B.Ord.total; exact = g.met.B.Shape.same } in (
      refl,
      λ cut.
          (let low = next_low k lawful c.args.losers.now cut c.args.sessions.now c.loop-loser.loser-index c.loser-item.result c.loop-loser-test.true c.loser-item.is
          c.loop-loser.session c.loop-loser.last c.loop-loser.sessions (c.loop-loser.invariant.4 cut) c.transaction-transaction.result c.transaction-transaction.ensures c.session_after-session.result c.session_after-session.ensures in
          let high = c.if-session-gt8.true in omega (arith, low, high)),
    )

pub returns-then-session-gt8-clause-rests : goal.returns-then-session-gt8-clause-rests
returns-then-session-gt8-clause-rests g c = c.loop-loser.invariant.2

pub returns-then-session-gt8-clause-only : goal.returns-then-session-gt8-clause-only
returns-then-session-gt8-clause-only g c = c.loop-loser.invariant.3

pub hold_loser-requires-clause-session : goal.hold_loser-requires-clause-session
hold_loser-requires-clause-session g c =
    let s = c.session_after-session.result in
    let after = after_one c.loop-loser.last c.loop-loser.session c.transaction-transaction.result c.loop-loser.invariant.1 in
    let is = c.session_after-session.ensures in
    let low = c.if-session-gt8.false in
    is_one s (omega (arith, after, is)) (omega (arith, low))

pub hold_loser-requires-clause-loser : goal.hold_loser-requires-clause-loser
hold_loser-requires-clause-loser g c = rest_may_lose c.loop-loser.sessions.phases (c.session_after-session.result - 1) c.loop-loser.invariant.2

pub returns-in-Err-clause-holds : goal.returns-in-Err-clause-holds
returns-in-Err-clause-holds g c =
    let k : Keys g.row.B.Denot = keys g.B.Ord.cmp g.B.Shape.overlap g.B.Shape.inside in
    let lawful : IsLawful k = record { total = g.met.B.Ord.total; exact = g.met.B.Shape.same } in (
      refl,
      λ cut.
          not_refused c.in-Err.field-0
          (next_taken k lawful c.args.losers.now cut c.args.sessions.now c.loop-loser.loser-index c.loser-item.result c.loop-loser-test.true c.loser-item.is
          c.loop-loser.session c.loop-loser.last c.loop-loser.sessions (c.loop-loser.invariant.4 cut) c.transaction-transaction.result c.transaction-transaction.ensures c.session_after-session.result c.session_after-session.ensures
          c.note_in.result c.note_in.ensures _ c.hold_loser.new.self c.in-Err.ensures).0,
    )

pub returns-in-Err-clause-rests : goal.returns-in-Err-clause-rests
returns-in-Err-clause-rests g c =
    let k : Keys g.row.B.Denot = keys g.B.Ord.cmp g.B.Shape.overlap g.B.Shape.inside in
    let s = c.session_after-session.result in
    let t = c.transaction-transaction.result in
    let n = c.note_in.result in
    took_rest k s t n c.loop-loser.sessions _ c.hold_loser.new.self (locks_for k (Insert n.entry) s c.loop-loser.sessions.table) c.loop-loser.invariant.2 c.in-Err.ensures

pub returns-in-Err-clause-only : goal.returns-in-Err-clause-only
returns-in-Err-clause-only g c =
    let k : Keys g.row.B.Denot = keys g.B.Ord.cmp g.B.Shape.overlap g.B.Shape.inside in
    let s = c.session_after-session.result in
    let t = c.transaction-transaction.result in
    let n = c.note_in.result in
    took_only k s t n c.loop-loser.sessions _ c.hold_loser.new.self (locks_for k (Insert n.entry) s c.loop-loser.sessions.table)
    c.args.sessions.now c.loop-loser.invariant.3 c.in-Err.ensures

pub loop-loser-preserved : goal.loop-loser-preserved
loop-loser-preserved g c =
    let k : Keys g.row.B.Denot = keys g.B.Ord.cmp g.B.Shape.overlap g.B.Shape.inside in
    let lawful : IsLawful k = record { total = g.met.B.Ord.total; exact = g.met.B.Shape.same } in
    let s = c.session_after-session.result in
    let t = c.transaction-transaction.result in
    let n = c.note_in.result in
    let r = locks_for k (Insert n.entry) s c.loop-loser.sessions.table in
    let after = after_one c.loop-loser.last c.loop-loser.session t c.loop-loser.invariant.1 in
    let is = c.session_after-session.ensures in
    let low = c.if-session-gt8.false in (
      omega (arith, low),
      omega (arith, after, is),
      took_rest k s t n c.loop-loser.sessions _ c.hold_loser.new.self r c.loop-loser.invariant.2 c.hold_loser.ensures,
      took_only k s t n c.loop-loser.sessions _ c.hold_loser.new.self r c.args.sessions.now c.loop-loser.invariant.3 c.hold_loser.ensures,
      λ cut.
          (next_taken k lawful c.args.losers.now cut c.args.sessions.now c.loop-loser.loser-index c.loser-item.result c.loop-loser-test.true c.loser-item.is
          c.loop-loser.session c.loop-loser.last c.loop-loser.sessions (c.loop-loser.invariant.4 cut) t c.transaction-transaction.ensures s c.session_after-session.ensures
          n c.note_in.ensures _ c.hold_loser.new.self c.hold_loser.ensures).1,
    )

pub returns-clause-holds : goal.returns-clause-holds
returns-clause-holds g c =
    let k : Keys g.row.B.Denot = keys g.B.Ord.cmp g.B.Shape.overlap g.B.Shape.inside in
    let lawful : IsLawful k = record { total = g.met.B.Ord.total; exact = g.met.B.Shape.same } in
    let low = c.loop-loser-test.false in
    λ cut.
    all_taken k lawful c.args.losers.now cut c.args.sessions.now c.loop-loser.loser-index c.loop-loser.session c.loop-loser.last c.loop-loser.sessions
    (take_all c.loop-loser.loser-index c.args.losers.now (omega (arith, low))) (c.loop-loser.invariant.4 cut)

pub returns-clause-rests : goal.returns-clause-rests
returns-clause-rests g c = c.loop-loser.invariant.2

pub returns-clause-only : goal.returns-clause-only
returns-clause-only g c = c.loop-loser.invariant.3
