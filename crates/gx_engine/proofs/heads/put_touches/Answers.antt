use Rattle.std.proofs.Common.{◌∙◌, ap, refl, ◌+◌, ◌≤◌, ◌^◌, arith}
use Rattle.gx_storage.specs.State.{Volume}
use Rattle.gx_engine.specs.Heads.{from_of}
use Rattle.gx_engine.proofs.heads.Notes.{its_came, its_stop, only_both, puts_longer, touches_came, touches_none}
use Rattle.gx_engine.proofs.heads.put_touches.Goals as goal

pub loop-session-init : goal.loop-session-init
loop-session-init g c = (c.requires.idle, refl, omega arith, omega arith, λ xs noted. touches_none _ xs c.args.storage.now.log)

pub returns-in_err-put_notes-clause-puts : goal.returns-in_err-put_notes-clause-puts
returns-in_err-put_notes-clause-puts g c = λ xs noted.
    its_stop _ c.args.sessions.now xs noted (from_of c.loop-session.after) 8 (omega arith) c.args.storage.now c.loop-session.storage c.put_notes.new.storage (c.loop-session.invariant.4 xs noted)
    c.in-Some.session c.in-Some.ensures _ c.notes.ensures.notes _ c.from_residual.result c.from_residual.ensures.1 c.in_err-put_notes.ensures.puts

pub loop-session-preserved : goal.loop-session-preserved
loop-session-preserved g c =
    let w = c.put_notes.new.storage in
    let only = c.in_ok-put_notes.ensures.only in
    let low : c.transaction-transaction.result + 1 ≤ 2 ^ 64 = omega (arith, c.transaction-transaction.type_inv) in (
      ap (λ (x : Volume g.row.D.Denot). x.log.stage) only ∙ c.loop-session.invariant.0,
      only_both c.args.storage.now c.loop-session.storage w c.loop-session.invariant.1 only,
      low,
      (let before = c.loop-session.invariant.3 in let now = puts_longer _ _ _ _ _ c.in_ok-put_notes.ensures.puts in omega (arith, before, now)),
      λ xs noted.
          its_came _ c.args.sessions.now xs noted (from_of c.loop-session.after) 8 (omega arith) c.args.storage.now c.loop-session.storage w (c.loop-session.invariant.4 xs noted)
          c.in-Some.session c.in-Some.ensures c.transaction-transaction.result _ c.transaction-transaction.ensures c.notes.ensures.notes c.in_ok-put_notes.ensures.puts,
    )

pub returns-clause-puts : goal.returns-clause-puts
returns-clause-puts g c = λ xs noted.
    touches_came _ c.args.sessions.now xs noted (from_of c.loop-session.after) 8 (omega arith) c.args.storage.now c.loop-session.storage c.loop-session.storage (c.loop-session.invariant.4 xs noted)
    c.in_default.ensures
