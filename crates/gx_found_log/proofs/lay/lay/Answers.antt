use Rattle.std.proofs.Common.{◌∙◌, ◌+◌, ◌∷◌, List, ℕ, arith, drop, sym, subst}
use Rattle.std.specs.Prelude.{Ok, Err}
use Rattle.gx_geom.specs.declared.refusal.Refusal.{Refusal}
use Rattle.gx_found_log.specs.Given.{Imaged, AreOnce}
use Rattle.gx_found_log.specs.Laid.{ArePages, Lays}
use Rattle.gx_found_log.proofs.Laid.{cut_at, none_left, lays_none, lays_failed, lays_first}
use Rattle.gx_found_log.proofs.lay.lay.Goals as goal

pub returns-in-Err-clause-lays : goal.returns-in-Err-clause-lays
returns-in-Err-clause-lays g c = λ honest.
    (let state = g.D.SectorDisk.state in
    let cut = cut_at c.args.pages.now c.loop-x.x-index c.x-item.result c.loop-x-test.true c.x-item.is in
    let rest = drop (c.loop-x.x-index + 1) c.args.pages.now in
    c.loop-x.invariant.on honest (Err c.in-Err.refusal) c.write.new.disk
    (subst (λ (xs : List Imaged). Lays {T = Unit {0}} {E = Refusal} xs (state c.loop-x.disk) (state c.write.new.disk) (Err c.in-Err.refusal)) (sym cut)
    (lays_failed c.x-item.result rest (state c.loop-x.disk) (state c.write.new.disk) c.in-Err.refusal c.in-Err.refusal (c.in-Err.ensures.writes (c.loop-x.invariant.honest ∙ honest)))))

pub loop-x-preserved : goal.loop-x-preserved
loop-x-preserved g c =
    let state = g.D.SectorDisk.state in
    let so = c.loop-x.invariant in
    let wrote = c.in-Ok.ensures in
    let x = c.x-item.result in
    let rest = drop (c.loop-x.x-index + 1) c.args.pages.now in
    let cut = cut_at c.args.pages.now c.loop-x.x-index x c.loop-x-test.true c.x-item.is in
    let pages : ArePages (state c.loop-x.disk).sectors (x ∷ rest) = subst (λ (xs : List Imaged). ArePages (state c.loop-x.disk).sectors xs) cut so.pages in
    let once : AreOnce (x ∷ rest) = subst (λ (xs : List Imaged). AreOnce xs) cut so.once in
    record {
      sectors = wrote.counts.sectors ∙ so.sectors;
      honest = wrote.counts.honest ∙ so.honest;
      faults = wrote.counts.faults ∙ so.faults;
      calls = omega (arith, wrote.counts.calls, so.calls);
      pages = subst (λ (n : ℕ). ArePages n rest) (sym wrote.counts.sectors) pages.1;
      once = once.1;
      on = λ honest result new lays. (
          let now = so.honest ∙ honest in
          so.on honest result new
          (subst (λ (xs : List Imaged). Lays {T = Unit {0}} {E = Refusal} xs (state c.loop-x.disk) (state new) result) (sym cut)
          (lays_first x rest (state c.loop-x.disk) (state c.write.new.disk) (state new) c.in-Ok.field-0 result wrote.whole (g.met.D.SectorDisk.whole c.loop-x.disk now) pages once wrote.counts.sectors
          (wrote.writes now) lays)));
    }

pub returns-clause-lays : goal.returns-clause-lays
returns-clause-lays g c = λ honest.
    (let state = g.D.SectorDisk.state in
    c.loop-x.invariant.on honest (Ok tt) c.loop-x.disk
    (subst (λ (xs : List Imaged). Lays {T = Unit {0}} {E = Refusal} xs (state c.loop-x.disk) (state c.loop-x.disk) (Ok tt)) (sym (none_left c.args.pages.now c.loop-x.x-index c.loop-x-test.false)) (lays_none (state c.loop-x.disk) (Ok tt))))
