use Rattle.std.proofs.Common.{Err, ◌+◌, refl, ap, sym, ◌∙◌, subst, arith}
use Rattle.gx_legality.proofs.Numbered.{up_to_next}
use Rattle.gx_node.specs.Reading.{format_of, is_node}
use Rattle.gx_pool.specs.Area.{IsPassing, bytes_of}
use Rattle.gx_pool.specs.Bringing.{Answers, Refuted}
use Rattle.gx_pool.specs.declared.fault.PoolFault.{PoolFault}
use Rattle.gx_pool.proofs.Bringing.{only_read_joined, only_read_nothing}
use Rattle.gx_opening.proofs.damage.pages.Coming.{came_passes}
use Rattle.gx_opening.proofs.damage.pages.unreadable.Goals as goal

pub loop-before-init : goal.loop-before-init
loop-before-init g c = record {
  read = only_read_nothing (g.D.SectorDisk.state c.args.disk.now);
  faults = refl;
  test = refl;
  later = λ page below. c.requires.none page;
  passed = λ honest page low high. absurd (omega (arith, low, high));
}

pub bring_one-requires : goal.bring_one-requires
bring_one-requires g c =
    let same = c.loop-before.invariant.read.sectors in
    let few = c.requires.inside.0 in
    let inside = c.requires.inside.1 in
    let below = c.loop-before-test.true in
    record { from = omega arith; to = omega (arith, few, below); inside = omega (arith, inside, below, same) }

pub returns-in-Err-Damaged-clause-read : goal.returns-in-Err-Damaged-clause-read
returns-in-Err-Damaged-clause-read g c = only_read_joined _ _ _ c.loop-before.invariant.read c.bring_one.ensures.brought.only_read

pub returns-in-Err-Device-clause-read : goal.returns-in-Err-Device-clause-read
returns-in-Err-Device-clause-read g c = only_read_joined _ _ _ c.loop-before.invariant.read c.bring_one.ensures.brought.only_read

pub returns-in-Err-NoCleanFrame-clause-read : goal.returns-in-Err-NoCleanFrame-clause-read
returns-in-Err-NoCleanFrame-clause-read g c = only_read_joined _ _ _ c.loop-before.invariant.read c.bring_one.ensures.brought.only_read

pub returns-in-Err-Damaged-clause-shows : goal.returns-in-Err-Damaged-clause-shows
returns-in-Err-Damaged-clause-shows g c = λ honest.
    (let state = g.D.SectorDisk.state in
    let read = c.loop-before.invariant.read in
    let page = c.loop-before.before + 1 in
    let below = c.loop-before-test.true in
    let still = read.honest ∙ honest in
    let seen = (read.rests honest).seen in
    let passes = is_node (format_of g.K.KeyClass) c.loop-before.pool.test.pages in
    let refuted : Refuted passes (state c.loop-before.disk) c.loop-before.pool.frames c.bring_one.new.self.frames page =
    subst (λ (x : PoolFault). Answers {A = Unit {0}} passes (state c.loop-before.disk) c.loop-before.pool.frames c.bring_one.new.self.frames page (Err x)) c.in-Err-Damaged.field-0-is
    c.in-Err-Damaged.ensures.brought.answer in
    let fails = refuted.damaged still in
    let passed = c.loop-before.invariant.passed honest in
    record {
      from = omega arith;
      to = omega (arith, below);
      fails = λ passing. fails (subst (λ n. IsPassing (is_node (format_of g.K.KeyClass) n) page (bytes_of (state c.loop-before.disk).seen page)) (sym c.loop-before.invariant.test)
          (subst (λ s. IsPassing (is_node (format_of g.K.KeyClass) c.args.pool.now.test.pages) page (bytes_of s page)) (sym seen) passing));
      before = λ q low less. passed q low (omega (arith, less));
    })

pub loop-before-preserved : goal.loop-before-preserved
loop-before-preserved g c =
    let state = g.D.SectorDisk.state in
    let f = format_of g.K.KeyClass in
    let n = c.loop-before.before in
    let invariant = c.loop-before.invariant in
    let one = c.in-Ok.ensures.brought in
    let passes = is_node f c.loop-before.pool.test.pages in
    record {
      read = only_read_joined _ _ _ invariant.read c.bring_one.ensures.brought.only_read;
      faults = (let same = one.faults in let before = invariant.faults in omega (arith, same, before));
      test = ap (λ t. t.pages) c.bring_one.ensures.test ∙ invariant.test;
      later = λ page below. c.bring_one.ensures.brought.alone page (λ is. omega (arith, is, below)) (invariant.later page (omega (arith, below)));
      passed = λ honest page low high.
          (let came : IsPassing passes (n + 1) (bytes_of (state c.loop-before.disk).seen (n + 1)) =
          came_passes passes (state c.loop-before.disk) (state c.bring_one.new.disk) c.loop-before.pool.frames c.bring_one.new.self.frames (n + 1) (invariant.read.honest ∙ honest) c.in-Ok.field-0 (invariant.later (n + 1) (omega arith)) one in
          let next : IsPassing (is_node f c.args.pool.now.test.pages) (n + 1) (bytes_of (state c.args.disk.now).seen (n + 1)) =
          subst (λ s. IsPassing (is_node f c.args.pool.now.test.pages) (n + 1) (bytes_of s (n + 1))) (invariant.read.rests honest).seen
          (subst (λ m. IsPassing (is_node f m) (n + 1) (bytes_of (state c.loop-before.disk).seen (n + 1))) invariant.test came) in
          up_to_next (λ q. IsPassing (is_node f c.args.pool.now.test.pages) q (bytes_of (state c.args.disk.now).seen q)) n (λ q least most. invariant.passed honest q least most) next page low high);
    }

pub returns-clause-read : goal.returns-clause-read
returns-clause-read g c = c.loop-before.invariant.read

pub returns-clause-shows : goal.returns-clause-shows
returns-clause-shows g c = λ honest page low high. (let done = c.loop-before-test.false in c.loop-before.invariant.passed honest page low (omega (arith, high, done)))
