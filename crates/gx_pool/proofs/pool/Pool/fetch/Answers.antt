use Rattle.gx_pool.proofs.Bringing.{first_leaves}
use Rattle.gx_pool.proofs.Going.{goes_few}
use Rattle.gx_pool.proofs.pool.Pool.fetch.Goals as goal

pub returns-then-admit-clause-fetched : goal.returns-then-admit-clause-fetched
returns-then-admit-clause-fetched g c = record {
  brings = rw (← c.frame_to_use.ensures.unchanged, ← c.in_ok-read.ensures.same.0, ← c.in_ok-read.ensures.same.1) (c.admit.ensures.brings _ _ c.in_ok-read.ensures.read);
  only_read = c.in_ok-read.ensures.only_read;
  faults = c.in_ok-read.ensures.faults;
  alone = rw (← c.frame_to_use.ensures.unchanged, ← c.in_ok-read.ensures.same.0) c.admit.ensures.alone;
  first = first_leaves c.args.self.now.frames _ c.in-Some.i c.frame_to_use.ensures.sound (rw (← c.frame_to_use.ensures.unchanged, ← c.in_ok-read.ensures.same.0) c.admit.ensures.goes) c.in-Some.ensures.first;
  others = rw (← c.frame_to_use.ensures.unchanged, ← c.in_ok-read.ensures.same.0) c.admit.ensures.others;
  few = goes_few c.args.self.now.frames _ c.in-Some.i c.args.page c.requires.absent (rw (← c.frame_to_use.ensures.unchanged, ← c.in_ok-read.ensures.same.0) c.admit.ensures.goes);
  answer = c.if-admit.ensures.admitted;
}

pub returns-else-admit-clause-fetched : goal.returns-else-admit-clause-fetched
returns-else-admit-clause-fetched g c = record {
  brings = rw (← c.frame_to_use.ensures.unchanged, ← c.in_ok-read.ensures.same.0, ← c.in_ok-read.ensures.same.1) (c.admit.ensures.brings _ _ c.in_ok-read.ensures.read);
  only_read = c.in_ok-read.ensures.only_read;
  faults = c.in_ok-read.ensures.faults;
  alone = rw (← c.frame_to_use.ensures.unchanged, ← c.in_ok-read.ensures.same.0) c.admit.ensures.alone;
  first = first_leaves c.args.self.now.frames _ c.in-Some.i c.frame_to_use.ensures.sound (rw (← c.frame_to_use.ensures.unchanged, ← c.in_ok-read.ensures.same.0) c.admit.ensures.goes) c.in-Some.ensures.first;
  others = rw (← c.frame_to_use.ensures.unchanged, ← c.in_ok-read.ensures.same.0) c.admit.ensures.others;
  few = goes_few c.args.self.now.frames _ c.in-Some.i c.args.page c.requires.absent (rw (← c.frame_to_use.ensures.unchanged, ← c.in_ok-read.ensures.same.0) c.admit.ensures.goes);
  answer = record {
    missing = c.requires.absent;
    absent = c.if-admit.ensures.left.0;
    room = (c.in-Some.i, c.in-Some.ensures.found.0, c.in-Some.ensures.found.1);
    left = c.if-admit.ensures.left.1;
    damaged = λ honest passing. c.if-admit.ensures.refused (rw (← c.in_ok-read.ensures.read honest, c.in_ok-read.ensures.same.1) passing);
  };
}
