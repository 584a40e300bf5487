use Rattle.std.proofs.Common.{◌+◌, sym, subst, arith}
use Rattle.std.specs.Prelude.{Result, Err}
use Rattle.gx_geom.specs.declared.refusal.Refusal.{Refusal}
use Rattle.gx_geom.specs.declared.refusal.Refusal.TheVariants.{Damaged}
use Rattle.gx_found_log.specs.Told.{BytesTold}
use Rattle.gx_found_log.proofs.Reading.{moved_on, all_read}
use Rattle.gx_found_log.proofs.Broken.{further_on, broken_on, end_breaks}
use Rattle.gx_found_log.proofs.body.on_body.Goals as goal

pub on_first-requires-clause-room : goal.on_first-requires-clause-room
on_first-requires-clause-room g c = omega (arith, c.loop-rest.invariant.closed, c.requires.room)

pub on_first-requires-clause-places : goal.on_first-requires-clause-places
on_first-requires-clause-places g c = omega (arith, c.loop-rest.invariant.given, c.requires.few, c.requires.places)

pub loop-rest-preserved : goal.loop-rest-preserved
loop-rest-preserved g c = record {
  closed = omega (arith, c.loop-rest.invariant.closed, c.in-Ok.ensures.within, c.in-Ok.ensures.closed, c.split_at.ensures.back_len);
  given = omega (arith, c.loop-rest.invariant.given, c.in-Ok.ensures.within, c.in-Ok.ensures.given, c.split_at.ensures.back_len);
  on = λ d ordered result new later.
      c.loop-rest.invariant.on d ordered result new
      (c.in-Ok.ensures.told d ordered result new
      (moved_on (g.M.Meaning.known d) g.M.Spelled.reading (g.met.M.Readable.lawful d) c.behind-now_at.ensures c.split_at.ensures.back c.on_first.new.gathered result new later));
  place = omega (arith, c.loop-rest.invariant.place, c.in-Ok.ensures.within, c.split_at.ensures.back_len);
  broken = λ d ordered at rule later.
      further_on (g.M.Meaning.known d) g.M.Spelled.reading c.args.part c.args.bytes.now c.args.gathered.now rule (c.loop-rest.at + (c.in-Ok.size + at)) ((c.loop-rest.at + c.in-Ok.size) + at) (omega arith)
      (c.loop-rest.invariant.broken d ordered (c.in-Ok.size + at) rule
      (c.in-Ok.ensures.goes d ordered at rule
      (broken_on (g.M.Meaning.known d) g.M.Spelled.reading c.behind-now_at.ensures c.split_at.ensures.back c.on_first.new.gathered at rule later)));
}

pub returns-in-Err-clause-told : goal.returns-in-Err-clause-told
returns-in-Err-clause-told g c = λ d ordered.
    c.loop-rest.invariant.on d ordered (Err Damaged) c.on_first.new.gathered (c.in-Err.ensures.told d ordered)

pub returns-clause-told : goal.returns-clause-told
returns-clause-told g c = λ d ordered.
    subst (λ (end : Result (Unit {0}) Refusal). BytesTold c.args.part (g.M.Meaning.known d) g.M.Spelled.reading c.args.bytes.now c.args.gathered.now end c.loop-rest.gathered) (sym c.end_body.ensures.refusal)
    (all_read (g.M.Meaning.known d) g.M.Spelled.reading (g.met.M.Readable.lawful d) c.args.part c.loop-rest.now_at c.args.bytes.now c.loop-rest.rest.now c.args.gathered.now c.loop-rest.gathered
    (omega (arith, c.loop-rest-test.false)) (c.loop-rest.invariant.on d ordered))

pub returns-in-Err-clause-broken : goal.returns-in-Err-clause-broken
returns-in-Err-clause-broken g c = λ d ordered.
    further_on (g.M.Meaning.known d) g.M.Spelled.reading c.args.part c.args.bytes.now c.args.gathered.now c.in-Err.rule (c.loop-rest.at + 0) c.loop-rest.at (omega arith)
    (c.loop-rest.invariant.broken d ordered 0 c.in-Err.rule (c.in-Err.ensures.broken d ordered))

pub returns-clause-broken : goal.returns-clause-broken
returns-clause-broken g c = λ d ordered.
    end_breaks (g.M.Meaning.known d) g.M.Spelled.reading c.args.part c.loop-rest.now_at c.args.bytes.now c.loop-rest.rest.now c.loop-rest.at c.args.gathered.now c.loop-rest.gathered
    (omega (arith, c.loop-rest-test.false)) (c.loop-rest.invariant.broken d ordered) c.end_body.result c.end_body.ensures.broken
