use Rattle.std.proofs.Common.{◌+◌, ◌-◌, ◌≤◌, ◌≡◌, length, refl, ap, take, drop, arith, length-take-le, length-drop}
use Rattle.gx_record.specs.Format.{spelling}
use Rattle.gx_record.specs.Seen.{rec_of}
use Rattle.gx_disk.proofs.Spans.{length-put}
use Rattle.gx_glog.proofs.Fills.{pushed}
use Rattle.gx_migrate.proofs.buffer.Buffer.push.Goals as goal

pub put_size-requires : goal.put_size-requires
put_size-requires c =
    let i = c.self.inside in
    let fits : i.end + length (spelling (rec_of c.args.logged.now)) ≤ length i.bytes.items = c.in-Some.ensures.room.0 refl in
    omega (arith, ap length c.in-Some.ensures.put, length-put i.end (spelling (rec_of c.args.logged.now)) i.bytes.items fits, c.self.invariant.whole)

pub invariant_of-self : goal.invariant_of-self
invariant_of-self c =
    let i = c.self.inside in
    (pushed i.end c.in-Some.size (spelling (rec_of c.args.logged.now)) i.bytes.items c.put_at.new.buffer.items c.put_size.new.buffer.items c.self.invariant c.in-Some.ensures.size (c.in-Some.ensures.room.0 refl) c.in-Some.ensures.put c.put_size.ensures).0

pub returns-in-Some-clause-put : goal.returns-in-Some-clause-put
returns-in-Some-clause-put c =
    let i = c.self.inside in
    let new = spelling (rec_of c.args.logged.now) in
    let fits : i.end + length new ≤ length i.bytes.items = c.in-Some.ensures.room.0 refl in
    let few : length (take (i.end - 4) (drop 4 i.bytes.items)) ≡ i.end - 4 = length-take-le (i.end - 4) (drop 4 i.bytes.items) (omega (arith, length-drop 4 i.bytes.items)) in
    rw (← c.self.view_is) (
      omega (arith, few, c.self.invariant.from, c.self.invariant.whole),
      (pushed i.end c.in-Some.size new i.bytes.items c.put_at.new.buffer.items c.put_size.new.buffer.items c.self.invariant c.in-Some.ensures.size fits c.in-Some.ensures.put c.put_size.ensures).1,
    )
