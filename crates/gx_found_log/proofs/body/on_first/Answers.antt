use Rattle.std.proofs.Common.{length}
use Rattle.gx_record.specs.Seen.{rec_of}
use Rattle.gx_geom.specs.declared.refusal.Refusal.TheVariants.{Damaged}
use Rattle.gx_found_log.proofs.Broken.{record_breaks, none_breaks, later_breaks}
use Rattle.gx_found_log.proofs.Giving.{given_by, places_for}
use Rattle.gx_found_log.proofs.Reading.{some_bytes, closed_by, room_for, told_comes, refused_comes, none_comes}
use Rattle.gx_found_log.proofs.body.on_first.Goals as goal

pub returns-in-Ok-clause-size : goal.returns-in-Ok-clause-size
returns-in-Ok-clause-size g c = some_bytes c.key_size.result c.args.bytes.now (rec_of c.in-Some.found.0) c.in-Some.found.1 c.in-Some.ensures.found

pub returns-in-Ok-clause-closed : goal.returns-in-Ok-clause-closed
returns-in-Ok-clause-closed g c =
    closed_by c.key_size.result c.args.bytes.now (rec_of c.in-Some.found.0) c.in-Some.found.1 (length c.args.gathered.now.analysis.closed) (length c.gather.new.gathered.analysis.closed)
    c.in-Some.ensures.found c.gather.ensures.closed

pub returns-in-Ok-clause-given : goal.returns-in-Ok-clause-given
returns-in-Ok-clause-given g c =
    given_by c.key_size.result c.args.bytes.now (rec_of c.in-Some.found.0) c.in-Some.found.1 (length c.args.gathered.now.given) (length c.gather.new.gathered.given)
    c.in-Some.ensures.found c.gather.ensures.given

pub gather-requires-clause-places : goal.gather-requires-clause-places
gather-requires-clause-places g c =
    places_for c.key_size.result c.args.bytes.now (rec_of c.in-Some.found.0) c.in-Some.found.1 (length c.args.gathered.now.given) c.in-Some.ensures.found c.requires.places

pub returns-in-Ok-clause-told : goal.returns-in-Ok-clause-told
returns-in-Ok-clause-told g c = λ d ordered.
    told_comes (g.M.Meaning.known d) g.M.Spelled.reading (g.met.M.Readable.lawful d) c.args.part c.key_size.result c.key_size.ensures c.args.bytes.now (rec_of c.in-Some.found.0) c.in-Some.found.1
    c.in-Some.ensures.found c.args.gathered.now c.gather.new.gathered (c.in-Ok.ensures.told d ordered)

pub returns-in-Err-clause-told : goal.returns-in-Err-clause-told
returns-in-Err-clause-told g c = λ d ordered.
    refused_comes (g.M.Meaning.known d) g.M.Spelled.reading (g.met.M.Readable.lawful d) c.args.part c.key_size.result c.key_size.ensures c.args.bytes.now (rec_of c.in-Some.found.0) c.in-Some.found.1
    c.in-Some.ensures.found c.args.gathered.now c.gather.new.gathered Damaged (c.in-Err.ensures.told d ordered)

pub returns-in-None-clause-told : goal.returns-in-None-clause-told
returns-in-None-clause-told g c = λ d ordered.
    none_comes (g.M.Meaning.known d) g.M.Spelled.reading (g.met.M.Readable.lawful d) c.args.part c.key_size.result c.key_size.ensures c.args.bytes.now c.requires.some c.in-None.ensures.only
    c.args.gathered.now c.args.gathered.now

pub gather-requires-clause-room : goal.gather-requires-clause-room
gather-requires-clause-room g c =
    room_for c.key_size.result c.args.bytes.now (rec_of c.in-Some.found.0) c.in-Some.found.1 (length c.args.gathered.now.analysis.closed) c.in-Some.ensures.found c.requires.room

pub returns-in-Ok-clause-goes : goal.returns-in-Ok-clause-goes
returns-in-Ok-clause-goes g c = λ d ordered.
    later_breaks (g.M.Meaning.known d) g.M.Spelled.reading (g.met.M.Readable.lawful d) c.args.part c.key_size.result c.key_size.ensures c.args.bytes.now (rec_of c.in-Some.found.0) c.in-Some.found.1
    c.in-Some.ensures.found c.args.gathered.now c.gather.new.gathered (c.in-Ok.ensures.told d ordered)

pub returns-in-Err-clause-broken : goal.returns-in-Err-clause-broken
returns-in-Err-clause-broken g c = λ d ordered.
    record_breaks (g.M.Meaning.known d) g.M.Spelled.reading c.args.part c.key_size.result c.key_size.ensures c.args.bytes.now (rec_of c.in-Some.found.0) c.in-Some.found.1
    c.in-Some.ensures.found c.args.gathered.now c.in-Err.rule (c.in-Err.ensures.broken d ordered)

pub returns-in-None-clause-broken : goal.returns-in-None-clause-broken
returns-in-None-clause-broken g c = λ d ordered.
    none_breaks (g.M.Meaning.known d) g.M.Spelled.reading c.args.part c.key_size.result c.key_size.ensures c.args.bytes.now c.requires.some c.in-None.ensures.only c.args.gathered.now
