use Rattle.std.proofs.Common.{subst, sym}
use Rattle.std.specs.Prelude.{Ok}
use Rattle.gx_record.specs.Seen.{rec_of}
use Rattle.gx_recovery.specs.Kept.{Kept}
use Rattle.gx_found_log.specs.Told.{RecordTold}
use Rattle.gx_found_log.proofs.Broken.{page_breaks}
use Rattle.gx_found_log.proofs.gathered.Gathering.{record_gathered}
use Rattle.gx_found_log.proofs.gathered.gather.Goals as goal

pub returns-clause-told : goal.returns-clause-told
returns-clause-told g c = λ d ordered.
    let k = g.M.Meaning.known d in
    let r = g.M.Spelled.reading in
    let x = rec_of c.args.logged.now in
    record_gathered k r c.args.part x c.args.gathered.now c.keep.new.gathered
    (subst (λ (s : Kept g.row.M-Entry.Denot). RecordTold c.args.part k r x c.args.gathered.now.analysis (Ok tt) s) (sym c.keep.ensures.analysis) (c.in_ok-on_record.ensures.told d ordered))
    c.keep.ensures.most c.keep.result c.keep.ensures.keeps

pub returns-clause-broken : goal.returns-clause-broken
returns-clause-broken g c = λ d ordered.
    page_breaks (g.M.Meaning.known d) g.M.Spelled.reading c.args.part (rec_of c.args.logged.now) c.args.gathered.now c.keep.new.gathered c.keep.result c.keep.ensures.keeps
