use Rattle.std.proofs.Common.{ap, refl}
use Rattle.gx_record.specs.Seen.{rec_of}
use Rattle.gx_record.specs.Rec as rec
use Rattle.gx_recovery.specs.Broken.{refused, breaks_counters}
use Rattle.gx_found_log.specs.declared.part.Part.TheVariants.{Start}
use Rattle.gx_found_log.proofs.Told.{counters_come}
use Rattle.gx_found_log.proofs.Broken.{next_broken}
use Rattle.gx_found_log.proofs.head.on_counters.Goals as goal

pub returns-in-Counters-clause-told : goal.returns-in-Counters-clause-told
returns-in-Counters-clause-told g c = λ d.
    counters_come (g.M.Meaning.known d) g.M.Spelled.reading (g.met.M.Readable.lawful d) (rec_of c.args.logged.now) c.in-Counters.n c.in-Counters.counter c.in-Counters.used c.in-Counters.next
    (ap rec_of c.in-Counters.is) c.args.analysis.now c.on_counters.new.self (refused c.on_counters.result) c.on_counters.ensures.takes

pub returns-in-Counters-clause-broken : goal.returns-in-Counters-clause-broken
returns-in-Counters-clause-broken g c = λ d.
    let w = c.in-Counters in
    next_broken (g.M.Meaning.known d) g.M.Spelled.reading Start (rec_of c.args.logged.now) (rec.Counters w.n w.counter w.used w.next) c.args.analysis.now
    (λ rule. breaks_counters w.used c.args.analysis.now rule) (ap rec_of w.is) (λ rule. refl) c.on_counters.result c.on_counters.ensures.rule
