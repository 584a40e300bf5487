use Rattle.std.proofs.Common.{◌≡◌, ◌∙◌, ap, inl, map, rules}
use Rattle.clap.specs.Words.{fault_of, kind_of}
use Rattle.clap.specs.declared.error.kind.ErrorKind.TheVariants.{OutOfMemory}
use Rattle.gx_words.specs.Program.{gist_app}
use Rattle.gx_front.proofs.program.Wrong.{no_memory_fault, some_fault}
use Rattle.gx_front.proofs.program.before_threads.Goals as goal

pub returns-in-Err-2-clause-ended : goal.returns-in-Err-2-clause-ended
returns-in-Err-2-clause-ended g c =
    let other = λ (same : kind_of c.in-Err-2.error ≡ OutOfMemory).
    no_memory_fault c.kind.result c.if-eq.ensures (c.kind.ensures ∙ (ap kind_of c.in-Err-2.error-is ∙ same)) in
    let wrong = c.in-Err-2.ensures.wrong in
    rw c.in-Ok.is (inl (
      record {
        classes = wrong.classes;
        are = wrong.are;
        wrong = some_fault (fault_of (gist_app wrong.classes) (map g.S.AsStr.text c.in-Ok.given.now)) c.in-Err-2.error wrong.kind other;
      },
      record {
        status_is = c.refuse_words.ensures.status;
        untouched = record { unopened = search rules; unread = search rules };
        unwritten = search rules;
        text = c.refuse_words.ensures.told.0;
        text_is = c.refuse_words.ensures.told.1.0;
        told = c.refuse_words.ensures.told.1.1;
      },
    ))
