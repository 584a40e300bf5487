use Rattle.std.proofs.Common.{arith}
use Rattle.gx_record.specs.Seen.{rec_of}
use Rattle.gx_record.proofs.Whole.{rest_within, answer_begins, only_answer, none_begins}
use Rattle.gx_record.proofs.record.Record.decode.Goals as goal

pub returns-in_err-record-clause-only : goal.returns-in_err-record-clause-only
returns-in_err-record-clause-only c = λ r n b. absurd (none_begins c.args.key c.args.bytes.now c.in_err-record.ensures r n b)

pub overflow_sub-result : goal.overflow_sub-result
overflow_sub-result c =
    omega (arith, rest_within c.args.key c.args.bytes.now (rec_of c.in_ok-record.record) c.in_ok-record.rest.now (λ k. omega (arith, c.type_inv.bytes k)) c.in_ok-record.ensures)

pub returns-clause-found : goal.returns-clause-found
returns-clause-found c =
    answer_begins c.args.key c.args.bytes.now (rec_of c.in_ok-record.record) c.in_ok-record.rest.now (λ k. omega (arith, c.type_inv.bytes k)) c.in_ok-record.ensures

pub returns-clause-only : goal.returns-clause-only
returns-clause-only c = only_answer c.args.key c.args.bytes.now (rec_of c.in_ok-record.record) c.in_ok-record.rest.now c.in_ok-record.ensures
