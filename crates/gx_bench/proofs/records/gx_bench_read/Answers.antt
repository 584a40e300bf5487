use Rattle.std.proofs.Common.{ℕ, ◌<◌, List, length, sym, subst}
use Rattle.gx_record.specs.Seen.{rec_of}
use Rattle.gx_bench.proofs.records.Rests.{ReadTo, nothing_read, one_more, less_left, left_within, all_read}
use Rattle.gx_bench.proofs.records.gx_bench_read.Goals as goal

pub loop-size-init : goal.loop-size-init
loop-size-init c = nothing_read c.args.key c.args.bytes.now

pub loop-size-smaller : goal.loop-size-smaller
loop-size-smaller c =
    let less = less_left c.args.key c.loop-size.rest.now (rec_of c.in-Some.field-0-0) c.in-Some.size c.in-Some.ensures.found in
    subst (λ (rest : List ℕ). length rest < length c.loop-size.rest.now) (sym c.split_at.ensures.back) less

pub loop-size-preserved : goal.loop-size-preserved
loop-size-preserved c =
    let more = one_more c.args.key c.args.bytes.now c.loop-size.rest.now (rec_of c.in-Some.field-0-0) c.in-Some.size c.loop-size.invariant c.in-Some.ensures.found in
    subst (λ (rest : List ℕ). ReadTo c.args.key c.args.bytes.now rest) (sym c.split_at.ensures.back) more

pub overflow_sub-result : goal.overflow_sub-result
overflow_sub-result c = left_within c.args.key c.args.bytes.now c.loop-size.rest.now c.loop-size.invariant

pub returns : goal.returns
returns c =
    all_read c.args.key c.args.bytes.now c.loop-size.rest.now c.loop-size.invariant (λ r m b. let answer = c.in_default.ensures.only r m b in cc)
