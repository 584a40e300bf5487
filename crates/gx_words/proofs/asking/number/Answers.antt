use Rattle.std.proofs.Common.{ap, is_some}
use Rattle.std.specs.Str.Parse.{ExplainsUnsignedError, HasUnsignedDigitsIfOk, ParsesUnsigned}
use Rattle.clap.specs.Words.{found_of}
use Rattle.gx_words.proofs.asking.Found.{number_in, number_read}
use Rattle.gx_words.proofs.asking.number.Goals as goal

pub unwrap-requires : goal.unwrap-requires
unwrap-requires c =
    let its = number_in (λ bs r. ParsesUnsigned 32 10 bs r × ExplainsUnsignedError 10 bs r × HasUnsignedDigitsIfOk bs r) (λ u x g. g.0)
    (found_of c.args.given.now) c.args.name.now c.requires.0 c.requires.1 c.requires.2 c.get_one.result (λ t e. c.get_one.ensures.value t e) in
    ap is_some its.1

pub returns : goal.returns
returns c = λ lowest highest accepted.
    number_read (λ bs r. ParsesUnsigned 32 10 bs r × ExplainsUnsignedError 10 bs r × HasUnsignedDigitsIfOk bs r) (λ u x g. g.0)
    (found_of c.args.given.now) c.args.name.now lowest highest accepted c.unwrap.result
    (λ t e. let read = c.get_one.ensures.value t e in rw c.unwrap.ensures at read)
