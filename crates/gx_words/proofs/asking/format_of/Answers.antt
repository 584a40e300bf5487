use Rattle.std.proofs.Common.{refl, arith, codes}
use Rattle.clap.specs.Words.{found_of}
use Rattle.clap.proofs.CallerLemmas.{some_of_text}
use Rattle.gx_words.proofs.asking.Found.{a_word, word_found}
use Rattle.gx_words.proofs.asking.format_of.Goals as goal

pub unwrap-requires : goal.unwrap-requires
unwrap-requires c = some_of_text _ c.get_str.result _ c.get_str.ensures (word_found (found_of c.args.given.now) (codes "FILE") c.requires.file c.requires.file_is)

pub overflow_cast-result : goal.overflow_cast-result
overflow_cast-result c = let its = c.number-2.ensures 4 100 c.requires.most in omega (arith, its.most)

pub returns : goal.returns
returns c = (
  refl,
  record {
    file_is = a_word (found_of c.args.given.now) (codes "FILE") c.unwrap.result.now (let found = c.get_str.ensures in rw c.unwrap.ensures at found);
    pages_are = c.number.ensures 8 65536 c.requires.pages;
    most_is = c.number-2.ensures 4 100 c.requires.most;
    class_is = c.dimensions_of.ensures;
  },
)
