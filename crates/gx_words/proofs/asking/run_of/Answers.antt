use Rattle.std.proofs.Common.{refl, codes}
use Rattle.clap.specs.Words.{found_of}
use Rattle.clap.proofs.CallerLemmas.{some_of_text}
use Rattle.gx_words.proofs.asking.Found.{a_word, word_found}
use Rattle.gx_words.proofs.asking.run_of.Goals as goal

pub unwrap-requires : goal.unwrap-requires
unwrap-requires c = some_of_text _ c.get_str.result _ c.get_str.ensures (word_found (found_of c.args.given.now) (codes "FILE") c.requires.file c.requires.file_is)

pub returns : goal.returns
returns c = (
  refl,
  record {
    file_is = a_word (found_of c.args.given.now) (codes "FILE") c.unwrap.result.now (let found = c.get_str.ensures in rw c.unwrap.ensures at found);
    frames_are = c.frames_of.ensures;
  },
)
