use Rattle.std.proofs.Common.{refl, codes}
use Rattle.clap.specs.Words.{found_of}
use Rattle.clap.proofs.CallerLemmas.{some_of_text}
use Rattle.gx_words.proofs.asking.Found.{a_word, word_found}
use Rattle.gx_words.proofs.asking.migrate_of.Goals as goal

pub unwrap-requires : goal.unwrap-requires
unwrap-requires c = some_of_text _ c.get_str.result _ c.get_str.ensures (word_found (found_of c.args.given.now) (codes "OLD") c.requires.old c.requires.old_is)

pub unwrap-requires-2 : goal.unwrap-requires-2
unwrap-requires-2 c = some_of_text _ c.get_str-2.result _ c.get_str-2.ensures (word_found (found_of c.args.given.now) (codes "NEW") c.requires.new c.requires.new_is)

pub returns : goal.returns
returns c = (
  refl,
  record {
    old_is = a_word (found_of c.args.given.now) (codes "OLD") c.unwrap.result.now (let found = c.get_str.ensures in rw c.unwrap.ensures at found);
    new_is = a_word (found_of c.args.given.now) (codes "NEW") c.unwrap-2.result.now (let found = c.get_str-2.ensures in rw c.unwrap-2.ensures at found);
    frames_are = c.frames_of.ensures;
  },
)
