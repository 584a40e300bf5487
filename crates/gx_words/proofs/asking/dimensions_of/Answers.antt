use Rattle.std.proofs.Common.{◌∙◌, ap, codes, Some, sym}
use Rattle.clap.specs.Words.{found_of}
use Rattle.clap.proofs.CallerLemmas.{some_of_text}
use Rattle.gx_words.specs.Asking.{class_word}
use Rattle.gx_words.proofs.asking.Found.{a_word, word_found}
use Rattle.gx_words.proofs.asking.dimensions_of.Goals as goal

pub unwrap-requires : goal.unwrap-requires
unwrap-requires c =
    some_of_text _ c.get_str.result _ c.get_str.ensures (word_found (found_of c.args.given.now) (codes "class") (class_word c.requires.0) c.requires.1)

pub dimensions_named-requires : goal.dimensions_named-requires
dimensions_named-requires c =
    let word = a_word (found_of c.args.given.now) (codes "class") c.unwrap.result.now (let found = c.get_str.ensures in rw c.unwrap.ensures at found) in
    (c.requires.0, cc (sym c.requires.1 ∙ word))

pub returns : goal.returns
returns c =
    a_word (found_of c.args.given.now) (codes "class") c.unwrap.result.now (let found = c.get_str.ensures in rw c.unwrap.ensures at found)
    ∙ ap (λ w. Some w) (sym c.dimensions_named.ensures)
