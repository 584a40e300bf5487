use Rattle.std.proofs.Common.{refl}
use Rattle.gx_script.proofs.laws.PrintedLemmas.{number_of-decimal, key_words-printed}
use Rattle.gx_script.proofs.laws.each_command_asks_its_call.Goals as goal

pub returns-clause-begin : goal.returns-clause-begin
returns-clause-begin g c = λ k s h. rw (number_of-decimal s h) refl

pub returns-clause-commit : goal.returns-clause-commit
returns-clause-commit g c = λ k s h. rw (number_of-decimal s h) refl

pub returns-clause-abort : goal.returns-clause-abort
returns-clause-abort g c = λ k s h. rw (number_of-decimal s h) refl

pub returns-clause-insert : goal.returns-clause-insert
returns-clause-insert g c = λ k s e h row is. rw (number_of-decimal s h) (rw (number_of-decimal e.row row) (rw (key_words-printed k e.key is) refl))

pub returns-clause-delete : goal.returns-clause-delete
returns-clause-delete g c = λ k s e h row is. rw (number_of-decimal s h) (rw (number_of-decimal e.row row) (rw (key_words-printed k e.key is) refl))

pub returns-clause-overlap : goal.returns-clause-overlap
returns-clause-overlap g c = λ k s b h is. rw (number_of-decimal s h) (rw (key_words-printed k b is) refl)

pub returns-clause-within : goal.returns-clause-within
returns-clause-within g c = λ k s b h is. rw (number_of-decimal s h) (rw (key_words-printed k b is) refl)

pub returns-clause-equal : goal.returns-clause-equal
returns-clause-equal g c = λ k s b h is. rw (number_of-decimal s h) (rw (key_words-printed k b is) refl)

pub returns-clause-covers : goal.returns-clause-covers
returns-clause-covers g c = λ k s b h is. rw (number_of-decimal s h) (rw (key_words-printed k b is) refl)
