-- What each rule prints, where it is broken.
use Rattle.std.specs.Prelude.{ℕ, List, codes}
use Rattle.gx_recovery.specs.declared.rule.LogRule.{LogRule}
use Rattle.gx_recovery.specs.declared.rule.LogRule.TheVariants.{FirstGate, BodySize, Spelling, NoCounters, Misplaced, NoKey, PagesOfDevice, CounterFalls, UsedFalls, PageInUse, TransactionNumber, LeafInUse, SharedEntry, TooManyTransactions, TooManyTouches, Ended, CommitNumber, NoImage, Unfit}

abbrev pub text_of : LogRule → List ℕ
text_of FirstGate = codes "the first gate of the log is closed"
text_of BodySize = codes "a body of this size is none"
text_of Spelling = codes "these bytes are no whole record"
text_of NoCounters = codes "the log ends before its counters"
text_of Misplaced = codes "a record of this kind may not stand here"
text_of NoKey = codes "the bytes of a key are none of the class"
text_of PagesOfDevice = codes "more pages are in use than the device has"
text_of CounterFalls = codes "the counter of splits falls"
text_of UsedFalls = codes "the number of pages in use falls"
text_of PageInUse = codes "a page is given that is not in use"
text_of TransactionNumber = codes "no transaction may follow one of this number"
text_of LeafInUse = codes "a leaf is not in use"
text_of SharedEntry = codes "two open transactions touch one entry"
text_of TooManyTransactions = codes "more than 8 transactions are open"
text_of TooManyTouches = codes "more than 512 entries are touched"
text_of Ended = codes "a transaction goes on after its end"
text_of CommitNumber = codes "a commit has not the next number"
text_of NoImage = codes "a page is changed of which the log has no image"
text_of Unfit = codes "a change does not fit its page"
