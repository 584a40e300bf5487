-- What a log by itself gives of a page: the last whole content with the small changes since, or nothing.
use Rattle.std.specs.Prelude.{ℕ, Bool, false, ◌==◌, if◌then◌else◌, Option, None, Some, List, [], ◌∷◌}
use Rattle.gx_recovery.specs.Known.{Known}
use Rattle.gx_recovery.specs.Records.{Image, Change, Said, Whole, Small, Record, Pages, Adjust, Write, Commit, End, Counters, Note}

-- of page p, by images, where this was given before
abbrev pub images_given : {P : Type 0} → ℕ → List (Image P) → Option P → Option P
images_given p [] before = before
images_given p (i ∷ images) before = images_given p images (if i.page == p then Some i.content else before)

-- by a small change: of a page of which nothing is given it gives nothing
abbrev pub change_given : {P : Type 0} → Change P → Option P → Option P
change_given change None = None
change_given change (Some content) = Some (change.made content)

abbrev pub said_given : {P : Type 0} → Said P → Option P → Option P
said_given (Whole content) before = Some content
said_given (Small change) before = change_given change before

-- by one record more
abbrev pub given_with : {E P : Type 0} → ℕ → Record E P → Option P → Option P
given_with p (Pages images counter used) before = images_given p images before
given_with p (Adjust page change) before = if page == p then change_given change before else before
given_with p (Write transaction entry mark after leaf said) before = if leaf == p then said_given said before else before
given_with p (Commit transaction number) before = before
given_with p (End transaction) before = before
given_with p (Counters number counter used next) before = before
given_with p (Note transaction entry mark leaf) before = before

-- by these records in turn
abbrev pub given_on : {E P : Type 0} → ℕ → Option P → List (Record E P) → Option P
given_on p before [] = before
given_on p before (r ∷ rs) = given_on p (given_with p r before) rs

-- by a log
abbrev pub given : {E P : Type 0} → ℕ → List (Record E P) → Option P
given p log = given_on p None log

-- a small change fits what is given of its page, so that some record has given that whole
abbrev pub change_fits : {E P : Type 0} → Known E P → Change P → Option P → Bool
change_fits k change None = false
change_fits k change (Some content) = change.fits k.most content
