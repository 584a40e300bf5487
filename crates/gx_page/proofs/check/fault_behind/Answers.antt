-- The first of the two tests that fails says which fault it is.
use Rattle.std.proofs.Common.{sym, ◌∙◌}
use Rattle.gx_page.proofs.check.Firsts.{first_directory, first_free, no_fault}
use Rattle.gx_page.proofs.check.fault_behind.Goals as goal

pub returns-then-not-is_directory : goal.returns-then-not-is_directory
returns-then-not-is_directory c = λ reserved. first_directory c.args.bytes.now c.requires reserved (sym c.is_directory.ensures ∙ c.if-not-is_directory.true)

pub is_free_zero-requires : goal.is_free_zero-requires
is_free_zero-requires c = (c.requires, sym c.is_directory.ensures ∙ c.if-not-is_directory.false)

pub returns-then-not-is_free_zero : goal.returns-then-not-is_free_zero
returns-then-not-is_free_zero c =
    λ reserved. first_free c.args.bytes.now c.requires reserved (sym c.is_directory.ensures ∙ c.if-not-is_directory.false) (sym c.is_free_zero.ensures ∙ c.if-not-is_free_zero.true)

pub returns : goal.returns
returns c =
    λ reserved. no_fault c.args.bytes.now c.requires reserved (sym c.is_directory.ensures ∙ c.if-not-is_directory.false) (sym c.is_free_zero.ensures ∙ c.if-not-is_free_zero.false)
