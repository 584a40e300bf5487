use Rattle.std.proofs.Common.{ℕ, List, length, Option, Some, None, IfNone, inl, inr, arith}
use Rattle.std.proofs.lemmas.Bool.{cases_lt}
use Rattle.gx_page.specs.Contents.{Contents}
use Rattle.gx_pool.specs.declared.mark.FrameMark.{FrameMark}
use Rattle.gx_pool.specs.Marks.{NoLeaf, NoLeafBetween}
use Rattle.gx_pool.proofs.mark.leaf_frame.Goals as goal

-- none before the hand and none from it on is none at all
none_at_all : (held : List ℕ) (marks : List FrameMark) (pages : List Contents) (hand : ℕ) (found : Option ℕ) → NoLeafBetween held marks pages hand (length marks)
    → IfNone found (NoLeafBetween held marks pages 0 hand) → IfNone found (NoLeaf held marks pages)
none_at_all held marks pages hand (Some i) behind before = tt
none_at_all held marks pages hand None behind before = λ k below clean. elim (cases_lt k hand) [
  | inl less ↦ before k (omega arith) less clean
  | inr past ↦ behind k past below clean
]

pub returns-in-None-clause-none : goal.returns-in-None-clause-none
returns-in-None-clause-none c = none_at_all c.args.held.now c.args.marks.now c.args.pages.now c.args.hand c.leaf_between-in-None.result c.in-None.ensures.none c.leaf_between-in-None.ensures.none
