-- The block's edit, of the page's contents.
use Rattle.std.proofs.Common.{ap, ◌∙◌}
use Rattle.std.proofs.lemmas.Result.{IfOk-weaker, IfErr-weaker}
use Rattle.gx_page.specs.Reading.{read_of}
use Rattle.gx_page.proofs.Faultless.{is_image, faultless_is_image, load_keeps}
use Rattle.gx_page.proofs.page.Page.load.Goals as goal

pub invariant_of-self : goal.invariant_of-self
invariant_of-self c = load_keeps c.load.result c.args.bytes.now c.self.inside.block.bytes c.load.new.block.bytes (λ k. (c.type_inv.bytes k).fits) c.self.invariant c.load.ensures.loaded c.load.ensures.fault

pub returns-clause-loaded : goal.returns-clause-loaded
returns-clause-loaded c = IfOk-weaker c.load.result _ _ (λ _ h. (h.0, is_image c.args.bytes.now (λ k. (c.type_inv.bytes k).fits) h.0, ap read_of h.1)) c.load.ensures.loaded

pub returns-clause-fault : goal.returns-clause-fault
returns-clause-fault c = IfErr-weaker c.load.result _ _ (λ fault h. (h.0, ap read_of h.1 ∙ c.self.view_is)) c.load.ensures.fault

pub returns-clause-faultless : goal.returns-clause-faultless
returns-clause-faultless c = faultless_is_image c.args.bytes.now (λ k. (c.type_inv.bytes k).fits)
