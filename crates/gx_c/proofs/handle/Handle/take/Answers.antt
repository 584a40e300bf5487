use Rattle.std.proofs.Common.{ap, ◌∙◌}
use Rattle.gx_c.specs.declared.handle.Handle.{Handle}
use Rattle.gx_c.proofs.handle.Handle.take.Goals as goal

pub into_loose-loose-requires : goal.into_loose-loose-requires
into_loose-loose-requires c = (c.requires.0, ap (λ (h : Handle). h.held) c.replace-had.ensures.value ∙ c.requires.1)
