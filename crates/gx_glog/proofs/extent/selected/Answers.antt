use Rattle.std.proofs.Common.{refl}
use Rattle.gx_glog.specs.Layout.{selected_of}
use Rattle.gx_glog.proofs.extent.selected.Goals as goal

pub returns-clause-extent : goal.returns-clause-extent
unfolding selected_of
returns-clause-extent g c = λ honest. rw (c.selected_by.ensures, c.in_ok-byte.ensures.byte honest) refl
