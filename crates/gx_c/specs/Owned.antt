-- What a handle owns. Assumes nothing: these are definitions.
use Rattle.std.specs.Prelude.{Option, None, Some}
use base.Fml.{Fml, ftrue}
use denote.RawPtr.{Ptr}
use Rattle.std.specs.declared.alloc.Global.{Global}
use Rattle.gx_c.specs.Loose.{owns_loose}
use Rattle.gx_c.specs.declared.held.Held.{Held}
use Rattle.gx_c.specs.contracts.held.Held.{the_row}

-- nothing; or what the handle has, behind its pointer, and the right to free it
abbrev pub owns_held : Global → Ptr → Option Held → Fml
owns_held heap p None = ftrue
owns_held heap p (Some held) = owns_loose the_row heap p held
