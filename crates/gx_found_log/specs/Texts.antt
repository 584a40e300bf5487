-- What the damage of a log prints.
use Rattle.std.specs.Prelude.{ℕ, List, ◌++◌, codes, decimal}
use Rattle.gx_glog.specs.declared.extent.Extent.{Extent}
use Rattle.gx_glog.specs.declared.extent.Extent.TheVariants.{A, B}
use Rattle.gx_recovery.specs.Texts.{text_of}
use Rattle.gx_found_log.specs.declared.fault.LogDamage.{LogDamage}

abbrev pub log_text : Extent → List ℕ
log_text A = codes "log A, body "
log_text B = codes "log B, body "

abbrev pub damage_text : LogDamage → List ℕ
damage_text d = log_text d.extent ++ (decimal d.body ++ (codes ", byte " ++ (decimal d.at ++ (codes ": " ++ text_of d.rule))))
