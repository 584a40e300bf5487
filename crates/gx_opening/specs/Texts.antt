-- What is printed of damage.
use Rattle.std.specs.Prelude.{ℕ, List, ◌++◌, codes, decimal}
use Rattle.gx_found_log.specs.Texts as log
use Rattle.gx_legality.specs.Texts.{text_of}
use Rattle.gx_opening.specs.declared.damage.Damage.{Damage}
use Rattle.gx_opening.specs.declared.damage.Damage.TheVariants.{Log, TooManyPages, Unreadable, Broken}

abbrev pub damage_text : Damage → List ℕ
damage_text (Log damage) = log.damage_text damage
damage_text (TooManyPages used) = decimal used ++ codes " pages are in use, which are too many"
damage_text (Unreadable page) = codes "page " ++ (decimal page ++ codes " can't be read")
damage_text (Broken page rule) = codes "page " ++ (decimal page ++ (codes ": " ++ text_of rule))
