use Rattle.gx_node.specs.Reading.{format_of}
use Rattle.gx_node.proofs.Parts.{IsLawful}
use Rattle.gx_node.proofs.laws.SmallKeeps.{changes_keep}
use Rattle.gx_node.proofs.laws.small_changes.Goals as goal

pub returns : goal.returns
returns g c =
    let k = g.K.KeyClass in
    let f = format_of k in
    let laws : IsLawful k.is_key k.spelling f = record { back = g.met.K.KeyClass.reading_back; only = g.met.K.KeyClass.reading_only; size = g.met.K.KeyClass.spelling_length } in
    changes_keep k.is_key k.spelling f laws g.met.K.KeyClass.key_is_short
