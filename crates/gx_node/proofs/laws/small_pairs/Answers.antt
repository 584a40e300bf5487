use Rattle.std.proofs.Common.{ap}
use Rattle.std.specs.Cmp.{tied_itself, Equal-is}
use Rattle.std.specs.Ordering.{is_eq}
use Rattle.gx_node.specs.Reading.{format_of}
use Rattle.gx_node.proofs.Parts.{IsLawful}
use Rattle.gx_node.proofs.laws.SmallNodes.{pair_means}
use Rattle.gx_node.proofs.laws.small_pairs.Goals as goal

pub returns : goal.returns
returns g c =
    let k = g.K.KeyClass in
    let f = format_of k in
    let laws : IsLawful k.is_key k.spelling f = record { back = g.met.K.KeyClass.reading_back; only = g.met.K.KeyClass.reading_only; size = g.met.K.KeyClass.spelling_length } in
    pair_means k.is_key k.spelling f laws _
    (λ a b e. g.met.K.Key.Shape.same a b ((Equal-is (g.K.Key.Ord.cmp a b)).0 e)) (λ a. ap is_eq (tied_itself g.met.K.Key.Ord.total a)) g.met.K.KeyClass.key_is_short
