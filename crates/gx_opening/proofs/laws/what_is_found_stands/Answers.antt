use Rattle.gx_node.specs.Reading.{is_node, format_of}
use Rattle.gx_opening.specs.Standing.{limits_of}
use Rattle.gx_opening.proofs.Found.{found_stands, sound_good}
use Rattle.gx_opening.proofs.laws.what_is_found_stands.Goals as goal

pub returns-clause-stands : goal.returns-clause-stands
returns-clause-stands g c = λ p seen image says has good. found_stands _ (c.what_stands_is_legal.ensures.lawful (limits_of p)) _ seen image has says good

pub returns-clause-good : goal.returns-clause-good
returns-clause-good g c = λ p seen e log laid sound.
    sound_good _ (c.what_stands_is_legal.ensures.lawful (limits_of p)) _ (c.what_stands_is_legal.ensures.used (limits_of p)) (is_node (format_of g.K.KeyClass) p.pages) seen (g.D.SectorDisk.state e) log laid
    (λ page bytes passes. (p.pages, passes)) sound
